-- Which fault ends a connection.
use Rattle.std.proofs.Common.{◌≡◌, inl, inr, ℕ, zero, suc, ◌+◌, List, Option, Result, Ok, Err, IsErrAnd}
use Rattle.std.proofs.Common.{sym, ap, ◌∙◌, subst, arith}
use Rattle.std.proofs.lemmas.Result.{err_from_is_err_and}
use Rattle.wire_lines.specs.Causes.{AreCounted, HasCause, with_more}
use Rattle.wire_lines.specs.Device.{one_more}
use Rattle.wire_lines.specs.declared.fault.Fault.{Fault}
use Rattle.wire_lines.specs.declared.fault.Fault.TheVariants.{ReadFault, WriteFault, PeerReply, Memory}
use Rattle.conversation.specs.Connection.{HasFaultCause, HasWriteCause, TellsFault}

-- reads in two parts
with_more-add : (made counted count : ℕ) → with_more (with_more made counted) count ≡ with_more made (counted + count)
with_more-add made counted zero = let none : counted + 0 ≡ counted = omega arith in ap (with_more made) (sym none)
with_more-add made counted (suc count) =
    let one : counted + suc count ≡ suc (counted + count) = omega arith in
    ap one_more (with_more-add made counted count) ∙ ap (with_more made) (sym one)

-- the fault that a `?` passes on
pub fault_exit : {X : Type 0} (r : Result X Fault) (fault : Fault) → IsErrAnd r (λ e. e ≡ fault) → r ≡ Err fault
fault_exit r fault h = let p = err_from_is_err_and r h in p.1 ∙ ap Err p.2

-- a read that failed
read_failed : (X Y Z : Type 0) (fault : Fault)
    (start unread unread_then first made made_then counted counted_then unwritten unwritten_then : ℕ) →
    HasCause {X = Y} (Err fault) unread unread_then counted_then →
    AreCounted {X = Z} (Err fault) made made_then counted counted_then → unread ≡ start →
    made ≡ with_more first counted → unwritten_then ≡ unwritten →
    HasFaultCause {X = X} (Err fault) start unread_then first made_then unwritten unwritten_then
read_failed X Y Z ReadFault start unread unread_then first made made_then counted counted_then unwritten unwritten_then
    (inl failed) count same so kept = (inl (failed ∙ ap one_more same), kept)
read_failed X Y Z ReadFault start unread unread_then first made made_then counted counted_then unwritten unwritten_then
    (inr spent) count same so kept = (
      inr (
        spent.0 ∙ same,
        counted + count.0,
        sym count.1 ∙ spent.1,
        count.2 ∙ ap (λ n. with_more n count.0) so
            ∙ with_more-add first counted count.0,
      ),
      kept,
    )
read_failed X Y Z WriteFault start unread unread_then first made made_then counted counted_then unwritten unwritten_then
    cause count same so kept = absurd cause
read_failed X Y Z PeerReply start unread unread_then first made made_then counted counted_then unwritten unwritten_then
    cause count same so kept = absurd cause
read_failed X Y Z Memory start unread unread_then first made made_then counted counted_then unwritten unwritten_then
    cause count same so kept = (cause ∙ same, kept)

-- a read that failed, and whose fault was reported
pub read_told : (X Y Z : Type 0) (fault told : Fault)
    (start unread unread_then first made made_then counted counted_then unwritten between unwritten_then : ℕ)
    (old new : Option (List ℕ)) → HasCause {X = Y} (Err fault) unread unread_then counted_then →
    AreCounted {X = Z} (Err fault) made made_then counted counted_then → unread ≡ start →
    made ≡ with_more first counted → between ≡ unwritten →
    TellsFault fault told between unwritten_then old new →
    HasFaultCause {X = X} (Err told) start unread_then first made_then unwritten unwritten_then
read_told X Y Z ReadFault told start unread unread_then first made made_then counted counted_then unwritten between
    unwritten_then old new cause count same so kept tells =
    subst (λ f. HasFaultCause {X = X} (Err f) start unread_then first made_then unwritten unwritten_then) (sym tells.0)
    (read_failed X Y Z ReadFault start unread unread_then first made made_then counted counted_then unwritten
    unwritten_then cause count same so (tells.1 ∙ kept))
read_told X Y Z WriteFault told start unread unread_then first made made_then counted counted_then unwritten between
    unwritten_then old new cause count same so kept tells = absurd cause
read_told X Y Z PeerReply told start unread unread_then first made made_then counted counted_then unwritten between
    unwritten_then old new cause count same so kept tells = absurd cause
read_told X Y Z Memory told start unread unread_then first made made_then counted counted_then unwritten between
    unwritten_then old new cause count same so kept (inl memory) =
    subst (λ f. HasFaultCause {X = X} (Err f) start unread_then first made_then unwritten unwritten_then) (sym memory.0)
    (cause ∙ same, memory.1 ∙ kept)
read_told X Y Z Memory told start unread unread_then first made made_then counted counted_then unwritten between
    unwritten_then old new cause count same so kept (inr failed) =
    subst (λ f. HasFaultCause {X = X} (Err f) start unread_then first made_then unwritten unwritten_then) (sym failed.0)
    (cause ∙ same, failed.1 ∙ ap one_more kept)

-- there was no memory for a reply, which was reported
pub memory_told : (X : Type 0) (fault told : Fault) (start unread first made unwritten between unwritten_then : ℕ)
    (old new : Option (List ℕ)) → fault ≡ Memory → unread ≡ start → between ≡ unwritten →
    TellsFault fault told between unwritten_then old new →
    HasFaultCause {X = X} (Err told) start unread first made unwritten unwritten_then
memory_told X Memory told start unread first made unwritten between unwritten_then old new memory same kept (inl all) =
    subst (λ f. HasFaultCause {X = X} (Err f) start unread first made unwritten unwritten_then) (sym all.0)
    (same, all.1 ∙ kept)
memory_told X Memory told start unread first made unwritten between unwritten_then old new memory same kept (inr part) =
    subst (λ f. HasFaultCause {X = X} (Err f) start unread first made unwritten unwritten_then) (sym part.0)
    (same, part.1 ∙ ap one_more kept)
memory_told X ReadFault told start unread first made unwritten between unwritten_then old new memory same kept tells =
    absurd (cc)
memory_told X WriteFault told start unread first made unwritten between unwritten_then old new memory same kept tells =
    absurd (cc)
memory_told X PeerReply told start unread first made unwritten between unwritten_then old new memory same kept tells =
    absurd (cc)

-- an answer that was not written
pub write_failed : (X Y : Type 0) (fault : Fault) (start unread first made before unwritten unwritten_then : ℕ) →
    unread ≡ start → unwritten ≡ before → HasWriteCause {X = Y} (Err fault) unwritten unwritten_then →
    HasFaultCause {X = X} (Err fault) start unread first made before unwritten_then
write_failed X Y ReadFault start unread first made before unwritten unwritten_then same kept cause = absurd cause
write_failed X Y WriteFault start unread first made before unwritten unwritten_then same kept cause =
    (same, cause ∙ ap one_more kept)
write_failed X Y PeerReply start unread first made before unwritten unwritten_then same kept cause = absurd cause
write_failed X Y Memory start unread first made before unwritten unwritten_then same kept cause = absurd cause

-- the same for a fault that a `?` passes on
pub write_fails : {X : Type 0} (Y : Type 0) (r : Result X Fault) (fault : Fault)
    (start unread first made before unwritten unwritten_then : ℕ) → IsErrAnd r (λ e. e ≡ fault) → unread ≡ start →
    unwritten ≡ before → HasWriteCause {X = Y} (Err fault) unwritten unwritten_then →
    HasFaultCause r start unread first made before unwritten_then
write_fails {X} Y r fault start unread first made before unwritten unwritten_then handed same kept cause =
    subst (λ (x : Result X Fault). HasFaultCause x start unread first made before unwritten_then)
    (sym (fault_exit r fault handed))
    (write_failed X Y fault start unread first made before unwritten unwritten_then same kept cause)

-- a read that gave bytes
pub read_counted : (X : Type 0) (x : X) (first made made_then counted counted_then : ℕ) →
    AreCounted {X = X} (Ok x) made made_then counted counted_then → made ≡ with_more first counted →
    made_then ≡ with_more first counted_then
read_counted X x first made made_then counted counted_then count so =
    count.2 ∙ ap (λ n. with_more n count.0) so ∙ with_more-add first counted count.0 ∙ ap (with_more first)
    (sym count.1)
