-- Reads that are counted, in one call and in the next.
use Rattle.std.proofs.Common.{◌≡◌, ℕ, zero, suc, ◌+◌, Err, refl, ap, ◌∙◌, sym, subst, arith}
use Rattle.wire_lines.specs.Causes.{AreCounted, with_more}
use Rattle.wire_lines.specs.Device.{one_more}
use Rattle.wire_lines.specs.declared.fault.Fault.{Fault}
use Rattle.wire_lines.specs.declared.fault.Fault.TheVariants.{ReadFault, WriteFault, PeerReply, Memory}

-- this many reads were made and counted
abbrev pub Counted : ℕ → ℕ → ℕ → ℕ → Type 0
Counted made made_then counted counted_then = (count : ℕ) × (counted_then ≡ counted + count)
    × (made_then ≡ with_more made count)

-- two counts in succession
with_both : (made first second all : ℕ) → all ≡ first + second → with_more made all
    ≡ with_more (with_more made first) second
with_both made first zero all is = let same : all ≡ first = omega arith in ap (with_more made) same
with_both made first (suc second) zero is = absurd (omega (arith, is))
with_both made first (suc second) (suc all) is = ap one_more (with_both made first second all (omega (arith, is)))

-- what one call made and counted, and then the next
pub counted_both : (made mid new counted middle then : ℕ) → Counted made mid counted middle
    → Counted mid new middle then → Counted made new counted then
counted_both made mid new counted middle then first second =
    let before : middle ≡ counted + first.0 = first.1 in
    let after : then ≡ middle + second.0 = second.1 in
    let all : then ≡ counted + (first.0 + second.0) = omega arith in (
      first.0 + second.0,
      all,
      subst (λ n. new ≡ with_more n second.0) first.2 second.2
          ∙ sym (with_both made first.0 second.0 (first.0 + second.0) refl),
    )

-- the same up to a fault
pub counted_fault : (X Y : Type 0) (made mid new counted middle then : ℕ) (fault : Fault)
    → Counted made mid counted middle → AreCounted {X = X} (Err fault) mid new middle then →
    AreCounted {X = Y} (Err fault) made new counted then
counted_fault X Y made mid new counted middle then ReadFault first more = counted_both made mid new counted middle then
    first more
counted_fault X Y made mid new counted middle then WriteFault first more = counted_both made mid new counted middle then
    first more
counted_fault X Y made mid new counted middle then PeerReply first more = counted_both made mid new counted middle then
    first more
counted_fault X Y made mid new counted middle then Memory first more = tt
