-- What is read of the present depends on the set of operations alone.
use Rattle.std.proofs.Common.{◌≡◌, inl, inr, ℕ, List, [], ◌∷◌, ◌++◌, length, Option, Some}
use Rattle.std.proofs.Common.{None, unwrap_or, Result, Ok, Err, refl, sym, ap, ap₂, ◌∙◌, subst, bytes_eq}
use Rattle.std.proofs.Common.{le-ltb, arith, take_all}
use Rattle.std.proofs.lemmas.List.Sorted.{length_permutation}
use Rattle.pad_model.specs.Operation.{characters_in}
use Rattle.pad_model.specs.Visible.{runs_of, text_of}
use Rattle.op_log.specs.Made.{Made}
use Rattle.pad_model.specs.declared.op.Op.{Op}
use Rattle.pad_model.specs.declared.refusal.Refusal.{Refusal}
use Rattle.pad_model.specs.declared.refusal.Refusal.TheVariants.{Memory, NoSession}
use Rattle.pad_model.specs.declared.who.Version.{Version}
use Rattle.pad_model.specs.declared.who.Who.{Who}
use Rattle.pad_model.specs.declared.who.Who.TheVariants.{Nobody, Author, Peer}
use Rattle.pad_model.proofs.Newer.{split}
use Rattle.pad_model.proofs.Sets.{Contains-from_Has, Has-from_Contains}
use Rattle.presence.specs.Presence.{Presence}
use Rattle.pad_core.specs.Comments.{by_name, comments_of}
use Rattle.pad_core.specs.Delivered.{IsDelivered}
use Rattle.pad_core.specs.Laws.{HaveSame, LastReadsAlike, ReadAlike, ShowSame, reading}
use Rattle.pad_core.specs.Machine.{Machine, author_act, author_refusal, author_step, peer_act, session_step, step}
use Rattle.pad_core.specs.Ran.{Ran, Stepped, event_step}
use Rattle.pad_core.specs.Reads.{read_comments, read_runs, read_text}
use Rattle.pad_core.specs.declared.act.Act.{Act}
use Rattle.pad_core.specs.declared.act.Act.TheVariants as act
use Rattle.pad_core.specs.declared.event.PadEvent.{PadEvent}
use Rattle.pad_core.specs.declared.owned.Owned.{Owned}
use Rattle.comments.specs.declared.show.Shown.{Shown}
use Rattle.pad_model.specs.declared.who.AuthorRun.{AuthorRun}
use Rattle.pad_core.specs.declared.reply.PadReply.{PadReply}
use Rattle.pad_core.specs.declared.reply.PadReply.TheVariants.{Comments, Elsewhere, Runs, Text}
use Rattle.pad_core.proofs.ByName.{by_name-permutation}
use Rattle.pad_core.proofs.SameSet.{by_name-alike, same_members}

-- logs with the same operations are equally long
same_length : (log other : List Op) → IsDelivered log → IsDelivered other → HaveSame log other → length log
    ≡ length other
same_length log other d e same =
    sym (length_permutation log (by_name log) (by_name-permutation log))
    ∙ ap length (by_name-alike log other d e
    (λ op m. Has-from_Contains other op ((same op).0 (Contains-from_Has log op m)))
    (λ op m. Has-from_Contains log op ((same op).1 (Contains-from_Has other op m))))
    ∙ length_permutation other (by_name other) (by_name-permutation other)

-- readings of the present, in short
text_now : (log : List Op) → read_text None log ≡ Ok (Text (length log) (length log) (text_of (characters_in log)))
text_now log = rw (le-ltb (length log) (length log) (omega arith), take_all (length log) log (omega arith)) refl

runs_now : (log : List Op) → read_runs None log ≡ Ok (Runs (length log) (length log) (runs_of (characters_in log)))
runs_now log = rw (le-ltb (length log) (length log) (omega arith), take_all (length log) log (omega arith)) refl

comments_now : (log : List Op) → read_comments None log ≡ Ok (Comments (length log) (length log) (comments_of log))
comments_now log = rw (le-ltb (length log) (length log) (omega arith), take_all (length log) log (omega arith)) refl

-- logs with the same operations answer each reading alike
pub read_alike : (log other : List Op) → IsDelivered log → IsDelivered other → HaveSame log other → ReadAlike log other
read_alike log other d e same = alike
  where
    long : length log ≡ length other
    long = same_length log other d e same

    shown : ShowSame log other
    shown = same_members log other d e same

    alike : (asked : Act) → reading asked log ≡ reading asked other
    alike (act.Text None) =
        ap Some (text_now log ∙ ap₂ (λ (n : ℕ) (t : List ℕ). (let r : Result PadReply Refusal = Ok (Text n n t) in r))
        long shown.0 ∙ sym (text_now other))
    alike (act.Runs None) =
        ap Some (runs_now log ∙ ap₂ (λ (n : ℕ) (t : List AuthorRun).
        (let r : Result PadReply Refusal = Ok (Runs n n t) in r)) long shown.1 ∙ sym (runs_now other))
    alike (act.Comments None) =
        ap Some (comments_now log ∙ ap₂ (λ (n : ℕ) (t : List Shown).
        (let r : Result PadReply Refusal = Ok (Comments n n t) in r)) long shown.2 ∙ sym (comments_now other))
    alike asked = refl

-- the last of some events that were answered
ran_last : (m new : Machine) (before : List PadEvent) (event : PadEvent) (answered : List (Result PadReply Refusal))
    (r : Result PadReply Refusal) → Ran m (before ++ event ∷ []) (answered ++ r ∷ []) new →
    (mid : Machine) × Stepped mid event r new
ran_last m new [] event [] r h = (m, subst (λ (n : Machine). Stepped m event r n) (sym h.2) h.1)
ran_last m new [] event (x ∷ []) r h = absurd h.2
ran_last m new [] event (x ∷ y ∷ answered) r h = absurd h.2
ran_last m new (e ∷ []) event [] r h = absurd h.2
ran_last m new (e ∷ f ∷ before) event [] r h = absurd h.2
ran_last m new (e ∷ before) event (x ∷ answered) r h = ran_last h.0 new before event answered r h.2

-- a reading that is answered is that of the log, which stays
abbrev pub IsReading : Act → (List Op → Result PadReply Refusal) → Type 0
IsReading a told =
    ((owned : Owned) (name : List ℕ) (visit : ℕ) (m : Machine) → author_act owned name visit a m ≡ (told m.log, m))
    × ((version : Version) (m : Machine) → peer_act version a m ≡ (Err NoSession, m))

ok_err : (reply : PadReply) (refusal : Refusal) → (let r : Result PadReply Refusal = Err refusal in r) ≡ Ok reply → ⊥
ok_err reply refusal q = cc

same_ok : (a b : PadReply) → (let r : Result PadReply Refusal = Ok a in r) ≡ Ok b → b ≡ a
same_ok a b q = cc

read_author : (a : Act) (told : List Op → Result PadReply Refusal) (owned : Owned) (name : List ℕ) (visit : Option ℕ)
    (m new : Machine) (reply : PadReply) (r : Option Refusal) → IsReading a told →
    author_refusal owned m.presence name visit a ≡ r → author_step owned name visit a m ≡ (Ok reply, new) →
    (told m.log ≡ Ok reply) × (m ≡ new)
read_author a told owned name visit m new reply (Some refusal) is e done =
    absurd (ok_err reply refusal (ap (λ d. d.0) (rw e at done)))
read_author a told owned name visit m new reply None is e done =
    let made : author_act owned name (unwrap_or visit 0) a m ≡ (Ok reply, new) = rw e at done in
    let both = sym (is.0 owned name (unwrap_or visit 0) m) ∙ made in
    (ap (λ d. d.0) both, ap (λ d. d.1) both)

read_session : (a : Act) (told : List Op → Result PadReply Refusal) (owned : Owned) (who : Who) (visit : Option ℕ)
    (m new : Machine) (reply : PadReply) → IsReading a told → session_step owned who visit a m ≡ (Ok reply, new) →
    (told m.log ≡ Ok reply) × (m ≡ new)
read_session a told owned Nobody visit m new reply is done = absurd (ok_err reply _ (ap (λ d. d.0) done))
read_session a told owned (Author name) visit m new reply is done = read_author a told owned name visit m new reply
    (author_refusal owned m.presence name visit a) is refl done
read_session a told owned (Peer number version) visit m new reply is done =
    absurd (ok_err reply NoSession (ap (λ d. d.0) (sym (is.1 version m) ∙ done)))

read_step : (a : Act) (told : List Op → Result PadReply Refusal) (pad : List ℕ) (who : Who) (visit : Option ℕ)
    (new : Machine) (reply : PadReply) (o : Option Owned) (replica : ℕ) (log held : List Op) (p : Presence)
    (clock : ℕ) (made : Made) → IsReading a told →
    (reply ≡ Elsewhere → ⊥) → (let m : Machine =
    record { owned = o; replica = replica; log = log; held = held; presence = p; clock = clock; made = made } in
    step pad who visit a m
    ≡ (Ok reply, new) → (told m.log ≡ Ok reply) × (m ≡ new))
read_step a told pad who visit new reply None replica log held p clock made is here done =
    absurd (ok_err reply _ (ap (λ d. d.0) done))
read_step a told pad who visit new reply (Some owned) replica log held p clock made is here done =
    split (bytes_eq owned.name pad)
    (λ yes. read_session a told owned who visit _ new reply is (rw yes at done))
    (λ no. absurd (here (same_ok Elsewhere reply (ap (λ d. d.0) (rw no at done)))))

-- the three readings are such
text_is : IsReading (act.Text None) (read_text None)
text_is = (λ owned name visit m. refl, λ version m. refl)

runs_is : IsReading (act.Runs None) (read_runs None)
runs_is = (λ owned name visit m. refl, λ version m. refl)

comments_is : IsReading (act.Comments None) (read_comments None)
comments_is = (λ owned name visit m. refl, λ version m. refl)

-- what was read last, any log with the same operations answers
pub last_reads : (m new : Machine) (events : List PadEvent) (replies : List (Result PadReply Refusal)) →
    Ran m events replies new → IsDelivered new.log → LastReadsAlike events replies new.log
last_reads m new events replies ran delivered before event answered reply events_are replies_are here other sound same
    told asked =
    by_act event.act.now asked (was_stepped last.1)
  where
    last : (mid : Machine) × Stepped mid event (Ok reply) new
    last = ran_last m new before event answered (Ok reply)
        (subst (λ (es : List PadEvent). Ran m es (answered ++ Ok reply ∷ []) new) events_are
        (subst (λ (rs : List (Result PadReply Refusal)). Ran m events rs new) replies_are ran))

    no_memory : (let r : Result PadReply Refusal = Ok reply in r) ≡ Err Memory → ⊥
    no_memory q = cc

    was_stepped : Stepped last.0 event (Ok reply) new → event_step event last.0 ≡ (Ok reply, new)
    was_stepped (inl (inl h)) = absurd (no_memory h.0)
    was_stepped (inl (inr h)) = h
    was_stepped (inr h) = absurd (no_memory h.0)

    same_some : (a b : Result PadReply Refusal) → Some a ≡ Some b → a ≡ b
    same_some a b q = cc

    mid : Machine
    mid = last.0

    through : (a : Act) (read : List Op → Result PadReply Refusal) →
        ((log : List Op) → reading a log ≡ Some (read log)) → IsReading a read → reading a other ≡ Some told →
        step event.pad.now event.who.now event.visit a mid ≡ (Ok reply, new) → told ≡ Ok reply
    through a read reads is want done =
        let got = read_step a read event.pad.now event.who.now event.visit new reply mid.owned mid.replica mid.log
        mid.held mid.presence mid.clock mid.made is here done in
        let alike : read new.log ≡ read other = same_some (read new.log) (read other)
        (sym (reads new.log) ∙ read_alike new.log other delivered sound same a ∙ reads other) in
        same_some told (read other) (sym want ∙ reads other) ∙ sym alike ∙ ap (λ (k : Machine). read k.log) (sym got.1)
        ∙ got.0

    by_act : (a : Act) → reading a other ≡ Some told → step event.pad.now event.who.now event.visit a mid
        ≡ (Ok reply, new) → told ≡ Ok reply
    by_act (act.Text None) want done = through (act.Text None) (read_text None) (λ log. refl) text_is want done
    by_act (act.Runs None) want done = through (act.Runs None) (read_runs None) (λ log. refl) runs_is want done
    by_act (act.Comments None) want done = through (act.Comments None) (read_comments None)
        (λ log. refl) comments_is want done
    by_act a want done = absurd (cc)
