-- What a pad answers to readers, and that its log stays unchanged.
use Rattle.std.proofs.Common.{◌≡◌, ◌⊎◌, inl, inr, ℕ, Bool, true, false, List, Option, Some, None, unwrap_or, Result, Ok, Err}
use Rattle.std.proofs.Common.{refl, sym, ap, ◌∙◌, subst, bytes_eq, length, encode_utf8_all, IfErr, IfOk, MatchResult}
use Rattle.op_log.specs.Made.{Made}
use Rattle.pad_model.specs.declared.op.Op.{Op}
use Rattle.pad_model.specs.declared.refusal.Refusal.{Refusal}
use Rattle.pad_model.specs.declared.refusal.Refusal.TheVariants.{Memory, NoSession}
use Rattle.pad_model.specs.declared.who.Version.{Version}
use Rattle.pad_model.specs.declared.who.Who.{Who}
use Rattle.pad_model.specs.declared.who.Who.TheVariants.{Nobody, Author, Peer}
use Rattle.pad_model.proofs.Newer.{split}
use Rattle.presence.specs.Presence.{Presence}
use Rattle.pad_core.specs.Machine.{Machine, author_act, author_refusal, author_step, peer_act, session_step, step}
use Rattle.pad_core.specs.Ran.{Stepped, event_step}
use Rattle.pad_core.specs.Reads.{read_changes, read_comments, read_revs, read_revs_at, read_runs, read_text}
use Rattle.pad_core.specs.declared.act.Act.{Act}
use Rattle.pad_core.specs.declared.act.Act.TheVariants as act
use Rattle.pad_core.specs.declared.event.PadEvent.{PadEvent}
use Rattle.pad_core.specs.declared.owned.Owned.{Owned}
use Rattle.pad_core.specs.declared.reply.PadReply.{PadReply}
use Rattle.pad_core.specs.declared.reply.PadReply.TheVariants.{Elsewhere, Text}
use Rattle.presence.specs.declared.presence.TheConstants.{DEFAULT_PRESENT}
use Rattle.store_format.specs.Files.{Read, pad_read}
use Rattle.store_format.specs.declared.reader.Damage.{Damage}
use Rattle.store_format.specs.declared.reader.Damage.TheVariants as damage
use Rattle.pad_store.specs.Choices.{number_of}
use Rattle.pad_store.specs.Reading.{IsFault, IsNoDamage, IsTold, LeadTo, Shows, ShowsOf, trouble_after}
use Rattle.pad_store.specs.declared.inspected_pad.InspectedPad.{InspectedPad}
use Rattle.pad_store.specs.declared.revision_choice.RevisionChoice.{RevisionChoice}
use Rattle.pad_store.specs.declared.trouble.Trouble.{Trouble}
use Rattle.pad_store.specs.declared.trouble.Trouble.TheVariants as trouble

-- an author's act that reads is answered from the pad, and changes nothing; a peer's is refused
abbrev IsReading : Act → (Machine → Result PadReply Refusal) → Type 0
IsReading a told =
    ((owned : Owned) (name : List ℕ) (visit : ℕ) (m : Machine) → author_act owned name visit a m ≡ (told m, m))
    × ((version : Version) (m : Machine) → peer_act version a m ≡ (Err NoSession, m))

ok_err : (reply : PadReply) (refusal : Refusal) → (let r : Result PadReply Refusal = Err refusal in r) ≡ Ok reply → ⊥
ok_err reply refusal q = cc

same_ok : (a b : PadReply) → (let r : Result PadReply Refusal = Ok a in r) ≡ Ok b → b ≡ a
same_ok a b q = cc

read_author : (a : Act) (told : Machine → Result PadReply Refusal) (owned : Owned) (name : List ℕ) (visit : Option ℕ)
    (m new : Machine) (reply : PadReply) (r : Option Refusal) → IsReading a told →
    author_refusal owned m.presence name visit a ≡ r → author_step owned name visit a m ≡ (Ok reply, new) →
    (told m ≡ Ok reply) × (m ≡ new)
read_author a told owned name visit m new reply (Some refusal) is e done =
    absurd (ok_err reply refusal (ap (λ d. d.0) (rw e at done)))
read_author a told owned name visit m new reply None is e done =
    let made : author_act owned name (unwrap_or visit 0) a m ≡ (Ok reply, new) = rw e at done in
    let both = sym (is.0 owned name (unwrap_or visit 0) m) ∙ made in
    (ap (λ d. d.0) both, ap (λ d. d.1) both)

read_session : (a : Act) (told : Machine → Result PadReply Refusal) (owned : Owned) (who : Who) (visit : Option ℕ)
    (m new : Machine) (reply : PadReply) → IsReading a told → session_step owned who visit a m ≡ (Ok reply, new) →
    (told m ≡ Ok reply) × (m ≡ new)
read_session a told owned Nobody visit m new reply is done = absurd (ok_err reply _ (ap (λ d. d.0) done))
read_session a told owned (Author name) visit m new reply is done = read_author a told owned name visit m new reply
    (author_refusal owned m.presence name visit a) is refl done
read_session a told owned (Peer number version) visit m new reply is done =
    absurd (ok_err reply NoSession (ap (λ d. d.0) (sym (is.1 version m) ∙ done)))

read_step : (a : Act) (told : Machine → Result PadReply Refusal) (pad : List ℕ) (who : Who) (visit : Option ℕ)
    (new : Machine) (reply : PadReply) (o : Option Owned) (replica : ℕ) (log held : List Op) (p : Presence)
    (clock : ℕ) (made : Made) → IsReading a told → (let m : Machine =
    record { owned = o; replica = replica; log = log; held = held; presence = p; clock = clock; made = made } in
    step pad who visit a m
    ≡ (Ok reply, new) → ((reply ≡ Elsewhere) ⊎ (told m ≡ Ok reply)) × (m ≡ new))
read_step a told pad who visit new reply None replica log held p clock kept is done =
    absurd (ok_err reply _ (ap (λ d. d.0) done))
read_step a told pad who visit new reply (Some owned) replica log held p clock kept is done =
    split (bytes_eq owned.name pad)
    (λ yes. let got = read_session a told owned who visit _ new reply is (rw yes at done) in (inr got.0, got.1))
    (λ no. let left = rw no at done in (inl (same_ok Elsewhere reply (ap (λ d. d.0) left)), ap (λ d. d.1) left))

-- an act that reads is answered so by a step of the pad machine
told_step : (this : Act) (pad : List ℕ) (who : Who) (visit : Option ℕ) (m new : Machine) (answer : PadReply) →
    step pad who visit this m ≡ (Ok answer, new) → IsTold this answer m new
told_step this pad who visit m new answer done = by_act this done
  where
    through : (a : Act) (told : Machine → Result PadReply Refusal) → IsReading a told → step pad who visit a m
        ≡ (Ok answer, new) → ((answer ≡ Elsewhere) ⊎ (told m ≡ Ok answer)) × (new.log ≡ m.log)
    through a told is made =
        let got = read_step a told pad who visit new answer m.owned m.replica m.log m.held m.presence
        m.clock m.made is made in
        (got.0, ap (λ (k : Machine). k.log) (sym got.1))

    by_act : (a : Act) → step pad who visit a m ≡ (Ok answer, new) → IsTold a answer m new
    by_act (act.Text rev) made reads = through (act.Text rev) (λ k. read_text rev k.log)
        (λ owned name v k. refl, λ version k. refl) made
    by_act (act.Runs rev) made reads = through (act.Runs rev) (λ k. read_runs rev k.log)
        (λ owned name v k. refl, λ version k. refl) made
    by_act (act.Comments rev) made reads = through (act.Comments rev) (λ k. read_comments rev k.log)
        (λ owned name v k. refl, λ version k. refl) made
    by_act (act.Changes rev to wait) made reads = through (act.Changes rev to wait)
        (λ k. read_changes rev to wait k.log) (λ owned name v k. refl, λ version k. refl) made
    by_act act.Revs made reads = through act.Revs (λ k. read_revs k.log)
        (λ owned name v k. refl, λ version k. refl) made
    by_act (act.RevsAt moments) made reads = through (act.RevsAt moments) (λ k. read_revs_at moments k.log k.made.times)
        (λ owned name v k. refl, λ version k. refl) made
    by_act a made reads = absurd reads

no_memory : (answer : PadReply) → (let r : Result PadReply Refusal = Ok answer in r) ≡ Err Memory → ⊥
no_memory answer q = cc

-- a step that was answered is the machine's
was_stepped : (m new : Machine) (event : PadEvent) (answer : PadReply) → Stepped m event (Ok answer) new →
    event_step event m ≡ (Ok answer, new)
was_stepped m new event answer (inl (inl h)) = absurd (no_memory answer h.0)
was_stepped m new event answer (inl (inr h)) = h
was_stepped m new event answer (inr h) = absurd (no_memory answer h.0)

-- so a pad answers readers what its log and its times say
pub told : (m new : Machine) (event : PadEvent) (r : Result PadReply Refusal) (answer : PadReply) →
    r ≡ Ok answer → Stepped m event r new → IsTold event.act.now answer m new
told m new event r answer is h = told_step event.act.now event.pad.now event.who.now event.visit m new answer
    (was_stepped m new event answer (subst (λ (x : Result PadReply Refusal). Stepped m event x new) is h))

-- what readers are answered from
abbrev read_from : Result PadReply Refusal × Machine → List Op × List ℕ
read_from done = (done.1.log, done.1.made.times)

joins_author : (owned : Owned) (name : List ℕ) (visit : Option ℕ) (m : Machine) (r : Option Refusal) →
    author_refusal owned m.presence name visit act.Join ≡ r →
    read_from (author_step owned name visit act.Join m) ≡ (m.log, m.made.times)
joins_author owned name visit m (Some refusal) e = rw e refl
joins_author owned name visit m None e = rw e refl

joins_session : (owned : Owned) (who : Who) (visit : Option ℕ) (m : Machine) →
    read_from (session_step owned who visit act.Join m) ≡ (m.log, m.made.times)
joins_session owned Nobody visit m = refl
joins_session owned (Author name) visit m =
    joins_author owned name visit m (author_refusal owned m.presence name visit act.Join) refl
joins_session owned (Peer number version) visit m = refl

joins_step : (pad : List ℕ) (who : Who) (visit : Option ℕ) (o : Option Owned) (replica : ℕ) (log held : List Op)
    (p : Presence) (clock : ℕ) (made : Made) → (let m : Machine =
    record { owned = o; replica = replica; log = log; held = held; presence = p; clock = clock; made = made } in
    read_from (step pad who visit act.Join m)
    ≡ (log, made.times))
joins_step pad who visit None replica log held p clock made = refl
joins_step pad who visit (Some owned) replica log held p clock made =
    split (bytes_eq owned.name pad) (λ yes. rw yes (joins_session owned who visit _)) (λ no. rw no refl)

-- joining a pad leaves its log and its times unchanged
pub joined : (m new : Machine) (event : PadEvent) (r : Result PadReply Refusal) (answer : PadReply) →
    event.act.now ≡ act.Join → r ≡ Ok answer → Stepped m event r new → (new.log ≡ m.log) × (new.made.times ≡ m.made.times)
joined m new event r answer is answered h =
    let done : step event.pad.now event.who.now event.visit act.Join m ≡ (Ok answer, new) =
    ap (λ a. step event.pad.now event.who.now event.visit a m) (sym is)
    ∙ was_stepped m new event answer (subst (λ (x : Result PadReply Refusal). Stepped m event x new) answered h) in
    let same : (new.log, new.made.times) ≡ (m.log, m.made.times) = ap read_from (sym done)
    ∙ joins_step event.pad.now event.who.now event.visit m.owned m.replica m.log m.held m.presence m.clock m.made in
    (ap (λ d. d.0) same, ap (λ d. d.1) same)

-- if no damage is reported, no damage is reported wrongly
pub faultless : (bytes : List ℕ) (t : Trouble) → IsNoDamage t → IsFault bytes t
unfolding IsFault
faultless bytes trouble.Memory none = tt
faultless bytes (trouble.Damaged damage) none = absurd none
faultless bytes trouble.NoRevision none = tt
faultless bytes trouble.Unread none = tt

-- what holds for a result holds for its value
pub of_ok : {A E : Type 0} (P : A → Type 0) (Q : E → Type 0) (r : Result A E) (x : A) → r ≡ Ok x → MatchResult r P Q →
    P x
of_ok P Q r x is h = subst (λ q. MatchResult q P Q) is h

pub of_err : {A E : Type 0} (P : A → Type 0) (Q : E → Type 0) (r : Result A E) (e : E) → r ≡ Err e →
    MatchResult r P Q → Q e
of_err P Q r e is h = subst (λ q. MatchResult q P Q) is h

-- and so if only one of the two is known
pub if_ok : {A E : Type 0} (P : A → Type 0) (r : Result A E) (x : A) → r ≡ Ok x → IfOk r P → P x
if_ok P r x is h = subst (λ q. IfOk q P) is h

pub if_err : {A E : Type 0} (Q : E → Type 0) (r : Result A E) (e : E) → r ≡ Err e → IfErr r Q → Q e
if_err Q r e is h = subst (λ q. IfErr q Q) is h

-- the bytes of a file lead to the pad that was loaded
pub leads : (bytes name : List ℕ) (read : Read) → pad_read 1 DEFAULT_PRESENT name bytes ≡ Ok read →
    LeadTo bytes read.pad.log read.pad.made.times
unfolding LeadTo
leads bytes name read is = (name, read, is, refl, refl)

-- or they are damaged so
pub damaged : (bytes name : List ℕ) (found : Damage) → (found ≡ damage.Memory) ⊎ (pad_read 1 DEFAULT_PRESENT name bytes ≡ Err found) →
    IsFault bytes (trouble_after found)
unfolding IsFault
damaged bytes name damage.Memory h = tt
damaged bytes name found (inl e) = absurd (cc)
damaged bytes name found (inr is) = (name, is)

-- the pad that was begun has the log and the times of the one that was loaded
pub begins : (bytes : List ℕ) (log : List Op) (times : List ℕ) (r : Result InspectedPad Trouble) →
    LeadTo bytes log times →
    MatchResult r (λ book. (book.pad.log ≡ log) × (book.pad.made.times ≡ times)) IsNoDamage →
    MatchResult r (λ book. LeadTo bytes book.pad.log book.pad.made.times) (λ t. IsFault bytes t)
begins bytes log times (Ok book) lead begun =
    subst (λ (t : List ℕ). LeadTo bytes book.pad.log t) (sym begun.1)
    (subst (λ (l : List Op). LeadTo bytes l times) (sym begun.0) lead)
begins bytes log times (Err t) lead begun = faultless bytes t begun

-- a text of a log is shown
pub shows_of : (asked : RevisionChoice) (log later : List Op) (times : List ℕ) (rev : ℕ) (shown text : List ℕ) →
    rev ≡ number_of asked log times → later ≡ log →
    ((at : ℕ) × (read_text (Some rev) later ≡ Ok (Text (length later) at shown))) → text ≡ encode_utf8_all shown →
    ShowsOf log times asked text
unfolding ShowsOf
shows_of asked log later times rev shown text number kept told is =
    let same : read_text (Some (number_of asked log times)) log ≡ Ok (Text (length log) told.0 shown) =
    subst (λ (n : ℕ). read_text (Some n) log ≡ Ok (Text (length log) told.0 shown)) number
    (subst (λ (l : List Op). read_text (Some rev) l ≡ Ok (Text (length l) told.0 shown)) kept told.1) in
    (told.0, shown, same, is)

-- so is a text of the log that the bytes of a file lead to
pub shows : {A : Type 0} (bytes : List ℕ) (asked : RevisionChoice) (log : List Op) (times : List ℕ)
    (bytes_of : A → List ℕ) (r : Result A Trouble) → LeadTo bytes log times →
    IfOk r (λ a. ShowsOf log times asked (bytes_of a)) → IfOk r (λ a. Shows bytes asked (bytes_of a))
unfolding Shows
shows bytes asked log times bytes_of (Ok a) lead told = (log, times, lead, told)
shows bytes asked log times bytes_of (Err t) lead told = tt

-- if an answer reports no damage, it reports none wrongly
pub faults : {A : Type 0} (bytes : List ℕ) (r : Result A Trouble) → IfErr r IsNoDamage → IfErr r (λ t. IsFault bytes t)
faults bytes (Ok a) none = tt
faults bytes (Err t) none = faultless bytes t none
