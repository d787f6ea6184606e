-- The pad that records lead to does not depend on the server's numbers; it has nobody present, and holds no operations.
use Rattle.std.proofs.Common.{◌≡◌, ◌⊎◌, inl, inr, ℕ, Bool, true, false, List, [], ◌∷◌, fold, length, Option, Some}
use Rattle.std.proofs.Common.{None, Result, Ok, Err, ◌&&◌, refl, sym, ap, ◌∙◌, subst}
use Rattle.pad_model.specs.Checked.{is_name}
use Rattle.op_log.specs.Made.{Made, nothing_made}
use Rattle.pad_model.specs.declared.op.Op.{Op}
use Rattle.pad_model.specs.declared.refusal.Refusal.{Refusal}
use Rattle.pad_model.specs.declared.refusal.Refusal.TheVariants.{BadName, NoPad, PadExists}
use Rattle.rights.specs.Rights.{can_have, grant, hand}
use Rattle.rights.specs.declared.grantee.Grantee.{Grantee}
use Rattle.rights.specs.declared.right.Right.{Right}
use Rattle.presence.specs.Presence.{Presence, spent_refusal}
use Rattle.named_revisions.specs.declared.named_revision.NamedRevision.{NamedRevision}
use Rattle.pad_core.specs.Machine.{Machine, new_owned}
use Rattle.guests.specs.Book.{introduce}
use Rattle.guests.specs.Guests.{is_guest}
use Rattle.guests.specs.declared.guest.Guest.{Guest}
use Rattle.pad_core.specs.Marks.{named}
use Rattle.pad_core.specs.Restart.{author_if, delivered_again, restarted}
use Rattle.pad_core.specs.Times.{timed}
use Rattle.pad_core.specs.declared.owned.Owned.{Owned}
use Rattle.store_records.specs.Laws.{restarted_by}
use Rattle.store_records.specs.Records.{rebuilt, replay, replay_all, replayed, unless_refused}
use Rattle.store_records.specs.declared.kept_record.Record.{Record}
use Rattle.store_records.specs.declared.kept_record.Record.TheVariants.{Named, Granted, Handed, Closed, Marked, Introduced, Visited}
use Rattle.store_records.specs.declared.kept_record.Record.TheVariants.{Delivered}
use Rattle.store_records.proofs.Deliveries.{Given, bare, one_given}

-- who is present on a restarted pad: nobody
abbrev pub nobody : ℕ → Given → Presence
nobody limit given = record { limit = limit; given = given.0; present = []; authors = given.1 }

-- a record leads from a pad to another, or is refused, whatever the server's numbers are
abbrev Goes : Record → Option Owned → List Op → Given → Made → Type 0
Goes kept o log given made = (done : Result (Unit {0}) Refusal) × (after : Option Owned) × (more : List Op) × (next : Given)
    × (later : Made)
    × ((replica limit : ℕ) → replay kept (bare o replica limit log given made)
    ≡ (done, bare after replica limit more next later))

names : (name owner : List ℕ) (visits : Bool) (log : List Op) (given : Given) (made : Made) (b : Bool) →
    (is_name name && is_name owner) ≡ b → Goes (Named name owner visits) None log given made
names name owner visits log given made true is = (
  Ok tt,
  Some (new_owned name owner),
  log,
  one_given (author_if visits owner) given,
  made,
  λ replica limit. rw is refl,
)
names name owner visits log given made false is = (Err BadName, None, log, given, made, λ replica limit. rw is refl)

grants : (grantee : Grantee) (right : Option Right) (owned : Owned) (log : List Op) (given : Given) (made : Made) (b : Bool) →
    can_have grantee right ≡ b → Goes (Granted grantee right) (Some owned) log given made
grants grantee right owned log given made true is = (
  (grant owned.rights grantee right).0,
  Some (record owned { rights = (grant owned.rights grantee right).1 }),
  log,
  given,
  made,
  λ replica limit. rw is refl,
)
grants grantee right owned log given made false is = (Err BadName, Some owned, log, given, made, λ replica limit. rw is refl)

hands : (author : List ℕ) (owned : Owned) (log : List Op) (given : Given) (made : Made) (b : Bool) →
    is_name author ≡ b → Goes (Handed author) (Some owned) log given made
hands author owned log given made true is = (
  (hand owned.rights author).0,
  Some (record owned { rights = (hand owned.rights author).1 }),
  log,
  given,
  made,
  λ replica limit. rw is refl,
)
hands author owned log given made false is = (Err BadName, Some owned, log, given, made, λ replica limit. rw is refl)

marks : (this : NamedRevision) (owned : Owned) (log : List Op) (given : Given) (made : Made) (b : Bool) →
    is_name this.author ≡ b → Goes (Marked this) (Some owned) log given made
marks this owned log given made true is = (
  (named (length log) this owned.marks).0,
  Some (record owned { marks = (named (length log) this owned.marks).1 }),
  log,
  given,
  made,
  λ replica limit. rw is refl,
)
marks this owned log given made false is = (Err BadName, Some owned, log, given, made, λ replica limit. rw is refl)

introductions : (this : Guest) (owned : Owned) (log : List Op) (given : Given) (made : Made) (b : Bool) →
    (is_name this.author && is_guest this.author) ≡ b → Goes (Introduced this) (Some owned) log given made
introductions this owned log given made true is = (
  (introduce this owned.guests).0,
  Some (record owned { guests = (introduce this owned.guests).1 }),
  log,
  given,
  made,
  λ replica limit. rw is refl,
)
introductions this owned log given made false is = (Err BadName, Some owned, log, given, made, λ replica limit. rw is refl)

-- the refusal of a further number after this one, if there is one
abbrev spent : Given → Option Refusal
spent given = spent_refusal (nobody 0 given)

visits : (author : Option (List ℕ)) (owned : Owned) (log : List Op) (given : Given) (made : Made) (r : Option Refusal) →
    spent given ≡ r → Goes (Visited author) (Some owned) log given made
visits author owned log given made (Some refusal) is = (Err refusal, Some owned, log, given, made, λ replica limit. rw is refl)
visits author owned log given made None is = (
  Ok tt,
  Some owned,
  log,
  one_given author given,
  made,
  λ replica limit. rw is refl,
)

goes : (kept : Record) (o : Option Owned) (log : List Op) (given : Given) (made : Made) → Goes kept o log given made
goes (Named name owner visits) None log given made = names name owner visits log given made (is_name name && is_name owner) refl
goes (Named name owner visits) (Some owned) log given made = (Err PadExists, Some owned, log, given, made, λ replica limit. refl)
goes (Granted grantee right) None log given made = (Err NoPad, None, log, given, made, λ replica limit. refl)
goes (Granted grantee right) (Some owned) log given made = grants grantee right owned log given made (can_have grantee right) refl
goes (Handed author) None log given made = (Err NoPad, None, log, given, made, λ replica limit. refl)
goes (Handed author) (Some owned) log given made = hands author owned log given made (is_name author) refl
goes (Closed closed) None log given made = (Err NoPad, None, log, given, made, λ replica limit. refl)
goes (Closed closed) (Some owned) log given made =
    (Ok tt, Some (record owned { closed = closed }), log, given, made, λ replica limit. refl)
goes (Marked this) None log given made = (Err NoPad, None, log, given, made, λ replica limit. refl)
goes (Marked this) (Some owned) log given made = marks this owned log given made (is_name this.author) refl
goes (Introduced this) None log given made = (Err NoPad, None, log, given, made, λ replica limit. refl)
goes (Introduced this) (Some owned) log given made =
    introductions this owned log given made (is_name this.author && is_guest this.author) refl
goes (Visited author) None log given made = (Err NoPad, None, log, given, made, λ replica limit. refl)
goes (Visited author) (Some owned) log given made = visits author owned log given made (spent given) refl
goes (Delivered at visit op) o log given made = ((delivered_again op log).0, o, (delivered_again op log).1, given, timed at visit log (delivered_again op log).1 made, λ replica limit. refl)

-- records lead to a pad, or are refused, whatever the server's numbers are
abbrev AllGo : List Record → Option Owned → List Op → Given → Made → Type 0
AllGo records o log given made =
    ((e : Refusal) × ((replica limit : ℕ) → replay_all records (bare o replica limit log given made) ≡ Err e))
    ⊎ ((after : Option Owned) × (more : List Op) × (next : Given) × (later : Made)
    × ((replica limit : ℕ) → replay_all records (bare o replica limit log given made)
    ≡ Ok (bare after replica limit more next later)))

refused_stays : (records : List Record) (e : Refusal) → fold replayed (Err e) records ≡ Err e
refused_stays [] e = refl
refused_stays (x ∷ records) e = refused_stays records e

all_go : (records : List Record) (o : Option Owned) (log : List Op) (given : Given) (made : Made) →
    AllGo records o log given made
all_go [] o log given made = inr (o, log, given, made, λ replica limit. refl)
all_go (kept ∷ records) o log given made = at (goes kept o log given made)
    (λ (after : Option Owned) (more : List Op) (next : Given) (later : Made). all_go records after more next later)
  where
    on : Result (Unit {0}) Refusal × Machine → Result Machine Refusal
    on done = fold replayed (unless_refused done) records

    at : Goes kept o log given made →
        ((after : Option Owned) (more : List Op) (next : Given) (later : Made) → AllGo records after more next later) →
        AllGo (kept ∷ records) o log given made
    at (Err e, after, more, next, later, is) rest = inl (e, λ replica limit. ap on (is replica limit) ∙ refused_stays records e)
    at (Ok done, after, more, next, later, is) rest = behind (rest after more next later)
      where
        behind : AllGo records after more next later → AllGo (kept ∷ records) o log given made
        behind (inl (e, refused)) = inl (e, λ replica limit. ap on (is replica limit) ∙ refused replica limit)
        behind (inr (last, all, count, ends, leads)) = inr (last, all, count, ends, λ replica limit. ap on (is replica limit) ∙ leads replica limit)

err_is_no_ok : (e : Refusal) (m : Machine) → (let r : Result Machine Refusal = Err e in r) ≡ Ok m → ⊥
err_is_no_ok e m h = cc

same_ok : (m n : Machine) → (let r : Result Machine Refusal = Ok m in r) ≡ Ok n → m ≡ n
same_ok m n h = cc

-- in the pad that records lead to, nobody is present and no operation is held
pub bare_stays : (replica limit : ℕ) (records : List Record) (m : Machine) → rebuilt replica limit records ≡ Ok m →
    m ≡ restarted m
bare_stays replica limit records m leads = at (all_go records None [] (0, []) nothing_made)
  where
    at : AllGo records None [] (0, []) nothing_made → m ≡ restarted m
    at (inl (e, refused)) = absurd (err_is_no_ok e m (sym (refused replica limit) ∙ leads))
    at (inr (after, more, next, later, is)) = subst (λ (n : Machine). n ≡ restarted n)
        (same_ok (bare after replica limit more next later) m (sym (is replica limit) ∙ leads)) refl

-- on a server with other numbers, records lead to the same pad
pub any_numbers : (replica limit : ℕ) (records : List Record) (m : Machine) →
    rebuilt replica limit records ≡ Ok (restarted m) →
    (number most : ℕ) → rebuilt number most records ≡ Ok (restarted_by number most m)
any_numbers replica limit records m leads number most = at (all_go records None [] (0, []) nothing_made)
  where
    at : AllGo records None [] (0, []) nothing_made → rebuilt number most records ≡ Ok (restarted_by number most m)
    at (inl (e, refused)) = absurd (err_is_no_ok e (restarted m) (sym (refused replica limit) ∙ leads))
    at (inr (after, more, next, later, is)) =
        is number most
        ∙ ap (λ (n : Machine). Ok (record n { replica = number; presence = record n.presence { limit = most } }))
        (same_ok (bare after replica limit more next later) (restarted m) (sym (is replica limit) ∙ leads))
