-- A pad keeps the name that its first record gave it.
use Rattle.std.proofs.Common.{◌≡◌, ℕ, Bool, true, false, not, cond, ◌&&◌, bytes_eq, List, [], ◌∷◌, fold, Option, Some, None}
use Rattle.std.proofs.Common.{Result, Ok, Err, refl, sym, ap, ◌∙◌}
use Rattle.std.proofs.lemmas.Bool.{cond-true}
use Rattle.std.proofs.lemmas.Slice.Eq.{bytes_eq-Decides}
use Rattle.guests.specs.Guests.{is_guest}
use Rattle.pad_model.specs.Checked.{is_name}
use Rattle.pad_model.specs.declared.refusal.Refusal.{Refusal}
use Rattle.pad_model.specs.declared.refusal.Refusal.TheVariants.{BadName}
use Rattle.rights.specs.Rights.{can_have}
use Rattle.pad_core.specs.Machine.{Machine, claim, name_of}
use Rattle.presence.specs.Presence.{counted}
use Rattle.pad_core.specs.Restart.{author_if, restore_claim}
use Rattle.pad_core.specs.declared.owned.Owned.{Owned}
use Rattle.store_records.specs.Records.{rebuilt, replay, replay_all, replayed, unless_refused, unnamed}
use Rattle.store_records.specs.declared.kept_record.Record.{Record}
use Rattle.store_records.specs.declared.kept_record.Record.TheVariants.{Named, Granted, Handed, Closed, Marked, Introduced, Visited}
use Rattle.store_records.specs.declared.kept_record.Record.TheVariants.{Delivered}
use Rattle.store_format.specs.Files.{Read, if_called, if_named}
use Rattle.store_format.specs.declared.reader.Damage.TheVariants.{Empty, OtherPad}

refused_stays : (records : List Record) (e : Refusal) → fold replayed (Err e) records ≡ Err e
refused_stays [] e = refl
refused_stays (x ∷ records) e = refused_stays records e

err_is_no_ok : (e : Refusal) (m : Machine) → (let r : Result Machine Refusal = Err e in r) ≡ Ok m → ⊥
err_is_no_ok e m h = cc

same_ok : (m n : Machine) → (let r : Result Machine Refusal = Ok m in r) ≡ Ok n → m ≡ n
same_ok m n h = cc

either : {A : Type 0} (P : A → Type 0) (b : Bool) (x y : A) → P x → P y → P (cond b x y)
either P true x y p q = p
either P false x y p q = q

abbrev owning : Option Owned → Machine → Machine
owning o m = record m { owned = o }

-- one more record keeps the name
one_stays : (kept : Record) (owned : Owned) (m : Machine) →
    name_of (replay kept (owning (Some owned) m)).1.owned ≡ Some owned.name
one_stays (Named name owner visits) owned m = refl
one_stays (Granted grantee right) owned m =
    either (λ (done : Result (Unit {0}) Refusal × Machine). name_of done.1.owned ≡ Some owned.name)
    (not (can_have grantee right)) (Err BadName, owning (Some owned) m) _ refl refl
one_stays (Handed author) owned m =
    either (λ (done : Result (Unit {0}) Refusal × Machine). name_of done.1.owned ≡ Some owned.name)
    (not (is_name author)) (Err BadName, owning (Some owned) m) _ refl refl
one_stays (Closed closed) owned m = refl
one_stays (Marked this) owned m =
    either (λ (done : Result (Unit {0}) Refusal × Machine). name_of done.1.owned ≡ Some owned.name)
    (not (is_name this.author)) (Err BadName, owning (Some owned) m) _ refl refl
one_stays (Introduced guest) owned m =
    either (λ (done : Result (Unit {0}) Refusal × Machine). name_of done.1.owned ≡ Some owned.name)
    (not (is_name guest.author && is_guest guest.author)) (Err BadName, owning (Some owned) m) _ refl refl
one_stays (Visited author) owned m = refl
one_stays (Delivered at visit op) owned m = refl

none_is_some : (n : List ℕ) → (let o : Option (List ℕ) = None in o) ≡ Some n → ⊥
none_is_some n h = cc

name_stays : (kept : Record) (o : Option Owned) (m : Machine) (n : List ℕ) →
    name_of o ≡ Some n → name_of (replay kept (owning o m)).1.owned ≡ Some n
name_stays kept None m n is = absurd (none_is_some n is)
name_stays kept (Some owned) m n is = one_stays kept owned m ∙ is

-- and so do all
named_stays : (records : List Record) (m after : Machine) (n : List ℕ) → name_of m.owned ≡ Some n →
    replay_all records m ≡ Ok after → name_of after.owned ≡ Some n
named_stays [] m after n named leads = ap (λ (x : Machine). name_of x.owned) (sym (same_ok m after leads)) ∙ named
named_stays (kept ∷ records) m after n named leads =
    at (replay kept m) (name_stays kept m.owned m n named) leads
    (λ (next : Machine). named_stays records next after n)
  where
    at : (done : Result (Unit {0}) Refusal × Machine) → name_of done.1.owned ≡ Some n →
        fold replayed (unless_refused done) records ≡ Ok after →
        ((next : Machine) → name_of next.owned ≡ Some n → replay_all records next ≡ Ok after →
        name_of after.owned ≡ Some n) → name_of after.owned ≡ Some n
    at (Ok done, next) is ok on = on next is ok
    at (Err e, next) is ok on = absurd (err_is_no_ok e after (sym (refused_stays records e) ∙ ok))

-- records lead to a pad with this name, if the first names it so
named_first : (number most : ℕ) (name owner : List ℕ) (visits : Bool) (more : List Record) (after : Machine) →
    rebuilt number most (Named name owner visits ∷ more) ≡ Ok after → name_of after.owned ≡ Some name
named_first number most name owner visits more after leads = at (is_name name && is_name owner) refl
  where
    given : Machine
    given = record (unnamed number most) {
      owned = (claim name owner (unnamed number most)).1.owned;
      presence = counted (author_if visits owner) (unnamed number most).presence;
    }

    at : (b : Bool) → (is_name name && is_name owner) ≡ b → name_of after.owned ≡ Some name
    at true is = named_stays more given after name refl (sym (ap (λ (done : Result (Unit {0}) Refusal × Machine). fold
        replayed (unless_refused done) more) (claimed is)) ∙ leads)
      where
        claimed : (is_name name && is_name owner) ≡ true → restore_claim name owner visits (unnamed number most) ≡ (Ok tt, given)
        claimed is = rw is refl
    at false is = absurd (err_is_no_ok BadName after (sym (refused_stays more BadName) ∙ (sym
        (ap (λ (done : Result (Unit {0}) Refusal × Machine). fold replayed (unless_refused done) more) (refused is)) ∙ leads)))
      where
        refused : (is_name name && is_name owner) ≡ false → restore_claim name owner visits (unnamed number most)
            ≡ (Err BadName, unnamed number most)
        refused is = rw is refl

-- so the file of the pad with this name is taken
pub is_taken : (number most : ℕ) (name owner : List ℕ) (visits : Bool) (records more : List Record) (read : Read) →
    rebuilt number most records ≡ Ok read.pad → records ≡ Named name owner visits ∷ more → if_named name read ≡ Ok read
is_taken number most name owner visits records more read leads is =
    ap (if_called name read) (named_first number most name owner visits more read.pad
    (sym (ap (rebuilt number most) is) ∙ leads))
    ∙ cond-true (bytes_eq name name) (Ok read) (Err OtherPad) ((bytes_eq-Decides name name).1 refl)

-- and a file without a record is that of no pad
pub is_empty : (number most : ℕ) (name : List ℕ) (records : List Record) (read : Read) → rebuilt number most records
    ≡ Ok read.pad → records ≡ [] → if_named name read ≡ Err Empty
is_empty number most name records read leads is =
    ap (λ (m : Machine). if_called name read (name_of m.owned))
    (sym (same_ok (unnamed number most) read.pad (sym (ap (rebuilt number most) is) ∙ leads)))
