-- What the crates above need to know about names with rights.
use Rattle.std.proofs.Common.{◌≡◌, ◌⊎◌, inl, inr, ℕ, Bool, true, false, cond, List, [], ◌∷◌, Option, Some, None}
use Rattle.std.proofs.Common.{Result, Ok, Err, refl, sym, ap, ◌∙◌, subst}
use Rattle.std.specs.Prelude.{IsTrue}
use Rattle.std.proofs.lemmas.Bool.{true≢false}
use Rattle.std.proofs.lemmas.Slice.Eq.{bytes_eq-Decides}
use Rattle.std.specs.List.{AllByRecursion}
use Rattle.std.specs.Map.{lookup, remove_entry}
use Rattle.std.specs.Str.{bytes_eq}
use Rattle.indexmap.specs.IndexMap.{insert_entry}
use Rattle.pad_model.specs.Checked.{is_name}
use Rattle.pad_model.specs.declared.refusal.Refusal.{Refusal}
use Rattle.pad_model.specs.declared.refusal.Refusal.TheVariants.{OwnerKept, GrantsFull}
use Rattle.pad_model.proofs.Newer.{split}
use Rattle.rights.specs.Rights.{Rights, can_have, changed, covers, grant, granted, greater, hand, is_full, may, shared}
use Rattle.rights.specs.declared.grantee.Grantee.{Grantee}
use Rattle.rights.specs.declared.grantee.Grantee.TheVariants.{Author, Everyone}
use Rattle.rights.specs.declared.right.Right.{Right}
use Rattle.rights.specs.declared.right.Right.TheVariants.{Own, Write}

found_has : (P : List ℕ → Type 0) (grants : List (List ℕ × Right)) (name : List ℕ) (least : Right) →
    AllByRecursion (λ e. P e.0) grants → covers (lookup (bytes_eq name) grants) least ≡ true → P name
found_has P [] name least h e = absurd (true≢false (sym e))
found_has P (x ∷ grants) name least h e =
    split (bytes_eq name x.0)
    (λ same. subst P (sym ((bytes_eq-Decides name x.0).0 same)) h.0)
    (λ other. found_has P grants name least h.1
    (sym (ap (λ b. covers (cond b (Some x.1) (lookup (bytes_eq name) grants)) least) other) ∙ e))

-- the greater of two rights includes what one of them does
greater_either : (held other : Option Right) (least : Right) → covers (greater held other) least ≡ true →
    (covers held least ≡ true) ⊎ (covers other least ≡ true)
greater_either held None least e = inl e
greater_either held (Some right) least e =
    split (covers held right)
    (λ more. inl (sym (ap (λ b. covers (cond b held (Some right)) least) more) ∙ e))
    (λ less. inr (sym (ap (λ b. covers (cond b held (Some right)) least) less) ∙ e))

shared_named : (book : Rights) (name : List ℕ) (least : Right) → covers (shared book name) least ≡ true →
    is_name name ≡ true
shared_named book name least e =
    split (is_name name) (λ named. named)
    (λ other. absurd (true≢false (sym e ∙ rw other refl)))

-- what holds for the owner's name, for each granted one and for each that an author can have holds for every name with
-- a right
pub may_has : (P : List ℕ → Type 0) (book : Rights) (name : List ℕ) (least : Right) → P book.owner →
    AllByRecursion (λ e. P e.0) book.grants → (is_name name ≡ true → P name) → may book name least ≡ true → P name
may_has P book name least owner grants named e =
    split (bytes_eq name book.owner)
    (λ same. subst P (sym ((bytes_eq-Decides name book.owner).0 same)) owner)
    (λ other. at (greater_either (granted book.grants name) (shared book name) least
    (sym (ap (λ b. covers (cond b (Some Own) (greater (granted book.grants name)
    (shared book name))) least) other) ∙ e)))
  where
    at : (covers (granted book.grants name) least ≡ true)
        ⊎ (covers (shared book name) least ≡ true) → P name
    at (inl own) = found_has P book.grants name least grants own
    at (inr all) = named (shared_named book name least all)

removed_case : (P : List ℕ → Type 0) (b : Bool) (x : List ℕ × Right) (grants rest : List (List ℕ × Right)) →
    AllByRecursion (λ e. P e.0) (x ∷ grants) → AllByRecursion (λ e. P e.0) rest → AllByRecursion (λ e. P e.0)
    (cond b grants (x ∷ rest))
removed_case P true x grants rest h r = h.1
removed_case P false x grants rest h r = (h.0, r)

removed_has : (P : List ℕ → Type 0) (name : List ℕ) (grants : List (List ℕ × Right)) →
    AllByRecursion (λ e. P e.0) grants → AllByRecursion (λ e. P e.0) (remove_entry (bytes_eq name) grants)
removed_has P name [] h = h
removed_has P name (x ∷ grants) h = removed_case P (bytes_eq name x.0) x grants (remove_entry (bytes_eq name) grants) h
    (removed_has P name grants h.1)

inserted_case : (P : List ℕ → Type 0) (b : Bool) (least : Right) (x : List ℕ × Right)
    (grants rest : List (List ℕ × Right)) → AllByRecursion (λ e. P e.0) (x ∷ grants) →
    AllByRecursion (λ e. P e.0) rest →
    AllByRecursion (λ e. P e.0) (cond b ((x.0, least) ∷ grants) (x ∷ rest))
inserted_case P true least x grants rest h r = (h.0, h.1)
inserted_case P false least x grants rest h r = (h.0, r)

inserted_has : (P : List ℕ → Type 0) (name : List ℕ) (least : Right) (grants : List (List ℕ × Right)) → P name →
    AllByRecursion (λ e. P e.0) grants → AllByRecursion (λ e. P e.0) (insert_entry bytes_eq grants name least)
inserted_has P name least [] one h = (one, tt)
inserted_has P name least (x ∷ grants) one h = inserted_case P (bytes_eq name x.0) least x grants
    (insert_entry bytes_eq grants name least) h (inserted_has P name least grants one h.1)

changed_has : (P : List ℕ → Type 0) (grants : List (List ℕ × Right)) (name : List ℕ) (given : Option Right) → P name →
    AllByRecursion (λ e. P e.0) grants → AllByRecursion (λ e. P e.0) (changed grants name given)
changed_has P grants name None one h = removed_has P name grants h
changed_has P grants name (Some least) one h = inserted_has P name least grants one h

grant_case : (P : List ℕ → Type 0) (b full : Bool) (book : Rights) (name : List ℕ) (given : Option Right) → P name →
    P book.owner × AllByRecursion (λ e. P e.0) book.grants →
    (let after = (cond b (Err OwnerKept, book)
    (cond full (Err GrantsFull, book) (let r : Result (Unit {0}) Refusal
    × Rights = (Ok tt, record book { grants = changed book.grants name given }) in r))).1 in P after.owner
    × AllByRecursion (λ e. P e.0) after.grants)
grant_case P true full book name given one h = h
grant_case P false true book name given one h = h
grant_case P false false book name given one h = (h.0, changed_has P book.grants name given one h.1)

-- it holds for the name of a grantee, if that has one
abbrev pub GranteeHas : (List ℕ → Type 0) → Grantee → Type 0
GranteeHas P (Author name) = P name
GranteeHas P Everyone = Unit {0}

-- who can have a right has a well-formed name, if any
pub can_have_name : (grantee : Grantee) (right : Option Right) → can_have grantee right ≡ true →
    GranteeHas (λ n. IsTrue (is_name n)) grantee
can_have_name (Author name) right e = e
can_have_name Everyone right e = tt

-- it still holds after a grant to a name for which it holds
pub grant_has : (P : List ℕ → Type 0) (book : Rights) (grantee : Grantee) (given : Option Right) → GranteeHas P grantee →
    P book.owner × AllByRecursion (λ e. P e.0) book.grants →
    P ((grant book grantee given).1).owner × AllByRecursion (λ e. P e.0) ((grant book grantee given).1).grants
grant_has P book (Author name) given one h = grant_case P (bytes_eq name book.owner) (is_full book.grants name given)
    book name given one h
grant_has P book Everyone given one h = h

hand_case : (P : List ℕ → Type 0) (same full : Bool) (book : Rights) (name : List ℕ) → P name →
    P book.owner × AllByRecursion (λ e. P e.0) book.grants →
    (let after = (cond same (let r : Result (Unit {0}) Refusal × Rights = (Ok tt, book) in r)
    (cond full (Err GrantsFull, book) (let r : Result (Unit {0}) Refusal
    × Rights = (Ok tt, record book { owner = name; grants = changed (changed book.grants book.owner (Some Write)) name None })
    in r))).1 in P after.owner × AllByRecursion (λ e. P e.0) after.grants)
hand_case P true full book name one h = h
hand_case P false true book name one h = h
hand_case P false false book name one h = (
  one,
  changed_has P (changed book.grants book.owner (Some Write)) name None one
      (changed_has P book.grants book.owner (Some Write) h.0 h.1),
)

-- and after a hand-over to a name for which it holds
pub hand_has : (P : List ℕ → Type 0) (book : Rights) (name : List ℕ) → P name →
    P book.owner × AllByRecursion (λ e. P e.0) book.grants →
    P ((hand book name).1).owner × AllByRecursion (λ e. P e.0) ((hand book name).1).grants
hand_has P book name one h = hand_case P (bytes_eq name book.owner) (is_full book.grants name (Some Write)) book name one h
