-- Who may do what with a pad.
use Rattle.std.specs.Prelude.{ℕ, ◌+◌, ◌<◌, Bool, true, false, not, ◌&&◌, nat_le, if◌then◌else◌, List, [], ◌∷◌, ◌++◌}
use Rattle.std.specs.Prelude.{length, map}
use Rattle.std.specs.Prelude.{is_some, Option, Some, None, Result, Ok, Err, bytes_eq}
use Rattle.std.specs.Map.{lookup, remove_entry}
use Rattle.guests.specs.Guests.{is_guest, link_of}
use Rattle.indexmap.specs.IndexMap.{insert_entry}
use Rattle.pad_model.specs.Checked.{is_name}
use Rattle.pad_model.specs.declared.refusal.Refusal.{Refusal}
use Rattle.pad_model.specs.declared.refusal.Refusal.TheVariants.{OwnerKept, GrantsFull}
use Rattle.rights.specs.declared.book.Grant.{Grant}
use Rattle.rights.specs.declared.book.TheConstants.{MAX_GRANTS}
use Rattle.rights.specs.declared.grantee.Grantee.{Grantee}
use Rattle.rights.specs.declared.grantee.Grantee.TheVariants.{Author, Everyone}
use Rattle.rights.specs.declared.right.Right.{Right}
use Rattle.rights.specs.declared.right.Right.TheVariants.{Read, Comment, Write, Own}

-- the owner, what everyone was granted, and the grants of authors in the order in which they were first granted
pub record Rights : Type 0 where
  pub owner : List ℕ
  pub everyone : Option Right
  pub grants : List (List ℕ × Right)

-- the number of rights that a right includes, counting itself
abbrev pub rank : Right → ℕ
rank Read = 1
rank Comment = 2
rank Write = 3
rank Own = 4

-- whether a right includes another: each includes those before it
abbrev pub includes : Right → Right → Bool
includes held right = nat_le (rank right) (rank held)

-- the right that was granted to a name, if any
abbrev pub granted : List (List ℕ × Right) → List ℕ → Option Right
granted grants name = lookup (bytes_eq name) grants

-- whether the right held, if any, includes another
abbrev pub covers : Option Right → Right → Bool
covers None right = false
covers (Some held) right = includes held right

-- the greater of two rights, if there are any
abbrev pub greater : Option Right → Option Right → Option Right
greater held None = held
greater held (Some other) = if covers held other then held else Some other

-- the right that a name shares with others, if an author can have the name: a guest's is what its link was granted, and any
-- other's what everyone was
abbrev pub shared : Rights → List ℕ → Option Right
shared book name =
    if not (is_name name) then None
    else if is_guest name then granted book.grants (link_of name)
    else book.everyone

-- the right of a name: the owner has Own, and any other name the greater of what it was granted and what it shares
abbrev pub right_of : Rights → List ℕ → Option Right
right_of book name = if bytes_eq name book.owner then Some Own
    else greater (granted book.grants name) (shared book name)

-- whether a name may do what a right allows
abbrev pub may : Rights → List ℕ → Right → Bool
may book name right = covers (right_of book name) right

-- the grants after one is added, changed in its place, or revoked
abbrev pub changed : List (List ℕ × Right) → List ℕ → Option Right → List (List ℕ × Right)
changed grants name None = remove_entry (bytes_eq name) grants
changed grants name (Some right) = insert_entry bytes_eq grants name right

-- whether a grant would exceed the limit of names, the owner included
abbrev pub is_full : List (List ℕ × Right) → List ℕ → Option Right → Bool
is_full grants name right = is_some right && not (is_some (granted grants name))
    && nat_le MAX_GRANTS (length grants + 1)

-- whether a right can be granted or revoked: to an author by a well-formed name, and to everyone unless it is Own
abbrev pub can_have : Grantee → Option Right → Bool
can_have (Author name) right = is_name name
can_have Everyone (Some Own) = false
can_have Everyone other = true

-- the result of a grant, and the book after it: the owner's right stays, and at most 256 names have a right of their own
abbrev pub grant : Rights → Grantee → Option Right → Result (Unit {0}) Refusal × Rights
grant book Everyone right = (Ok tt, record book { everyone = right })
grant book (Author name) right =
    if bytes_eq name book.owner then (Err OwnerKept, book)
    else if is_full book.grants name right then (Err GrantsFull, book)
    else (Ok tt, record book { grants = changed book.grants name right })

-- the result of a hand-over to a name, and the book after it: the name owns the pad, and the owner before it may write
abbrev pub hand : Rights → List ℕ → Result (Unit {0}) Refusal × Rights
hand book name =
    if bytes_eq name book.owner then (Ok tt, book)
    else if is_full book.grants name (Some Write) then (Err GrantsFull, book)
    else (
      Ok tt,
      record book {
        owner = name;
        grants = changed (changed book.grants book.owner (Some Write)) name None;
      },
    )

-- the line of everyone in a list of rights, if everyone has one
abbrev pub everyone_listed : Option Right → List Grant
everyone_listed None = []
everyone_listed (Some right) = record { grantee = Everyone; right = right } ∷ []

-- all who have a right: the owner first, then everyone, then the authors in the order of their first grants
abbrev pub listed : Rights → List Grant
listed book = record { grantee = Author book.owner; right = Own }
    ∷ (everyone_listed book.everyone
    ++ map (λ e. record { grantee = Author e.0; right = e.1 }) book.grants)

-- with the owner, there are at most as many names as the limit
pub record IsBook (owner : List ℕ) (grants : List (List ℕ × Right)) : Type 0 where
  pub few : length grants < MAX_GRANTS
