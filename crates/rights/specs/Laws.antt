-- The laws of rights.
use Rattle.std.specs.Prelude.{◌≡◌, ℕ, true, false, ◌||◌, if◌then◌else◌, List, Some, None, bytes_eq}
use Rattle.guests.specs.Guests.{is_guest, link_of}
use Rattle.pad_model.specs.Checked.{is_name}
use Rattle.rights.specs.Rights.{Rights, covers, granted, may, right_of}
use Rattle.rights.specs.declared.right.Right.{Right}
use Rattle.rights.specs.declared.right.Right.TheVariants.{Own}

-- where nothing was granted to everyone, the owner has Own, and any other name that is no guest's what it was granted
abbrev pub UnsharedLaw : Type 0
UnsharedLaw = (book : Rights) (name : List ℕ) → book.everyone ≡ None → is_guest name ≡ false
    → right_of book name ≡ (if bytes_eq name book.owner then Some Own else granted book.grants name)

-- a name that an author can have, and that is neither a guest's nor the owner's, may do what its own right or that of everyone
-- allows
abbrev pub EitherLaw : Type 0
EitherLaw = (book : Rights) (name : List ℕ) (right : Right) → bytes_eq name book.owner ≡ false
    → is_name name ≡ true → is_guest name ≡ false
    → may book name right ≡ (covers (granted book.grants name) right || covers book.everyone right)

-- a guest who is not the owner may do what its own right or that of its link allows, whatever everyone may do
abbrev pub GuestLaw : Type 0
GuestLaw = (book : Rights) (name : List ℕ) (right : Right) → bytes_eq name book.owner ≡ false
    → is_name name ≡ true → is_guest name ≡ true
    → may book name right
    ≡ (covers (granted book.grants name) right || covers (granted book.grants (link_of name)) right)
