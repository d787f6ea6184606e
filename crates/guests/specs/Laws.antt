-- What holds of the names of guests.
use Rattle.std.specs.Prelude.{◌≡◌, ℕ, true, List}
use Rattle.pad_model.specs.Checked.{is_name}
use Rattle.guests.specs.Guests.{guest_name, is_guest, link_name, link_of, secret_of}

-- each token's name is one that an author can have
abbrev pub NamedLaw : Type 0
NamedLaw = (token : List ℕ) → is_name (guest_name token) ≡ true

-- each token's name is a guest's
abbrev pub GuestLaw : Type 0
GuestLaw = (token : List ℕ) → is_guest (guest_name token) ≡ true

-- the link by which the guest with a token came is the one whose secret the token has
abbrev pub LinkLaw : Type 0
LinkLaw = (token : List ℕ) → link_of (guest_name token) ≡ link_name (secret_of token)
