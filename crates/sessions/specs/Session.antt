-- Who a session belongs to, and the pads that it has joined.
use Rattle.std.specs.Prelude.{◌≡◌, ℕ, Bool, true, List, bytes_eq}
use Rattle.pad_model.specs.Checked.{is_name}
use Rattle.pad_model.specs.declared.who.Who.{Who}
use Rattle.pad_model.specs.declared.who.Who.TheVariants.{Nobody, Author, Peer}
use Rattle.sessions.specs.declared.session.Room.{Room}

-- who the session belongs to, its rooms in order of joining, and how many more can be entered without memory
pub record Session : Type 0 where
  pub who : Who
  pub rooms : List Room
  pub spare : ℕ

-- an author has a well-formed name
abbrev pub IsNamed : Who → Type 0
IsNamed Nobody = Unit {0}
IsNamed (Author name) = is_name name ≡ true
IsNamed (Peer number version) = Unit {0}

-- whether a room is of a pad
abbrev pub is_of : List ℕ → Room → Bool
is_of pad room = bytes_eq room.pad pad
