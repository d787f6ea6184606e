-- What an author sees of a row of pads in a list of pads.
use Rattle.std.specs.Prelude.{◌≡◌, ℕ, Bool, List, [], ◌∷◌, Option, Some, None, map, flat_map, option_map, is_some}
use Rattle.std.specs.Prelude.{if◌then◌else◌}
use Rattle.pad_model.specs.declared.who.Who.{Who}
use Rattle.pad_model.specs.declared.who.Who.TheVariants.{Author}
use Rattle.op_log.specs.Made.{nothing_made}
use Rattle.rights.specs.Rights.{right_of}
use Rattle.rights.specs.declared.right.Right.{Right}
use Rattle.pad_core.specs.Machine.{Machine, nobody_present, now_of}
use Rattle.pad_core.specs.declared.owned.Owned.{Owned}
use Rattle.pad_core.specs.declared.reply.Listed.{Listed}

-- a pad as it is listed for who has this right on it
abbrev pub listed_with : List ℕ → ℕ → Bool → Right → Listed
listed_with name now closed right = record { name = name; right = right; now = now; closed = closed }

-- a pad as somebody sees it in a list of pads: its name, the right that this author has on it, its present revision, and whether
-- it is closed; nothing if the pad has no name or the author no right, or if it is no author who asks
abbrev pub listing : Who → Machine → Option Listed
listing (Author name) m = at_pad m.owned
  where
    at_pad : Option Owned → Option Listed
    at_pad None = None
    at_pad (Some owned) = option_map (listed_with owned.name (now_of m) owned.closed)
        (right_of owned.rights name)
listing other m = None

-- none or one, as a list
abbrev pub one_or_none : Option Listed → List Listed
one_or_none None = []
one_or_none (Some pad) = pad ∷ []

-- the pads of a row that are listed for somebody, in the order of the cells
abbrev pub pads_of : Who → List Machine → List Listed
pads_of who cells = flat_map (λ m. one_or_none (listing who m)) cells

-- a cell as it is without its pad
abbrev pub emptied : Machine → Machine
emptied m = record {
  owned = None;
  replica = m.replica;
  log = [];
  held = [];
  presence = nobody_present m.presence.limit;
  clock = m.clock;
  made = nothing_made;
}

-- a pad that is listed for somebody, or the cell without it
abbrev pub as_told : Who → Machine → Machine
as_told who m = if is_some (listing who m) then m else emptied m

-- a list of pads depends on no field of a pad that is not listed: it would be the same if those cells had no pad
abbrev pub ListingLaw : Type 0
ListingLaw = (who : Who) (cells : List Machine)
    → pads_of who cells ≡ pads_of who (map (as_told who) cells)
