-- How the threads of a pool use their seats.
use Rattle.std.specs.Prelude.{◌≡◌, ◌<◌, ℕ, zero, suc, List, [], Vec, length, slice_index_or}
use Rattle.std.specs.declared.alloc.Global.{Global}
use Rattle.pad_model.specs.declared.who.Who.TheVariants.{Nobody}
use Rattle.pad_core.specs.declared.request.Request.{Request}
use Rattle.shared_pads.specs.declared.seat.Seat.{Seat}
use Rattle.conversation.specs.Session.{Answer, Serves}
use Rattle.conversation.specs.ThreadSession.{CallsRow, EndsRow}
use Rattle.conversation.specs.declared.pad_table.PadTable.{PadTable}
use Rattle.conversation.specs.declared.shared.Shared.{Shared}

module _ {P : Type 0} (calls : P → Request → Answer → P → Type 0) (ends : P → P → Type 0) where
  -- a connection was served: lines were answered one after another, and then the session was ended
  abbrev pub ServesConnection : P → P → Type 0
  ServesConnection old new = (asked : List (List ℕ)) × (answers : List Answer) × (mid : P)
      × Serves calls old asked answers mid × ends mid new

  -- this many connections were served, one after another
  abbrev pub ServesMany : ℕ → P → P → Type 0
  ServesMany zero old new = new ≡ old
  ServesMany (suc count) old new = (mid : P) × ServesMany count old mid × ServesConnection mid new

  -- some connections were served, one after another
  abbrev pub ServesInTurn : P → P → Type 0
  ServesInTurn old new = (count : ℕ) × ServesMany count old new

module _ {S R G : Type 0} where
  -- a thread's part of a pool: with these seats and an unauthenticated session it served some connections of the row,
  -- one after another
  abbrev pub Works : PadTable S R G → List Seat → List Seat → Type 0
  Works row old new =
      (begun ended : Shared S R G) × (begun.row.now ≡ row) × (begun.seats.items ≡ old)
      × (begun.session.who ≡ Nobody)
      × (begun.session.rooms ≡ [])
      × ServesInTurn CallsRow EndsRow begun ended × (new ≡ ended.seats.items)

  -- each thread of a pool did its part with its own seats
  abbrev pub AllWork : PadTable S R G → List (Vec Seat Global) → List (Vec Seat Global) → Type 0
  AllWork row old new =
      (place : ℕ) (d : Vec Seat Global) → place < length old
      → Works row (slice_index_or old place d).items (slice_index_or new place d).items
