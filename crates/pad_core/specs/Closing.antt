-- A pad that is closed: what it still does, and how it is closed and opened again.
use Rattle.std.specs.Prelude.{ℕ, Bool, true, false, not, ◌&&◌, if◌then◌else◌, List, Option, Some, None, Result, Ok}
use Rattle.pad_model.specs.declared.refusal.Refusal.{Refusal}
use Rattle.pad_model.specs.declared.refusal.Refusal.TheVariants.{PadClosed}
use Rattle.presence.specs.Presence.{Presence, owners_alone}
use Rattle.rights.specs.Rights.{Rights, may}
use Rattle.rights.specs.declared.right.Right.TheVariants as right
use Rattle.pad_core.specs.declared.admit.Need.{Need}
use Rattle.pad_core.specs.declared.admit.Need.TheVariants.{NewVisit, AnyVisit, Visit, Closing, PeerSession}
use Rattle.pad_core.specs.declared.owned.Owned.{Owned}
use Rattle.pad_core.specs.declared.reply.PadReply.{PadReply}
use Rattle.pad_core.specs.declared.reply.PadReply.TheVariants as reply

-- whether a pad is closed
abbrev pub is_closed : Option Owned → Bool
is_closed None = false
is_closed (Some owned) = owned.closed

-- whether a closed pad does what requires this: who may own it comes, and whoever is present reads, leaves and opens it
abbrev pub stays_open : Rights → List ℕ → Need → Bool
stays_open book name NewVisit = may book name right.Own
stays_open book name AnyVisit = true
stays_open book name (Visit right.Read) = true
stays_open book name (Visit other) = false
stays_open book name Closing = true
stays_open book name PeerSession = true

-- whether a pad refuses what requires this because it is closed
abbrev pub is_shut : Owned → List ℕ → Need → Bool
is_shut owned name need = owned.closed && not (stays_open owned.rights name need)

-- the first refusal, if any, and else that of a closed pad
abbrev pub or_closed : Option Refusal → Bool → Option Refusal
or_closed (Some refusal) shut = Some refusal
or_closed None shut = if shut then Some PadClosed else None

-- a pad is closed, and nobody is present any more who may not own it; or it is opened again
abbrev pub set_closed : ℕ → Bool → Rights → Presence → Result PadReply Refusal × (Bool × Presence)
set_closed now closed rights p = (
  Ok (reply.Done now),
  (closed, if closed then owners_alone rights p else p),
)
