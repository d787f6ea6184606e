-- The statements of the laws of federation.
use Rattle.std.specs.Prelude.{ℕ, List, IsTrue}
use Rattle.pad_model.specs.Checked.{is_checked}
use Rattle.pad_model.specs.History.{IsHistory}
use Rattle.pad_model.specs.Log.{is_valid}
use Rattle.pad_model.specs.declared.op.Op.{Op}
use Rattle.pad_core.specs.declared.event.PadEvent.{PadEvent}
use Rattle.federation_laws.specs.Holds.{IsFederated}
use Rattle.federation_laws.specs.Past.{Extends}
use Rattle.federation_laws.specs.World.{World, Begins, Happens, Leads, MayHappen}

-- an operation that is valid after a past is valid after each log that has the past and no further operations of its
-- origin
abbrev pub CarriesLaw : Type 0
CarriesLaw =
    (past log : List Op) (op : Op) → IsHistory past → IsHistory log
    → Extends op.name.origin past log → IsTrue (is_checked op) →
    IsTrue (is_valid op past) → IsTrue (is_valid op log)

-- whatever events happen, the world that they lead to is federated
abbrev pub FederationLaw : Type 0
FederationLaw = (start now : World) (events : List (ℕ × PadEvent)) → Begins start
    → Leads start events now →
    IsFederated now

-- each event that may happen leads to a further world
abbrev pub GoesOnLaw : Type 0
GoesOnLaw =
    (world : World) (server : ℕ) (event : PadEvent) → MayHappen world server event → (next : World)
    × Happens server event world next
