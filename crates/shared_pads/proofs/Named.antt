-- The name of the pad of a cell.
use Rattle.std.proofs.Common.{◌≡◌, ℕ, List, [], Option, None, Some, Result, Ok, Err, sym}
use Rattle.std.specs.Option.{IfSome}
use Rattle.std.specs.Result.{IfOk}
use Rattle.op_log.specs.Made.{nothing_made}
use Rattle.pad_model.specs.declared.op.Op.{Op}
use Rattle.pad_model.specs.declared.refusal.Refusal.{Refusal}
use Rattle.presence.specs.Presence.{Presence}
use Rattle.pad_core.specs.Delivered.{IsDelivered}
use Rattle.pad_core.specs.Machine.{IsPad, name_of}
use Rattle.pad_core.specs.declared.owned.Owned.{Owned}
use Rattle.shared_pads.specs.LockedPad.{IsNamed, named}

-- a name that was read is that of the cell's pad
pub named_by : (cell : ℕ) (o : Option Owned) (replica : ℕ) (log held : List Op) (p : Presence)
    (result : Result (Option (List ℕ)) Refusal) → IsDelivered log × IsPad o replica held p →
    IfOk result (λ name. name ≡ name_of o) → IfOk result (λ name. IfSome name (IsNamed cell))
named_by cell o replica log held p (Ok (Some name)) can is =
    named cell name
    (record { owned = o; replica = replica; log = log; held = held; presence = p; clock = 0; made = nothing_made }) can (sym is)
named_by cell o replica log held p (Ok None) can is = tt
named_by cell o replica log held p (Err refusal) can is = tt
