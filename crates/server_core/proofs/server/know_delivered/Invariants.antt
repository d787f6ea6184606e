-- The loop of `know_delivered`: the logs of the cells passed so far are delivered ones.
use Rattle.std.proofs.Common.{take}
use Rattle.std.specs.List.{AllByRecursion}
use Rattle.pad_core.specs.Delivered.{IsDelivered}
use Rattle.pad_core.specs.Machine.{Machine}
use Rattle.server_core.proofs.server.know_delivered.Given as goal

-- the cells so far
abbrev pub invariant-loop-cell : goal.invariant-loop-cell
invariant-loop-cell g l = AllByRecursion (λ (m : Machine). IsDelivered m.log) (take l.cell-index l.cells)
