-- The loop of `make_row`: the cells made so far are pads without a name.
use Rattle.std.proofs.Common.{◌≡◌, ◌∷◌, []}
use Rattle.std.specs.List.{repeat}
use Rattle.server_core.specs.Machine.{unnamed}
use Rattle.server_core.proofs.server.make_row.Given as goal

-- the cells so far
abbrev pub invariant-loop : goal.invariant-loop
invariant-loop g l = l.cells.items ≡ repeat l.counter (unnamed l.fn.replica l.fn.present ∷ [])
