-- The words so far: one for each turn of the loop.
use Rattle.std.specs.Prelude.{◌≡◌, length}
use Rattle.cell_set.proofs.cell_set.CellSet.new.Given as goal

-- a word was added in each turn
abbrev pub invariant-loop : goal.invariant-loop
invariant-loop l = length l.words.items ≡ l.counter
