-- The loop of `make_parts`: the parts so far and those of the other changes are all, and counters remain for them.
use Rattle.std.proofs.Common.{◌≡◌, ◌+◌, ◌≤◌, ◌++◌, drop, sum_by}
use Rattle.pad_model.specs.declared.limits.TheConstants.{MAX_COUNTER}
use Rattle.pad_core.specs.Counts.{characters_at}
use Rattle.pad_core.specs.Edits.{growth_of, parts_from, made_parts}
use Rattle.pad_core.proofs.make.make_parts.Given as goal

-- with the parts of the changes that are left, all parts are made; and there are counters for them
abbrev pub invariant-loop-change : goal.invariant-loop-change
invariant-loop-change g l = record {
  made : l.parts ++ parts_from l.counter l.replica (characters_at l.rev l.ledger) (drop l.change-index l.changes)
      ≡ made_parts l.replica l.rev l.changes l.ledger;
  low : 1 ≤ l.counter;
  clock : l.counter + sum_by growth_of (drop l.change-index l.changes) ≤ MAX_COUNTER + 1;
}
