-- The loop of `list_runs`: the rows so far and those of the runs to come are all, and the authors of these are known.
use Rattle.std.proofs.Common.{◌≡◌, ◌++◌, map, length}
use Rattle.authorship.specs.StoredRuns.{author_run, AreKnown}
use Rattle.authorship.proofs.run_tree.list_runs.Given as goal

-- the rows so far and those of the runs to come are all
abbrev pub invariant-loop-run : goal.invariant-loop-run
invariant-loop-run l = record {
  all : l.rows.items ++ map (author_run l.table) l.run-iterator ≡ map (author_run l.table) l.runs.items;
  known : AreKnown (length l.table) l.run-iterator;
}
