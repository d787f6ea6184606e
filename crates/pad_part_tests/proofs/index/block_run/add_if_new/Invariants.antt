-- The loop of `add_if_new`: no stamp of the stretch so far is in the index.
use Rattle.ident_index.specs.Index.{IsNew}
use Rattle.pad_part_tests.proofs.index.block_run.add_if_new.Given as goal

abbrev pub invariant-loop-offset : goal.invariant-loop-offset
invariant-loop-offset l = IsNew l.index l.first l.offset
