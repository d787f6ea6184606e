-- The loop of `stands_before`: once the first character is passed, the last one has to be in what is left.
use Rattle.std.proofs.Common.{◌≡◌, drop, cond}
use Rattle.pad_model.specs.Legal.{has_stamp}
use Rattle.pad_model.specs.Log.{stands_before}
use Rattle.block_seq.specs.Plain.{kept_character}
use Rattle.block_seq.proofs.measure.stands_before.Given as goal

-- once the first is passed, the last has to be in what is left
abbrev pub invariant-loop-cell : goal.invariant-loop-cell
invariant-loop-cell l =
    stands_before kept_character l.cells l.first l.last
    ≡ cond l.passed (has_stamp kept_character (drop l.cell-index l.cells) l.last)
    (stands_before kept_character (drop l.cell-index l.cells) l.first l.last)
