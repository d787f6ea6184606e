use Rattle.std.proofs.Common.{sym}
use Rattle.pad_model.proofs.Places.{up_to-found, up_to-missing}
use Rattle.block_seq.specs.Plain.{kept_character}
use Rattle.block_seq.proofs.place.count_up_to.Goals as goal

pub returns-then-before-cells-clause-value : goal.returns-then-before-cells-clause-value
returns-then-before-cells-clause-value c =
    rw c.count_before-before.ensures (sym (up_to-found kept_character c.args.stamp c.args.cells.now
    (rw c.count_before-before.ensures at c.if-before-cells.true)))

pub returns-else-before-cells-clause-value : goal.returns-else-before-cells-clause-value
returns-else-before-cells-clause-value c =
    sym (up_to-missing kept_character c.args.stamp c.args.cells.now
    (rw c.count_before-before.ensures at c.if-before-cells.false))
