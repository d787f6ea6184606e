use Rattle.block_seq.proofs.PartSteps.{counted_none_of, erased_none_of, no_spans}
use Rattle.block_seq.proofs.parts.erase_part.Goals as goal

pub returns-in_default : goal.returns-in_default
returns-in_default c =
    let none = no_spans c.args.part.now c.in_default.not-Delete in
    record {
      value = counted_none_of _ c.args.cells.now none;
      cells = erased_none_of c.args.rev _ c.args.cells.now none;
    }
