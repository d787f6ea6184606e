use Rattle.block_seq.proofs.ByRevision.{applied_by, later_by}
use Rattle.sequence_tests.proofs.replica.Replica.make.Goals as goal
use Rattle.std.proofs.Common.{◌+◌}
use Rattle.sequence_tests.proofs.replica.Replica.make.Goals.{After-apply-made}
use Rattle.std.specs.List.{AllByRecursion}
use Rattle.pad_model.specs.Cell.{IsBy}

-- no cell of either is later than the revision, whatever was answered
both : (c : After-apply-made) → AllByRecursion (IsBy (c.self.inside.rev + 1)) c.apply-made.new.self.cells
    × AllByRecursion (IsBy (c.self.inside.rev + 1)) c.apply-wanted.new.self
both c = (
  applied_by (c.self.inside.rev + 1) c.args.parts.now c.args.author.now c.self.inside.sequence.cells
      c.apply-made.new.self.cells c.apply-made.result c.cell_count-rows.ensures.order c.self.invariant.0 c.requires.checked
      c.apply-made.ensures.answers,
  applied_by (c.self.inside.rev + 1) c.args.parts.now c.args.author.now c.self.inside.plain c.apply-wanted.new.self
      c.apply-wanted.result c.cell_count-plain.ensures.order c.self.invariant.1 c.requires.checked c.apply-wanted.ensures,
)

pub invariant_of-self : goal.invariant_of-self
invariant_of-self c = both (goal.at.invariant_of-self c).After-apply-made

pub invariant_of-self-in-Err : goal.invariant_of-self-in-Err
invariant_of-self-in-Err c = both (goal.at.invariant_of-self-in-Err c).After-apply-made

pub invariant_of-self-2 : goal.invariant_of-self-2
invariant_of-self-2 c =
    let b = both (goal.at.invariant_of-self-2 c).After-apply-made in (
      later_by (c.self.inside.rev + 1) c.apply-made.new.self.cells b.0,
      later_by (c.self.inside.rev + 1) c.apply-wanted.new.self b.1,
    )
