use Rattle.block_seq.proofs.ByRevision.{deleted_by}
use Rattle.sequence_tests.proofs.pair.SequencePair.erase.Goals as goal

pub invariant_of-self : goal.invariant_of-self
invariant_of-self c = (
  deleted_by c.self.inside.rev c.args.spans.now c.self.inside.plain c.delete_spans-wanted.new.self
      c.delete_spans-wanted.result c.self.invariant.0 c.delete_spans-wanted.ensures,
  deleted_by c.self.inside.rev c.args.spans.now c.self.inside.rows.cells c.delete_spans-made.new.self.cells
      c.delete_spans-made.result c.self.invariant.1 c.delete_spans-made.ensures.answers,
)
