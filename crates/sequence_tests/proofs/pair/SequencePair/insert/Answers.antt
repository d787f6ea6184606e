use Rattle.block_seq.proofs.ByRevision.{inserted_by}
use Rattle.sequence_tests.proofs.pair.SequencePair.insert.Goals as goal

pub invariant_of-self : goal.invariant_of-self
invariant_of-self c = (
  inserted_by c.self.inside.rev c.args.run.now c.args.author.now c.self.inside.plain c.insert_run-wanted.new.self
      c.insert_run-wanted.result c.cell_count-plain.ensures.order c.self.invariant.0 c.insert_run-wanted.ensures,
  inserted_by c.self.inside.rev c.args.run.now c.args.author.now c.self.inside.rows.cells
      c.insert_run-made.new.self.cells c.insert_run-made.result c.cell_count-rows.ensures.order c.self.invariant.1
      c.insert_run-made.ensures.answers,
)
