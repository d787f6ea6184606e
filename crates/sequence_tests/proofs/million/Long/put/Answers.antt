use Rattle.block_seq.proofs.ByRevision.{inserted_by}
use Rattle.sequence_tests.proofs.million.Long.put.Goals as goal

pub invariant_of-self : goal.invariant_of-self
invariant_of-self c =
    inserted_by c.self.inside.rev c.args.run.now c.args.author.now c.self.inside.row.cells
    c.insert_run-made.new.self.cells c.insert_run-made.result c.cell_count-row.ensures.order c.self.invariant
    c.insert_run-made.ensures.answers
