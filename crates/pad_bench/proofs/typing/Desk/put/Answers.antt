use Rattle.block_seq.proofs.ByRevision.{inserted_by}
use Rattle.pad_bench.proofs.typing.Desk.put.Goals as goal

pub invariant_of-self : goal.invariant_of-self
invariant_of-self g c =
    inserted_by c.self.inside.rev c.args.run.now c.args.author.now (g.S.Sequence.cells c.self.inside.row)
    (g.S.Sequence.cells c.insert_run-made.new.self) c.insert_run-made.result c.cell_count-row.ensures.order
    c.self.invariant c.insert_run-made.ensures
