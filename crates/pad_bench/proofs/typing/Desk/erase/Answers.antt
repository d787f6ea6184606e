use Rattle.block_seq.proofs.ByRevision.{deleted_by}
use Rattle.pad_bench.proofs.typing.Desk.erase.Goals as goal

pub invariant_of-self : goal.invariant_of-self
invariant_of-self g c = deleted_by c.self.inside.rev c.args.spans.now (g.S.Sequence.cells c.self.inside.row)
    (g.S.Sequence.cells c.delete_spans-made.new.self) c.delete_spans-made.result c.self.invariant
    c.delete_spans-made.ensures
