use Rattle.std.proofs.Common.{◌∙◌}
use Rattle.op_log.proofs.Ranges.{count_stretch}
use Rattle.op_log.proofs.index.count_between.Goals as goal

pub returns : goal.returns
returns c test ops is =
    c.saturating_sub.ensures
    ∙ count_stretch test c.args.start c.args.end c.count_before-2.result c.count_before.result ops
    (c.count_before-2.ensures test ops is) (c.count_before.ensures test ops is)
