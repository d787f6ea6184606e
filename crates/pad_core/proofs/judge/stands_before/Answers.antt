use Rattle.std.proofs.Common.{false, ap, ◌∙◌}
use Rattle.std.specs.Option.{unwrap_or}
use Rattle.pad_core.proofs.Judged.{before-stands}
use Rattle.pad_core.proofs.judge.stands_before.Goals as goal

pub returns : goal.returns
returns g c =
    c.unwrap_or.ensures ∙ ap (λ answer. unwrap_or answer false) c.stands_before.ensures
    ∙ before-stands (g.S.Sequence.cells c.args.sequence.now) c.args.first c.args.last
