use Rattle.std.proofs.Common.{ap, sym, ◌∙◌, length}
use Rattle.op_log.specs.Items.{Items}
use Rattle.op_log.specs.Page.{items_of}
use Rattle.op_log.proofs.Pages.{length-items_of}
use Rattle.op_log.proofs.page.OpPage.into_bytes.Goals as goal

pub returns : goal.returns
returns c =
    let p = c.self.inside in
    let shown = ap (λ (s : Items). s.items) c.self.view_is in
    let count = sym (length-items_of p.count p.bytes.items) ∙ ap length shown ∙ c.requires in
    ap (λ n. items_of n p.bytes.items) (sym count) ∙ shown
