use Rattle.std.proofs.Common.{ap, sym, ◌∙◌, length}
use Rattle.std.proofs.lemmas.Bool.{eqb-true, eq-eqb}
use Rattle.op_log.specs.Items.{Items}
use Rattle.op_log.proofs.Pages.{length-items_of}
use Rattle.op_log.specs.declared.page.TheConstants.{PAGE_ITEMS}
use Rattle.op_log.proofs.page.OpPage.is_full.Goals as goal

pub returns : goal.returns
returns c =
    let p = c.self.inside in
    let count = sym (ap (λ (s : Items). length s.items) c.self.view_is) ∙ length-items_of p.count p.bytes.items in
    (λ e. count ∙ eqb-true p.count PAGE_ITEMS e, λ e. eq-eqb p.count PAGE_ITEMS (sym count ∙ e))
