use Rattle.std.proofs.Common.{ap, sym, ◌∙◌, length, List, ℕ, slice_get, arith, Some}
use Rattle.op_log.specs.Items.{Items}
use Rattle.op_log.specs.Page.{item_at, behind}
use Rattle.op_log.proofs.Pages.{length-items_of, get_past, get_item}
use Rattle.op_log.proofs.page.OpPage.get.Goals as goal

pub returns-then-self-place : goal.returns-then-self-place
returns-then-self-place c =
    let p = c.self.inside in
    let count = sym (ap (λ (s : Items). length s.items) c.self.view_is) ∙ length-items_of p.count p.bytes.items in
    sym (get_past c.args.self.now.items c.args.place (omega (arith, count, c.if-self-place.true)))

pub returns : goal.returns
returns c =
    let p = c.self.inside in
    let shown = ap (λ (s : Items). slice_get s.items c.args.place) c.self.view_is in
    ap (λ (x : List ℕ). Some x) (c.item_in.ensures ∙ ap (λ (b : List ℕ). item_at (behind c.args.place b)) c.deref.ensures.value)
    ∙ sym (get_item p.count c.args.place p.bytes.items (omega (arith, c.if-self-place.false))) ∙ shown
