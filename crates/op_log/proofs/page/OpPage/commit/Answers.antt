use Rattle.std.proofs.Common.{◌+◌, refl, sym, ap, ◌∙◌, arith, length}
use Rattle.op_log.specs.Items.{Items}
use Rattle.op_log.specs.Page.{items_of}
use Rattle.op_log.proofs.Pages.{length-items_of, items_more, hold_more, is_ready, last_item}
use Rattle.op_log.proofs.page.OpPage.commit.Goals as goal

pub invariant_of-self : goal.invariant_of-self
invariant_of-self c =
    let p = c.self.inside in
    let framed = c.self.invariant.ready (is_ready p c.args.self.now c.self.view_is c.requires.ready) in
    let count = sym (ap (λ (s : Items). length s.items) c.self.view_is) ∙ length-items_of p.count p.bytes.items in
    record {
      few = omega (arith, c.requires.room, count);
      hold = hold_more p.count p.end c.len-self-inside.result p.bytes.items c.shrink_to_fit.new.self.items
          c.self.invariant.hold framed (omega (arith, c.len-self-inside.ensures, p.bytes.ok.0))
          c.shrink_to_fit.ensures.items;
      ready = λ e. absurd (cc);
    }

pub invariant_of-self-else-self-eq-PAGE_ITEMS : goal.invariant_of-self-else-self-eq-PAGE_ITEMS
invariant_of-self-else-self-eq-PAGE_ITEMS c =
    let p = c.self.inside in
    let framed = c.self.invariant.ready (is_ready p c.args.self.now c.self.view_is c.requires.ready) in
    let count = sym (ap (λ (s : Items). length s.items) c.self.view_is) ∙ length-items_of p.count p.bytes.items in
    record {
      few = omega (arith, c.requires.room, count);
      hold = hold_more p.count p.end c.len-self-inside.result p.bytes.items p.bytes.items c.self.invariant.hold framed
          (omega (arith, c.len-self-inside.ensures, p.bytes.ok.0)) refl;
      ready = λ e. absurd (cc);
    }

pub returns-then-self-eq-PAGE_ITEMS-clause-items : goal.returns-then-self-eq-PAGE_ITEMS-clause-items
returns-then-self-eq-PAGE_ITEMS-clause-items c item is =
    let p = c.self.inside in
    let framed = c.self.invariant.ready (is_ready p c.args.self.now c.self.view_is c.requires.ready) in
    ap (items_of (p.count + 1)) c.shrink_to_fit.ensures.items
    ∙ items_more p.count p.end p.bytes.items c.self.invariant.hold framed
    ∙ last_item p c.args.self.now item c.self.view_is is

pub returns-else-self-eq-PAGE_ITEMS-clause-items : goal.returns-else-self-eq-PAGE_ITEMS-clause-items
returns-else-self-eq-PAGE_ITEMS-clause-items c item is =
    let p = c.self.inside in
    let framed = c.self.invariant.ready (is_ready p c.args.self.now c.self.view_is c.requires.ready) in
    items_more p.count p.end p.bytes.items c.self.invariant.hold framed
    ∙ last_item p c.args.self.now item c.self.view_is is
