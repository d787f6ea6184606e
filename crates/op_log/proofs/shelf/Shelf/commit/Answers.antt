use Rattle.std.proofs.Common.{◌≡◌, sym, ap, ◌∙◌, arith, length, flat_map, length-append, is_some}
use Rattle.std.proofs.lemmas.Bool.{false≢true}
use Rattle.op_log.specs.Items.{Items}
use Rattle.op_log.specs.Page.{items_of}
use Rattle.op_log.specs.declared.page.TheConstants.{PAGE_ITEMS}
use Rattle.op_log.proofs.Shelves.{one_more, page_joins}
use Rattle.op_log.proofs.shelf.Shelf.commit.Goals as goal

pub invariant_of-self : goal.invariant_of-self
invariant_of-self c =
    let s = c.self.inside in
    let some = ap (λ (i : Items). is_some i.ready) c.self.view_is ∙ c.requires in
    let more = one_more s.last.ready s.last.items c.commit.new.self.items some c.commit.ensures.items in
    let empty = c.replace-page.ensures.after ∙ c.new-empty.ensures in
    let taken = c.into_bytes.ensures ∙ ap (λ (i : Items). i.items) c.replace-page.ensures.value in
    record {
      last = rw empty (omega arith);
      count = rw (
        c.push_reserved.ensures.items,
        page_joins (λ page. items_of PAGE_ITEMS page.items) s.full.items
            c.into_bytes.result c.commit.new.self.items c.replace-page.new.dest.items taken
            (ap (λ (i : Items). i.items) empty),
        length-append,
      ) (omega (
        arith,
        more,
        c.self.invariant.count,
        length-append (flat_map (λ page. items_of PAGE_ITEMS page.items) s.full.items) s.last.items,
      ));
      room = λ e. absurd (false≢true (sym (ap (λ (i : Items). is_some i.ready) empty) ∙ e));
      countable = λ e. absurd (false≢true (sym (ap (λ (i : Items). is_some i.ready) empty) ∙ e));
    }

pub invariant_of-self-else-is_full : goal.invariant_of-self-else-is_full
invariant_of-self-else-is_full c =
    let s = c.self.inside in
    let some = ap (λ (i : Items). is_some i.ready) c.self.view_is ∙ c.requires in
    let more = one_more s.last.ready s.last.items c.commit.new.self.items some c.commit.ensures.items in
    let less : length c.commit.new.self.items ≡ PAGE_ITEMS → ⊥ = λ e. false≢true (sym c.if-is_full.false
    ∙ c.is_full.ensures.1 e) in
    record {
      last = omega (arith, more, c.self.invariant.last, less);
      count = rw length-append (omega (
        arith,
        more,
        c.self.invariant.count,
        length-append (flat_map (λ page. items_of PAGE_ITEMS page.items) s.full.items) s.last.items,
      ));
      room = λ e. absurd (false≢true (sym (ap is_some c.commit.ensures.ready) ∙ e));
      countable = λ e. absurd (false≢true (sym (ap is_some c.commit.ensures.ready) ∙ e));
    }
