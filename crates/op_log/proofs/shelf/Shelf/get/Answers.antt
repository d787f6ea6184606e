use Rattle.std.proofs.Common.{◌≡◌, ◌+◌, ◌*◌, ◌/◌, ◌%◌, ◌<◌, ℕ, List, Some, slice_get, sym, ap, ◌∙◌, arith, length}
use Rattle.std.proofs.lemmas.Bool.{ltb-true}
use Rattle.std.proofs.lemmas.Nat.{div-add-mod', mod_below}
use Rattle.op_log.specs.Items.{Items}
use Rattle.op_log.specs.Page.{item_at, behind, items_of}
use Rattle.op_log.proofs.Pages.{length-items_of, get_past, get_item, get_in_page, get_in_last}
use Rattle.op_log.proofs.shelf.Shelf.get.Goals as goal

pub returns-then-self-place : goal.returns-then-self-place
returns-then-self-place c =
    let count = ap (λ (i : Items). length i.items) c.self.view_is in
    sym (get_past c.args.self.now.items c.args.place (omega (arith, count, c.self.invariant.count, c.if-self-place.true)))

pub returns-in-Some : goal.returns-in-Some
returns-in-Some c =
    let s = c.self.inside in
    let q = c.args.place / 64 in
    let r = c.args.place % 64 in
    let page = c.in-Some.page.now in
    let small : r < 64 = mod_below c.args.place 64 (omega arith) in
    let whole : c.args.place ≡ q * 64 + r = sym (div-add-mod' c.args.place 64) in
    let lookup = rw c.deref.ensures.value at c.in-Some.ensures.lookup in
    let within : q < length s.full.items = ltb-true q (length s.full.items) (sym lookup.0) in
    ap (λ (x : List ℕ). Some x) (c.item_in.ensures ∙ ap (λ (b : List ℕ). item_at (behind r b))
    c.deref-in-Some.ensures.value)
    ∙ sym (get_item 64 r page.items small)
    ∙ ap (λ p. slice_get (items_of 64 p.items) r) lookup.1
    ∙ sym (get_in_page (λ p. items_of 64 p.items) 64 (λ p. length-items_of 64 p.items) s.full.items s.last.items
    c.args.place q r page within small whole)
    ∙ ap (λ (i : Items). slice_get i.items c.args.place) c.self.view_is

pub returns-in-None : goal.returns-in-None
returns-in-None c =
    let s = c.self.inside in
    let q = c.args.place / 64 in
    let r = c.args.place % 64 in
    let small : r < 64 = mod_below c.args.place 64 (omega arith) in
    let whole : c.args.place ≡ q * 64 + r = sym (div-add-mod' c.args.place 64) in
    let lookup = rw c.deref.ensures.value at c.in-None.ensures.lookup in
    c.get-in-None.ensures
    ∙ sym (get_in_last (λ p. items_of 64 p.items) 64 (λ p. length-items_of 64 p.items) s.full.items s.last.items
    c.args.place q r lookup.3 small c.self.invariant.last whole
    (omega (arith, c.self.invariant.count, c.if-self-place.false)))
    ∙ ap (λ (i : Items). slice_get i.items c.args.place) c.self.view_is
