use Rattle.std.proofs.Common.{◌≡◌, ◌<◌, sym, ap, ◌∙◌, subst, Some, arith, slice_get}
use Rattle.std.specs.FinMap.{get}
use Rattle.std.specs.Option.{IsSomeAnd}
use Rattle.ident_index.specs.Index.{stamp_behind}
use Rattle.ident_index.specs.declared.place.BlockEntry.{BlockEntry}
use Rattle.ident_index.proofs.Sound.{some_entry}
use Rattle.blocks.specs.declared.block.Block.{Block}
use Rattle.blocks.proofs.Entries.{found_block}
use Rattle.blocks.proofs.find.find_block.Goals as goal

pub returns-clause-spot : goal.returns-clause-spot
returns-clause-spot c =
    let place = c.in_ok-place.ensures.place in
    let p = c.in_ok-place.place in
    let some = some_entry (get c.args.index.now p.first) (λ e. (p.offset < e.len) × (p.label ≡ e.label)) place.block in
    let found = found_block c.args.tree.now.items p.first some.0 (sym (c.requires.listed.index p.first) ∙ some.1) in
    let b = found.1 in
    let label : b.label ≡ p.label = ap (λ (e : BlockEntry). e.label) found.4 ∙ sym some.2.1 in
    let len : b.len ≡ some.0.len = ap (λ (e : BlockEntry). e.len) found.4 in
    let rank : c.rank_of.result ≡ found.0 = c.rank_of.ensures found.0 b found.2 label in
    let there : slice_get c.args.tree.now.items c.rank_of.result ≡ Some b = ap (slice_get c.args.tree.now.items) rank
    ∙ found.2 in
    let inside = some.2.0 in
    subst (λ o. IsSomeAnd o (λ (x : Block). (c.args.stamp ≡ stamp_behind x.first p.offset) × (p.offset < x.len)))
    (sym there)
    (subst (λ f. c.args.stamp ≡ stamp_behind f p.offset) (sym found.3) place.stamp, omega arith)
