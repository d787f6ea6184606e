use Rattle.std.proofs.Common.{◌≡◌, ◌<◌, false, refl, sym, ap, ◌∙◌, slice_get}
use Rattle.pad_model.specs.Cell.{character_of}
use Rattle.pad_model.specs.Legal.{has_stamp}
use Rattle.pad_model.specs.Log.{stands_before}
use Rattle.ident_index.specs.Index.{stamp_behind}
use Rattle.blocks.specs.declared.block.Block.{Block}
use Rattle.blocks.proofs.Parts.{some_block, holds_here}
use Rattle.block_seq.proofs.BlockCells.{none_held, held_cell, spot_block}
use Rattle.block_seq.proofs.Kept.{unless_first, unless_both, where_both}
use Rattle.block_seq.proofs.RowOrder.{stands-spots, only_rank}
use Rattle.block_seq.proofs.Views.{cells_seen}
use Rattle.block_seq.proofs.rows.BlockSeqSequence.stands_before.Goals as goal

pub returns-in_err-first : goal.returns-in_err-first
returns-in_err-first c =
    rw c.from_residual.ensures
    (unless_first false (has_stamp character_of c.args.self.now.cells c.args.a)
    (has_stamp character_of c.args.self.now.cells c.args.b) _
    (ap (λ l. has_stamp character_of l c.args.a) (sym (cells_seen c.self.view_is))
    ∙ none_held c.self.inside.authors.items c.self.inside.text.items c.self.inside.index c.self.inside.tree.items
    c.args.a c.self.invariant.row.kept.listed c.self.invariant.row.within c.in_err-first.ensures.spot) refl)

pub returns-in_err-last : goal.returns-in_err-last
returns-in_err-last c =
    let bs = c.self.inside.tree.items in
    let k = c.self.invariant.row.kept.listed in
    let found = spot_block bs c.args.a c.in_ok-first.first.rank c.in_ok-first.first.offset c.in_ok-first.ensures.spot in
    rw c.from_residual-in_err-last.ensures
    (unless_both false (has_stamp character_of c.args.self.now.cells c.args.a)
    (has_stamp character_of c.args.self.now.cells c.args.b) _
    (ap (λ l. has_stamp character_of l c.args.a) (sym (cells_seen c.self.view_is))
    ∙ held_cell c.self.inside.authors.items c.self.inside.text.items c.self.inside.index bs c.args.a found.0.first k
    c.self.invariant.row.within (holds_here c.self.inside.index bs c.in_ok-first.first.rank found.0 c.args.a k found.1
    found.2))
    (ap (λ l. has_stamp character_of l c.args.b) (sym (cells_seen c.self.view_is))
    ∙ none_held c.self.inside.authors.items c.self.inside.text.items c.self.inside.index bs c.args.b k
    c.self.invariant.row.within c.in_err-last.ensures.spot) refl)

pub returns : goal.returns
returns c =
    let bs = c.self.inside.tree.items in
    let m = c.self.inside.index in
    let k = c.self.invariant.row.kept.listed in
    let r = c.in_ok-first.first.rank in
    let o = c.in_ok-first.first.offset in
    let s = c.in_ok-last.last.rank in
    let p = c.in_ok-last.last.offset in
    let at_a = some_block (slice_get bs r) (λ (x : Block). (c.args.a ≡ stamp_behind x.first o) × (o < x.len))
    c.in_ok-first.ensures.spot in
    let at_b = some_block (slice_get bs s) (λ (x : Block). (c.args.b ≡ stamp_behind x.first p) × (p < x.len))
    c.in_ok-last.ensures.spot in
    let in_a = spot_block bs c.args.a r o c.in_ok-first.ensures.spot in
    let in_b = spot_block bs c.args.b s p c.in_ok-last.ensures.spot in
    where_both (has_stamp character_of c.args.self.now.cells c.args.a)
    (has_stamp character_of c.args.self.now.cells c.args.b) c.is_at_most.result
    (stands_before character_of c.args.self.now.cells c.args.a c.args.b)
    (ap (λ l. has_stamp character_of l c.args.a) (sym (cells_seen c.self.view_is))
    ∙ held_cell c.self.inside.authors.items c.self.inside.text.items m bs c.args.a in_a.0.first k
    c.self.invariant.row.within (holds_here m bs r in_a.0 c.args.a k in_a.1 in_a.2))
    (ap (λ l. has_stamp character_of l c.args.b) (sym (cells_seen c.self.view_is))
    ∙ held_cell c.self.inside.authors.items c.self.inside.text.items m bs c.args.b in_b.0.first k
    c.self.invariant.row.within (holds_here m bs s in_b.0 c.args.b k in_b.1 in_b.2))
    (c.is_at_most.ensures
    ∙ stands-spots c.self.inside.authors.items c.self.inside.text.items bs r o s p at_a.0 at_b.0 c.args.a c.args.b
    c.self.invariant.row.within at_a.1 at_a.2.0 at_a.2.1 at_b.1 at_b.2.0 at_b.2.1
    (only_rank m bs r in_a.0 c.args.a k c.in_ok-first.ensures.sound in_a.1 in_a.2)
    (only_rank m bs s in_b.0 c.args.b k c.in_ok-first.ensures.sound in_b.1 in_b.2)
    ∙ ap (λ l. stands_before character_of l c.args.a c.args.b) (cells_seen c.self.view_is))
