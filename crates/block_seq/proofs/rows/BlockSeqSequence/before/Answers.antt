use Rattle.std.proofs.Common.{◌≡◌, ◌<◌, true, false, refl, sym, ap, ◌∙◌, arith, slice_get}
use Rattle.std.proofs.lemmas.Option.{slice_get_within}
use Rattle.pad_model.specs.Cell.{character_of, shown_at}
use Rattle.pad_model.specs.Legal.{has_stamp}
use Rattle.pad_model.specs.Stamp.{Stamp}
use Rattle.pad_model.specs.Visible.{shown_before}
use Rattle.ident_index.specs.Index.{stamp_behind}
use Rattle.blocks.specs.declared.block.Block.{Block}
use Rattle.blocks.proofs.Parts.{some_block, holds_here}
use Rattle.block_seq.proofs.BlockCells.{none_held, held_cell, spot_block}
use Rattle.block_seq.proofs.BlockScan.{one_rank}
use Rattle.block_seq.proofs.Kept.{unless_has, where_has}
use Rattle.block_seq.proofs.RowReads.{before-blocks}
use Rattle.block_seq.proofs.RowNow.{dated_blocks}
use Rattle.block_seq.proofs.Views.{cells_seen}
use Rattle.block_seq.proofs.rows.BlockSeqSequence.before.Goals as goal

pub returns-in_err-spot : goal.returns-in_err-spot
returns-in_err-spot c =
    rw c.from_residual.ensures
    (unless_has false (has_stamp character_of c.args.self.now.cells c.args.stamp) _
    (ap (λ l. has_stamp character_of l c.args.stamp) (sym (cells_seen c.self.view_is))
    ∙ none_held c.self.inside.authors.items c.self.inside.text.items c.self.inside.index c.self.inside.tree.items
    c.args.stamp c.self.invariant.row.kept.listed c.self.invariant.row.within c.in_err-spot.ensures.spot) refl)

pub count_front-requires-clause-within : goal.count_front-requires-clause-within
count_front-requires-clause-within c =
    let found = spot_block c.self.inside.tree.items c.args.stamp c.in_ok-spot.spot.rank c.in_ok-spot.spot.offset
    c.in_ok-spot.ensures.spot in
    slice_get_within c.self.inside.tree.items c.in_ok-spot.spot.rank found.0 found.1

pub returns : goal.returns
returns c =
    let bs = c.self.inside.tree.items in
    let rank = c.in_ok-spot.spot.rank in
    let k = c.self.invariant.row.kept.listed in
    let place = some_block (slice_get bs rank)
    (λ (x : Block). (c.args.stamp ≡ stamp_behind x.first c.in_ok-spot.spot.offset) × (c.in_ok-spot.spot.offset < x.len))
    c.in_ok-spot.ensures.spot in
    let b = place.0 in
    let is = place.2.0 in
    let inside = place.2.1 in
    let counter = ap (λ (x : Stamp). x.counter) is in
    let replica = ap (λ (x : Stamp). x.replica) is in
    let held = holds_here c.self.inside.index bs rank b c.args.stamp k place.1 (
      sym replica,
      omega arith,
      omega arith,
    ) in
    where_has true (has_stamp character_of c.args.self.now.cells c.args.stamp) c.count_front.result
    (shown_before character_of (shown_at c.args.rev) c.args.self.now.cells c.args.stamp)
    (ap (λ l. has_stamp character_of l c.args.stamp) (sym (cells_seen c.self.view_is))
    ∙ held_cell c.self.inside.authors.items c.self.inside.text.items c.self.inside.index bs c.args.stamp b.first k
    c.self.invariant.row.within held) refl
    (c.count_front.ensures b place.1
    ∙ sym (before-blocks c.args.rev c.self.inside.authors.items c.self.inside.text.items bs rank
    c.in_ok-spot.spot.offset b c.args.stamp c.self.invariant.row.within place.1 is inside
    (λ i x l f cov. one_rank bs i rank x b k.apart f place.1 l
    (c.in_ok-spot.ensures.sound.apart c.args.stamp x.first b.first
    (holds_here c.self.inside.index bs i x c.args.stamp k f cov) held)))
    ∙ ap (λ l. shown_before character_of (shown_at c.args.rev) l c.args.stamp) (cells_seen c.self.view_is))

pub count_front-requires-clause-dated : goal.count_front-requires-clause-dated
count_front-requires-clause-dated c = dated_blocks c.self.inside.latest c.self.inside.authors.items
    c.self.inside.text.items c.self.inside.tree.items c.self.invariant.row.within c.self.invariant.row.kept.listed.sized
    c.self.invariant.row.dated
