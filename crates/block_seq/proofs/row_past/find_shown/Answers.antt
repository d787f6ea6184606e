use Rattle.std.proofs.Common.{◌≡◌, ◌≤◌, ◌<◌, length, sum_by, sym, arith, slice_get, None, ap, ◌∙◌}
use Rattle.std.proofs.lemmas.Option.{slice_get_past, slice_get_within}
use Rattle.pad_model.specs.Cell.{cells_at}
use Rattle.pad_model.specs.Views.{IsViewOf}
use Rattle.blocks.proofs.Entries.{each_get}
use Rattle.blocks.proofs.Parts.{some_block}
use Rattle.blocks.specs.Blocks.{IsSized}
use Rattle.blocks.specs.Cells.{IsWithin, cells_of}
use Rattle.blocks.specs.declared.block.Block.{Block}
use Rattle.block_seq.specs.Rows.{shown_len}
use Rattle.block_seq.proofs.RowReads.{length-at, shown-cell}
use Rattle.block_seq.proofs.row_past.find_shown.Goals as goal

pub returns-in_err-spot : goal.returns-in_err-spot
returns-in_err-spot c =
    let bs = c.args.row.tree.now.items in
    let cells = cells_at c.args.rev (cells_of c.args.authors.now c.args.text.now bs) in
    let size = length-at c.args.rev c.args.authors.now c.args.text.now bs c.requires.within in
    let none : slice_get cells c.args.place ≡ None = slice_get_past cells c.args.place
    (omega (arith, size, c.in_err-spot.ensures)) in
    rw (c.from_residual.ensures, none) tt

pub get-requires : goal.get-requires
get-requires c =
    let bs = c.args.row.tree.now.items in
    let spot = c.in_ok-spot.spot in
    let there = some_block (slice_get bs spot.rank) (λ (b : Block). spot.offset < shown_len c.args.rev b)
    c.in_ok-spot.ensures.0 in
    record { in_range = slice_get_within bs spot.rank there.0 there.1 }

pub view_at-requires-clause-sized : goal.view_at-requires-clause-sized
view_at-requires-clause-sized c =
    each_get IsSized c.args.row.tree.now.items c.in_ok-spot.spot.rank c.get.result.now c.requires.kept.listed.sized
    c.get.ensures.item

pub view_at-requires-clause-within : goal.view_at-requires-clause-within
view_at-requires-clause-within c =
    each_get (IsWithin (length c.args.authors.now) (length c.args.text.now)) c.args.row.tree.now.items
    c.in_ok-spot.spot.rank c.get.result.now c.requires.within c.get.ensures.item

pub returns : goal.returns
returns c =
    let bs = c.args.row.tree.now.items in
    let spot = c.in_ok-spot.spot in
    let inside : spot.offset < shown_len c.args.rev c.get.result.now =
    rw c.get.ensures.item at c.in_ok-spot.ensures.0 in
    rw (shown-cell c.args.rev c.args.authors.now c.args.text.now bs c.args.place spot.rank spot.offset c.get.result.now
    c.requires.within c.get.ensures.item inside c.in_ok-spot.ensures.1) c.view_at.ensures
