use Rattle.std.proofs.Common.{◌+◌, sym, subst, arith, leb, leb-true, refl}
use Rattle.std.proofs.lemmas.Bool.{and_parts}
use Rattle.std.proofs.lemmas.Option.{slice_get_within}
use Rattle.pad_model.specs.Cell.{character_of}
use Rattle.pad_model.specs.Legal.{has_stamp}
use Rattle.pad_model.specs.declared.limits.TheConstants.{MAX_COUNTER}
use Rattle.ident_index.specs.Index.{stamp_behind, HoldsNone}
use Rattle.blocks.specs.Blocks.{IsSized, IsSpot}
use Rattle.blocks.specs.Cells.{cells_of}
use Rattle.blocks.proofs.Entries.{each_get}
use Rattle.block_seq.proofs.BlockCells.{none_held, held_cell, spot_block}
use Rattle.block_seq.proofs.RowErase.{each_stamp, one_missing, more_there}
use Rattle.block_seq.proofs.row_erase.has_span.Goals as goal

pub get-requires : goal.get-requires
get-requires c =
    let found = spot_block c.args.tree.now.items c.plus.result c.in-Some.spot.rank c.in-Some.spot.offset
    c.in-Some.ensures.spot in
    record { in_range = slice_get_within c.args.tree.now.items c.in-Some.spot.rank found.0 found.1 }

pub overflow_add-done : goal.overflow_add-done
overflow_add-done c =
    let sized = each_get IsSized c.args.tree.now.items c.in-Some.spot.rank c.get.result.now c.requires.kept.listed.sized
    c.get.ensures.item in
    let limit = leb-true (c.args.span.now.first.counter + c.args.span.now.len) (MAX_COUNTER + 1)
    (and_parts (leb 1 c.args.span.now.len) (leb (c.args.span.now.first.counter + c.args.span.now.len) (MAX_COUNTER + 1))
    c.requires.checked).1 in
    let small = sized.2 in
    omega (arith, limit, small, c.loop-done-test.true)

pub loop-done-preserved : goal.loop-done-preserved
loop-done-preserved c =
    more_there c.args.index.now c.args.tree.now.items c.args.span.now.first c.loop-done.done c.in-Some.spot.rank
    c.in-Some.spot.offset _ c.get.result.now c.requires.kept.listed c.get.ensures.item
    (subst (λ s. IsSpot c.args.tree.now.items s c.in-Some.spot.rank c.in-Some.spot.offset) c.plus.ensures
    c.in-Some.ensures.spot) refl c.loop-done.invariant

pub returns-in_default : goal.returns-in_default
returns-in_default c = λ authors text w.
    sym (one_missing (λ s. has_stamp character_of (cells_of authors text c.args.tree.now.items) s) c.args.span.now.first
    c.args.span.now.len c.loop-done.done c.loop-done-test.true
    (none_held authors text c.args.index.now c.args.tree.now.items (stamp_behind c.args.span.now.first c.loop-done.done)
    c.requires.kept.listed w (subst (HoldsNone c.args.index.now) c.plus.ensures c.in_default.ensures.spot)))

pub returns : goal.returns
returns c = λ authors text w.
    sym (each_stamp (λ s. has_stamp character_of (cells_of authors text c.args.tree.now.items) s) c.args.span.now.first
    c.args.span.now.len
    (λ k l. let held = c.loop-done.invariant k (omega arith) in
    held_cell authors text c.args.index.now c.args.tree.now.items (stamp_behind c.args.span.now.first k) held.0
    c.requires.kept.listed w held.1))
