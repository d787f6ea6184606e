use Rattle.std.proofs.Common.{refl, sym, ap, ◌∙◌, arith, flat_map, Some}
use Rattle.std.proofs.lemmas.Option.{slice_get_past}
use Rattle.weight_tree.proofs.CallerLemmas.{falls_inside}
use Rattle.blocks.specs.Blocks.{IsSized, weight_of}
use Rattle.blocks.proofs.Entries.{each_get, weight-le-len}
use Rattle.block_seq.specs.RowSlides.{live_stamps}
use Rattle.block_seq.proofs.RowPast.{alive_at, length-live}
use Rattle.block_seq.proofs.row_past.find_alive.Goals as goal

pub returns : goal.returns
returns c =
    ap Some c.plus.ensures
    ∙ sym (alive_at c.args.tree.now.items c.args.place c.in_ok-found.found.rank c.in_ok-found.found.offset
    c.get-block.result.now c.in_ok-found.ensures.some.before
    (falls_inside weight_of c.args.tree.now.items c.args.place c.in_ok-found.found.rank c.in_ok-found.found.offset
    c.get-block.result.now c.in_ok-found.ensures.some c.get-block.ensures.item) c.get-block.ensures.item)

pub returns-in_err-found : goal.returns-in_err-found
returns-in_err-found c =
    let size = length-live c.args.tree.now.items in
    let past = c.in_err-found.ensures.none.0 refl in
    c.from_residual.ensures ∙ sym (slice_get_past (flat_map live_stamps c.args.tree.now.items) c.args.place
    (omega (arith, size, past)))

pub plus-requires : goal.plus-requires
plus-requires c =
    let inside = falls_inside weight_of c.args.tree.now.items c.args.place c.in_ok-found.found.rank
    c.in_ok-found.found.offset c.get-block.result.now c.in_ok-found.ensures.some c.get-block.ensures.item in
    let sized = each_get IsSized c.args.tree.now.items c.in_ok-found.found.rank c.get-block.result.now c.requires
    c.get-block.ensures.item in
    let least = weight-le-len c.get-block.result.now in
    let ends = sized.1 in
    omega (arith, inside, least, ends)
