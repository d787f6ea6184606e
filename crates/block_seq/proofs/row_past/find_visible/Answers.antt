use Rattle.std.proofs.Common.{◌∙◌, sym, arith, flat_map}
use Rattle.std.proofs.lemmas.Option.{slice_get_past}
use Rattle.block_seq.specs.RowLists.{shown_stamps}
use Rattle.block_seq.specs.RowSlides.{live_stamps}
use Rattle.block_seq.proofs.RowPast.{counted-past, lead-to, leads-past, length-shown, stamp-shown}
use Rattle.block_seq.proofs.row_past.find_visible.Goals as goal

pub count_before-requires : goal.count_before-requires
count_before-requires c = lead-to c.args.slides.now c.since-recent.result.now c.args.tree.now.items c.args.rev
    c.weight.result c.requires.slid c.since-recent.ensures c.weight.ensures.sum

pub returns-then-count_before-place : goal.returns-then-count_before-place
returns-then-count_before-place c =
    let bs = c.args.tree.now.items in
    let rev = c.args.rev in
    let size = length-shown rev bs in
    let counted = counted-past c.args.slides.now c.since-recent.result.now bs rev c.weight.result c.count_before.result
    c.requires.slid c.since-recent.ensures c.weight.ensures.sum c.count_before.ensures in
    sym (stamp-shown rev bs c.args.place ∙ slice_get_past (flat_map (shown_stamps rev) bs) c.args.place (omega arith))

pub carry-requires : goal.carry-requires
carry-requires c =
    let bs = c.args.tree.now.items in
    let rev = c.args.rev in
    let size = length-shown rev bs in
    let counted = counted-past c.args.slides.now c.since-recent.result.now bs rev c.weight.result c.count_before.result
    c.requires.slid c.since-recent.ensures c.weight.ensures.sum c.count_before.ensures in (
      flat_map (shown_stamps rev) bs,
      flat_map live_stamps bs,
      leads-past c.args.slides.now c.since-recent.result.now bs rev c.requires.slid c.since-recent.ensures,
      omega arith,
    )

pub returns-in-At : goal.returns-in-At
returns-in-At c =
    let bs = c.args.tree.now.items in
    let rev = c.args.rev in
    c.find_alive.ensures
    ∙ c.in-At.ensures (flat_map (shown_stamps rev) bs) (flat_map live_stamps bs)
    (leads-past c.args.slides.now c.since-recent.result.now bs rev c.requires.slid c.since-recent.ensures)
    ∙ sym (stamp-shown rev bs c.args.place)

pub returns-in-Hidden : goal.returns-in-Hidden
returns-in-Hidden c =
    let bs = c.args.tree.now.items in
    let rev = c.args.rev in
    sym (c.in-Hidden.ensures (flat_map (shown_stamps rev) bs) (flat_map live_stamps bs)
    (leads-past c.args.slides.now c.since-recent.result.now bs rev c.requires.slid c.since-recent.ensures))
    ∙ sym (stamp-shown rev bs c.args.place)
