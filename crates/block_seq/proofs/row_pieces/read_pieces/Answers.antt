use Rattle.std.proofs.Common.{◌≤◌, ◌<◌, min, ap, sym, subst, ◌∙◌, arith, flat_map, length, sum_by}
use Rattle.std.proofs.Math.Nat.{min-le_left, min-le_right}
use Rattle.std.proofs.lemmas.List.{take_all}
use Rattle.pad_model.specs.Pieces.{fewest, old_len}
use Rattle.blocks.specs.Cells.{IsWithin}
use Rattle.blocks.proofs.Entries.{each_get}
use Rattle.block_seq.specs.PieceLists.{block_pieces}
use Rattle.block_seq.specs.RowLists.{shown_stamps}
use Rattle.block_seq.specs.RowSlides.{live_stamps}
use Rattle.block_seq.proofs.RowGaps.{IsSoFar, pass-so-far, step-so-far}
use Rattle.block_seq.proofs.RowLists.{get_here}
use Rattle.block_seq.proofs.RowPast.{leads-past}
use Rattle.block_seq.proofs.RowRanks.{block-room, count-small, gap-room, gap-untouched, none-before, still-to-come}
use Rattle.block_seq.proofs.RowTouched.{sized-slides}
use Rattle.block_seq.proofs.row_pieces.read_pieces.Goals as goal
use Rattle.block_seq.proofs.row_pieces.read_pieces.Goals.{then-next-rank+in_ok-add_untouched+in_ok-add_block, else-next-rank}

pub list_touched-requires-clause-sized : goal.list_touched-requires-clause-sized
list_touched-requires-clause-sized c =
    let bs = c.args.row.tree.now.items in
    sized-slides c.since-recent.result.now (flat_map (shown_stamps c.min.result) bs) (flat_map live_stamps bs)
    (leads-past c.args.slides.now c.since-recent.result.now bs c.min.result c.requires.slid c.since-recent.ensures)

pub add_untouched-requires-clause-small : goal.add_untouched-requires-clause-small
add_untouched-requires-clause-small c =
    let room = gap-room c.args.row.tree.now.items c.loop-index.next c.index-rank.result.now
    (sum_by old_len c.loop-index.pieces.items) c.if-next-rank.true c.loop-index.invariant.so_far.small in
    omega (arith, room, c.requires.kept.listed.small)

pub add_block-requires-clause-within : goal.add_block-requires-clause-within
add_block-requires-clause-within c =
    each_get (IsWithin (length c.args.row.authors.now) (length c.args.row.text.now)) c.args.row.tree.now.items
    c.index-rank.result.now c.get-block.result.now c.requires.within c.get-block.ensures.item

pub add_block-requires-clause-small : goal.add_block-requires-clause-small
add_block-requires-clause-small c =
    let bs = c.args.row.tree.now.items in
    let ranks = c.in_ok-ranks.ranks.items in
    let index = c.loop-index.index in
    let rank = c.index-rank.result.now in
    let inv = c.loop-index.invariant in
    let listed = c.requires.kept.listed in
    let low : index < length ranks =
    omega (arith, c.loop-index-test.true, c.len-index-end.ensures, c.in_ok-ranks.ranks.ok.0) in
    let here = get_here ranks index rank low c.index-rank.ensures in
    let passed = pass-so-far c.args.rev c.args.to c.args.row.authors.now c.args.row.text.now bs c.loop-index.pieces.items
    c.add_untouched.new.pieces.items c.loop-index.next rank inv.so_far c.if-next-rank.true listed.sized
    (gap-untouched c.args.slides.now bs (min c.args.rev c.args.to) c.args.rev c.args.to c.args.row.index.now c.requires.slid
    listed c.note_sound.ensures ranks index c.loop-index.next inv.todo (min-le_left c.args.rev c.args.to)
    (min-le_right c.args.rev c.args.to) rank
    (λ r k. none-before ranks index rank r c.in_ok-ranks.ensures.sorted here k))
    c.in_ok-add_untouched.ensures in
    let room = block-room bs rank (sum_by old_len c.add_untouched.new.pieces.items) c.get-block.result.now
    c.get-block.ensures.item passed.small in
    omega (arith, room, listed.small)

pub overflow_add-next : goal.overflow_add-next
overflow_add-next c =
    let bs = c.args.row.tree.now.items in
    let ranks = c.in_ok-ranks.ranks.items in
    let low : c.loop-index.index < length ranks =
    omega (arith, c.loop-index-test.true, c.len-index-end.ensures, c.in_ok-ranks.ranks.ok.0) in
    let here = get_here ranks c.loop-index.index c.index-rank.result.now low c.index-rank.ensures in
    let within = each_get (λ r. r < length bs) ranks c.loop-index.index c.index-rank.result.now
    c.in_ok-ranks.ensures.within here in
    let few = count-small bs c.requires.kept.listed.sized in
    omega (arith, within, few, c.requires.kept.listed.small)

pub loop-index-preserved : goal.loop-index-preserved
loop-index-preserved c =
    let bs = c.args.row.tree.now.items in
    let ranks = c.in_ok-ranks.ranks.items in
    let index = c.loop-index.index in
    let rank = c.index-rank.result.now in
    let inv = c.loop-index.invariant in
    let listed = c.requires.kept.listed in
    let low : index < length ranks =
    omega (arith, c.loop-index-test.true, c.len-index-end.ensures, c.in_ok-ranks.ranks.ok.0) in
    let here = get_here ranks index rank low c.index-rank.ensures in
    let inside = each_get (λ r. r < length bs) ranks index rank c.in_ok-ranks.ensures.within here in
    elim c.if-next-rank.branch [
      | then-next-rank+in_ok-add_untouched+in_ok-add_block w ↦
          let passed = pass-so-far c.args.rev c.args.to c.args.row.authors.now c.args.row.text.now bs c.loop-index.pieces.items
          w.add_untouched.new.pieces.items c.loop-index.next rank inv.so_far w.if-next-rank.true listed.sized
          (gap-untouched c.args.slides.now bs (min c.args.rev c.args.to) c.args.rev c.args.to c.args.row.index.now c.requires.slid
          listed c.note_sound.ensures ranks index c.loop-index.next inv.todo (min-le_left c.args.rev c.args.to)
          (min-le_right c.args.rev c.args.to) rank
          (λ r k. none-before ranks index rank r c.in_ok-ranks.ensures.sorted here k))
          w.in_ok-add_untouched.ensures in
          record {
            within = omega (arith, inside, w.next-is);
            so_far = step-so-far c.args.rev c.args.to c.args.row.authors.now c.args.row.text.now bs
                w.add_untouched.new.pieces.items c.if-next-rank.pieces.items rank c.if-next-rank.next
                w.get-block.result.now passed w.get-block.ensures.item w.next-is
                (ap (λ v. v.items) w.pieces-is ∙ w.in_ok-add_block.ensures);
            todo = λ r b l e t.
                still-to-come ranks index rank r here (omega (arith, l, w.next-is))
                (inv.todo r b (omega (arith, l, w.next-is, w.if-next-rank.true)) e t);
          }
      | else-next-rank w ↦
          record {
            within = omega (arith, inv.within, w.next-is);
            so_far = subst (λ n. IsSoFar c.args.rev c.args.to c.args.row.authors.now c.args.row.text.now bs
                c.if-next-rank.pieces.items n) (sym w.next-is)
                (subst (λ l. IsSoFar c.args.rev c.args.to c.args.row.authors.now c.args.row.text.now bs l c.loop-index.next)
                (sym (ap (λ v. v.items) w.pieces-is)) inv.so_far);
            todo = λ r b l e t.
                still-to-come ranks index rank r here (omega (arith, l, w.next-is, w.if-next-rank.false))
                (inv.todo r b (omega (arith, l, w.next-is)) e t);
          }
    ]

pub add_untouched-requires-2-clause-small : goal.add_untouched-requires-2-clause-small
add_untouched-requires-2-clause-small c =
    let order : c.loop-index.next ≤ c.len.result = omega (arith, c.loop-index.invariant.within, c.len.ensures.len) in
    let room = gap-room c.args.row.tree.now.items c.loop-index.next c.len.result
    (sum_by old_len c.loop-index.pieces.items) order c.loop-index.invariant.so_far.small in
    omega (arith, room, c.requires.kept.listed.small)

pub returns : goal.returns
returns c =
    let bs = c.args.row.tree.now.items in
    let ranks = c.in_ok-ranks.ranks.items in
    let index = c.loop-index.index in
    let inv = c.loop-index.invariant in
    let listed = c.requires.kept.listed in
    let order : c.loop-index.next ≤ c.len.result = omega (arith, inv.within, c.len.ensures.len) in
    let whole : length bs ≤ c.len.result = omega (arith, c.len.ensures.len) in
    let past : length ranks ≤ index =
    omega (arith, c.loop-index-test.false, c.len-index-end.ensures, c.in_ok-ranks.ranks.ok.0) in
    let passed = pass-so-far c.args.rev c.args.to c.args.row.authors.now c.args.row.text.now bs c.loop-index.pieces.items
    c.add_untouched-2.new.pieces.items c.loop-index.next c.len.result inv.so_far order listed.sized
    (gap-untouched c.args.slides.now bs (min c.args.rev c.args.to) c.args.rev c.args.to c.args.row.index.now c.requires.slid
    listed c.note_sound.ensures ranks index c.loop-index.next inv.todo (min-le_left c.args.rev c.args.to)
    (min-le_right c.args.rev c.args.to) c.len.result
    (λ r k. let low = k.1 in let high = k.2 in absurd (omega (arith, low, high, past))))
    c.in_ok-add_untouched-2.ensures in
    passed.is
    ∙ ap (λ l. fewest (flat_map (block_pieces c.args.rev c.args.to c.args.row.authors.now c.args.row.text.now) l))
    (take_all c.len.result bs whole)
