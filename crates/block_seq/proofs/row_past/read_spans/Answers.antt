use Rattle.std.proofs.Common.{ℕ, zero, suc, refl, ◌≡◌, ◌+◌, ◌-◌, ◌++◌, [], sum_by, sym, ap, ◌∙◌, arith, take, drop}
use Rattle.std.proofs.Common.{flat_map}
use Rattle.std.proofs.lemmas.List.{drop_all}
use Rattle.pad_model.specs.Operation.{stamps_from}
use Rattle.pad_model.specs.Visible.{spans}
use Rattle.pad_model.specs.Stamp.{Stamp}
use Rattle.pad_model.specs.declared.op.Span.{Span}
use Rattle.ident_index.specs.Index.{stamp_behind}
use Rattle.blocks.specs.Blocks.{IsSized}
use Rattle.blocks.proofs.Entries.{each_get}
use Rattle.block_seq.specs.RowLists.{shown_stamps, with_stamps}
use Rattle.block_seq.specs.Rows.{shown_len}
use Rattle.block_seq.proofs.RowReads.{shown_small}
use Rattle.block_seq.proofs.RowLists.{window_goes_on, shown_first, none_done, spans-more, sum-stamps}
use Rattle.block_seq.proofs.RowPast.{drop_seen, drop_some, dropped_small, length-shown, shown_inside}
use Rattle.block_seq.proofs.row_past.read_spans.Goals as goal
use Rattle.block_seq.proofs.row_past.read_spans.Goals.{then-more-gt0+in_ok-add_span, else-more-gt0}

take_none : (n : ℕ) → take {A = Stamp} n [] ≡ []
take_none zero = refl
take_none (suc n) = refl

pub loop-rank-init : goal.loop-rank-init
loop-rank-init c =
    let bs = c.args.row.tree.now.items in
    let small = shown_small c.args.rev bs in
    let less = dropped_small (shown_len c.args.rev) bs c.in-Some.spot.rank in
    record {
      done = [];
      spans = c.new-spans.ensures.items;
      all = ap (take c.args.len) (sym (drop_seen c.args.rev bs c.args.at c.in-Some.spot.rank c.in-Some.spot.offset
          c.in-Some.ensures.1));
      small = (let none = ap (sum_by (λ (s : Span). s.len)) c.new-spans.ensures.items in
          omega (arith, none, less, small, c.requires.kept.listed.small));
    }

pub plus-requires : goal.plus-requires
plus-requires c =
    let b = c.get-block.result.now in
    let sized = each_get IsSized c.args.row.tree.now.items c.loop-rank.rank b c.requires.kept.listed.sized
    c.get-block.ensures.item in
    let inside = shown_inside c.args.rev b c.min-before.result
    (omega (arith, c.if-more-gt0.true, c.visible_len-shown.ensures, c.min-before.ensures, c.min-more.ensures)) in
    let ends = sized.1 in
    omega (arith, inside, ends)

pub add_span-requires : goal.add_span-requires
add_span-requires c =
    let bs = c.args.row.tree.now.items in
    let b = c.get-block.result.now in
    let rank = c.loop-rank.rank in
    let first = shown_first c.args.rev b (drop rank bs) (drop (rank + 1) bs)
    (drop_some bs rank (rank + 1) b c.get-block.ensures.item (omega arith)) in
    omega (
      arith,
      first,
      c.loop-rank.invariant.small,
      c.visible_len-shown.ensures,
      c.min-before.ensures,
      c.min-more.ensures,
    )

pub loop-rank-preserved : goal.loop-rank-preserved
loop-rank-preserved c =
    let inv = c.loop-rank.invariant in
    let bs = c.args.row.tree.now.items in
    let b = c.get-block.result.now in
    let rank = c.loop-rank.rank in
    let steps = drop_some bs rank (rank + 1) b c.get-block.ensures.item (omega arith) in
    let first = shown_first c.args.rev b (drop rank bs) (drop (rank + 1) bs) steps in
    let goes = window_goes_on c.args.rev b (drop rank bs) (drop (rank + 1) bs) steps inv.done _ c.loop-rank.skip
    c.loop-rank.left c.visible_len-shown.result c.min-before.result c.min-more.result inv.all
    c.visible_len-shown.ensures c.min-before.ensures c.min-more.ensures in
    elim c.if-more-gt0.branch [
      | then-more-gt0+in_ok-add_span w ↦
          let first_one = stamp_behind b.first c.min-before.result in
          let made : c.if-more-gt0.spans.items ≡ with_stamps c.loop-rank.spans.items first_one c.min-more.result =
          ap (λ v. v.items) w.spans-is ∙ w.in_ok-add_span.ensures
          ∙ ap (λ (k : Stamp). with_stamps c.loop-rank.spans.items k c.min-more.result) w.plus.ensures
          in
          record {
            done = inv.done ++ stamps_from first_one c.min-more.result;
            spans = made ∙ ap (λ l. with_stamps l first_one c.min-more.result) inv.spans
                ∙ sym (spans-more inv.done first_one c.min-more.result (omega (arith, w.if-more-gt0.true)));
            all = goes;
            small = (let sum = ap (sum_by (λ (s : Span). s.len)) made
                ∙ sum-stamps c.loop-rank.spans.items first_one c.min-more.result in
                omega (
                  arith,
                  sum,
                  first,
                  inv.small,
                  c.visible_len-shown.ensures,
                  c.min-before.ensures,
                  c.min-more.ensures,
                ));
          }
      | else-more-gt0 w ↦
          let none = none_done inv.done (stamp_behind b.first c.min-before.result) c.min-more.result
          (omega (arith, w.if-more-gt0.false)) in
          let same = ap (λ v. v.items) w.spans-is in
          record {
            done = inv.done;
            spans = same ∙ inv.spans;
            all = ap (λ l. l ++ take (c.loop-rank.left - c.min-more.result)
                (drop (c.loop-rank.skip - c.min-before.result) (flat_map (shown_stamps c.args.rev) (drop (rank + 1) bs))))
                (sym none) ∙ goes;
            small = (let old = ap (sum_by (λ (s : Span). s.len)) same in omega (arith, old, first, inv.small));
          }
    ]

pub returns-in_default : goal.returns-in_default
returns-in_default c =
    let bs = c.args.row.tree.now.items in
    let past = c.in_default.ensures in
    let size = length-shown c.args.rev bs in
    c.new-spans.ensures.items
    ∙ ap spans (sym (ap (take c.args.len) (drop_all c.args.at (flat_map (shown_stamps c.args.rev) bs) (omega arith))
    ∙ take_none c.args.len))
