use Rattle.std.proofs.Common.{◌≡◌, ◌+◌, ◌<◌, ◌∷◌, [], IsSomeAnd, inl, inr, sym, ap, ◌∙◌, subst, arith, length}
use Rattle.std.specs.Prelude.{Contains}
use Rattle.std.specs.List.{AllByRecursion}
use Rattle.std.proofs.lemmas.Bool.{cases_lt}
use Rattle.std.proofs.lemmas.List.Elements.{Contains-append_left, Contains-append_right}
use Rattle.std.proofs.lemmas.Option.{slice_get_within}
use Rattle.pad_model.proofs.Each.{each-append}
use Rattle.ident_index.specs.Index.{stamp_behind}
use Rattle.blocks.specs.declared.block.Block.{Block}
use Rattle.block_seq.proofs.RowTouched.{found-rank, none-here}
use Rattle.block_seq.proofs.row_pieces.add_ranks.Goals as goal

pub loop-offset-preserved-in-Some : goal.loop-offset-preserved-in-Some
loop-offset-preserved-in-Some c =
    let inv = c.loop-offset.invariant in
    let bs = c.args.tree.now.items in
    let old = c.loop-offset.ranks.items in
    let rank = c.in-Some.spot.rank in
    let x = c.get.result.now in
    let pushed = c.in_ok-push.ensures.items in
    let spot = subst (λ o. IsSomeAnd o (λ (b : Block). (c.plus.result ≡ stamp_behind b.first c.in-Some.spot.offset)
    × (c.in-Some.spot.offset < b.len))) c.get.ensures.item c.in-Some.ensures.spot in
    record {
      within = subst (AllByRecursion (λ r. r < length bs)) (sym pushed)
          (each-append (λ r. r < length bs) old (rank ∷ []) inv.within (slice_get_within bs rank x c.get.ensures.item, tt));
      more = λ r h. subst (λ l. Contains l r) (sym pushed) (Contains-append_left old (rank ∷ []) r (inv.more r h));
      there = λ r b e h. subst (λ l. Contains l r) (sym pushed)
          (elim (cases_lt b.first.counter (c.args.slide.now.first.counter + c.loop-offset.offset)) [
            | inl less ↦ Contains-append_left old (rank ∷ []) r (inv.there r b e (h.0, h.1, less))
            | inr past ↦
                let same : r ≡ rank = found-rank c.args.index.now bs r c.loop-offset.offset b c.args.slide.now.first
                c.plus.result c.requires.kept.listed e (c.plus.ensures ∙ ap (λ s. stamp_behind s c.loop-offset.offset) c.first.ensures)
                past rank c.in-Some.spot.offset x
                c.in-Some.ensures.sound c.get.ensures.item spot.0 spot.1 h in
                Contains-append_right old (rank ∷ []) r (0, omega arith, sym same)
          ]);
    }

pub loop-offset-preserved : goal.loop-offset-preserved
loop-offset-preserved c =
    let inv = c.loop-offset.invariant in
    record {
      within = inv.within;
      more = inv.more;
      there = λ r b e h.
          elim (cases_lt b.first.counter (c.args.slide.now.first.counter + c.loop-offset.offset)) [
            | inl less ↦ inv.there r b e (h.0, h.1, less)
            | inr past ↦ absurd (none-here c.args.index.now c.args.tree.now.items r c.loop-offset.offset b
                c.args.slide.now.first c.plus.result c.requires.kept.listed e
                (c.plus.ensures ∙ ap (λ s. stamp_behind s c.loop-offset.offset) c.first.ensures) past
                c.in_default.ensures.spot h)
          ];
    }
