use Rattle.std.proofs.Common.{◌≡◌, ◌<◌, true, inl, inr, sym, subst, length}
use Rattle.std.proofs.lemmas.List.{take_all}
use Rattle.std.proofs.lemmas.List.Sorted.{Contains-permutation, IsNonDecreasingBy-from_sort}
use Rattle.pad_model.proofs.Each.{each-permutation}
use Rattle.block_seq.specs.RowPieces.{is_touched}
use Rattle.block_seq.proofs.RowTouched.{touched-more}
use Rattle.block_seq.proofs.row_pieces.list_touched.Goals as goal

pub loop-slide-preserved : goal.loop-slide-preserved
loop-slide-preserved c =
    record {
      within = c.add_ranks.ensures.within;
      touched = λ r b e h.
          elim (touched-more c.args.slides.now c.loop-slide.slide-index c.slide-item.result b.first
          c.loop-slide-test.true c.slide-item.is h) [
            | inl old ↦ c.in_ok-add_ranks.ensures.more r (c.loop-slide.invariant.touched r b e old)
            | inr new ↦ c.in_ok-add_ranks.ensures.there r b e new
          ];
    }

pub returns-clause-within : goal.returns-clause-within
returns-clause-within c =
    each-permutation (λ r. r < length c.args.tree.now.items) c.loop-slide.ranks.items c.sort.new.self.items
    c.sort.ensures.permutation c.loop-slide.invariant.within

pub returns-clause-touched : goal.returns-clause-touched
returns-clause-touched c = λ r b e h.
    Contains-permutation c.loop-slide.ranks.items c.sort.new.self.items r c.sort.ensures.permutation
    (c.loop-slide.invariant.touched r b e (subst (λ l. is_touched l b.first ≡ true)
    (sym (take_all c.loop-slide.slide-index c.args.slides.now c.loop-slide-test.false)) h))

pub returns-clause-sorted : goal.returns-clause-sorted
returns-clause-sorted c = IsNonDecreasingBy-from_sort (λ x. x) c.sort.new.self.items c.in_ok-sort.ensures.sorted
