use Rattle.std.proofs.Common.{ap, sym, ◌∙◌}
use Rattle.weight_tree.specs.ItemsAndHeight.{ItemsAndHeight}
use Rattle.blocks.specs.declared.block.Block.{Block}
use Rattle.pad_model.specs.Visible.{same_author}
use Rattle.authorship.specs.StoredRuns.{AuthorPlaces}
use Rattle.block_seq.specs.RowAuthors.{live_authors}
use Rattle.block_seq.proofs.AuthorTable.{distinct_none}
use Rattle.block_seq.proofs.RowSlides.{slid_nothing}
use Rattle.block_seq.proofs.RowSteps.{nothing_kept}
use Rattle.block_seq.proofs.rows.BlockSeqSequence.empty.Goals as goal

pub invariant_of-result : goal.invariant_of-result
invariant_of-result c = record {
  row = nothing_kept c.new-4.result.items c.new-3.result.items c.new-2.result c.new.result.items
      (ap (λ (t : ItemsAndHeight Block). t.items) c.new.ensures.empty) c.new-3.ensures.items c.new-2.ensures;
  slid = slid_nothing c.new-5.result.items c.new.result.items c.new-5.ensures.items
      (ap (λ (t : ItemsAndHeight Block). t.items) c.new.ensures.empty);
  once = distinct_none same_author c.new-4.result.items c.new-4.ensures.items;
  runs = ap (λ (p : AuthorPlaces). p.places) c.new-6.ensures
      ∙ sym (ap (λ (t : ItemsAndHeight Block). live_authors t.items) c.new.ensures.empty);
}
