-- The loop of `add_ranks`: the ranks have the blocks that begin with the stamps passed so far.
use Rattle.std.proofs.Common.{◌≡◌, ℕ, ◌-◌, ◌<◌, Some, length, slice_get}
use Rattle.std.specs.Prelude.{Contains}
use Rattle.std.specs.List.{AllByRecursion}
use Rattle.ident_index.specs.Index.{Covers}
use Rattle.blocks.specs.declared.block.Block.{Block}
use Rattle.block_seq.proofs.row_pieces.add_ranks.Given as goal

-- the ranks have what they had, and the blocks that begin with the stamps so far
abbrev pub invariant-loop-offset : goal.invariant-loop-offset
invariant-loop-offset l = record {
  within : AllByRecursion (λ r. r < length l.tree.items) l.ranks.items;
  more : (r : ℕ) → Contains l.initial.ranks.items r → Contains l.ranks.items r;
  there : (r : ℕ) (b : Block) → slice_get l.tree.items r ≡ Some b → Covers l.slide.first l.offset b.first →
      Contains l.ranks.items r;
}

abbrev pub decreases-loop-offset : goal.decreases-loop-offset
decreases-loop-offset l = l.slide.len - l.offset
