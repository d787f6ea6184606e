-- The loop of `list_touched`: the ranks have what the slides passed so far touched.
use Rattle.std.proofs.Common.{◌<◌, length, take}
use Rattle.std.specs.List.{AllByRecursion}
use Rattle.block_seq.specs.RowPieces.{HasTouched}
use Rattle.block_seq.proofs.row_pieces.list_touched.Given as goal

-- the ranks have what the slides so far touched
abbrev pub invariant-loop-slide : goal.invariant-loop-slide
invariant-loop-slide l = record {
  within : AllByRecursion (λ r. r < length l.tree.items) l.ranks.items;
  touched : HasTouched (take l.slide-index l.slides) l.tree.items l.ranks.items;
}
