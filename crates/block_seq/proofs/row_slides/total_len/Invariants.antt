-- The loop of `total_len`: the total is that of the spans so far.
use Rattle.std.proofs.Common.{◌≡◌, min, take}
use Rattle.block_seq.specs.RowSlides.{named_len}
use Rattle.block_seq.proofs.row_slides.total_len.Given as goal

-- the total is that of the spans so far
abbrev pub invariant-loop-span : goal.invariant-loop-span
invariant-loop-span l = l.total ≡ min (named_len (take l.span-index l.spans)) 18446744073709551615
