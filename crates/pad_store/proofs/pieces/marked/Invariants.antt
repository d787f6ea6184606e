-- The loop of `marked`: what is shown so far, and what the pieces that are left show of the text that is left, are what
-- all pieces show of the whole text.
use Rattle.std.proofs.Common.{◌≡◌, ◌++◌, drop}
use Rattle.pad_store.specs.Marks.{marked}
use Rattle.pad_store.proofs.pieces.marked.Given as goal

abbrev pub invariant-loop-piece : goal.invariant-loop-piece
invariant-loop-piece l =
    l.shown ++ marked l.fn.marks (drop l.piece-index l.fn.pieces) l.rest ≡ marked l.fn.marks l.fn.pieces l.fn.text
