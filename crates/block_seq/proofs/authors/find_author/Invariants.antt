-- The loop of `find_author`: none of the authors so far is this one.
use Rattle.std.proofs.Common.{◌≡◌, false, take}
use Rattle.std.specs.List.{AllByRecursion}
use Rattle.pad_model.specs.Visible.{same_author}
use Rattle.block_seq.proofs.authors.find_author.Given as goal

-- none of the authors so far is this one
abbrev pub invariant-loop-place : goal.invariant-loop-place
invariant-loop-place l = AllByRecursion (λ known. same_author known l.author ≡ false) (take l.place l.authors)
