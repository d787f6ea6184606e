-- The loop of `follow_hidden`: what the slides from here on lead to is what all lead to.
use Rattle.std.proofs.Common.{ℕ, List, drop}
use Rattle.block_seq.specs.RowAuthors.{Goes, MayHide, without_hidden}
use Rattle.block_seq.proofs.row_authors.follow_hidden.Given as goal

abbrev pub invariant-loop-place : goal.invariant-loop-place
invariant-loop-place l = record {
  goes : (new : List ℕ) → Goes without_hidden MayHide l.fn.runs.places (drop l.from l.slides) new →
      Goes without_hidden MayHide l.runs.places (drop l.place l.slides) new;
}
