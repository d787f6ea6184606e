-- The loop of `follow_shown`: what the slides from here on lead to is what all lead to, and there is room for them.
use Rattle.std.proofs.Common.{ℕ, ◌*◌, ◌≤◌, List, drop, length}
use Rattle.block_seq.specs.RowAuthors.{Goes, MayShow, with_shown}
use Rattle.block_seq.proofs.row_authors.follow_shown.Given as goal

abbrev pub invariant-loop-place : goal.invariant-loop-place
invariant-loop-place l = record {
  goes : (new : List ℕ) → Goes (with_shown l.author) MayShow l.fn.runs.places (drop l.from l.slides) new →
      Goes (with_shown l.author) MayShow l.runs.places (drop l.place l.slides) new;
  room : 2 * length (drop l.place l.slides) ≤ l.runs.room;
}
