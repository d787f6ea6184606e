-- The loop of `find_author`: no author passed so far is the one that is looked for.
use Rattle.std.proofs.Common.{◌≢◌, ℕ, ◌<◌}
use Rattle.authorship.specs.StoredRuns.{author_in}
use Rattle.authorship.proofs.table.find_author.Given as goal

-- no author that was passed is the one
abbrev pub invariant-loop-place : goal.invariant-loop-place
invariant-loop-place l = (i : ℕ) → i < l.place → author_in l.table i ≢ l.author
