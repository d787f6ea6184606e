-- The loop of `last_shared`: so many of the lines so far end with the last one whose sum both files have.
use Rattle.std.proofs.Common.{◌≡◌, ◌⊎◌, ◌≤◌, ◌<◌, ◌-◌, ℕ, true, false, map}
use Rattle.pad_store.specs.Partings.{is_shared_at}
use Rattle.pad_store.proofs.parting.last_shared.Given as goal

abbrev pub invariant-loop-place : goal.invariant-loop-place
invariant-loop-place l =
    (l.shared ≤ l.place)
    × ((l.shared ≡ 0) ⊎ (is_shared_at (map (λ line. line.now) l.fn.olds) (map (λ line. line.now) l.fn.news) (l.shared - 1) ≡ true))
    × ((place : ℕ) → l.shared ≤ place → place < l.place →
    is_shared_at (map (λ line. line.now) l.fn.olds) (map (λ line. line.now) l.fn.news) place ≡ false)
