-- Where a number falls among the weights of a list of items, laid end to end.
use Rattle.std.specs.Prelude.{◌≡◌, ℕ, ◌+◌, ◌<◌, List, take, sum_by, slice_get, IsSomeAnd}

-- the number falls in the item at this rank, at this offset into its weight
pub record FallsIn {T : Type 0} (weight_of : T → ℕ) (items : List T) (number rank offset : ℕ) : Type
    0 where
  pub before : sum_by weight_of (take rank items) + offset ≡ number
  pub within : IsSomeAnd (slice_get items rank) (λ item. offset < weight_of item)
