-- What a search by a closure counts, and how often it calls the closure.
use Rattle.std.specs.Prelude.{◌≡◌, ℕ, zero, suc, List, count_by}
use Rattle.std.specs.Borrow.{Bor}
use Rattle.std.specs.Fn.{CalledAt, ComputesKey}
use Rattle.std.specs.List.Sorted.{IsNonDecreasingBy}
use Rattle.std.specs.Ordering.{is_lt, ordering_index}
use Rattle.std.specs.declared.cmp.Ordering.{Ordering}
use denote.Param.Members.{Mut}

-- the order is `Less` for the first items, then `Equal`, then `Greater`
abbrev pub IsRising : {T : Type 0} → (T → Ordering) → List T → Type 0
IsRising order items = IsNonDecreasingBy (λ item. ordering_index (order item)) items

-- the number of items for which the order is `Less`
abbrev pub count_less : {T : Type 0} → (T → Ordering) → List T → ℕ
count_less order items = count_by (λ item. is_lt (order item)) items

-- for each order that the closure computes and that rises along the items, the rank is the number of items for which it
-- is `Less`
abbrev pub IsRankBy : {T F : Type 0} → Mut F (Bor T × Unit {0}) Ordering → F → List T → ℕ → Type 0
IsRankBy {T} g f items rank = (order : T → Ordering) → ComputesKey g order f → IsRising order items
    →
    rank ≡ count_less order items

-- this many calls, each with an item, took the closure from one state to the other
abbrev pub AsksTimes : {T F : Type 0} → Mut F (Bor T × Unit {0}) Ordering → ℕ → F → F → Type 0
AsksTimes g zero before after = after ≡ before
AsksTimes {T} {F} g (suc n) before after = (item : T) × (answer : Ordering) × (next : F)
    × CalledAt g before item answer next × AsksTimes g n next after
