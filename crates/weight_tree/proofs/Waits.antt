-- One more branch that waits.
use Rattle.std.proofs.Common.{◌≡◌, ℕ, ◌+◌, ◌-◌, ◌<◌, ◌≤◌, ◌≢◌, List, [], ◌∷◌, ◌++◌, length, take, get_or, Option, Some}
use Rattle.std.proofs.Common.{None, refl, ap, sym, ◌∙◌, arith, append_assoc, get_or-set_other, get_or-set_same}
use Rattle.std.proofs.Common.{below_more, Bor}
use Rattle.std.proofs.Math.ListN.{set}
use Rattle.std.proofs.lemmas.List.{append-nil}
use Rattle.std.proofs.lemmas.Grind.{take-set_at, take_at_read}
use Rattle.weight_tree.specs.Waiting.{from_branch, from_waiting, WaitsAt, IsWaiting}
use Rattle.weight_tree.specs.declared.tree.Branch.{Branch}

module _ {T : Type 0} where
  from_waiting_push : (waiting : List (Option (Bor (Branch T)))) (b : Option (Bor (Branch T))) →
      from_waiting (waiting ++ b ∷ []) ≡ from_branch b ++ from_waiting waiting
  from_waiting_push [] b = sym (append-nil (from_branch b))
  from_waiting_push (x ∷ xs) b = ap (λ l. l ++ from_branch x) (from_waiting_push xs b) ∙ append_assoc (from_branch b)
      (from_waiting xs) (from_branch x)

  -- with a branch put at the depth and its left side in hand, the same items are to come as with the whole branch in
  -- hand
  pub from_waiting_more : (left : List T) (waiting : List (Option (Bor (Branch T)))) (depth : ℕ) (b : Bor (Branch T))
      (all : List T) → depth < length waiting
      → (left ++ b.now.item ∷ b.now.right.items) ++ from_waiting (take depth waiting) ≡ all →
      left ++ from_waiting (take (depth + 1) (set waiting depth (Some b))) ≡ all
  from_waiting_more left waiting depth b all h is =
      let top : from_waiting (take (depth + 1) (set waiting depth (Some b))) ≡ from_branch (Some b)
      ++ from_waiting (take depth waiting) =
      ap from_waiting (take-set_at waiting depth (depth + 1) (Some b) refl h) ∙ from_waiting_push (take depth waiting)
      (Some b) in
      ap (λ l. left ++ l) top ∙ sym (append_assoc left (b.now.item ∷ b.now.right.items)
      (from_waiting (take depth waiting))) ∙ is

  pub IsWaiting_more : (places : ℕ) (waiting : List (Option (Bor (Branch T)))) (depth : ℕ)
      (b : Option (Bor (Branch T))) → depth < length waiting
      → IsWaiting places depth waiting → WaitsAt places depth b → IsWaiting places (depth + 1) (set waiting depth b)
  IsWaiting_more places waiting depth b h waits here =
      below_more (λ k. WaitsAt places k (get_or (set waiting depth b) k None)) depth
      (λ k below. let ne : k ≢ depth = omega arith in rw get_or-set_other (waits k below))
      (rw get_or-set_same here)

  -- the branch at the top comes first
  pub from_waiting_top : (waiting : List (Option (Bor (Branch T)))) (depth : ℕ) (d : Option (Bor (Branch T)))
      (b : Option (Bor (Branch T))) → 0 < depth → depth ≤ length waiting
      → get_or waiting (depth - 1) d ≡ b → from_waiting (take depth waiting) ≡ from_branch b
      ++ from_waiting (take (depth - 1) waiting)
  from_waiting_top waiting depth d b above within is =
      let next : depth ≡ depth - 1 + 1 = omega arith in
      let below : depth - 1 < length waiting = omega arith in
      let top : take depth waiting ≡ take (depth - 1) waiting ++ b ∷ [] =
      ap (λ n. take n waiting) next ∙ (take_at_read waiting (depth - 1) d below).1
      ∙ ap (λ x. take (depth - 1) waiting ++ x ∷ []) is in
      ap from_waiting top ∙ from_waiting_push (take (depth - 1) waiting) b
