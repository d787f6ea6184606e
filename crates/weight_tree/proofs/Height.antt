-- How low a balanced tree is.
use Rattle.std.proofs.Common.{◌≡◌, ℕ, suc, zero, ◌+◌, ◌*◌, ◌^◌, ◌<◌, ◌≤◌, ◌-◌, max, arith, lit<, inl, inr}
use Rattle.std.proofs.Math.Nat.{pow-suc, mul-le-mul_left, max-eq_left, max-eq_right}
use Rattle.std.proofs.lemmas.Bool.{cases_lt}
use Rattle.weight_tree.specs.Balance.{IsBalanced, IsLow}

-- a branch over a low side is low if the other side has a third of its weight
low_step : (h n m : ℕ) → IsLow h n → n + 1 ≤ 3 * (m + 1) → IsLow (suc h) (n + m + 1)
low_step h n m low third =
    let weights : 4 * (n + 1) ≤ 3 * (n + m + 1 + 1) = omega arith in
    let four : 4 ^ suc h ≡ 4 ^ h * 4 = pow-suc 4 h in
    let three : 3 ^ suc h ≡ 3 ^ h * 3 = pow-suc 3 h in
    let scaled : 3 ^ h * (4 * (n + 1)) ≤ 3 ^ h * (3 * (n + m + 1 + 1)) = mul-le-mul_left (3 ^ h) weights in
    rw (four, three) (omega arith)

-- a branch over two low sides that are balanced is low
pub low_join : (hl hr nl nr : ℕ) → IsLow hl nl → IsLow hr nr → IsBalanced nl nr → IsLow (max hl hr + 1) (nl + nr + 1)
low_join hl hr nl nr low_left low_right balanced =
    elim (cases_lt hl hr) [
      | inl less ↦
          let is : max hl hr + 1 ≡ suc hr = rw (max-eq_right {n = hl} {m = hr} (omega arith)) (omega arith) in
          let sizes : nl + nr + 1 ≡ nr + nl + 1 = omega arith in
          rw (is, sizes) (low_step hr nr nl low_right balanced.1)
      | inr more ↦
          let is : max hl hr + 1 ≡ suc hl = rw (max-eq_left more) (omega arith) in
          rw is (low_step hl nl nr low_left balanced.0)
    ]

-- a low tree that is 155 high or more would have more items than 64 bits count
too_high : (k : ℕ) → 3 ^ (k + 155) * 2 ^ 64 < 4 ^ (k + 155)
too_high zero = lit< tt
too_high (suc k) =
    let e : suc k + 155 ≡ suc (k + 155) = omega arith in
    let four : 4 ^ suc (k + 155) ≡ 4 ^ (k + 155) * 4 = pow-suc 4 (k + 155) in
    let three : 3 ^ suc (k + 155) ≡ 3 ^ (k + 155) * 3 = pow-suc 3 (k + 155) in
    let before = too_high k in
    rw (e, four, three) (omega (arith, before))

-- so a low tree is at most 154 high
pub low_bound : (h n : ℕ) → IsLow h n → n < 2 ^ 64 → h ≤ 154
low_bound h n low fits =
    elim (cases_lt 154 h) [
      | inl high ↦
          let is : h ≡ (h - 155) + 155 = omega arith in
          let more : 3 ^ h * 2 ^ 64 < 4 ^ h = rw is (too_high (h - 155)) in
          let room : n + 1 ≤ 2 ^ 64 = omega arith in
          let scaled : 3 ^ h * (n + 1) ≤ 3 ^ h * 2 ^ 64 = mul-le-mul_left (3 ^ h) room in
          absurd (omega arith)
      | inr low_enough ↦ low_enough
    ]
