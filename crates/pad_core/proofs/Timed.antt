-- Each operation that a step adds gets the time and the visit of that step.
use Rattle.std.proofs.Common.{◌≡◌, ℕ, ◌+◌, ◌-◌, ◌++◌, List, length, sym, ap, ap₂, ◌∙◌, arith, append-nil, length-append}
use Rattle.op_log.specs.Made.{Made, more}
use Rattle.pad_model.specs.declared.op.Op.{Op}
use Rattle.pad_core.specs.Machine.{Machine}
use Rattle.pad_core.specs.Times.{time_now, timed}

-- no more operations leave what is known as it was
pub none_more : (at visit : ℕ) (made : Made) → more 0 at visit made ≡ made
none_more at visit made =
    ap₂ (λ (times visits : List ℕ). (let m : Made = record { times = times; visits = visits } in m))
    (append-nil made.times) (append-nil made.visits)

-- where the log stays, so does what is known of its operations
pub timed_same : (clock visit : ℕ) (log : List Op) (made : Made) → timed clock visit log log made ≡ made
timed_same clock visit log made =
    let none : length log - length log ≡ 0 = omega arith in
    ap (λ n. more n (time_now clock made.times) visit made) none ∙ none_more (time_now clock made.times) visit made

-- where operations are added, each has the time of now, and the visit
pub timed_more : (clock visit : ℕ) (log added : List Op) (made : Made) →
    timed clock visit log (log ++ added) made ≡ more (length added) (time_now clock made.times) visit made
timed_more clock visit log added made =
    let all : length (log ++ added) ≡ length log + length added = length-append log added in
    let few : length (log ++ added) - length log ≡ length added = omega (arith, all) in
    ap (λ n. more n (time_now clock made.times) visit made) few

-- what is known after a step in a visit is what was known before it, and the time and visit of each operation that it added
abbrev pub Times : ℕ → Machine → Machine → Type 0
Times visit old after = after.made ≡ timed old.clock visit old.log after.log old.made

pub same_times : (visit : ℕ) (m : Machine) → Times visit m m
same_times visit m = sym (timed_same m.clock visit m.log m.made)
