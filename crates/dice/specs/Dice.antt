-- The numbers that dice give.
use Rattle.std.specs.Prelude.{ℕ, zero, suc, ◌+◌, ◌*◌, ◌/◌, ◌%◌}

-- the next state, of 64 bits (Knuth's MMIX)
abbrev pub next : ℕ → ℕ
next state = (state * 6364136223846793005 + 1442695040888963407) % 18446744073709551616

-- the number that a state gives: its upper 31 bits, reduced below the number of sides
abbrev pub face : ℕ → ℕ → ℕ
face zero state = 0
face (suc n) state = (state / 8589934592) % suc n
