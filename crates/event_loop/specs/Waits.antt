-- Replies that wait until what they reveal is kept.
use Rattle.std.specs.Prelude.{ℕ, Bool, true, false, nat_le, Option, Some, None}

-- whether replies may be written that wait for a number, where all that wait for at most `reached` may be
abbrev pub may_go : Option ℕ → ℕ → Bool
may_go (Some due) reached = nat_le due reached
may_go None reached = false

-- the number that a client's replies wait for, after those that wait for none yet were given one
abbrev pub due_after : Option ℕ → ℕ → Option ℕ
due_after (Some due) number = Some due
due_after None number = Some number
