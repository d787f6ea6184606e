-- Bytes that arrive at the back and are taken from the front.
use Rattle.std.specs.Prelude.{ℕ, List, length}
use Rattle.std.specs.List.{refill}

-- a buffer of bytes as callers see it: those that wait, those that were taken last, how many are held in all, with those that
-- were taken before, and how many more there is room for
pub record Buffered : Type 0 where
  pub waiting : List ℕ
  pub taken : List ℕ
  pub held : ℕ
  pub room : ℕ

-- a buffer with these bytes in place of as many that wait
abbrev pub with_waiting : Buffered → List ℕ → Buffered
with_waiting old bytes = record {
  waiting = refill (length old.waiting) old.waiting bytes;
  taken = old.taken;
  held = old.held;
  room = old.room;
}
