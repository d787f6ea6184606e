-- When the operations of a pad were made here, or heard of, and in which visit.
use Rattle.std.specs.Prelude.{ℕ, ◌-◌, List, length, max}
use Rattle.op_log.specs.Made.{Made, more}
use Rattle.op_log.specs.Times.{last_time}
use Rattle.pad_model.specs.declared.op.Op.{Op}

-- the time of an operation that is appended now: that of the clock, or the last time if the clock went back
abbrev pub time_now : ℕ → List ℕ → ℕ
time_now clock times = max clock (last_time times)

-- what is kept of the operations once a log has grown in a visit: each operation that it got has the time of now, and
-- this visit
abbrev pub timed : ℕ → ℕ → List Op → List Op → Made → Made
timed clock visit old new made = more (length new - length old) (time_now clock made.times) visit made
