-- How readers and writers count their failures.
use Rattle.std.specs.Prelude.{ℕ, ◌+◌, ◌-◌, ◌^◌, min, ◌&&◌, ◌==◌, nat_lt, if◌then◌else◌, List, length, Result, Ok, Err}
use Rattle.wire_lines.specs.declared.device.ReadError.{ReadError}
use Rattle.wire_lines.specs.declared.device.ReadError.TheVariants.{Interrupted, Failed}
use Rattle.wire_lines.specs.declared.device.WriteError.{WriteError}

-- one more, at most the greatest u64
abbrev pub one_more : ℕ → ℕ
one_more count = min (count + 1) (2 ^ 64 - 1)

-- the failures after a read: one more if it failed
abbrev pub after_read : Result ℕ ReadError → ℕ → ℕ
after_read (Ok count) failures = failures
after_read (Err Interrupted) failures = failures
after_read (Err Failed) failures = one_more failures

-- the failures after a write: one more if it failed, or took none of the bytes offered
abbrev pub after_write : Result ℕ WriteError → List ℕ → ℕ → ℕ
after_write (Ok count) bytes failures = if count == 0 && nat_lt 0 (length bytes)
    then one_more failures else failures
after_write (Err error) bytes failures = one_more failures

-- the failures after a flush: one more if it failed
abbrev pub after_flush : Result (Unit {0}) WriteError → ℕ → ℕ
after_flush (Ok done) failures = failures
after_flush (Err error) failures = one_more failures
