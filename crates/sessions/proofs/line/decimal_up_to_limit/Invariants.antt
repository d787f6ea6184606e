-- The loop of `decimal_up_to_limit`: the number is that of the digits so far, or 65536 where they make more.
use Rattle.std.proofs.Common.{◌≡◌, take, min}
use Rattle.sessions.specs.AccountsFile.{decimal}
use Rattle.sessions.proofs.line.decimal_up_to_limit.Given as goal

abbrev pub invariant-loop-digit : goal.invariant-loop-digit
invariant-loop-digit l = l.number ≡ min (decimal (take l.digit-index l.digits)) 65536
