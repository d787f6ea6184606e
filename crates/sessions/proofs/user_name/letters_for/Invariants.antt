-- The loop of `letters_for`: the letters of the bytes so far.
use Rattle.std.proofs.Common.{◌≡◌, take}
use Rattle.sessions.specs.UserNames.{name_for}
use Rattle.sessions.proofs.user_name.letters_for.Given as goal

abbrev pub invariant-loop-byte : goal.invariant-loop-byte
invariant-loop-byte l = l.letters.items ≡ name_for (take l.byte-index l.user)
