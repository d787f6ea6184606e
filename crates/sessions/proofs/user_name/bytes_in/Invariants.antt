-- The loop of `bytes_in`: what the letters so far lead to.
use Rattle.std.proofs.Common.{◌≡◌, take}
use Rattle.std.specs.Prelude.{fold}
use Rattle.sessions.specs.UserNames.{read, unread}
use Rattle.sessions.proofs.user_name.bytes_in.Given as goal

abbrev pub invariant-loop-letter : goal.invariant-loop-letter
invariant-loop-letter l = l.reading ≡ fold read unread (take l.letter-index l.name)
