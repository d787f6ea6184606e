use Rattle.std.proofs.Common.{arith}
use Rattle.sessions.proofs.UserNames.{name_more}
use Rattle.sessions.proofs.user_name.letters_for.Goals as goal

pub loop-byte-preserved : goal.loop-byte-preserved
loop-byte-preserved c = name_more c.args.user.now c.loop-byte.byte-index c.loop-byte.letters.items
    c.push_letters.new.letters.items (omega (arith, c.loop-byte-test.true)) c.loop-byte.invariant
    c.in_ok-push_letters.ensures
