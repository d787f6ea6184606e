use Rattle.std.proofs.Common.{arith, sym}
use Rattle.op_log.proofs.Marks.{last_is, some_behind}
use Rattle.op_log.proofs.track.last_of.Goals as goal

pub returns-in-Some : goal.returns-in-Some
returns-in-Some c =
    let is = sym c.in-Some.ensures.value in
    sym (last_is c.args.marks.now _ 0 c.in-Some.mark.now
    (omega (arith, some_behind c.args.marks.now _ c.in-Some.mark.now is)) is)
