use Rattle.std.proofs.Common.{suc}
use Rattle.conversation.proofs.Ends.{moves_fewer}
use Rattle.conversation.proofs.Rests.{moves_leave, rests}
use Rattle.conversation.proofs.settle.finish.Goals as goal

pub loop-told-smaller : goal.loop-told-smaller
loop-told-smaller g c = moves_fewer c.loop-told.server c.args.actor c.step.result c.step.new.self c.step.ensures.served
    c.in-Scanning.is

pub loop-told-preserved : goal.loop-told-preserved
loop-told-preserved g c =
    let leaves = moves_leave c.loop-told.server c.step.new.self c.args.actor c.step.result c.loop-told.invariant.busy
    c.step.ensures.served in
    let moves = c.loop-told.invariant.moves in
    record {
      busy = rw c.in-Scanning.is at leaves;
      moves = (suc moves.0, (c.loop-told.server, moves.1, rw c.in-Scanning.is at c.step.ensures.served));
    }

pub returns-in_default : goal.returns-in_default
returns-in_default g c =
    let leaves = moves_leave c.loop-told.server c.step.new.self c.args.actor c.step.result c.loop-told.invariant.busy
    c.step.ensures.served in
    let answered = rests c.args.actor c.step.result c.step.new.self c.in_default.not-Scanning leaves in
    let moves = c.loop-told.invariant.moves in
    record {
      finishes = (moves.0, c.loop-told.server, moves.1, c.step.ensures.served, answered.0);
      rest = answered.1;
    }
