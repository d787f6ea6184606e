use Rattle.std.proofs.Common.{inl}
use Rattle.conversation.proofs.Rests.{step_leaves, rests}
use Rattle.conversation.proofs.settle.make.Goals as goal

pub finish-requires : goal.finish-requires
finish-requires g c =
    let leaves = step_leaves c.args.server.now c.step.new.self c.args.actor c.args.step.now c.step.result
    c.requires.rest c.requires.call c.step.ensures.served in
    rw c.in-Scanning.is at leaves

pub returns-in_default : goal.returns-in_default
returns-in_default g c =
    let leaves = step_leaves c.args.server.now c.step.new.self c.args.actor c.args.step.now c.step.result
    c.requires.rest c.requires.call c.step.ensures.served in
    let answered = rests c.args.actor c.step.result c.step.new.self c.in_default.not-Scanning leaves in
    record {
      made = inl (c.step.ensures.served, answered.0);
      answer = answered.0;
      rest = answered.1;
    }
