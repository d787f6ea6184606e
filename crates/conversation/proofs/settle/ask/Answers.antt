use Rattle.std.proofs.Common.{inl}
use Rattle.server_core.specs.declared.step.Step.TheVariants.{Ask}
use Rattle.conversation.proofs.Rests.{step_leaves, rests}
use Rattle.conversation.proofs.settle.ask.Goals as goal

pub finish-requires : goal.finish-requires
finish-requires g c =
    let leaves = step_leaves c.args.server.now c.ask.new.self c.args.actor (Ask c.args.request.now) c.ask.result
    c.requires tt c.ask.ensures in
    rw c.in-Scanning.is at leaves

pub returns-in_default : goal.returns-in_default
returns-in_default g c =
    let leaves = step_leaves c.args.server.now c.ask.new.self c.args.actor (Ask c.args.request.now) c.ask.result
    c.requires tt c.ask.ensures in
    let answered = rests c.args.actor c.ask.result c.ask.new.self c.in_default.not-Scanning leaves in
    record {
      made = inl (c.ask.ensures, answered.0);
      answer = answered.0;
      rest = answered.1;
    }
