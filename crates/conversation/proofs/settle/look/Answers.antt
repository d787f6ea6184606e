use Rattle.std.proofs.Common.{refl}
use Rattle.conversation.proofs.Rests.{looks_rest}
use Rattle.conversation.proofs.settle.look.Goals as goal

pub returns-clause-formed : goal.returns-clause-formed
returns-clause-formed g c = c.step.ensures.formed c.args.cell refl

pub returns-clause-rest : goal.returns-clause-rest
returns-clause-rest g c =
    looks_rest c.args.server.now c.step.new.self c.args.actor c.args.cell c.step.result c.requires c.step.ensures.served
