use Rattle.std.proofs.Common.{ap, subst}
use Rattle.server_core.specs.declared.step.Step.TheVariants.{End}
use Rattle.conversation.specs.Calls.{Alone, Made}
use Rattle.conversation.proofs.alone.AlonePads.end.Goals as goal

pub returns : goal.returns
returns g c = (
  c.make-ended.result,
  subst (λ (o : Alone). Made o.server o.actor End c.make-ended.result c.make-ended.new.server)
      c.self.view_is c.make-ended.ensures.made,
  ap (λ o. o.actor) c.self.view_is,
)
