use Rattle.web_wire.proofs.Tags.{trimmed_is}
use Rattle.web_wire.proofs.plan.trimmed.Goals as goal

pub returns : goal.returns
returns c = trimmed_is c.args.text.now c.trim_ascii.result.now c.trim_ascii.ensures.value
