use Rattle.guests.proofs.Made.{name_is_text}
use Rattle.guests.proofs.secret.name_of.Goals as goal

pub unreachable-requires : goal.unreachable-requires
unreachable-requires c = c.in-Err.ensures.cases.0 (name_is_text c.args.bytes.now c.requires)
