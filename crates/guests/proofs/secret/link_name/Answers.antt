use Rattle.std.proofs.Common.{ap, ◌∙◌}
use Rattle.pad_model.specs.Checked.{is_name}
use Rattle.guests.proofs.Made.{link_named}
use Rattle.guests.proofs.secret.link_name.Goals as goal

pub name_of-requires : goal.name_of-requires
name_of-requires c = ap is_name c.link_bytes.ensures ∙ link_named c.as_bytes.result.now
