use Rattle.std.proofs.Common.{rules}
use Rattle.sessions.proofs.Lines.{name_is_word}
use Rattle.sessions.proofs.line.name_text.Goals.{in_default-via-in-Some+else-is_well_formed_name, in_default-via-in_default}
use Rattle.sessions.proofs.line.name_text.Goals as goal

pub returns-in_default : goal.returns-in_default
returns-in_default c = elim c.in_default.branch [
  | in_default-via-in-Some+else-is_well_formed_name w ↦ search rules
  | in_default-via-in_default w ↦ search (rules, name_is_word)
]
