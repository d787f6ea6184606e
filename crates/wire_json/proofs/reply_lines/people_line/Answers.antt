use Rattle.std.proofs.Common.{Ok, string_bytes}
use Rattle.pad_core.specs.declared.reply.Reply.TheVariants.{People}
use Rattle.wire_json.proofs.Spelled.{outcome_said}
use Rattle.wire_json.proofs.reply_lines.people_line.Goals as goal

pub returns : goal.returns
returns c = outcome_said string_bytes (Ok (People c.args.people.now)) c.people_value.result _ c.people_value.ensures
    c.value_line.ensures
