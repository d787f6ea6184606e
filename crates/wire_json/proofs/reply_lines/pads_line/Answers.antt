use Rattle.std.proofs.Common.{Ok, string_bytes}
use Rattle.pad_core.specs.declared.reply.Reply.TheVariants.{Pads}
use Rattle.wire_json.proofs.Spelled.{outcome_said}
use Rattle.wire_json.proofs.reply_lines.pads_line.Goals as goal

pub returns : goal.returns
returns c = outcome_said string_bytes (Ok (Pads c.args.pads.now)) c.pads_value.result _ c.pads_value.ensures
    c.value_line.ensures
