-- The line of a value is the reply's: its value has no float, and nests a few levels deep.
use Rattle.std.proofs.Common.{Ok, string_bytes}
use Rattle.pad_core.specs.declared.reply.Reply.TheVariants.{Pad}
use Rattle.wire_json.proofs.Spelled.{outcome_said}
use Rattle.wire_json.proofs.pad_reply_lines.said_line.Goals as goal

pub returns : goal.returns
returns c = outcome_said string_bytes (Ok (Pad c.args.reply.now)) c.args.value _ c.requires c.value_line.ensures
