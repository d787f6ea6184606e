-- A text that is no UTF-8, or that serde_json refuses, has no value.
use Rattle.std.proofs.Common.{sym, true≢false}
use Rattle.wire_json.proofs.Values.{value_of_text, no_value}
use Rattle.store_format.proofs.entry.value_of.Goals as goal

pub returns-in-Ok : goal.returns-in-Ok
returns-in-Ok c = let h = c.in-Ok.ensures.ok in value_of_text c.args.text.now _ h.0 h.1

pub returns-in-Err-2 : goal.returns-in-Err-2
returns-in-Err-2 c = no_value c.args.text.now (c.in-Err.ensures.err (λ m. true≢false (sym (c.if-is_memory.ensures.1 m))))
