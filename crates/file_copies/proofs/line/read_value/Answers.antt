-- A line that is no UTF-8, or that serde_json refuses, has no value.
use Rattle.std.proofs.Common.{refl, sym, inr, true≢false}
use Rattle.wire_json.proofs.Values.{value_of_text, no_value}
use Rattle.file_copies.proofs.line.read_value.Goals as goal

pub returns-in-Ok : goal.returns-in-Ok
returns-in-Ok c = let h = c.in-Ok.ensures.ok in value_of_text c.args.line.now _ h.0 h.1

pub returns-in-Err-2 : goal.returns-in-Err-2
returns-in-Err-2 c = inr (
  refl,
  no_value c.args.line.now
      (c.in-Err.ensures.err (λ m. true≢false (sym (c.if-is_memory.ensures.1 m)))),
)
