-- The state that a connection leaves.
use Rattle.std.proofs.Common.{ℕ, List, Option, Result, Ok, Err}
use Rattle.std.specs.Prelude.{IfOk, OnErr}
use Rattle.pad_core.specs.declared.request.Request.{Request}
use Rattle.wire_lines.specs.declared.fault.Fault.{Fault}
use Rattle.conversation.specs.Connection.{BreaksOff, ServesAll, ThenEnds}
use Rattle.thread_tests.specs.Pool.{ServesConnection}
use Rattle.conversation.specs.Session.{Answer}
use Rattle.conversation.specs.declared.served.Served.{Served}

-- lines were answered, and then the session was ended, whatever the bytes are
pub was_served : {P : Type 0} (calls : P → Request → Answer → P → Type 0) (ends : P → P → Type 0) (old new : P)
    (known before after : Option (List ℕ)) (result : Result Served Fault)
    → IfOk result (λ served. ThenEnds (ServesAll calls old known served before after) ends new)
    → OnErr result (ThenEnds (BreaksOff calls old known before after) ends new) → ServesConnection calls ends old new
was_served calls ends old new known before after (Ok served)
    (last, (asked, answers, tail, serves, whole, counted, written), ended) broken =
    (asked, answers, last, serves, ended)
was_served calls ends old new known before after (Err fault) all (
  last,
  (asked, answers, tail, count, serves, front, written),
  ended,
) = (asked, answers, last, serves, ended)
