use Rattle.std.proofs.Common.{◌≡◌, drop, map, string_bytes}
use Rattle.std.specs.List.{list_any}
use Rattle.websocket.specs.Headers.{eq_ignore_case}
use Rattle.web_wire.proofs.origin.is_allowed.Given as goal

abbrev pub invariant-loop-one : goal.invariant-loop-one
invariant-loop-one l =
    list_any (λ one. eq_ignore_case l.origin one) (map string_bytes l.allowed)
    ≡ list_any (λ one. eq_ignore_case l.origin one) (map string_bytes (drop l.one-index l.allowed))
