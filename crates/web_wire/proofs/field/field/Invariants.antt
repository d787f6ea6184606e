use Rattle.std.proofs.Common.{◌≡◌, drop}
use Rattle.websocket.specs.Headers.{fields_of, header_value}
use Rattle.web_wire.proofs.field.field.Given as goal

abbrev pub invariant-loop-span : goal.invariant-loop-span
invariant-loop-span l =
    header_value (fields_of l.input l.fields) l.name ≡ header_value (fields_of l.input (drop l.span-index l.fields)) l.name
