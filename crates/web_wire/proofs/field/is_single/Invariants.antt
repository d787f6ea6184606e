use Rattle.std.proofs.Common.{◌≡◌, drop}
use Rattle.std.specs.Prelude.{if◌then◌else◌, not, is_some}
use Rattle.websocket.specs.Headers.{fields_of, header_value}
use Rattle.web_wire.specs.Fields.{is_single}
use Rattle.web_wire.proofs.field.is_single.Given as goal

abbrev pub invariant-loop-span : goal.invariant-loop-span
invariant-loop-span l =
    is_single (fields_of l.input l.fields) l.name ≡ (if l.is_found
    then not (is_some (header_value (fields_of l.input (drop l.span-index l.fields)) l.name))
    else is_single (fields_of l.input (drop l.span-index l.fields)) l.name)
