-- A number is there just where the value has one.
use Rattle.std.proofs.Common.{refl, sym}
use Rattle.wire_json.proofs.field.number.Goals as goal

pub returns-in-Some : goal.returns-in-Some
returns-in-Some c = sym c.in-Some.ensures

pub returns-in-None : goal.returns-in-None
returns-in-None c = (refl, sym c.in-None.ensures)
