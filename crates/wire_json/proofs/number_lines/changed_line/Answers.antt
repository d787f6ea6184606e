-- The line is the reply's.
use Rattle.std.proofs.Common.{arith}
use Rattle.wire_json.proofs.Spelled as told
use Rattle.wire_json.proofs.number_lines.changed_line.Goals as goal

pub returns : goal.returns
returns c = told.changed c.args.now _ c.args.hidden _ c.ranges.now.fits (omega (arith, c.ranges.origin.fits))
    c.ranges.number.fits c.ranges.hidden.fits (told.onto _ _ _ c.in_ok-line.ensures.bytes c.in_ok-writeln.ensures.bytes)
