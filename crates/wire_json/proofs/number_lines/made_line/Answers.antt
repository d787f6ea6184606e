-- The line is the reply's.
use Rattle.std.proofs.Common.{arith}
use Rattle.wire_json.proofs.Spelled as told
use Rattle.wire_json.proofs.number_lines.made_line.Goals as goal

pub returns : goal.returns
returns c = told.made c.args.now _ _ c.ranges.now.fits (omega (arith, c.ranges.origin.fits)) c.ranges.number.fits
    (told.onto _ _ _ c.in_ok-line.ensures.bytes c.in_ok-writeln.ensures.bytes)
