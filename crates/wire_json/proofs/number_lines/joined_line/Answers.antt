-- The line is the reply's.
use Rattle.wire_json.proofs.Spelled as told
use Rattle.wire_json.proofs.number_lines.joined_line.Goals as goal

pub returns : goal.returns
returns c = told.joined c.args.now c.args.visit _ c.ranges.now.fits c.ranges.visit.fits
    (told.onto _ _ _ c.in_ok-line.ensures.bytes c.in_ok-writeln.ensures.bytes)
