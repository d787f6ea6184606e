-- The line is the reply's.
use Rattle.wire_json.proofs.Spelled as told
use Rattle.wire_json.proofs.number_lines.revs_line.Goals as goal

pub returns : goal.returns
returns c = told.revs c.args.now c.args.cells c.args.length _ c.ranges.now.fits c.ranges.cells.fits c.ranges.length.fits
    (told.onto _ _ _ c.in_ok-line.ensures.bytes c.in_ok-writeln.ensures.bytes)
