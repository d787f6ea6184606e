-- The line is the reply's.
use Rattle.wire_json.proofs.Spelled as told
use Rattle.wire_json.proofs.number_lines.done_line.Goals as goal

pub returns : goal.returns
returns c = told.done c.args.now _ c.ranges.now.fits
    (told.onto _ _ _ c.in_ok-line.ensures.bytes c.in_ok-writeln.ensures.bytes)
