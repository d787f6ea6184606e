-- The line is the reply's.
use Rattle.wire_json.proofs.Spelled as told
use Rattle.wire_json.proofs.number_lines.pushed_line.Goals as goal

pub returns : goal.returns
returns c = told.pushed_told c.args.now c.args.state _ c.args.released c.args.dropped _ c.ranges.now.fits
    c.ranges.released.fits c.ranges.dropped.fits c.state_word-state.ensures
    (told.onto _ _ _ c.in_ok-line.ensures.bytes c.in_ok-writeln.ensures.bytes)
