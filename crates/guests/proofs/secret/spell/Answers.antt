use Rattle.std.proofs.Common.{ap, arith, ◌∙◌, get_or, slice_set}
use Rattle.std.proofs.lemmas.List.{get_or_default}
use Rattle.std.proofs.lemmas.List.Edits.{map_over_more}
use Rattle.guests.specs.Guests.{letter}
use Rattle.guests.proofs.secret.spell.Goals as goal

pub loop-byte-preserved : goal.loop-byte-preserved
loop-byte-preserved c =
    let bytes = c.loop-byte.bytes in
    let i = c.loop-byte.byte-index in
    let old = get_or bytes i 0 in
    ap (slice_set bytes i) c.letter-after.ensures
    ∙ map_over_more letter c.args.bytes.now bytes i old c.loop-byte-test.true c.loop-byte.invariant
    (get_or_default bytes i 0 old (omega arith))
