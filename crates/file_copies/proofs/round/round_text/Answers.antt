-- The loop of `round_text`: a stretch adds its bytes behind those that are there.
use Rattle.std.proofs.Common.{ℕ, List, ◌++◌, ap, sym, ◌∙◌}
use Rattle.file_copies.specs.Rounds.{stretch_bytes}
use Rattle.file_copies.proofs.Rounds.{one_more}
use Rattle.file_copies.proofs.round.round_text.Goals as goal

pub loop-stretch-preserved : goal.loop-stretch-preserved
loop-stretch-preserved c =
    let i = c.loop-stretch.stretch-index in
    let stretch = c.stretch-item.result in
    one_more c.args.round.now stretch i c.loop-stretch.bytes.items c.put_stretch.new.round.items _ (search)
    (sym c.stretch-item.is)
    (c.in_ok-put_stretch.ensures
    ∙ ap (λ (lines : List ℕ). c.loop-stretch.bytes.items ++ stretch_bytes stretch.pad stretch.from lines)
    c.as_slice.ensures.value)
    c.loop-stretch.invariant
