use Rattle.std.proofs.Common.{sym, ap, ◌∙◌}
use Rattle.op_log.proofs.Kept.{marks_at, marks_nowhere}
use Rattle.op_log.proofs.index.marks_of.Goals as goal

pub returns-in-Some : goal.returns-in-Some
returns-in-Some c ops index =
    c.as_slice.ensures.value ∙ ap (λ t. t.marks.items) (sym c.index-tracks-at.is)
    ∙ marks_at c.args.tracks.now c.in-Some.at c.index-tracks-at.result c.args.origin ops c.index-tracks-at.is
    (sym c.in-Some.ensures) index

pub returns-in-None : goal.returns-in-None
returns-in-None c ops index = sym (marks_nowhere c.args.tracks.now c.args.origin ops (sym c.in-None.ensures) index)
