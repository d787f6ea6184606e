use Rattle.std.proofs.Common.{sym, ◌∙◌}
use Rattle.pad_core.proofs.Judged.{fits_edits, fits_notes}
use Rattle.pad_core.proofs.judge.is_valid.Goals as goal

pub returns-then-is_edit : goal.returns-then-is_edit
returns-then-is_edit g c = fits_edits (g.S.Sequence.cells c.args.sequence.now) c.args.comments.now c.args.op.now.parts
    c.as_slice.result.now c.fits.result (sym c.is_edit.ensures ∙ c.if-is_edit.true) c.as_slice.ensures c.fits.ensures

pub returns : goal.returns
returns g c = fits_notes (g.S.Sequence.cells c.args.sequence.now) c.args.comments.now c.args.op.now.parts
    c.as_slice-2.result.now c.are_notes.result (sym c.is_edit.ensures ∙ c.if-is_edit.false) c.as_slice-2.ensures
    c.are_notes.ensures
