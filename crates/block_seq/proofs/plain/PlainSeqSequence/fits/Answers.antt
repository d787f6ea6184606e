use Rattle.std.proofs.Common.{sym}
use Rattle.block_seq.proofs.Applied.{spans_checked, parts_fit-view}
use Rattle.block_seq.proofs.Kept.{distinct_kept}
use Rattle.block_seq.proofs.plain.PlainSeqSequence.fits.Goals as goal

pub each_fits-requires-clause-distinct : goal.each_fits-requires-clause-distinct
each_fits-requires-clause-distinct c = distinct_kept c.self.inside.authors.items c.self.inside.cells.items
    c.as_slice.result.now c.self.invariant c.as_slice.ensures.value

pub each_fits-requires-clause-checked : goal.each_fits-requires-clause-checked
each_fits-requires-clause-checked c = spans_checked c.args._origin c.args.parts.now c.requires.checked

pub returns : goal.returns
returns c =
    sym (parts_fit-view c.self.inside.authors.items c.self.inside.cells.items c.as_slice.result.now c.args.self.now
    c.args.parts.now c.each_fits.result c.self.view_is c.as_slice.ensures.value c.each_fits.ensures)
