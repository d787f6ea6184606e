use Rattle.std.proofs.Common.{sym, ap, ◌∙◌, drop_of_length-le}
use Rattle.std.specs.List.{list_all}
use Rattle.std.proofs.lemmas.List.Folds.{list_all_at}
use Rattle.pad_model.specs.Cell.{character_of}
use Rattle.pad_model.specs.Parts.{part_fits}
use Rattle.blocks.specs.Cells.{cells_of}
use Rattle.block_seq.proofs.RowReads.{passes_one}
use Rattle.block_seq.proofs.row_parts.parts_fit.Goals as goal

pub returns-then-not-one_fits : goal.returns-then-not-one_fits
returns-then-not-one_fits c = λ authors text w.
    let f = part_fits character_of (cells_of authors text c.args.tree.now.items) in
    sym (list_all_at f c.args.parts.now c.loop-part.part-index c.part-item.result c.loop-part-test.true
    (ap f (sym c.part-item.is) ∙ sym (c.one_fits.ensures authors text w) ∙ c.if-not-one_fits.true))

pub loop-part-preserved : goal.loop-part-preserved
loop-part-preserved c = λ authors text w.
    let f = part_fits character_of (cells_of authors text c.args.tree.now.items) in
    passes_one f c.args.parts.now c.loop-part.part-index c.part-item.result c.loop-part-test.true c.part-item.is
    (sym (c.one_fits.ensures authors text w) ∙ c.if-not-one_fits.false) (c.loop-part.invariant authors text w)

pub returns : goal.returns
returns c = λ authors text w.
    let f = part_fits character_of (cells_of authors text c.args.tree.now.items) in
    sym (sym (c.loop-part.invariant authors text w) ∙ ap (list_all f)
    (drop_of_length-le c.args.parts.now c.loop-part-test.false))
