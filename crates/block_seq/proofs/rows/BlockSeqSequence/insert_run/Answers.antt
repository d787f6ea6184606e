use Rattle.std.proofs.Common.{◌≡◌, Bool, true, false, inr, length, sym, ap, ◌∙◌, subst, arith}
use Rattle.pad_model.specs.Answers.{Answers}
use Rattle.pad_model.specs.Cell.{character_of}
use Rattle.pad_model.specs.Log.{run_may_join}
use Rattle.pad_model.proofs.Cells.{insert_run-fault, insert_run-full, insert_run-ok}
use Rattle.block_seq.proofs.BlockCells.{length-cells}
use Rattle.block_seq.proofs.Views.{cells_seen}
use Rattle.block_seq.proofs.rows.BlockSeqSequence.insert_run.Goals as goal
use Rattle.block_seq.proofs.rows.BlockSeqSequence.insert_run.Goals.{After-run_fits}

-- whether the run may join the cells
fit : (c : After-run_fits) (b : Bool) → c.run_fits.result ≡ b →
    run_may_join character_of c.args.self.now.cells c.args.run.now.first c.args.run.now.after ≡ b
fit c b e =
    ap (λ l. run_may_join character_of l c.args.run.now.first c.args.run.now.after) (sym (cells_seen c.self.view_is))
    ∙ sym (c.run_fits.ensures c.self.inside.authors.items c.self.inside.text.items c.self.invariant.row.within) ∙ e

-- the cells fill the text
size : (c : After-run_fits) → length c.args.self.now.cells ≡ length c.self.inside.text.items
size c = ap length (sym (cells_seen c.self.view_is)) ∙ length-cells c.self.inside.authors.items c.self.inside.text.items
    c.self.inside.tree.items c.self.invariant.row.within ∙ sym c.self.invariant.row.full

pub returns-then-not-run_fits-clause-answers : goal.returns-then-not-run_fits-clause-answers
returns-then-not-run_fits-clause-answers c =
    let a = (goal.at.returns-then-not-run_fits-clause-answers c).After-run_fits in
    inr (insert_run-fault c.args.rev c.args.run.now c.args.author.now c.args.self.now.cells
    (fit a false c.if-not-run_fits.true))

pub returns-then-len-gt-MAX_CHARACTERS-clause-answers : goal.returns-then-len-gt-MAX_CHARACTERS-clause-answers
returns-then-len-gt-MAX_CHARACTERS-clause-answers c =
    let a = (goal.at.returns-then-len-gt-MAX_CHARACTERS-clause-answers c).After-run_fits in
    let s = size a in
    inr (insert_run-full c.args.rev c.args.run.now c.args.author.now c.args.self.now.cells
    (fit a true c.if-not-run_fits.false) (omega (arith, s, c.self.inside.text.ok.0)))

pub put-requires-clause-fits : goal.put-requires-clause-fits
put-requires-clause-fits c = fit (goal.at.put-requires-clause-fits c).After-run_fits true c.if-not-run_fits.false

pub put-requires-clause-room : goal.put-requires-clause-room
put-requires-clause-room c = let s = size (goal.at.put-requires-clause-room c).After-run_fits in
    omega (arith, s, c.self.inside.text.ok.0)

pub returns-clause-answers : goal.returns-clause-answers
returns-clause-answers c =
    let g = goal.at.returns-clause-answers c in
    let s = size g.After-run_fits in
    subst (λ x. Answers c.args.self.now.cells x c.put.result c.put.new.self.cells)
    (sym (insert_run-ok c.args.rev c.args.run.now c.args.author.now c.args.self.now.cells
    (fit g.After-run_fits true c.if-not-run_fits.false) (omega (arith, s, c.self.inside.text.ok.0))))
    c.put.ensures.answers
