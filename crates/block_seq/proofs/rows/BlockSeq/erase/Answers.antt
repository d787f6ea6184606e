use Rattle.std.proofs.Common.{max, drop, arith, ◌≡◌, inr, Ok, length, sym, ap, ap₂, ◌∙◌, subst, count_by}
use Rattle.std.proofs.lemmas.List.{length-map}
use Rattle.std.specs.List.{AllByRecursion}
use Rattle.pad_model.specs.Cell.{IsBy, is_hidden_by, without_spans}
use Rattle.blocks.specs.Cells.{cells_of}
use Rattle.block_seq.specs.Rows.{IsBlockSeq, killed}
use Rattle.block_seq.specs.RowAuthors.{Goes, IsAuthoredRow, MayHide, live_authors, without_hidden}
use Rattle.block_seq.specs.RowSlides.{IsSlid}
use Rattle.block_seq.proofs.RowAuthors.{authored_cut, hidden_from}
use Rattle.block_seq.proofs.RowNow.{dated_blocks}
use Rattle.block_seq.proofs.RowErase.{all_aligned, killed_count, row_killed}
use Rattle.block_seq.proofs.RowSteps.{same_cells_kept}
use Rattle.block_seq.proofs.Views.{blocks_seen, cells_seen}
use Rattle.block_seq.proofs.rows.BlockSeq.erase.Goals as goal
use Rattle.block_seq.proofs.rows.BlockSeq.erase.Goals.{After-cut_spans, After-kill_named-hidden, After-as_slice}

-- what the cuts leave
row : (c : After-cut_spans) → IsAuthoredRow c.self.inside.latest c.self.inside.clock c.self.inside.authors.items
    c.self.inside.text.items c.self.inside.slides.items c.cut_spans.new.index c.cut_spans.new.tree.items
    c.self.inside.runs.places
row c = authored_cut c.self.inside.authors.items c.self.inside.text.items c.self.inside.slides.items c.self.inside.index
    c.cut_spans.new.index c.self.inside.tree.items c.cut_spans.new.tree.items c.self.inside.runs.places c.self.invariant
    c.cut_spans.ensures.kept c.cut_spans.ensures.cells

pub invariant_of-self : goal.invariant_of-self
invariant_of-self c = row (goal.at.invariant_of-self c).After-cut_spans

pub invariant_of-self-in_err-reserve : goal.invariant_of-self-in_err-reserve
invariant_of-self-in_err-reserve c =
    let cut = row (goal.at.invariant_of-self-in_err-reserve c).After-cut_spans in
    record { row = cut.row; slid = subst (λ l. IsSlid l c.cut_spans.new.tree.items) (sym c.reserve.ensures.items) cut.slid; once = cut.once; runs = cut.runs }

pub kill_named-hidden-requires-clause-slid : goal.kill_named-hidden-requires-clause-slid
kill_named-hidden-requires-clause-slid c =
    subst (λ l. IsSlid l c.cut_spans.new.tree.items) (sym c.reserve.ensures.items)
    (row (goal.at.kill_named-hidden-requires-clause-slid c).After-cut_spans).slid

pub kill_named-hidden-requires-clause-dated : goal.kill_named-hidden-requires-clause-dated
kill_named-hidden-requires-clause-dated c =
    let cut = (row (goal.at.kill_named-hidden-requires-clause-dated c).After-cut_spans).row in
    let cells = c.cut_spans.ensures.cells.cells c.self.inside.authors.items c.self.inside.text.items
    c.self.invariant.row.within ∙ (cells_seen c.self.view_is) in
    dated_blocks c.args.rev c.self.inside.authors.items c.self.inside.text.items c.cut_spans.new.tree.items cut.within
    cut.kept.listed.sized (subst (AllByRecursion (IsBy c.args.rev)) (sym cells) c.requires.latest)

done : (c : After-kill_named-hidden) → (IsBlockSeq (max c.self.inside.latest c.args.rev) c.self.inside.clock
    c.self.inside.authors.items c.self.inside.text.items c.cut_spans.new.index c.kill_named-hidden.new.tree.items
    × (cells_of c.self.inside.authors.items c.self.inside.text.items c.kill_named-hidden.new.tree.items
    ≡ without_spans c.args.rev c.args.spans.now c.args.self.now.cells))
    × (c.kill_named-hidden.result ≡ count_by (is_hidden_by c.args.spans.now) c.args.self.now.cells)
done c =
    let cut = same_cells_kept c.self.inside.authors.items c.self.inside.text.items c.self.inside.index
    c.cut_spans.new.index c.self.inside.tree.items c.cut_spans.new.tree.items c.self.invariant.row
    c.cut_spans.ensures.kept c.cut_spans.ensures.cells in
    let is = cut.1 ∙ (cells_seen c.self.view_is) in (
      row_killed (max c.self.inside.latest c.args.rev) c.args.rev c.args.spans.now c.self.inside.authors.items
          c.self.inside.text.items c.cut_spans.new.index c.cut_spans.new.tree.items c.kill_named-hidden.new.tree.items
          c.args.self.now.cells (omega arith) (omega arith) cut.0 is c.in_ok-cut_spans.ensures.cut
          c.kill_named-hidden.ensures.kept c.kill_named-hidden.ensures.items,
      c.kill_named-hidden.ensures.hidden
          ∙ sym (killed_count c.args.spans.now c.self.inside.authors.items c.self.inside.text.items
          c.cut_spans.new.tree.items cut.0.within
          (all_aligned c.cut_spans.new.index c.cut_spans.new.tree.items c.args.spans.now cut.0.kept.listed
          c.in_ok-cut_spans.ensures.cut))
          ∙ ap (count_by (is_hidden_by c.args.spans.now)) is,
    )

-- what the slides of the deaths do to the places
hides : (c : After-as_slice) → c.self.inside.runs.places ≡ live_authors c.cut_spans.new.tree.items →
    Goes without_hidden MayHide c.self.inside.runs.places (drop c.len-known.result c.as_slice.result.now)
    (live_authors c.kill_named-hidden.new.tree.items)
hides c is =
    hidden_from c.reserve.new.self.items c.kill_named-hidden.new.slides.items c.as_slice.result.now
    c.cut_spans.new.tree.items c.kill_named-hidden.new.tree.items c.self.inside.runs.places c.len-known.result is
    c.as_slice.ensures.value (c.len-known.ensures ∙ c.reserve.new.self.ok.0) c.kill_named-hidden.ensures.authors

pub follow_hidden-requires-clause-goes : goal.follow_hidden-requires-clause-goes
follow_hidden-requires-clause-goes c =
    let g = goal.at.follow_hidden-requires-clause-goes c in
    (live_authors c.kill_named-hidden.new.tree.items, hides g.After-as_slice (row g.After-cut_spans).runs)

pub invariant_of-self-2 : goal.invariant_of-self-2
invariant_of-self-2 c = let g = goal.at.invariant_of-self-2 c in record {
  row = subst (λ n. IsBlockSeq n c.self.inside.clock c.self.inside.authors.items c.self.inside.text.items
      c.cut_spans.new.index c.kill_named-hidden.new.tree.items) (sym c.max-self-inside.ensures)
      (done g.After-kill_named-hidden).0.0;
  slid = c.kill_named-hidden.ensures.slid;
  once = c.self.invariant.once;
  runs = c.follow_hidden.ensures (live_authors c.kill_named-hidden.new.tree.items)
      (hides g.After-as_slice (row g.After-cut_spans).runs);
}

pub returns-clause-answers : goal.returns-clause-answers
returns-clause-answers c =
    let d = done (goal.at.returns-clause-answers c).After-kill_named-hidden in
    inr (ap₂ (λ n l. (Ok n, l)) (sym d.1) (sym d.0.1))

pub returns-in_err-cut_spans-clause-blocks : goal.returns-in_err-cut_spans-clause-blocks
returns-in_err-cut_spans-clause-blocks c = let seen = blocks_seen c.self.view_is in
    omega (arith, seen, c.cut_spans.ensures.more)

pub returns-in_err-reserve-clause-blocks : goal.returns-in_err-reserve-clause-blocks
returns-in_err-reserve-clause-blocks c = let seen = blocks_seen c.self.view_is in
    omega (arith, seen, c.cut_spans.ensures.more)

pub returns-clause-blocks : goal.returns-clause-blocks
returns-clause-blocks c =
    let seen = blocks_seen c.self.view_is in
    let size = ap length c.kill_named-hidden.ensures.items
    ∙ length-map c.cut_spans.new.tree.items (killed c.args.rev c.args.spans.now) in
    omega (arith, seen, size, c.cut_spans.ensures.more)
