mod Steps
use Rattle.std.proofs.Common.{◌≡◌, ℕ, ◌+◌, ◌*◌, ◌≤◌, max, drop, true, inr, Result, Ok, List, length, map, sym, ap, ap₂, ◌∙◌}
use Rattle.std.proofs.Common.{refl, subst, arith, count_by}
use Rattle.std.proofs.lemmas.List.{length-map}
use Rattle.std.specs.List.{AllByRecursion}
use Rattle.std.specs.Result.{IsErrAnd}
use Rattle.pad_model.specs.Cell.{character_of, is_hidden_by, without_spans, IsBy, IsInOrder}
use Rattle.pad_model.specs.Log.{has_spans}
use Rattle.pad_model.specs.Parts.{with_all}
use Rattle.pad_model.specs.declared.op.Run.{Run}
use Rattle.pad_model.specs.declared.who.Author.{Author}
use Rattle.pad_model.proofs.Exits.{answers_memory}
use Rattle.blocks.specs.Cells.{author_at, cells_of}
use Rattle.blocks.proofs.Cells.{same_unlabelled, same_then}
use Rattle.block_seq.specs.RowParts.{IsCutBehind, MayPut}
use Rattle.block_seq.specs.Rows.{IsBlockSeq, IsCutOut, cells_in, killed}
use Rattle.block_seq.specs.RowAuthors.{Goes, IsAuthoredRow, MayHide, MayShow, live_authors, with_shown}
use Rattle.block_seq.specs.RowAuthors.{without_hidden}
use Rattle.block_seq.specs.RowSlides.{IsSlidRow}
use Rattle.block_seq.proofs.RowAuthors.{authored_cut, hidden_from, relabelled, shown_from}
use Rattle.block_seq.proofs.RowNow.{dated_blocks}
use Rattle.block_seq.proofs.RowSlides.{blocks_small}
use Rattle.block_seq.proofs.RowChange.{cut_out_kept, lent_checked, lent_sizes}
use Rattle.block_seq.proofs.RowErase.{all_aligned, killed_count, row_killed}
use Rattle.block_seq.proofs.RowRuns.{all_commute, all_hidden, all_later, all_lent, all_rooted, few_runs}
use Rattle.block_seq.proofs.RowSteps.{same_cells_kept}
use Rattle.block_seq.proofs.Views.{blocks_seen, cells_seen}
use Rattle.block_seq.proofs.rows.BlockSeq.change.Answers.Steps.{moved, stays, whole, cut, cut_row}
use Rattle.block_seq.proofs.rows.BlockSeq.change.Goals as goal
use Rattle.block_seq.proofs.rows.BlockSeq.change.Goals.{After-cut_parents, After-as_slice}
use Rattle.block_seq.proofs.rows.BlockSeq.change.Goals.{In_ok-clock, After-kill_named-hidden, After-as_slice-2, After-as_slice-3}

pub cut_parents-requires-clause-later : goal.cut_parents-requires-clause-later
cut_parents-requires-clause-later c = all_later (λ run. run.now) c.args.self.now.cells c.args.runs.now c.requires.fit

pub invariant_of-self : goal.invariant_of-self
invariant_of-self c =
    let old = c.self.invariant in
    record { row = old.row; slid = old.slid; once = old.once; runs = c.reserve.ensures.places ∙ old.runs }

pub invariant_of-self-in_err-cut_spans : goal.invariant_of-self-in_err-cut_spans
invariant_of-self-in_err-cut_spans c =
    let old = c.self.invariant in
    authored_cut c.self.inside.authors.items c.self.inside.text.items c.self.inside.slides.items c.self.inside.index
    c.cut_spans.new.index c.self.inside.tree.items c.cut_spans.new.tree.items c.reserve.new.self.places
    (record { row = old.row; slid = old.slid; once = old.once; runs = c.reserve.ensures.places ∙ old.runs })
    c.cut_spans.ensures.kept c.cut_spans.ensures.cells

pub invariant_of-self-in_err-cut_parents : goal.invariant_of-self-in_err-cut_parents
invariant_of-self-in_err-cut_parents c = cut_row (goal.at.invariant_of-self-in_err-cut_parents c).After-cut_parents

pub invariant_of-self-in_err-author : goal.invariant_of-self-in_err-author
invariant_of-self-in_err-author c =
    let g = goal.at.invariant_of-self-in_err-author c in
    whole g.After-place_author c.self.inside.text.items c.self.inside.slides.items c.cut_parents.new.index
    c.cut_parents.new.tree.items refl refl c.cut_parents.ensures.kept
    (cut g.After-cut_parents) (cut_row g.After-cut_parents).runs

pub returns-in_err-author-clause-answers : goal.returns-in_err-author-clause-answers
returns-in_err-author-clause-answers c =
    let g = goal.at.returns-in_err-author-clause-answers c in
    answers_memory c.from_residual-in_err-author.result c.from_residual-in_err-author.ensures.1
    (stays g.After-place_author c.self.inside.text.items refl (cut g.After-cut_parents)) refl

pub invariant_of-self-in_err-reserve-2 : goal.invariant_of-self-in_err-reserve-2
invariant_of-self-in_err-reserve-2 c =
    let g = goal.at.invariant_of-self-in_err-reserve-2 c in
    whole g.After-place_author c.reserve-2.new.self.items c.self.inside.slides.items c.cut_parents.new.index
    c.cut_parents.new.tree.items c.reserve-2.ensures.items refl
    c.cut_parents.ensures.kept (cut g.After-cut_parents) (cut_row g.After-cut_parents).runs

pub returns-in_err-reserve-2-clause-answers : goal.returns-in_err-reserve-2-clause-answers
returns-in_err-reserve-2-clause-answers c =
    let g = goal.at.returns-in_err-reserve-2-clause-answers c in
    answers_memory c.from_residual-in_err-reserve-2.result c.from_residual-in_err-reserve-2.ensures.1
    (stays g.After-place_author c.reserve-2.new.self.items c.reserve-2.ensures.items (cut g.After-cut_parents)) refl

pub invariant_of-self-in_err-reserve-3 : goal.invariant_of-self-in_err-reserve-3
invariant_of-self-in_err-reserve-3 c =
    let g = goal.at.invariant_of-self-in_err-reserve-3 c in
    whole g.After-place_author c.reserve-2.new.self.items c.reserve-3.new.self.items c.cut_parents.new.index
    c.cut_parents.new.tree.items c.reserve-2.ensures.items c.reserve-3.ensures.items
    c.cut_parents.ensures.kept (cut g.After-cut_parents) (cut_row g.After-cut_parents).runs

pub returns-in_err-reserve-3-clause-answers : goal.returns-in_err-reserve-3-clause-answers
returns-in_err-reserve-3-clause-answers c =
    let g = goal.at.returns-in_err-reserve-3-clause-answers c in
    answers_memory c.from_residual-in_err-reserve-3.result c.from_residual-in_err-reserve-3.ensures.1
    (stays g.After-place_author c.reserve-2.new.self.items c.reserve-2.ensures.items (cut g.After-cut_parents)) refl

pub returns-in_err-cut_parents-clause-answers : goal.returns-in_err-cut_parents-clause-answers
returns-in_err-cut_parents-clause-answers c =
    let same = cut (goal.at.returns-in_err-cut_parents-clause-answers c).After-cut_parents in
    answers_memory c.from_residual-in_err-cut_parents.result
    (subst (λ m. IsErrAnd c.from_residual-in_err-cut_parents.result (λ e. e ≡ m)) c.in_err-cut_parents.ensures.memory
    c.from_residual-in_err-cut_parents.ensures.1)
    ((same_cells_kept c.self.inside.authors.items c.self.inside.text.items c.self.inside.index c.cut_parents.new.index
    c.self.inside.tree.items c.cut_parents.new.tree.items c.self.invariant.row c.cut_parents.ensures.kept same).1
    ∙ (cells_seen c.self.view_is)) refl

pub overflow_add-kills : goal.overflow_add-kills
overflow_add-kills c =
    let listed = c.cut_parents.ensures.kept.listed in
    let small = blocks_small c.cut_parents.new.tree.items listed.sized in
    let few = few_runs (λ run. run.now) c.args.author.now.origin c.args.runs.now c.requires.runs in
    omega (arith, small, listed.small, c.count_kills-kills.ensures.few, few, c.requires.room)

-- the row before the runs
ready : (c : After-as_slice) →
    (whole_row : IsAuthoredRow c.self.inside.latest c.self.inside.clock c.place_author.new.authors.items
    c.reserve-2.new.self.items c.reserve-3.new.self.items c.cut_parents.new.index c.cut_parents.new.tree.items
    c.reserve.new.self.places) → (cells_of c.place_author.new.authors.items c.reserve-2.new.self.items c.cut_parents.new.tree.items
    ≡ c.args.self.now.cells) → IsSlidRow c.args.rev c.self.inside.clock c.as_slice.result.now c.reserve-2.new.self.items
    c.reserve-3.new.self.items c.cut_parents.new.index c.cut_parents.new.tree.items
ready c w seen =
    subst (λ l. IsSlidRow c.args.rev c.self.inside.clock l c.reserve-2.new.self.items c.reserve-3.new.self.items
    c.cut_parents.new.index c.cut_parents.new.tree.items) (sym c.as_slice.ensures.value)
    (record {
      row = record { kept = w.row.kept; within = w.row.within; full = w.row.full; order = w.row.order; dated = subst (AllByRecursion (IsBy c.args.rev)) (sym seen) c.requires.latest; newest = w.row.newest };
      slid = w.slid;
    })

-- its cells, and the author of the runs
seen : (c : After-as_slice) → cells_of c.place_author.new.authors.items c.reserve-2.new.self.items
    c.cut_parents.new.tree.items ≡ c.args.self.now.cells →
    cells_of c.as_slice.result.now c.reserve-2.new.self.items c.cut_parents.new.tree.items ≡ c.args.self.now.cells
seen c same = ap (λ l. cells_of l c.reserve-2.new.self.items c.cut_parents.new.tree.items) c.as_slice.ensures.value ∙ same

who : (c : After-as_slice) → author_at c.as_slice.result.now c.in_ok-author.author ≡ c.args.author.now
who c = ap (λ l. author_at l c.in_ok-author.author) c.as_slice.ensures.value ∙ c.in_ok-author.ensures.place.1

pub put_runs-requires-clause-row : goal.put_runs-requires-clause-row
put_runs-requires-clause-row c =
    let g = goal.at.put_runs-requires-clause-row c in
    ready g.After-as_slice
    (whole g.After-place_author c.reserve-2.new.self.items c.reserve-3.new.self.items c.cut_parents.new.index
    c.cut_parents.new.tree.items c.reserve-2.ensures.items c.reserve-3.ensures.items c.cut_parents.ensures.kept
    (cut g.After-cut_parents) (cut_row g.After-cut_parents).runs)
    (stays g.After-place_author c.reserve-2.new.self.items c.reserve-2.ensures.items (cut g.After-cut_parents))

pub put_runs-requires-clause-runs : goal.put_runs-requires-clause-runs
put_runs-requires-clause-runs c =
    let g = goal.at.put_runs-requires-clause-runs c in
    let same = seen g.After-as_slice (stays g.After-place_author c.reserve-2.new.self.items c.reserve-2.ensures.items (cut g.After-cut_parents)) in
    let runs = map (λ run. run.now) c.args.runs.now in
    let sizes = lent_sizes (λ run. run.now) c.args.runs.now in
    let room = c.requires.room in
    let base : MayPut c.args.rev c.args.author.now c.args.self.now.cells c.cut_parents.new.index runs = record {
      checked = sym (lent_checked (λ run. run.now) c.args.author.now.origin c.args.runs.now) ∙ c.requires.runs;
      join = c.requires.join;
      rooted = all_rooted (λ run. run.now) c.args.self.now.cells c.args.runs.now c.requires.fit;
      cut = all_lent (λ run. run.now) (λ run. IsCutBehind c.cut_parents.new.index run.after) c.args.runs.now
          c.in_ok-cut_parents.ensures.cut;
      room = omega (arith, sizes, room);
    } in
    subst (λ x. MayPut c.args.rev x (cells_of c.as_slice.result.now c.reserve-2.new.self.items
    c.cut_parents.new.tree.items) c.cut_parents.new.index runs) (sym (who g.After-as_slice))
    (subst (λ l. MayPut c.args.rev c.args.author.now l c.cut_parents.new.index runs) (sym same) base)

pub invariant_of-self-in_err-clock : goal.invariant_of-self-in_err-clock
invariant_of-self-in_err-clock c =
    let g = goal.at.invariant_of-self-in_err-clock c in
    whole g.After-place_author c.put_runs.new.text.items c.put_runs.new.slides.items c.put_runs.new.index
    c.put_runs.new.tree.items (c.in_err-clock.ensures.same_text ∙ c.reserve-2.ensures.items)
    (c.in_err-clock.ensures.same_slides ∙ c.reserve-3.ensures.items) c.put_runs.ensures.kept
    (same_then c.self.inside.tree.items c.cut_parents.new.tree.items c.put_runs.new.tree.items (cut g.After-cut_parents)
    (same_unlabelled c.cut_parents.new.tree.items c.put_runs.new.tree.items c.in_err-clock.ensures.same_blocks))
    ((cut_row g.After-cut_parents).runs
    ∙ sym (relabelled c.cut_parents.new.tree.items c.put_runs.new.tree.items c.in_err-clock.ensures.same_blocks))

pub returns-in_err-clock-clause-answers : goal.returns-in_err-clock-clause-answers
returns-in_err-clock-clause-answers c =
    let g = goal.at.returns-in_err-clock-clause-answers c in
    answers_memory c.from_residual-in_err-clock.result
    (subst (λ m. IsErrAnd c.from_residual-in_err-clock.result (λ e. e ≡ m)) c.in_err-clock.ensures.memory
    c.from_residual-in_err-clock.ensures.1)
    (moved g.After-place_author c.put_runs.new.text.items c.put_runs.new.index c.put_runs.new.tree.items
    (c.in_err-clock.ensures.same_text ∙ c.reserve-2.ensures.items) c.put_runs.ensures.kept
    (same_then c.self.inside.tree.items c.cut_parents.new.tree.items c.put_runs.new.tree.items (cut g.After-cut_parents)
    (same_unlabelled c.cut_parents.new.tree.items c.put_runs.new.tree.items c.in_err-clock.ensures.same_blocks))).1 refl

-- the spans are still cut out of the row with the runs
still_cut : (c : In_ok-clock) → cells_of c.as_slice.result.now c.reserve-2.new.self.items c.cut_parents.new.tree.items
    ≡ c.args.self.now.cells → AllByRecursion (IsCutOut c.put_runs.new.index) c.args.spans.now
still_cut c seen =
    c.in_ok-clock.ensures.cut c.args.spans.now (subst (λ l. has_spans character_of l c.args.spans.now ≡ true)
    (sym seen) c.requires.there) c.requires.spans
    (cut_out_kept c.cut_spans.new.index c.cut_parents.new.index c.args.spans.now c.cut_parents.ensures.edges
    c.in_ok-cut_spans.ensures.cut)

pub kill_named-hidden-requires-clause-cut : goal.kill_named-hidden-requires-clause-cut
kill_named-hidden-requires-clause-cut c =
    let g = goal.at.kill_named-hidden-requires-clause-cut c in
    still_cut g.In_ok-clock (seen g.After-as_slice
    (stays g.After-place_author c.reserve-2.new.self.items c.reserve-2.ensures.items (cut g.After-cut_parents)))

pub kill_named-hidden-requires-clause-dated : goal.kill_named-hidden-requires-clause-dated
kill_named-hidden-requires-clause-dated c =
    let row = c.in_ok-clock.ensures.row.row in
    dated_blocks c.args.rev c.as_slice.result.now c.put_runs.new.text.items c.put_runs.new.tree.items row.within
    row.kept.listed.sized row.dated

-- the runs
abbrev runs : (c : After-kill_named-hidden) → List Run
runs c = map (λ run. run.now) c.args.runs.now

-- the row with the runs and without what the spans name
done : (c : After-kill_named-hidden) → AllByRecursion (IsCutOut c.put_runs.new.index) c.args.spans.now →
    cells_of c.as_slice.result.now c.reserve-2.new.self.items c.cut_parents.new.tree.items ≡ c.args.self.now.cells →
    author_at c.as_slice.result.now c.in_ok-author.author ≡ c.args.author.now
    → (IsBlockSeq (max c.self.inside.latest c.args.rev) c.in_ok-clock.clock c.place_author.new.authors.items
    c.put_runs.new.text.items c.put_runs.new.index c.kill_named-hidden.new.tree.items
    × (cells_of c.place_author.new.authors.items c.put_runs.new.text.items c.kill_named-hidden.new.tree.items
    ≡ with_all c.args.rev c.args.author.now (without_spans c.args.rev c.args.spans.now c.args.self.now.cells) (runs c)))
    × (c.kill_named-hidden.result ≡ count_by (is_hidden_by c.args.spans.now) c.args.self.now.cells)
done c cut seen who =
    let authors = c.place_author.new.authors.items in
    let text = c.put_runs.new.text.items in
    let bs = c.put_runs.new.tree.items in
    let row = subst (λ l. IsBlockSeq c.args.rev c.in_ok-clock.clock l text c.put_runs.new.index bs)
    c.as_slice.ensures.value c.in_ok-clock.ensures.row.row in
    let cells : cells_of authors text bs ≡ with_all c.args.rev c.args.author.now c.args.self.now.cells (runs c) =
    ap (λ l. cells_of l text bs) (sym c.as_slice.ensures.value) ∙ c.in_ok-clock.ensures.cells
    ∙ ap₂ (λ x l. with_all c.args.rev x l (runs c)) who seen
    in
    let killed = row_killed (max c.self.inside.latest c.args.rev) c.args.rev c.args.spans.now authors text
    c.put_runs.new.index bs c.kill_named-hidden.new.tree.items
    (with_all c.args.rev c.args.author.now c.args.self.now.cells (runs c)) (omega arith)
    (omega arith) row cells cut c.kill_named-hidden.ensures.kept c.kill_named-hidden.ensures.items in
    let order = subst IsInOrder (cells_seen c.self.view_is) c.self.invariant.row.order in (
      (
        killed.0,
        killed.1 ∙ all_commute c.args.rev c.args.spans.now c.args.author.now c.args.self.now.cells
            (runs c) order c.requires.join c.requires.there,
      ),
      c.kill_named-hidden.ensures.hidden
          ∙ sym (killed_count c.args.spans.now authors text bs row.within
          (all_aligned c.put_runs.new.index bs c.args.spans.now row.kept.listed cut))
          ∙ ap (count_by (is_hidden_by c.args.spans.now)) cells
          ∙ all_hidden c.args.rev c.args.spans.now c.args.author.now c.args.self.now.cells
          (runs c) order c.requires.join c.requires.there,
    )

-- what the slides of the runs do to the places
shows : (c : After-as_slice-2) → c.reserve.new.self.places ≡ live_authors c.cut_parents.new.tree.items →
    Goes (with_shown c.in_ok-author.author) MayShow c.reserve.new.self.places
    (drop c.len-known.result c.as_slice-2.result.now) (live_authors c.put_runs.new.tree.items)
shows c is =
    shown_from c.in_ok-author.author c.reserve-3.new.self.items c.put_runs.new.slides.items c.as_slice-2.result.now
    c.cut_parents.new.tree.items c.put_runs.new.tree.items c.reserve.new.self.places c.len-known.result is
    c.as_slice-2.ensures.value (c.len-known.ensures ∙ c.reserve-3.new.self.ok.0) c.in_ok-clock.ensures.authors

pub follow_shown-requires-clause-goes : goal.follow_shown-requires-clause-goes
follow_shown-requires-clause-goes c =
    let g = goal.at.follow_shown-requires-clause-goes c in
    (live_authors c.put_runs.new.tree.items, shows g.After-as_slice-2 (cut_row g.After-cut_parents).runs)

-- and those of the deaths
hides : (c : After-as_slice-3) → c.follow_shown.new.runs.places ≡ live_authors c.put_runs.new.tree.items →
    Goes without_hidden MayHide c.follow_shown.new.runs.places (drop c.len-known-2.result c.as_slice-3.result.now)
    (live_authors c.kill_named-hidden.new.tree.items)
hides c is =
    hidden_from c.put_runs.new.slides.items c.kill_named-hidden.new.slides.items c.as_slice-3.result.now
    c.put_runs.new.tree.items c.kill_named-hidden.new.tree.items c.follow_shown.new.runs.places c.len-known-2.result is
    c.as_slice-3.ensures.value (c.len-known-2.ensures ∙ c.put_runs.new.slides.ok.0) c.kill_named-hidden.ensures.authors

pub follow_hidden-requires-clause-goes : goal.follow_hidden-requires-clause-goes
follow_hidden-requires-clause-goes c =
    let g = goal.at.follow_hidden-requires-clause-goes c in (
      live_authors c.kill_named-hidden.new.tree.items,
      hides g.After-as_slice-3 (c.follow_shown.ensures (live_authors c.put_runs.new.tree.items)
          (shows g.After-as_slice-2 (cut_row g.After-cut_parents).runs)),
    )

pub invariant_of-self-2 : goal.invariant_of-self-2
invariant_of-self-2 c =
    let g = goal.at.invariant_of-self-2 c in
    let same = seen g.After-as_slice (stays g.After-place_author c.reserve-2.new.self.items c.reserve-2.ensures.items (cut g.After-cut_parents)) in
    let left = (done g.After-kill_named-hidden (still_cut g.In_ok-clock same) same (who g.After-as_slice)).0.0 in
    record {
      row = subst (λ n. IsBlockSeq n c.in_ok-clock.clock c.place_author.new.authors.items c.put_runs.new.text.items
          c.put_runs.new.index c.kill_named-hidden.new.tree.items) (sym c.max-self-inside.ensures) left;
      slid = c.kill_named-hidden.ensures.slid;
      once = c.place_author.ensures.once c.self.invariant.once;
      runs = c.follow_hidden.ensures (live_authors c.kill_named-hidden.new.tree.items)
          (hides g.After-as_slice-3 (c.follow_shown.ensures (live_authors c.put_runs.new.tree.items)
          (shows g.After-as_slice-2 (cut_row g.After-cut_parents).runs)));
    }

pub returns-clause-answers : goal.returns-clause-answers
returns-clause-answers c =
    let g = goal.at.returns-clause-answers c in
    let same = seen g.After-as_slice (stays g.After-place_author c.reserve-2.new.self.items c.reserve-2.ensures.items (cut g.After-cut_parents)) in
    let d = done g.After-kill_named-hidden (still_cut g.In_ok-clock same) same (who g.After-as_slice) in
    inr (ap₂ (λ n l. (Ok n, l)) (sym d.1) (sym d.0.1))

pub returns-in_err-reserve-clause-blocks : goal.returns-in_err-reserve-clause-blocks
returns-in_err-reserve-clause-blocks c = let seen = blocks_seen c.self.view_is in omega (arith, seen)

pub returns-in_err-cut_spans-clause-blocks : goal.returns-in_err-cut_spans-clause-blocks
returns-in_err-cut_spans-clause-blocks c = let seen = blocks_seen c.self.view_is in
    omega (arith, seen, c.cut_spans.ensures.more)

-- the cuts add two blocks for each span, and one for each run
when_cut : (c : After-cut_parents) → length c.cut_parents.new.tree.items ≤ c.args.self.now.blocks
    + 2 * (length c.args.runs.now + length c.args.spans.now)
when_cut c = let seen = blocks_seen c.self.view_is in
    omega (arith, seen, c.cut_spans.ensures.more, c.cut_parents.ensures.more)

pub returns-in_err-cut_parents-clause-blocks : goal.returns-in_err-cut_parents-clause-blocks
returns-in_err-cut_parents-clause-blocks c = when_cut (goal.at.returns-in_err-cut_parents-clause-blocks c).After-cut_parents

pub returns-in_err-author-clause-blocks : goal.returns-in_err-author-clause-blocks
returns-in_err-author-clause-blocks c = when_cut (goal.at.returns-in_err-author-clause-blocks c).After-cut_parents

pub returns-in_err-reserve-2-clause-blocks : goal.returns-in_err-reserve-2-clause-blocks
returns-in_err-reserve-2-clause-blocks c = when_cut (goal.at.returns-in_err-reserve-2-clause-blocks c).After-cut_parents

pub returns-in_err-reserve-3-clause-blocks : goal.returns-in_err-reserve-3-clause-blocks
returns-in_err-reserve-3-clause-blocks c = when_cut (goal.at.returns-in_err-reserve-3-clause-blocks c).After-cut_parents

pub returns-in_err-clock-clause-blocks : goal.returns-in_err-clock-clause-blocks
returns-in_err-clock-clause-blocks c = let seen = blocks_seen c.self.view_is in
    omega (arith, seen, c.cut_spans.ensures.more, c.cut_parents.ensures.more, c.put_runs.ensures.more)

pub returns-clause-blocks : goal.returns-clause-blocks
returns-clause-blocks c =
    let seen = blocks_seen c.self.view_is in
    let size = ap length c.kill_named-hidden.ensures.items
    ∙ length-map c.put_runs.new.tree.items (killed c.args.rev c.args.spans.now) in
    omega (arith, seen, size, c.cut_spans.ensures.more, c.cut_parents.ensures.more, c.put_runs.ensures.more)
