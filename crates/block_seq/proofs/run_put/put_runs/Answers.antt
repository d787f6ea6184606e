use Rattle.std.proofs.Common.{◌≡◌, ℕ, ◌+◌, ◌-◌, ◌≤◌, ◌<◌, [], ◌∷◌, ◌++◌, max, true, List, length, map, drop, take}
use Rattle.std.proofs.Common.{sum_by, sym, ap, ap₂, ◌∙◌, refl, subst, arith}
use Rattle.std.proofs.lemmas.Bool.{and_parts}
use Rattle.std.proofs.lemmas.List.Edits.{length-remove}
use Rattle.std.proofs.lemmas.List.Sums.{sum_by-cons}
use Rattle.pad_model.specs.Cell.{Cell, character_of}
use Rattle.pad_model.specs.Log.{has_spans}
use Rattle.pad_model.specs.declared.op.Run.{Run}
use Rattle.blocks.specs.Blocks.{without_labels}
use Rattle.blocks.specs.Cells.{author_at, cells_of}
use Rattle.blocks.proofs.Cells.{length-without_labels}
use Rattle.block_seq.specs.RowParts.{AreRanks, MayPut, without_ranks}
use Rattle.pad_model.specs.Parts.{with_all}
use Rattle.block_seq.specs.RowSlides.{IsSlidRow}
use Rattle.block_seq.proofs.RowAuthors.{shows_nothing, shows_then}
use Rattle.block_seq.proofs.RowChange.{cut_out_put, lent_from, lent_sizes, named_below, run_sized}
use Rattle.block_seq.proofs.RowRuns.{front_of_front, may_put_next, one_rank_more, take_front}
use Rattle.pad_model.proofs.InTurn.{has_spans-with_run}
use Rattle.block_seq.proofs.RowRuns.{without_ranks-last}
use Rattle.block_seq.proofs.run_put.put_runs.Goals as goal
use Rattle.block_seq.proofs.run_put.put_runs.Goals.{After-run-item}

pub loop-run-init : goal.loop-run-init
loop-run-init c =
    let none = c.reserve.ensures.items ∙ c.new-ranks.ensures.items in
    record {
      row = c.requires.row;
      may = c.requires.runs;
      all = refl;
      cut = λ spans there checked cut. (there, cut);
      ranks = subst (AreRanks (without_labels c.args.tree.now.items)) (sym none) tt;
      back = ap (without_ranks (without_labels c.args.tree.now.items)) none;
      ranks_len = omega (arith, c.reserve.ensures.len, c.new-ranks.ensures.len);
      ranks_room = omega (arith, c.in_ok-reserve.ensures.ok, c.reserve.ensures.len, c.new-ranks.ensures.len);
      text = take_all c.args.text.now.items;
      text_room = c.requires.text;
      slides = take_all c.args.slides.now.items;
      slides_len = omega arith;
      slides_room = refl;
      authors = shows_nothing c.args.batch.now.author c.args.slides.now.items c.args.tree.now.items;
      live = omega arith;
      more = omega arith;
    }
  where
    take_all : {X : Type 0} (xs : List X) → take (length xs) xs ≡ xs
    take_all [] = refl
    take_all (x ∷ xs) = ap (λ l. x ∷ l) (take_all xs)

-- the cells so far
abbrev cells : (c : After-run-item) → List Cell
cells c = cells_of c.args.batch.now.authors.now c.loop-run.text.items c.loop-run.tree.items

-- the runs behind the next one
abbrev rest : (c : After-run-item) → List Run
rest c = map (λ run. run.now) (drop (c.loop-run.run-index + 1) c.args.runs.now)

from : (c : After-run-item) → map (λ run. run.now) (drop c.loop-run.run-index c.args.runs.now) ≡ c.run-item.result.now
    ∷ rest c
from c = lent_from (λ run. run.now) c.args.runs.now c.loop-run.run-index c.run-item.result c.loop-run-test.true
    c.run-item.is

-- the next run may be put
may : (c : After-run-item) → MayPut c.args.batch.now.rev
    (author_at c.args.batch.now.authors.now c.args.batch.now.author) (cells c) c.loop-run.index (c.run-item.result.now
    ∷ rest c)
may c = subst (MayPut c.args.batch.now.rev (author_at c.args.batch.now.authors.now c.args.batch.now.author)
    (cells c) c.loop-run.index) (from c) c.loop-run.invariant.may

-- what the next run and those behind it take
sizes : (c : After-run-item) → sum_by (λ run. length run.now.text) (drop c.loop-run.run-index c.args.runs.now)
    ≡ length c.run-item.result.now.text + sum_by (λ run. length run.text) (rest c)
sizes c =
    lent_sizes (λ run. run.now) (drop c.loop-run.run-index c.args.runs.now)
    ∙ ap (sum_by (λ (run : Run). length run.text)) (from c)
    ∙ sum_by-cons (λ (run : Run). length run.text) c.run-item.result.now (rest c)

pub put_run-requires-clause-row : goal.put_run-requires-clause-row
put_run-requires-clause-row c = c.loop-run.invariant.row

pub put_run-requires-clause-run : goal.put_run-requires-clause-run
put_run-requires-clause-run c = (and_parts _ _ (may (goal.at.put_run-requires-clause-run c).After-run-item).checked).0

pub put_run-requires-clause-fits : goal.put_run-requires-clause-fits
put_run-requires-clause-fits c = (may (goal.at.put_run-requires-clause-fits c).After-run-item).join.0

pub put_run-requires-clause-cut : goal.put_run-requires-clause-cut
put_run-requires-clause-cut c = (may (goal.at.put_run-requires-clause-cut c).After-run-item).cut.0

pub put_run-requires-clause-room : goal.put_run-requires-clause-room
put_run-requires-clause-room c =
    let g = (goal.at.put_run-requires-clause-room c).After-run-item in
    let room = (may g).room in
    let sum = sum_by-cons (λ (run : Run). length run.text) c.run-item.result.now (rest g) in
    omega (arith, room, sum)

pub put_run-requires-clause-text : goal.put_run-requires-clause-text
put_run-requires-clause-text c =
    let all = sizes (goal.at.put_run-requires-clause-text c).After-run-item in
    omega (arith, all, c.loop-run.invariant.text_room)

pub put_run-requires-clause-slides : goal.put_run-requires-clause-slides
put_run-requires-clause-slides c = omega (
  arith,
  c.loop-run.invariant.slides_len,
  c.loop-run.invariant.slides_room,
  c.requires.slides,
  c.loop-run-test.true,
)

pub push_reserved-requires : goal.push_reserved-requires
push_reserved-requires c = omega (
  arith,
  c.loop-run.invariant.ranks_len,
  c.loop-run.invariant.ranks_room,
  c.loop-run-test.true,
)

pub take_blocks-requires-clause-ranks : goal.take_blocks-requires-clause-ranks
take_blocks-requires-clause-ranks c =
    subst (AreRanks (without_labels c.put_run.new.tree.items)) (sym c.as_slice.ensures.value)
    (subst (λ l. AreRanks l c.loop-run.ranks.items) (sym c.in-Err.ensures.same_blocks) c.loop-run.invariant.ranks)

pub returns-in-Err-clause-capacity : goal.returns-in-Err-clause-capacity
returns-in-Err-clause-capacity c = c.truncate-in-Err.ensures.capacity ∙ c.put_run.ensures.slides_capacity
    ∙ c.loop-run.invariant.slides_room

pub returns-in-Err-clause-same_blocks : goal.returns-in-Err-clause-same_blocks
returns-in-Err-clause-same_blocks c =
    c.take_blocks.ensures.taken ∙ ap₂ (λ l ranks. without_ranks l ranks) c.in-Err.ensures.same_blocks
    c.as_slice.ensures.value ∙ c.loop-run.invariant.back

pub returns-in-Err-clause-more : goal.returns-in-Err-clause-more
returns-in-Err-clause-more c =
    let same = c.take_blocks.ensures.taken ∙ ap₂ (λ l ranks. without_ranks l ranks) c.in-Err.ensures.same_blocks
    c.as_slice.ensures.value ∙ c.loop-run.invariant.back in
    let size = sym (length-without_labels c.take_blocks.new.tree.items) ∙ ap length same
    ∙ length-without_labels c.args.tree.now.items in
    omega (arith, size)

pub returns-in-Err-clause-same_text : goal.returns-in-Err-clause-same_text
returns-in-Err-clause-same_text c = c.truncate.ensures.items ∙ ap₂ (λ n l. take n l)
    (c.len-start.ensures ∙ c.args.text.now.ok.0) c.in-Err.ensures.same_text ∙ c.loop-run.invariant.text

pub returns-in-Err-clause-same_slides : goal.returns-in-Err-clause-same_slides
returns-in-Err-clause-same_slides c = c.truncate-in-Err.ensures.items ∙ ap₂ (λ n l. take n l)
    (c.len-known.ensures ∙ c.args.slides.now.ok.0) c.in-Err.ensures.same_slides ∙ c.loop-run.invariant.slides

pub overflow_sub-len : goal.overflow_sub-len
overflow_sub-len c =
    let run = run_sized (author_at c.args.batch.now.authors.now c.args.batch.now.author).origin 0 c.run-item.result.now
    (and_parts _ _ (may (goal.at.overflow_sub-len c).After-run-item).checked).0 in
    omega (arith, run.0, c.len.ensures)

pub loop-run-preserved : goal.loop-run-preserved
loop-run-preserved c =
    let g = (goal.at.loop-run-preserved c).After-run-item in
    let inv = c.loop-run.invariant in
    let rev = c.args.batch.now.rev in
    let author = author_at c.args.batch.now.authors.now c.args.batch.now.author in
    let run = c.run-item.result.now in
    let here = may g in
    let order = inv.row.row.order in
    let made = c.in-Ok.ensures.cells in
    let edges = c.in-Ok.ensures.edges in
    let after = without_labels c.put_run.new.tree.items in
    let clock : c.max-clock.result ≡ max c.loop-run.clock (run.first.counter + (length run.text - 1)) =
    c.max-clock.ensures ∙ ap₂ (λ counter len. max c.loop-run.clock (counter + (len - 1))) c.counter.ensures.value
    c.len.ensures in
    let pushed = c.push_reserved.ensures.items in
    let grown = ap length c.in-Ok.ensures.text ∙ Rattle.std.proofs.Common.length-append c.loop-run.text.items
    run.text in
    let all = sizes g in
    let left = lent_sizes (λ run. run.now) (drop (c.loop-run.run-index + 1) c.args.runs.now) in
    let fewer = length-remove after c.in-Ok.rank c.in-Ok.ensures.within in
    let before = ap length c.in-Ok.ensures.block in
    let new_size = length-without_labels c.put_run.new.tree.items in
    let old_size = length-without_labels c.loop-run.tree.items in
    record {
      row = subst (λ k. IsSlidRow rev k c.args.batch.now.authors.now c.put_run.new.text.items c.put_run.new.slides.items
          c.put_run.new.index c.put_run.new.tree.items) (sym clock) c.in-Ok.ensures.row;
      may = may_put_next rev (length run.text) author (cells g) _ c.loop-run.index c.put_run.new.index run
          (rest g) here order made edges;
      all = ap (λ l. with_all rev author l (rest g)) made ∙ ap (with_all rev author (cells g)) (sym (from g)) ∙ inv.all;
      cut = λ spans there checked cut. (let so = inv.cut spans there checked cut in (
        subst (λ l. has_spans character_of l spans ≡ true) (sym made)
            (has_spans-with_run rev run author (cells g) spans order here.join.0 so.0),
        cut_out_put c.loop-run.index c.put_run.new.index spans run.first (length run.text) edges
            (named_below spans (cells g) run.first run.after so.0 here.join.0) checked so.1,
      ));
      ranks = subst (AreRanks after) (sym pushed)
          (one_rank_more after c.loop-run.ranks.items c.in-Ok.rank c.in-Ok.ensures.within
          (subst (λ l. AreRanks l c.loop-run.ranks.items) (sym c.in-Ok.ensures.block) inv.ranks));
      back = ap (without_ranks after) pushed ∙ without_ranks-last after c.loop-run.ranks.items c.in-Ok.rank
          ∙ ap (λ l. without_ranks l c.loop-run.ranks.items) c.in-Ok.ensures.block ∙ inv.back;
      ranks_len = omega (arith, c.push_reserved.ensures.len, inv.ranks_len);
      ranks_room = omega (arith, c.push_reserved.ensures.capacity, inv.ranks_room);
      text = front_of_front c.args.text.now.items c.loop-run.text.items c.put_run.new.text.items inv.text
          (ap (take (length c.loop-run.text.items)) c.in-Ok.ensures.text ∙ take_front c.loop-run.text.items run.text
          (length c.loop-run.text.items) refl);
      text_room = omega (
        arith,
        grown,
        all,
        left,
        inv.text_room,
        c.put_run.ensures.text_capacity,
        c.put_run.new.text.ok.0,
        c.loop-run.text.ok.0,
      );
      slides = front_of_front c.args.slides.now.items c.loop-run.slides.items c.put_run.new.slides.items inv.slides
          c.in-Ok.ensures.slide;
      slides_len = omega (arith, inv.slides_len, c.in-Ok.ensures.one_slide);
      slides_room = c.put_run.ensures.slides_capacity ∙ inv.slides_room;
      authors = shows_then c.args.batch.now.author c.args.slides.now.items c.loop-run.slides.items
          c.put_run.new.slides.items c.args.tree.now.items c.loop-run.tree.items c.put_run.new.tree.items inv.authors
          c.in-Ok.ensures.authors;
      live = omega (arith, inv.live, c.in-Ok.ensures.live);
      more = omega (arith, inv.more, fewer, before, new_size, old_size);
    }

pub returns-clause-row : goal.returns-clause-row
returns-clause-row c = c.loop-run.invariant.row

pub returns-clause-kept : goal.returns-clause-kept
returns-clause-kept c = c.loop-run.invariant.row.row.kept

pub returns-clause-cut : goal.returns-clause-cut
returns-clause-cut c = λ spans there checked cut. (c.loop-run.invariant.cut spans there checked cut).1

pub returns-clause-capacity : goal.returns-clause-capacity
returns-clause-capacity c = c.loop-run.invariant.slides_room

pub returns-clause-slides : goal.returns-clause-slides
returns-clause-slides c = omega (
  arith,
  c.loop-run.invariant.slides_len,
  c.loop-run-test.false,
  c.loop-run.auto.run-index-end,
)

pub returns-clause-authors : goal.returns-clause-authors
returns-clause-authors c = c.loop-run.invariant.authors

pub returns-clause-live : goal.returns-clause-live
returns-clause-live c = omega (arith, c.loop-run.invariant.live, c.loop-run.auto.run-index-end)

pub returns-clause-more : goal.returns-clause-more
returns-clause-more c = omega (arith, c.loop-run.invariant.more, c.loop-run.auto.run-index-end)

pub returns-clause-cells : goal.returns-clause-cells
returns-clause-cells c =
    let none : map (λ run. run.now) (drop c.loop-run.run-index c.args.runs.now) ≡ [] =
    ap (map (λ run. run.now)) (Rattle.std.proofs.lemmas.List.drop_all c.loop-run.run-index c.args.runs.now
    (omega (arith, c.loop-run-test.false))) in
    sym (ap (with_all c.args.batch.now.rev (author_at c.args.batch.now.authors.now c.args.batch.now.author)
    (cells_of c.args.batch.now.authors.now c.loop-run.text.items c.loop-run.tree.items)) none)
    ∙ c.loop-run.invariant.all
