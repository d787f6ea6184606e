use Rattle.std.proofs.Common.{◌≡◌, ◌+◌, ◌≤◌, map, sum_by, refl, sym, ap, ◌∙◌, subst, arith, leb, leb-true}
use Rattle.std.proofs.lemmas.Bool.{and_parts}
use Rattle.pad_model.specs.declared.limits.TheConstants.{MAX_COUNTER}
use Rattle.blocks.specs.Blocks.{IsEdge}
use Rattle.block_seq.specs.Rows.{killed, hidden_len, span_from}
use Rattle.block_seq.proofs.RowErase.{behind_none}
use Rattle.block_seq.proofs.RowAuthors.{hides_nothing, hides_then}
use Rattle.block_seq.proofs.RowKills.{none_killed, none_hidden, nothing_named, span_step, span_step_hidden, step_ends}
use Rattle.block_seq.proofs.RowKills.{step_within, hidden_all}
use Rattle.block_seq.proofs.row_kills.kill_span.Goals as goal
use Rattle.block_seq.proofs.row_kills.kill_span.Goals.{After-kill_from-passed}

pub loop-done-init : goal.loop-done-init
loop-done-init c =
    let first = c.args.span.now.first in
    let bs = c.args.tree.now.items in
    record {
      kept = c.requires.kept;
      within = omega arith;
      begins = subst (IsEdge c.args.index.now) (sym (behind_none first)) c.requires.cut.0;
      slid = c.requires.slid;
      authors = hides_nothing c.args.slides.now.items c.args.tree.now.items;
      dated = c.requires.dated;
      spent = refl;
      few = omega arith;
      capacity = refl;
      items = none_killed c.args.rev (span_from first 0) bs (λ i b e. nothing_named first b.first);
      hidden = none_hidden (span_from first 0) bs (λ i b e. nothing_named first b.first);
    }

pub kill_from-passed-requires-clause-room : goal.kill_from-passed-requires-clause-room
kill_from-passed-requires-clause-room c = λ alive.
    let inv = c.loop-done.invariant in
    omega (arith, alive, c.loop-done-test.true, c.requires.room, inv.spent, inv.few, inv.capacity)

pub kill_from-passed-requires-clause-begins : goal.kill_from-passed-requires-clause-begins
kill_from-passed-requires-clause-begins c = subst (IsEdge c.args.index.now)
    (sym c.plus.ensures) c.loop-done.invariant.begins

fewer : (c : After-kill_from-passed) → c.loop-done.done + c.kill_from-passed.result.len ≤ c.args.span.now.len
fewer c =
    step_within c.args.index.now c.args.span.now.first c.plus.result c.loop-done.done c.args.span.now.len
    c.kill_from-passed.result.len c.plus.ensures c.loop-done-test.true c.requires.cut.1 c.kill_from-passed.ensures.whole

sum : (c : After-kill_from-passed) → c.loop-done.hidden + c.kill_from-passed.result.hidden
    ≡ sum_by (hidden_len (span_from c.args.span.now.first (c.loop-done.done + c.kill_from-passed.result.len)))
    c.args.tree.now.items
sum c =
    span_step_hidden c.args.rev c.args.span.now.first c.plus.result c.loop-done.done c.kill_from-passed.result.len
    c.loop-done.hidden c.kill_from-passed.result.hidden c.args.tree.now.items c.loop-done.tree.items
    c.plus.ensures c.loop-done.invariant.items c.loop-done.invariant.hidden c.kill_from-passed.ensures.hidden

pub overflow_add-hidden : goal.overflow_add-hidden
overflow_add-hidden c =
    let total = sum (goal.at.overflow_add-hidden c).After-kill_from-passed in
    let small = hidden_all (span_from c.args.span.now.first (c.loop-done.done + c.kill_from-passed.result.len))
    c.args.tree.now.items in
    omega (arith, total, small, c.requires.kept.listed.small)

pub overflow_add-done : goal.overflow_add-done
overflow_add-done c =
    let few = fewer (goal.at.overflow_add-done c).After-kill_from-passed in
    let limit = leb-true (c.args.span.now.first.counter + c.args.span.now.len) (MAX_COUNTER + 1)
    (and_parts (leb 1 c.args.span.now.len) (leb (c.args.span.now.first.counter + c.args.span.now.len) (MAX_COUNTER + 1))
    c.requires.checked).1 in
    omega (arith, few, limit)

pub loop-done-preserved : goal.loop-done-preserved
loop-done-preserved c =
    let g = (goal.at.loop-done-preserved c).After-kill_from-passed in
    record {
      kept = c.kill_from-passed.ensures.kept;
      within = fewer g;
      begins = subst (IsEdge c.args.index.now)
          (step_ends c.args.span.now.first c.plus.result c.loop-done.done c.kill_from-passed.result.len c.plus.ensures)
          c.kill_from-passed.ensures.ends;
      slid = c.kill_from-passed.ensures.slid;
      authors = hides_then c.args.slides.now.items c.loop-done.slides.items c.kill_from-passed.new.slides.items
          c.args.tree.now.items c.loop-done.tree.items c.kill_from-passed.new.tree.items c.loop-done.invariant.authors
          c.kill_from-passed.ensures.authors;
      dated = c.kill_from-passed.ensures.dated;
      spent = c.kill_from-passed.ensures.spent ∙ c.loop-done.invariant.spent;
      few = omega (arith, c.loop-done.invariant.few, c.kill_from-passed.ensures.one, c.kill_from-passed.ensures.some);
      capacity = c.kill_from-passed.ensures.capacity ∙ c.loop-done.invariant.capacity;
      items = span_step c.args.rev c.args.span.now.first c.plus.result c.loop-done.done c.kill_from-passed.result.len
          c.args.tree.now.items c.loop-done.tree.items c.kill_from-passed.new.tree.items
          c.plus.ensures c.loop-done.invariant.items c.kill_from-passed.ensures.items;
      hidden = sum g;
    }

pub returns-clause-items : goal.returns-clause-items
returns-clause-items c =
    let all : c.loop-done.done ≡ c.args.span.now.len =
    omega (arith, c.loop-done.invariant.within, c.loop-done-test.false) in
    c.loop-done.invariant.items ∙ ap (λ n. map (killed c.args.rev (span_from c.args.span.now.first n))
    c.args.tree.now.items) all

pub returns-clause-hidden : goal.returns-clause-hidden
returns-clause-hidden c =
    let all : c.loop-done.done ≡ c.args.span.now.len =
    omega (arith, c.loop-done.invariant.within, c.loop-done-test.false) in
    c.loop-done.invariant.hidden ∙ ap (λ n. sum_by (hidden_len (span_from c.args.span.now.first n))
    c.args.tree.now.items) all

pub returns-clause-few : goal.returns-clause-few
returns-clause-few c = omega (arith, c.loop-done.invariant.few, c.loop-done.invariant.within)
