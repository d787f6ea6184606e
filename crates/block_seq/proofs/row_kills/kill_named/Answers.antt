use Rattle.std.proofs.Common.{◌+◌, ◌<◌, ◌∙◌, length, take, [], arith, refl}
use Rattle.std.proofs.lemmas.List.Sums.{sum_by-take-le}
use Rattle.pad_model.specs.declared.op.Span.{Span}
use Rattle.block_seq.proofs.RowAuthors.{hides_nothing, hides_then}
use Rattle.block_seq.proofs.RowKills.{next_len, none_killed, none_hidden, spans_step, spans_step_hidden, hidden_all}
use Rattle.block_seq.proofs.row_kills.kill_named.Goals as goal

pub loop-span-init : goal.loop-span-init
loop-span-init c = record {
  kept = c.requires.kept;
  slid = c.requires.slid;
  authors = hides_nothing c.args.slides.now.items c.args.tree.now.items;
  dated = c.requires.dated;
  spent = refl;
  few = omega arith;
  capacity = refl;
  items = none_killed c.args.rev [] c.args.tree.now.items (λ i b e. refl);
  hidden = none_hidden [] c.args.tree.now.items (λ i b e. refl);
}

pub kill_span-hidden-requires-clause-room : goal.kill_span-hidden-requires-clause-room
kill_span-hidden-requires-clause-room c =
    let spans = c.args.spans.now in
    let index = c.loop-span.span-index in
    let inv = c.loop-span.invariant in
    let some : 0 < length spans = let low = c.loop-span-test.true in omega (arith, low) in
    let more = next_len spans index c.span-item.result c.loop-span-test.true c.span-item.is in
    let all = sum_by-take-le (λ (s : Span). s.len) spans (index + 1) in
    omega (arith, c.requires.room some, inv.spent, inv.few, inv.capacity, more, all)

pub overflow_add-hidden : goal.overflow_add-hidden
overflow_add-hidden c =
    let total =
    spans_step_hidden c.args.rev c.args.spans.now c.loop-span.span-index _ c.span-item.result c.args.tree.now.items
    c.loop-span.tree.items c.loop-span.hidden c.kill_span-hidden.result c.loop-span-test.true c.span-item.is refl
    c.loop-span.invariant.items c.loop-span.invariant.hidden c.kill_span-hidden.ensures.hidden
    in
    let small = hidden_all (take (c.loop-span.span-index + 1) c.args.spans.now) c.args.tree.now.items in
    omega (arith, total, small, c.requires.kept.listed.small)

pub loop-span-preserved : goal.loop-span-preserved
loop-span-preserved c = record {
  kept = c.kill_span-hidden.ensures.kept;
  slid = c.kill_span-hidden.ensures.slid;
  authors = hides_then c.args.slides.now.items c.loop-span.slides.items c.kill_span-hidden.new.slides.items
      c.args.tree.now.items c.loop-span.tree.items c.kill_span-hidden.new.tree.items c.loop-span.invariant.authors
      c.kill_span-hidden.ensures.authors;
  dated = c.kill_span-hidden.ensures.dated;
  spent = c.kill_span-hidden.ensures.spent ∙ c.loop-span.invariant.spent;
  few = (let more = next_len c.args.spans.now c.loop-span.span-index c.span-item.result c.loop-span-test.true c.span-item.is in
      omega (arith, more, c.loop-span.invariant.few, c.kill_span-hidden.ensures.few));
  capacity = c.kill_span-hidden.ensures.capacity ∙ c.loop-span.invariant.capacity;
  items = spans_step c.args.rev c.args.spans.now c.loop-span.span-index _ c.span-item.result c.args.tree.now.items
      c.loop-span.tree.items c.kill_span-hidden.new.tree.items c.loop-span-test.true c.span-item.is refl
      c.loop-span.invariant.items c.kill_span-hidden.ensures.items;
  hidden = spans_step_hidden c.args.rev c.args.spans.now c.loop-span.span-index _ c.span-item.result
      c.args.tree.now.items c.loop-span.tree.items c.loop-span.hidden c.kill_span-hidden.result c.loop-span-test.true
      c.span-item.is refl
      c.loop-span.invariant.items c.loop-span.invariant.hidden c.kill_span-hidden.ensures.hidden;
}
