use Rattle.std.proofs.Common.{◌-◌, sym, ◌∙◌, arith}
use Rattle.text_history.proofs.Carrying.{shown_len, hidden_len}
use Rattle.text_history.proofs.Slides.{counts_next, leads-from}
use Rattle.text_history.proofs.past.count_before.Goals as goal

pub overflow_sub-count : goal.overflow_sub-count
overflow_sub-count c =
    let j = c.loop-i.i - 1 in
    let s = c.index-slides-i.result in
    let there = leads-from j c.args.slides.now c.requires.old c.requires.new c.requires.leads in
    let step = counts_next c.args.slides.now c.loop-i.i j s c.loop-i.count c.args.many (omega arith) c.index-slides-i.is
    (omega arith) c.loop-i.invariant there.0 c.requires.new there.1 c.requires.size in
    let size = shown_len s there.0 step.0 step.1 (sym c.shows.ensures ∙ c.if-shows.true) in
    let counted = step.2 in
    omega (arith, size.0, counted, c.len-len.ensures)

pub loop-i-preserved-then-shows : goal.loop-i-preserved-then-shows
loop-i-preserved-then-shows c mid new leads size =
    let s = c.index-slides-i.result in
    let step = counts_next c.args.slides.now c.loop-i.i (c.loop-i.i - 1) s c.loop-i.count c.args.many
    (omega arith) c.index-slides-i.is (omega arith) c.loop-i.invariant mid new leads size in
    let sizes = shown_len s mid step.0 step.1 (sym c.shows.ensures ∙ c.if-shows.true) in
    let counted = step.2 in
    omega (arith, sizes.0, counted, c.len-len.ensures)

pub overflow_add-count : goal.overflow_add-count
overflow_add-count c =
    let j = c.loop-i.i - 1 in
    let s = c.index-slides-i.result in
    let there = leads-from j c.args.slides.now c.requires.old c.requires.new c.requires.leads in
    let step = counts_next c.args.slides.now c.loop-i.i j s c.loop-i.count c.args.many (omega arith) c.index-slides-i.is
    (omega arith) c.loop-i.invariant there.0 c.requires.new there.1 c.requires.size in
    let sizes = hidden_len s there.0 step.0 step.1 (sym c.shows.ensures ∙ c.if-shows.false) in
    let counted = step.2 in
    omega (arith, sizes.0, sizes.2, counted, c.len-len.ensures)

pub loop-i-preserved : goal.loop-i-preserved
loop-i-preserved c mid new leads size =
    let s = c.index-slides-i.result in
    let step = counts_next c.args.slides.now c.loop-i.i (c.loop-i.i - 1) s c.loop-i.count c.args.many
    (omega arith) c.index-slides-i.is (omega arith) c.loop-i.invariant mid new leads size in
    let sizes = hidden_len s mid step.0 step.1 (sym c.shows.ensures ∙ c.if-shows.false) in
    let counted = step.2 in
    omega (arith, sizes.0, counted, c.len-len.ensures)
