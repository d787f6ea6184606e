use Rattle.std.proofs.Common.{◌≡◌, ◌+◌, ◌-◌, ◌≤◌, ◌<◌, false, slice_get, Some, sym, ap, ap₂, ◌∙◌, arith}
use Rattle.std.proofs.lemmas.Option.{slice_get_within, slice_get-get_or}
use Rattle.text_history.proofs.Carrying.{shown_len, so_far_behind, stays, moved_on, moved_back, gone}
use Rattle.text_history.proofs.Slides.{leads-next}
use Rattle.text_history.proofs.past.carry.Goals as goal
use Rattle.text_history.proofs.past.carry.Goals.{then-shows, else-shows+else-at-start-2}

pub loop-slide-preserved-then-at-start : goal.loop-slide-preserved-then-at-start
loop-slide-preserved-then-at-start c old new leads =
    let s = c.slide-item.result in
    let i = c.loop-slide.slide-index in
    let so_far = c.loop-slide.invariant old new leads in
    let step = leads-next c.args.slides.now i (i + 1) s so_far.0 new (omega arith) c.slide-item.is
    (omega arith) so_far.1 in
    let before : c.loop-slide.at < s.at = omega (arith, c.if-at-start.true, c.at-start.ensures) in
    (step.0, step.2, stays s so_far.0 step.0 step.1 c.loop-slide.at before ∙ so_far.2)

pub overflow_add-at : goal.overflow_add-at
overflow_add-at c =
    let s = c.slide-item.result in
    let i = c.loop-slide.slide-index in
    let so_far = c.loop-slide.invariant c.requires.0 c.requires.1 c.requires.2 in
    let step = leads-next c.args.slides.now i (i + 1) s so_far.0 c.requires.1 (omega arith) c.slide-item.is
    (omega arith) so_far.1 in
    let sizes = shown_len s so_far.0 step.0 step.1 (sym c.shows.ensures ∙ c.if-shows.true) in
    let place = c.requires.3 in
    let within = slice_get_within so_far.0 c.loop-slide.at _
    (so_far.2 ∙ slice_get-get_or c.requires.0 c.args.place s.first place) in
    omega (arith, sizes.0, sizes.2, within, c.len-len.ensures)

pub returns-then-at-start-2 : goal.returns-then-at-start-2
returns-then-at-start-2 c old new leads =
    let s = c.slide-item.result in
    let i = c.loop-slide.slide-index in
    let so_far = c.loop-slide.invariant old new leads in
    let step = leads-next c.args.slides.now i (i + 1) s so_far.0 new (omega arith) c.slide-item.is
    (omega arith) so_far.1 in
    let hidden : s.shows ≡ false = sym c.shows.ensures ∙ c.if-shows.false in
    let low : s.at ≤ c.loop-slide.at = omega (arith, c.if-at-start.false, c.at-start.ensures) in
    let high : c.loop-slide.at < s.at + s.len =
    omega (arith, c.if-at-start-2.true, c.at-start.ensures, c.len-len.ensures) in
    sym so_far.2 ∙ gone s so_far.0 step.0 step.1 hidden c.loop-slide.at low high
    ∙ sym (ap Some (c.plus.ensures ∙ ap₂ so_far_behind c.first.ensures
    (ap (λ n. c.loop-slide.at - n) c.at-start.ensures)))

pub loop-slide-preserved : goal.loop-slide-preserved
loop-slide-preserved c old new leads =
    let s = c.slide-item.result in
    let i = c.loop-slide.slide-index in
    let so_far = c.loop-slide.invariant old new leads in
    let step = leads-next c.args.slides.now i (i + 1) s so_far.0 new (omega arith) c.slide-item.is
    (omega arith) so_far.1 in
    let low : s.at ≤ c.loop-slide.at = omega (arith, c.if-at-start.false, c.at-start.ensures) in (
      step.0,
      step.2,
      elim c.if-shows.branch [
        | then-shows w ↦ ap (slice_get step.0) (w.at-is ∙ ap (λ n. c.loop-slide.at + n) c.len-len.ensures)
            ∙ moved_on s so_far.0 step.0 step.1 (sym c.shows.ensures ∙ w.if-shows.true) c.loop-slide.at low ∙ so_far.2
        | else-shows+else-at-start-2 w ↦ ap (slice_get step.0)
            (w.at-is ∙ ap (λ n. c.loop-slide.at - n) c.len-len.ensures)
            ∙ moved_back s so_far.0 step.0 step.1 (sym c.shows.ensures ∙ w.if-shows.false) c.loop-slide.at
            (omega (arith, w.if-at-start-2.false, c.at-start.ensures, c.len-len.ensures)) ∙ so_far.2
      ],
    )
