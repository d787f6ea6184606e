use Rattle.std.proofs.Common.{[], true, refl, sym, ap, ◌∙◌}
use Rattle.web_wire.proofs.Steps.{goes_quiet, goes_line, goes_closed, goes_refused, goes_failed, goes_cut}
use Rattle.web_wire.specs.contracts.frames.Frames.{the_view}
use Rattle.web_wire.proofs.frames.Frames.step.Goals as goal

pub returns-in-Nothing-clause-quiet : goal.returns-in-Nothing-clause-quiet
returns-in-Nothing-clause-quiet c _ =
    let goes = goes_quiet (the_view c.self.inside) c.in-Ok-Whole.count c.in-Ok-Whole.heard _ _ _ _ _ _ _
    (ap (λ s. s.ended) c.self.view_is ∙ c.requires) c.reserve.ensures.items c.in-Nothing.is
    (rw c.in-Ok-Whole.field-0-is at c.in-Ok-Whole.ensures.reads) in
    (rw (sym c.self.view_is, c.take.ensures.waiting) goes.0, rw (sym c.self.view_is, c.take.ensures.waiting) goes.1, ap (λ s. s.ended) c.self.view_is ∙ c.requires)

pub returns-in-Line-clause-line : goal.returns-in-Line-clause-line
returns-in-Line-clause-line c _ =
    rw (sym c.self.view_is, c.take.ensures.waiting) (goes_line (the_view c.self.inside) c.in-Ok-Whole.count c.in-Ok-Whole.heard
    _ _ _ _ _ _ _ _ (ap (λ s. s.ended) c.self.view_is ∙ c.requires) c.reserve-2.ensures.items c.reserve.ensures.items c.in-Line.is
    (rw c.in-Ok-Whole.field-0-is at c.in-Ok-Whole.ensures.reads))

pub returns-in-Closed-clause-closes : goal.returns-in-Closed-clause-closes
returns-in-Closed-clause-closes c _ = (
  rw (sym c.self.view_is) (goes_closed (the_view c.self.inside) (record { conn = c.read_frame.new.context; waiting = []; ended = true })
      c.in-Ok-Whole.count c.in-Ok-Whole.heard _ _ _ _ (ap (λ s. s.ended) c.self.view_is ∙ c.requires) c.reserve.ensures.items
      c.in-Closed.is refl (rw c.in-Ok-Whole.field-0-is at c.in-Ok-Whole.ensures.reads)),
  refl,
)

pub returns-in-Refused-clause-closes : goal.returns-in-Refused-clause-closes
returns-in-Refused-clause-closes c is = (
  rw (sym c.self.view_is) (goes_refused (the_view c.self.inside) c.end.new.self c.in-Ok-Whole.count c.in-Ok-Whole.heard
      c.in-Refused.code _ _ _ _ _ (ap (λ s. s.ended) c.self.view_is ∙ c.requires) c.reserve.ensures.items c.in-Refused.is
      c.end.ensures.ended (rw c.in-Ok-Whole.field-0-is at c.in-Ok-Whole.ensures.reads) (rw is at c.end.ensures.ok)),
  c.end.ensures.ended,
)

pub returns-in-Err-clause-closes : goal.returns-in-Err-clause-closes
returns-in-Err-clause-closes c is = (
  rw (sym c.self.view_is) (goes_failed (the_view c.self.inside) c.fail.new.self c.in-Err.error _ _ _ _ _
      (ap (λ s. s.ended) c.self.view_is ∙ c.requires) c.reserve.ensures.items c.fail.ensures.ended
      (λ out. cc (sym is ∙ c.fail.ensures.memory out)) c.in-Err.ensures.reads (rw is at c.fail.ensures.ok)),
  c.fail.ensures.ended,
)

pub returns-in-Ok-Cut-clause-waits : goal.returns-in-Ok-Cut-clause-waits
returns-in-Ok-Cut-clause-waits c _ =
    rw (sym c.self.view_is) (goes_cut (the_view c.self.inside) _ _ _ _
    (ap (λ s. s.ended) c.self.view_is ∙ c.requires) c.reserve.ensures.items
    (rw c.in-Ok-Cut.field-0-is at c.in-Ok-Cut.ensures.reads))
