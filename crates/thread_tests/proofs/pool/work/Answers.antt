use Rattle.std.proofs.Common.{ap, ◌∙◌}
use Rattle.thread_tests.proofs.pool.work.Goals as goal

pub returns : goal.returns
returns g c = (
  c.new-shared.result,
  c.serve_all.new.pads,
  ap (λ s. s.row.now) c.new-shared.ensures,
  ap (λ s. s.seats.items) c.new-shared.ensures ∙ ap (λ v. v.items) c.replace-own.ensures.value,
  ap (λ s. s.session.who) c.new-shared.ensures ∙ ap (λ s. s.who) c.new-2.ensures,
  ap (λ s. s.session.rooms) c.new-shared.ensures ∙ ap (λ s. s.rooms) c.new-2.ensures,
  c.serve_all.ensures,
  ap (λ v. v.items) c.seats.ensures,
)
