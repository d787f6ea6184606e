use Rattle.std.proofs.Common.{[], length, refl, sym, ap, ◌∙◌, subst, arith, Contains}
use Rattle.pad_core.specs.Delivered.{IsDelivered}
use Rattle.pad_core.specs.Machine.{Machine}
use Rattle.pad_core.proofs.Alike.{read_alike}
use Rattle.server_core.proofs.Served.{RanSome-ends, RanSome-push, Ran-machine, each_has}
use Rattle.server_core.proofs.server.Server.run.Goals as goal

pub loop-event-init : goal.loop-event-init
loop-event-init g c = record {
  ran = ([], c.into_iter-event-iterator.ensures.into_iter_gives.0, rw (c.in-Ok.ensures.items) refl);
  room = omega (
    arith,
    c.in-Ok.ensures.len,
    c.in-Ok.ensures.capacity,
    c.len.ensures,
    c.args.events.ok.0,
    ap length c.into_iter-event-iterator.ensures.into_iter_gives.0,
  );
}

pub loop-event-preserved : goal.loop-event-preserved
loop-event-preserved g c = record {
  ran = rw (c.push_reserved.ensures.items) (RanSome-push c.args.self.now c.loop-event.self
      c.go_through-answer.new.self c.args.events.items c.loop-event.event-iterator.rest.items
      c.next.new.self.rest.items c.loop-event.answers.items c.in-Some.event c.go_through-answer.result
      c.loop-event.invariant.ran c.in-Some.ensures.steps.0 c.go_through-answer.ensures);
  room = omega (
    arith,
    c.loop-event.invariant.room,
    c.push_reserved.ensures.len,
    c.push_reserved.ensures.capacity,
    ap length c.in-Some.ensures.steps.0,
  );
}

pub returns-clause-ran : goal.returns-clause-ran
returns-clause-ran g c =
    RanSome-ends c.args.self.now c.loop-event.self c.args.events.items c.loop-event.event-iterator.rest.items
    c.loop-event.answers.items c.loop-event.invariant.ran
    (sym c.loop-event.event-iterator.rest.ok.0 ∙ c.in-None.ensures.steps.0)

pub returns-clause-machine : goal.returns-clause-machine
returns-clause-machine g c found =
    Ran-machine c.args.self.now c.loop-event.self c.args.events.items c.loop-event.answers.items
    (returns-clause-ran g c) found

pub returns-clause-alike : goal.returns-clause-alike
returns-clause-alike g c m there other delivered same =
    read_alike m.log other (each_has (λ (m : Machine). IsDelivered m.log) _ m c.know_delivered.ensures
    (subst (λ cells. Contains cells m) (sym (c.as_slice.ensures.value ∙ ap (λ s. s.cells) c.self.view_is)) there))
    delivered same
