use Rattle.std.proofs.Common.{◌≡◌, ◌+◌, ◌++◌, ◌∷◌, [], sym, ap, ◌∙◌, subst, arith, take, take_all}
use Rattle.std.proofs.lemmas.List.{take_more}
use Rattle.pad_core.specs.Ran.{Ran}
use Rattle.pad_core.proofs.Runs.{Ran-push, Ran-machine}
use Rattle.pad_core.proofs.Alike.{last_reads}
use Rattle.pad_core.proofs.pad.Pad.run.Goals as goal

pub loop-event-preserved : goal.loop-event-preserved
loop-event-preserved g c =
    let one_more : take (c.loop-event.event-index + 1) c.args.events.now
    ≡ take c.loop-event.event-index c.args.events.now ++ c.event-item.result ∷ [] =
    take_more c.args.events.now c.loop-event.event-index c.event-item.result c.loop-event-test.true
    ∙ ap (λ e. take c.loop-event.event-index c.args.events.now ++ e ∷ []) (sym c.event-item.is)
    in
    record {
      ran = rw (one_more, c.push_reserved.ensures.items)
          (Ran-push c.args.self.now c.loop-event.self c.step-reply.new.self
          (take c.loop-event.event-index c.args.events.now) c.loop-event.replies.items c.event-item.result
          c.step-reply.result c.loop-event.invariant.ran c.step-reply.ensures);
      room = omega arith;
    }

pub returns-clause-machine : goal.returns-clause-machine
returns-clause-machine g c found =
    let all : take c.loop-event.event-index c.args.events.now ≡ c.args.events.now =
    take_all c.loop-event.event-index c.args.events.now c.loop-event-test.false in
    Ran-machine c.args.self.now c.loop-event.self c.args.events.now c.loop-event.replies.items
    (subst (λ es. Ran c.args.self.now es c.loop-event.replies.items c.loop-event.self) all c.loop-event.invariant.ran)
    found

pub returns-clause-alike : goal.returns-clause-alike
returns-clause-alike g c =
    let all : take c.loop-event.event-index c.args.events.now ≡ c.args.events.now =
    take_all c.loop-event.event-index c.args.events.now c.loop-event-test.false in
    last_reads c.args.self.now c.loop-event.self c.args.events.now c.loop-event.replies.items
    (subst (λ es. Ran c.args.self.now es c.loop-event.replies.items c.loop-event.self) all c.loop-event.invariant.ran)
    c.revision-now.ensures.delivered
