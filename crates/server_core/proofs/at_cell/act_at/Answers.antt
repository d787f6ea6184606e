use Rattle.std.proofs.Common.{List, Option, Result, Err, inl, inr, refl, sym, ap, ◌∙◌, subst}
use Rattle.pad_model.specs.declared.refusal.Refusal.{Refusal}
use Rattle.sessions.specs.declared.session.Room.{Room}
use Rattle.pad_core.proofs.Exits.{passed_on as exits_with}
use Rattle.pad_core.specs.declared.reply.Reply.{Reply}
use Rattle.server_core.specs.Actor.{visit_on}
use Rattle.server_core.specs.AtCell.{act_at, passed_on, rooms_after}
use Rattle.server_core.specs.Served.{Visited}
use Rattle.pad_core.specs.declared.request.Request.TheVariants.{On}
use Rattle.server_core.proofs.Visits.{act_visited, join_takes}
use Rattle.server_core.proofs.at_cell.act_at.Goals as goal

pub returns-in_err-name-clause-visited : goal.returns-in_err-name-clause-visited
returns-in_err-name-clause-visited g c =
    rw (exits_with c.from_residual.result c.from_residual.ensures.1)
    (inr (
      ap Err c.in_err-name.ensures.memory.0,
      c.in_err-name.ensures.same.1,
      inl (refl, inl (join_takes c.args.pad.now c.args.act.now c.in_err-name.ensures.memory.1)),
    ))

pub returns-clause-visited : goal.returns-clause-visited
returns-clause-visited g c =
    let same = c.in_ok-name.ensures.same in
    let who = c.who.ensures.value ∙ same.0 in
    let visit = c.visit_on.ensures ∙ ap (visit_on c.args.pad.now) same.1 in
    let kept = c.keep_rooms.ensures.rooms
    ∙ ap (rooms_after c.args.pad.now c.args.place c.args.act.now c.step-answer.result) same.1 in
    subst (λ (a : Result (Option Reply) Refusal). Visited c.args.session.now.who (On c.args.pad.now c.args.act.now)
    c.args.session.now.rooms c.args.cell.now
    (act_at c.args.session.now.who c.args.pad.now c.args.act.now c.args.place c.args.session.now.rooms c.args.cell.now)
    a c.keep_rooms.new.session.rooms c.step-answer.new.self)
    (sym c.pass_on.ensures)
    (subst (λ (r : List Room). Visited c.args.session.now.who (On c.args.pad.now c.args.act.now)
    c.args.session.now.rooms c.args.cell.now
    (act_at c.args.session.now.who c.args.pad.now c.args.act.now c.args.place c.args.session.now.rooms c.args.cell.now)
    (passed_on c.step-answer.result) r c.step-answer.new.self)
    (sym kept)
    (act_visited c.args.session.now.who c.args.pad.now c.args.act.now c.args.place c.args.session.now.rooms
    (record { pad = c.as_str.result; who = c.who.result; visit = c.visit_on.result; act = c.args.act }) c.args.cell.now
    c.step-answer.new.self c.step-answer.result
    c.as_str.ensures who visit refl c.step-answer.ensures))
