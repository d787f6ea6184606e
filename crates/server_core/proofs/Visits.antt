-- What a request that ran out of memory leaves at a cell, and in a scan.
use Rattle.std.proofs.Common.{◌≡◌, inl, inr, ℕ, true, false, List, Option, Some, Result, Ok, Err, IsOk}
use Rattle.std.proofs.Common.{length, refl, sym, ap, ap₂, ◌∙◌, subst}
use Rattle.pad_model.specs.declared.refusal.Refusal.{Refusal}
use Rattle.pad_model.specs.declared.refusal.Refusal.TheVariants.{Memory}
use Rattle.pad_model.specs.declared.who.Who.{Who}
use Rattle.sessions.specs.declared.session.Room.{Room}
use Rattle.pad_core.specs.Machine.{Machine, step}
use Rattle.pad_core.specs.Ran.{IsCutShort, Stepped, event_step, takes_memory}
use Rattle.pad_core.specs.declared.act.Act.{Act}
use Rattle.pad_core.specs.declared.act.Act.TheVariants as act
use Rattle.pad_core.specs.declared.event.PadEvent.{PadEvent}
use Rattle.pad_core.specs.declared.reply.PadReply.{PadReply}
use Rattle.pad_core.specs.declared.reply.PadReply.TheVariants as pad
use Rattle.pad_core.specs.declared.reply.Reply.{Reply}
use Rattle.pad_core.specs.declared.request.Request.{Request}
use Rattle.pad_core.specs.declared.request.Request.TheVariants.{On}
use Rattle.server_core.specs.Actor.{Actor, visit_on}
use Rattle.server_core.specs.Rooms.{joins}
use Rattle.server_core.specs.AtCell.{act_at, passed_on, row_answer, rooms_after}
use Rattle.server_core.specs.Served.{Acted, RowVisited, TakesRoom, Visited}
use Rattle.server_core.specs.Steps.{concluded, goes_on, move, scanned}
use Rattle.server_core.specs.declared.step.Moved.{Moved}
use Rattle.server_core.specs.declared.step.Moved.TheVariants.{Refused}
use Rattle.server_core.specs.declared.step.Step.TheVariants.{Move}
use Rattle.server_core.specs.declared.task.Task.{Task}
use Rattle.server_core.specs.declared.task.Task.TheVariants.{Resting, Scanning}

-- a join takes a room
pub join_takes : (name : List ℕ) (a : Act) → joins a ≡ true → TakesRoom (On name a)
join_takes name act.Join is = tt
join_takes name (act.Rejoin old) is = tt
join_takes name other is = absurd (cc)

passed_ok : (answer : Result PadReply Refusal) → IsOk answer → IsOk (passed_on answer)
passed_ok (Ok reply) ok = by reply
  where
    by : (reply : PadReply) → IsOk (passed_on (Ok reply))
    by pad.Elsewhere = refl
    by other = refl
passed_ok (Err refusal) ok = absurd (cc)

-- a refusal changes no room
rooms_refused : (name : List ℕ) (cell : ℕ) (a : Act) (refusal : Refusal) (rooms : List Room) →
    rooms_after name cell a (Err refusal) rooms ≡ rooms
rooms_refused name cell act.Join refusal rooms = refl
rooms_refused name cell (act.Rejoin old) refusal rooms = refl
rooms_refused name cell act.Leave refusal rooms = refl
rooms_refused name cell other refusal rooms = refl

-- an act that was stepped at a cell
pub act_visited : (who : Who) (name : List ℕ) (a : Act) (cell : ℕ) (rooms : List Room) (event : PadEvent)
    (m new : Machine) (answer : Result PadReply Refusal) →
    event.pad.now ≡ name → event.who.now ≡ who → event.visit ≡ visit_on name rooms → event.act.now ≡ a →
    Stepped m event answer new →
    Visited who (On name a) rooms m (act_at who name a cell rooms m) (passed_on answer)
    (rooms_after name cell a answer rooms) new
act_visited who name a cell rooms event m new answer padded by at does done = visit done
  where
    same : event_step event m ≡ step name who (visit_on name rooms) a m
    same =
        ap (λ (n : List ℕ). step n event.who.now event.visit event.act.now m) padded
        ∙ ap (λ (w : Who). step name w event.visit event.act.now m) by
        ∙ ap (λ (v : Option ℕ). step name who v event.act.now m) at
        ∙ ap (λ (x : Act). step name who (visit_on name rooms) x m) does

    refused : answer ≡ Err Memory → passed_on answer ≡ Err Memory
    refused memory = ap passed_on memory

    stay : answer ≡ Err Memory → rooms_after name cell a answer rooms ≡ rooms
    stay memory = ap (λ (r : Result PadReply Refusal). rooms_after name cell a r rooms) memory
        ∙ rooms_refused name cell a Memory rooms

    visit : Stepped m event answer new → Visited who (On name a) rooms m (act_at who name a cell rooms m)
        (passed_on answer) (rooms_after name cell a answer rooms) new
    visit (inl (inl (memory, kept, ok, named, takes))) =
        inr (
          refused memory,
          stay memory,
          inl (
            kept,
            inr (
              named ∙ ap Some padded,
              passed_ok (step name who (visit_on name rooms) a m).0
                  (subst (λ (x : Result PadReply Refusal × Machine). IsOk x.0) same ok),
              ap takes_memory (sym does) ∙ takes,
            ),
          ),
        )
    visit (inl (inr e)) = inl (ap (λ (d : Result PadReply Refusal × Machine). (
      passed_on d.0,
      rooms_after name cell a d.0 rooms,
      d.1,
    )) (sym same ∙ e))
    visit (inr (memory, cut)) =
        inr (
          refused memory,
          stay memory,
          inr (
            name,
            a,
            refl,
            subst (λ (x : Act). IsCutShort name who x m new) does
                (subst (λ (w : Who). IsCutShort name w event.act.now m new) by
                (subst (λ (n : List ℕ). IsCutShort n event.who.now event.act.now m new) padded cut)),
          ),
        )

-- a scan that ends at a cell
pub scan_acted : (who after_who : Who) (rooms new : List Room) (task after_task : Task) (request : Request) (cell : ℕ)
    (cells after : List Machine) (answer : Result (Option Reply) Refusal) (told : Moved) →
    task ≡ Scanning request cell → after_who ≡ who → after_task ≡ Resting → goes_on answer cell (length after) ≡ false →
    told ≡ concluded request answer →
    RowVisited who request cell rooms cells (row_answer who request cell rooms cells) answer new after →
    (let a : Actor = record { who = who; rooms = rooms; task = task } in
    Acted Move cells a (move task a cells) told (record { who = after_who; rooms = new; task = after_task }) after)
scan_acted who after_who rooms new task after_task request cell cells after answer told is who_is rests stays told_is
    visited =
    subst (λ (t : Task). (let a : Actor = record { who = who; rooms = rooms; task = t } in
    Acted Move cells a (move t a cells) told (record { who = after_who; rooms = new; task = after_task }) after))
    (sym is)
    (subst (λ (b : Actor). Acted Move cells a (move (Scanning request cell) a cells) told b after) (sym left)
    (ended visited))
  where
    a : Actor
    a = record { who = who; rooms = rooms; task = Scanning request cell }

    left : (let b : Actor = record { who = after_who; rooms = new; task = after_task } in b)
        ≡ record { who = who; rooms = new; task = Resting }
    left = ap₂ (λ (w : Who) (t : Task). (let b : Actor = record { who = w; rooms = new; task = t } in b)) who_is rests

    memory_told : answer ≡ Err Memory → told ≡ Refused Memory
    memory_told memory = told_is ∙ ap (concluded request) memory

    ended : RowVisited who request cell rooms cells (row_answer who request cell rooms cells) answer new after →
        Acted Move cells a (scanned request cell a (row_answer who request cell rooms cells)) told
        (record { who = who; rooms = new; task = Resting }) after
    ended (inl e) = inl (ap (scanned request cell a) e ∙ rw stays refl
        ∙ ap (λ (t : Moved). (t, (let b : Actor = record { who = who; rooms = new; task = Resting } in b), after))
        (sym told_is))
    ended (inr (memory, same, inl (kept, why))) =
        inr (
          memory_told memory,
          ap (λ (r : List Room).
              (let b : Actor = record { who = who; rooms = r; task = Resting } in b)) same,
          inl (kept, why),
        )
    ended (inr (memory, same, inr cut)) =
        inr (
          memory_told memory,
          ap (λ (r : List Room).
              (let b : Actor = record { who = who; rooms = r; task = Resting } in b)) same,
          inr cut,
        )
