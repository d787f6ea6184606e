-- The names of a row over any steps of any actors and any new accounts.
use Rattle.std.proofs.Common.{◌≡◌, ◌⊎◌, inl, inr, ℕ, ◌+◌, Bool, true, false, List, [], ◌∷◌, length, map, Option, Some}
use Rattle.std.proofs.Common.{nat_lt, None, refl, sym, ap, ◌∙◌, subst}
use Rattle.std.specs.List.{AllByRecursion, slice_get, repeat}
use Rattle.std.specs.Prelude.{bytes_eq}
use Rattle.std.proofs.lemmas.Slice.Eq.{bytes_eq-Decides}
use Rattle.pad_model.proofs.Newer.{split}
use Rattle.pad_model.specs.declared.refusal.Refusal.{Refusal}
use Rattle.pad_model.specs.declared.who.Who.{Who}
use Rattle.sessions.specs.Accounts.{Accounts}
use Rattle.sessions.specs.declared.session.Room.{Room}
use Rattle.pad_core.specs.Machine.{Machine, step}
use Rattle.pad_core.specs.declared.act.Act.TheVariants as act
use Rattle.pad_core.specs.declared.request.Request.{Request}
use Rattle.pad_core.specs.declared.request.Request.TheVariants as request
use Rattle.server_core.specs.Actor.{Actor, first_cell, is_busy, nobody}
use Rattle.server_core.specs.AtCell.{RowAnswer, row_answer}
use Rattle.server_core.specs.Machine.{Server, run, server_event, server_step, unnamed}
use Rattle.server_core.specs.Names.{AreNamedInTurn, NamesLaw, NamesStay, names_of, opened_server}
use Rattle.server_core.specs.Opening.{act_refusal, create_refusal, pads_refusal}
use Rattle.server_core.specs.Steps.{actor_step, ask, begun, end, ended, goes_on, leave_first, left_room, list_begun, move, scanned}
use Rattle.server_core.specs.Steps.{unless_busy}
use Rattle.server_core.specs.declared.step.Event.{Event}
use Rattle.server_core.specs.declared.step.Event.TheVariants as event
use Rattle.server_core.specs.declared.step.Moved.{Moved}
use Rattle.server_core.specs.declared.step.Step.{Step}
use Rattle.server_core.specs.declared.step.Step.TheVariants.{Ask, Move, Look, Relay, End}
use Rattle.server_core.specs.declared.task.Task.{Task}
use Rattle.server_core.specs.declared.task.Task.TheVariants.{Resting, Scanning, Listing, Leaving}
use Rattle.server_core.proofs.Named.{Grows, grows-stay, grows-turn, each-get, each-repeat, each-set, each-weaken}
use Rattle.server_core.proofs.Named.{none-turn}
use Rattle.server_core.proofs.NameSteps.{ActorStands, IsBehind, Leaves, RequestStands, RoomStands, actor-stays}
use Rattle.server_core.proofs.NameSteps.{row-leaves, same_names}
use Rattle.server_core.proofs.Own.{step-name}

-- what a step leaves of a row, and of what its actor knows
abbrev pub StepLeaves : List Machine → Moved × Actor × List Machine → Type 0
StepLeaves cells done = Grows (names_of cells) (names_of done.2) × ActorStands (names_of done.2) done.1

-- at its beginning, a scan has passed nothing, or it is at the pad
first-behind : (names : List (Option (List ℕ))) (name : List ℕ) (rooms : List Room) →
    AllByRecursion (RoomStands names) rooms → IsBehind names name (first_cell name rooms)
first-behind names name [] h = inl (λ i low. absurd (omega (Rattle.std.proofs.Common.arith, low)))
first-behind names name (room ∷ rooms) h =
    split (bytes_eq room.pad name)
    (λ own. rw own (inr (h.0 ∙ ap (λ n. Some (Some n)) ((bytes_eq-Decides room.pad name).0 own))))
    (λ other. rw other (first-behind names name rooms h.1))

begun-create : (names : List (Option (List ℕ))) (name : List ℕ) (a : Actor) (o : Option Refusal) → ActorStands names a →
    ActorStands names (begun (request.Create name) (first_cell name a.rooms) a o).1
begun-create names name a (Some refusal) h = h
begun-create names name a None h = (h.0, first-behind names name a.rooms h.0)

begun-on : (names : List (Option (List ℕ))) (name : List ℕ) (act : Rattle.pad_core.specs.declared.act.Act.Act)
    (a : Actor) (o : Option Refusal) → ActorStands names a →
    ActorStands names (begun (request.On name act) (first_cell name a.rooms) a o).1
begun-on names name act a (Some refusal) h = h
begun-on names name act a None h = (h.0, tt)

begun-list : (names : List (Option (List ℕ))) (a : Actor) (o : Option Refusal) → ActorStands names a →
    ActorStands names (list_begun a o).1
begun-list names a (Some refusal) h = h
begun-list names a None h = (h.0, tt)

ask-stands : (names : List (Option (List ℕ))) (replica : ℕ) (accounts : Accounts) (r : Request) (a : Actor) →
    ActorStands names a → ActorStands names (ask replica accounts r a).1
ask-stands names replica accounts (request.Hello name token) a h = h
ask-stands names replica accounts (request.Peer number token version) a h = h
ask-stands names replica accounts (request.Create name) a h = begun-create names name a (create_refusal a.who name) h
ask-stands names replica accounts request.Pads a h = begun-list names a (pads_refusal a.who) h
ask-stands names replica accounts (request.People authors) a h = h
ask-stands names replica accounts (request.On name act) a h = begun-on names name act a (act_refusal a.who name act) h

busy-stands : (names : List (Option (List ℕ))) (a : Actor) (done : Moved × Actor) → ActorStands names a →
    ActorStands names done.1 → ActorStands names (unless_busy a done).1
busy-stands names a done h k = split (is_busy a.task) (λ e. rw e h) (λ e. rw e k)

ended-stands : (names : List (Option (List ℕ))) (a : Actor) (rooms : List Room) →
    AllByRecursion (RoomStands names) rooms → ActorStands names (ended a rooms).1
ended-stands names a [] h = (tt, tt)
ended-stands names a (room ∷ rooms) h = (h, tt)

end-stands : (names : List (Option (List ℕ))) (task : Task) (a : Actor) → ActorStands names a →
    ActorStands names (end task a).1
end-stands names Leaving a h = h
end-stands names Resting a h = ended-stands names a a.rooms h.0
end-stands names (Listing cell found) a h = ended-stands names a a.rooms h.0
end-stands names (Scanning r cell) a h = ended-stands names a a.rooms h.0

left-names : (who : Who) (room : Room) (cells : List Machine) (o : Option Machine) → slice_get cells room.cell ≡ o →
    names_of (left_room who room cells) ≡ names_of cells
left-names who room cells None e = rw e refl
left-names who room cells (Some m) e = rw e
    (same_names cells room.cell m (step room.pad who (Some room.visit) act.Leave m).1 e
    (step-name room.pad who (Some room.visit) act.Leave m))

leave-leaves : (a : Actor) (rooms : List Room) (cells : List Machine) →
    AllByRecursion (RoomStands (names_of cells)) rooms → StepLeaves cells (leave_first a rooms cells)
leave-leaves a [] cells h = (inl refl, ended-stands (names_of cells) a [] tt)
leave-leaves a (room ∷ rooms) cells h =
    let same = left-names a.who room cells (slice_get cells room.cell) refl in (
      inl same,
      subst (λ names. ActorStands names (ended a rooms).1) (sym same)
          (ended-stands (names_of cells) a rooms h.1),
    )

scanned-leaves : (cells : List Machine) (r : Request) (cell : ℕ) (a : Actor) (rooms : List Room) (done : RowAnswer) →
    Leaves cells r cell rooms done → StepLeaves cells (scanned r cell a done)
scanned-leaves cells r cell a rooms done h =
    split (goes_on done.0 cell (length done.2))
    (λ goes. rw goes (h.0, (h.1, h.2 goes)))
    (λ stops. rw stops (h.0, (h.1, tt)))

move-leaves : (task : Task) (a : Actor) (cells : List Machine) → a.task ≡ task → ActorStands (names_of cells) a →
    StepLeaves cells (move task a cells)
move-leaves Resting a cells e h = (inl refl, h)
move-leaves (Scanning r cell) a cells e h =
    scanned-leaves cells r cell a a.rooms (row_answer a.who r cell a.rooms cells)
    (row-leaves cells a.who r cell a.rooms h.0
    (subst (λ t. Rattle.server_core.proofs.NameSteps.TaskStands (names_of cells) t) e h.1))
move-leaves (Listing cell found) a cells e h = split (nat_lt (cell + 1) (length cells))
    (λ goes. rw goes (inl refl, (h.0, tt)))
    (λ stops. rw stops (inl refl, (h.0, tt)))
move-leaves Leaving a cells e h = leave-leaves a a.rooms cells h.0

step-leaves : (replica : ℕ) (accounts : Accounts) (s : Step) (a : Actor) (cells : List Machine) →
    ActorStands (names_of cells) a → StepLeaves cells (actor_step replica accounts s a cells)
step-leaves replica accounts (Ask r) a cells h = (
  inl refl,
  busy-stands (names_of cells) a (ask replica accounts r a) h
      (ask-stands (names_of cells) replica accounts r a h),
)
step-leaves replica accounts Move a cells h = move-leaves a.task a cells refl h
step-leaves replica accounts (Look cell) a cells h = (inl refl, busy-stands (names_of cells) a _ h h)
step-leaves replica accounts (Relay number) a cells h = (inl refl, busy-stands (names_of cells) a _ h h)
step-leaves replica accounts End a cells h = (inl refl, end-stands (names_of cells) a.task a h)

-- a server whose names are in turn, and whose actors know the row
abbrev pub Stands : Server → Type 0
Stands s = AreNamedInTurn (names_of s.cells) × AllByRecursion (ActorStands (names_of s.cells)) s.actors

abbrev pub GoesOn : Server → Server → Type 0
GoesOn old new = Stands new × NamesStay (names_of old.cells) (names_of new.cells)

same_stay : (names : List (Option (List ℕ))) → NamesStay names names
same_stay names cell name there = there

by_actor : (at : ℕ) (step : Step) (s : Server) (o : Option Actor) → slice_get s.actors at ≡ o → Stands s →
    GoesOn s (server_step at step s).1
by_actor at step s None e h = rw e (h, same_stay (names_of s.cells))
by_actor at step s (Some a) e h =
    let done = actor_step s.replica s.accounts step a s.cells in
    let leaves = step-leaves s.replica s.accounts step a s.cells
    (each-get (ActorStands (names_of s.cells)) s.actors at a h.1 e) in
    let stay = grows-stay (names_of s.cells) (names_of done.2) leaves.0 in
    rw e (
      (
        grows-turn (names_of s.cells) (names_of done.2) leaves.0 h.0,
        each-set (ActorStands (names_of done.2)) s.actors at done.1
            (each-weaken (ActorStands (names_of s.cells)) (ActorStands (names_of done.2)) s.actors
            (λ b k. actor-stays (names_of s.cells) (names_of done.2) b stay k) h.1) leaves.1,
      ),
      stay,
    )

by_event : (e : Event) (s : Server) → Stands s → GoesOn s (server_event e s).1
by_event (event.Step at step) s h = by_actor at step s (slice_get s.actors at) refl h
by_event (event.Accounts accounts) s h = (h, same_stay (names_of s.cells))

run-goes : (events : List Event) (s : Server) → Stands s → GoesOn s (run events s).1
run-goes [] s h = (h, same_stay (names_of s.cells))
run-goes (e ∷ events) s h =
    let one = by_event e s h in
    let rest = run-goes events (server_event e s).1 one.0 in
    (rest.0, λ cell name there. rest.1 cell name (one.1 cell name there))

unnamed-row : (replica present cells : ℕ) →
    AllByRecursion (λ n. n ≡ None) (names_of (repeat cells (unnamed replica present ∷ [])))
unnamed-row replica present Rattle.std.proofs.Common.zero = tt
unnamed-row replica present (Rattle.std.proofs.Common.suc cells) = (refl, unnamed-row replica present cells)

start-stands : (replica present cells actors : ℕ) (accounts : Accounts) →
    Stands (opened_server replica present cells accounts actors)
start-stands replica present cells actors accounts = (
  none-turn (names_of (repeat cells (unnamed replica present ∷ []))) (unnamed-row replica present cells),
  each-repeat (ActorStands (names_of (repeat cells (unnamed replica present ∷ [])))) actors nobody (tt, tt),
)

-- the names are in turn, and stay
pub names_in_turn : NamesLaw
names_in_turn replica present cells actors accounts events more =
    let s = run-goes events (opened_server replica present cells accounts actors)
    (start-stands replica present cells actors accounts) in
    (s.0.0, (run-goes more (run events (opened_server replica present cells accounts actors)).1 s.0).1)
