-- An actor has nothing under way after an answer.
use Rattle.std.proofs.Common.{◌≡◌, inl, inr, ℕ, ◌+◌, true, cond, nat_lt, List, [], ◌∷◌, length, Option, Some}
use Rattle.std.proofs.Common.{None, Result, Ok, Err, refl, sym, ap, ◌∙◌, subst}
use Rattle.std.specs.List.{slice_get}
use Rattle.std.proofs.lemmas.Option.{slice_get_within}
use Rattle.pad_model.proofs.Newer.{split}
use Rattle.pad_model.specs.declared.refusal.Refusal.{Refusal}
use Rattle.pad_model.specs.declared.refusal.Refusal.TheVariants.{Memory}
use Rattle.sessions.specs.Accounts.{Accounts}
use Rattle.sessions.specs.declared.session.Room.{Room}
use Rattle.pad_core.specs.Machine.{Machine}
use Rattle.pad_core.specs.declared.reply.Reply.{Reply}
use Rattle.pad_core.specs.declared.request.Request.{Request}
use Rattle.pad_core.specs.declared.request.Request.TheVariants as request
use Rattle.server_core.specs.Actor.{Actor, is_busy, first_cell}
use Rattle.server_core.specs.AtCell.{RowAnswer, row_answer}
use Rattle.server_core.specs.Machine.{Server, with_actor}
use Rattle.server_core.specs.Opening.{create_refusal, pads_refusal, act_refusal}
use Rattle.server_core.specs.Served.{Served, FoundNone}
use Rattle.server_core.specs.Steps.{actor_step, ask, begun, concluded, end, ended, goes_on, leave_first, list_begun}
use Rattle.server_core.specs.Steps.{move, scanned, told, unless_busy}
use Rattle.server_core.specs.declared.step.Moved.{Moved}
use Rattle.server_core.specs.declared.step.Moved.TheVariants as moved
use Rattle.server_core.specs.declared.step.Step.{Step}
use Rattle.server_core.specs.declared.step.Step.TheVariants.{Ask, Move, Look, Relay, End}
use Rattle.server_core.specs.declared.task.Task.{Task}
use Rattle.server_core.specs.declared.task.Task.TheVariants.{Resting, Scanning, Listing, Leaving}
use Rattle.server_core.proofs.Named.{get-set_same}
use Rattle.conversation.specs.Calls.{IsAtRest, IsUnderWay, IsCall, IsAnswer}

-- after a step an actor rests or something is under way, as the outcome says
abbrev pub Leaves : Moved → Actor → Type 0
Leaves moved.Scanning a = is_busy a.task ≡ true
Leaves (moved.Done reply) a = a.task ≡ Resting
Leaves (moved.Refused refusal) a = a.task ≡ Resting
Leaves moved.Idle a = ⊥
Leaves (moved.Named name) a = ⊥

-- the same for a server's actor
abbrev pub LeavesAt : ℕ → Moved → Server → Type 0
LeavesAt actor answer new = (a : Actor) × (slice_get new.actors actor ≡ Some a) × Leaves answer a

told-leaves : (answer : Result Reply Refusal) (a : Actor) → a.task ≡ Resting → Leaves (told answer) a
told-leaves (Ok reply) a rest = rest
told-leaves (Err refusal) a rest = rest

begun-leaves : (asked : Request) (cell : ℕ) (a : Actor) (o : Option Refusal) → a.task ≡ Resting →
    Leaves (begun asked cell a o).0 (begun asked cell a o).1
begun-leaves asked cell a None rest = refl
begun-leaves asked cell a (Some refusal) rest = rest

list-leaves : (a : Actor) (o : Option Refusal) → a.task ≡ Resting → Leaves (list_begun a o).0 (list_begun a o).1
list-leaves a None rest = refl
list-leaves a (Some refusal) rest = rest

ask-leaves : (replica : ℕ) (accounts : Accounts) (asked : Request) (a : Actor) → a.task ≡ Resting →
    Leaves (ask replica accounts asked a).0 (ask replica accounts asked a).1
ask-leaves replica accounts (request.Hello name token) a rest = told-leaves _ _ rest
ask-leaves replica accounts (request.Peer number token version) a rest = told-leaves _ _ rest
ask-leaves replica accounts (request.Create name) a rest = begun-leaves (request.Create name)
    (first_cell name a.rooms) a (create_refusal a.who name) rest
ask-leaves replica accounts request.Pads a rest = list-leaves a (pads_refusal a.who) rest
ask-leaves replica accounts (request.People authors) a rest = told-leaves _ _ rest
ask-leaves replica accounts (request.On name act) a rest = begun-leaves (request.On name act)
    (first_cell name a.rooms) a (act_refusal a.who name act) rest

ended-leaves : (a : Actor) (rooms : List Room) → Leaves (ended a rooms).0 (ended a rooms).1
ended-leaves a [] = refl
ended-leaves a (room ∷ rooms) = refl

unless-leaves : (a : Actor) (done : Moved × Actor) → a.task ≡ Resting → Leaves done.0 done.1 →
    Leaves (unless_busy a done).0 (unless_busy a done).1
unless-leaves a done rest leaves = subst
    (λ b. Leaves (cond b (moved.Refused Rattle.pad_model.specs.declared.refusal.Refusal.TheVariants.Busy, a) done).0
    (cond b (moved.Refused Rattle.pad_model.specs.declared.refusal.Refusal.TheVariants.Busy, a) done).1)
    (sym (ap is_busy rest)) leaves

-- a call's step
call-leaves : (replica : ℕ) (accounts : Accounts) (step : Step) (a : Actor) (cells : List Machine) → a.task ≡ Resting →
    IsCall step
    → Leaves (actor_step replica accounts step a cells).0 (actor_step replica accounts step a cells).1
call-leaves replica accounts (Ask asked) a cells rest call = unless-leaves a (ask replica accounts asked a) rest
    (ask-leaves replica accounts asked a rest)
call-leaves replica accounts Move a cells rest call = absurd call
call-leaves replica accounts (Look cell) a cells rest call = absurd call
call-leaves replica accounts (Relay number) a cells rest call = unless-leaves a _ rest (told-leaves _ _ rest)
call-leaves replica accounts End a cells rest call = subst (λ t. Leaves (end t a).0 (end t a).1) (sym rest)
    (ended-leaves a a.rooms)

concluded-leaves : (asked : Request) (answer : Result (Option Reply) Refusal) (a : Actor) → a.task ≡ Resting →
    Leaves (concluded asked answer) a
concluded-leaves asked (Ok None) a rest = rest
concluded-leaves asked (Ok (Some reply)) a rest = rest
concluded-leaves asked (Err refusal) a rest = rest

scan-leaves : (asked : Request) (cell : ℕ) (a : Actor) (done : RowAnswer) →
    Leaves (scanned asked cell a done).0 (scanned asked cell a done).1
scan-leaves asked cell a done =
    split (goes_on done.0 cell (length done.2)) (λ e. rw e refl) (λ e. rw e (concluded-leaves asked done.0 _ refl))

leave-leaves : (a : Actor) (rooms : List Room) (cells : List Machine) →
    Leaves (leave_first a rooms cells).0 (leave_first a rooms cells).1
leave-leaves a [] cells = refl
leave-leaves a (room ∷ rooms) cells = ended-leaves a rooms

-- a move of what is under way
move-leaves : (task : Task) (a : Actor) (cells : List Machine) → is_busy task ≡ true →
    Leaves (move task a cells).0 (move task a cells).1
move-leaves Resting a cells busy = cc
move-leaves (Scanning asked cell) a cells busy = scan-leaves asked cell a (row_answer a.who asked cell a.rooms cells)
move-leaves (Listing cell found) a cells busy = split (nat_lt (cell + 1) (length cells)) (λ e. rw e refl) (λ e. rw e refl)
move-leaves Leaving a cells busy = leave-leaves a a.rooms cells

-- a step leaves at the server's actor what it leaves at the actor
put : (s new : Server) (actor : ℕ) (a : Actor) (done : Moved × Actor × List Machine) (answer : Moved) →
    slice_get s.actors actor ≡ Some a → with_actor actor s done ≡ (answer, new) → Leaves done.0 done.1
    → LeavesAt actor answer new
put s new actor a done answer is step leaves =
    subst (λ d. LeavesAt actor d.0 d.1) step (
      done.1,
      get-set_same s.actors actor done.1 (slice_get_within s.actors actor a is),
      leaves,
    )

-- a step that runs out of memory leaves the actor at rest
none_leaves : (step : Step) (task : Task) (a : Actor) (cells : List Machine) (expected answer : Moved) (new : Actor)
    (after : List Machine) → a.task ≡ task → FoundNone step task a cells expected answer new after →
    (answer ≡ moved.Refused Memory) × (new.task ≡ Resting)
none_leaves (Ask asked) Resting a cells expected answer new after is h = (h.0, ap (λ (b : Actor). b.task) h.1 ∙ is)
none_leaves (Ask asked) (Scanning request cell) a cells expected answer new after is h = absurd h
none_leaves (Ask asked) (Listing at found) a cells expected answer new after is h = absurd h
none_leaves (Ask asked) Leaving a cells expected answer new after is h = absurd h
none_leaves Move Resting a cells expected answer new after is h = absurd h
none_leaves Move (Scanning request cell) a cells expected answer new after is h = (h.0, ap (λ (b : Actor). b.task) h.1)
none_leaves Move (Listing cell found) a cells expected answer new after is h = (h.0, ap (λ (b : Actor). b.task) h.1)
none_leaves Move Leaving a cells expected answer new after is h = absurd h
none_leaves (Look cell) Resting a cells expected answer new after is h = (h.0, ap (λ (b : Actor). b.task) h.1 ∙ is)
none_leaves (Look cell) (Scanning request at) a cells expected answer new after is h = absurd h
none_leaves (Look cell) (Listing at found) a cells expected answer new after is h = absurd h
none_leaves (Look cell) Leaving a cells expected answer new after is h = absurd h
none_leaves (Relay number) task a cells expected answer new after is h = absurd h
none_leaves End task a cells expected answer new after is h = absurd h

-- any step whose machine's leaves so much
leaves_at : (s new : Server) (actor : ℕ) (step : Step) (a : Actor) (answer : Moved) → slice_get s.actors actor ≡ Some a
    → Leaves (actor_step s.replica s.accounts step a s.cells).0 (actor_step s.replica s.accounts step a s.cells).1 →
    Served s actor step answer new → LeavesAt actor answer new
leaves_at s new actor step a answer is leaves (inl e) =
    put s new actor a (actor_step s.replica s.accounts step a s.cells) answer is (rw is at e) leaves
leaves_at s new actor step a answer is leaves (inr h) =
    let found = rw is at h in
    let so = none_leaves step a.task a s.cells (actor_step s.replica s.accounts step a s.cells).0 answer found.0 found.1
    refl found.2 in
    put s new actor a (answer, found.0, found.1) answer is found.3 (subst (λ m. Leaves m found.0) (sym so.0) so.1)

pub step_leaves : (s new : Server) (actor : ℕ) (step : Step) (answer : Moved) → IsAtRest s actor → IsCall step →
    Served s actor step answer new → LeavesAt actor answer new
step_leaves s new actor step answer rest call served =
    leaves_at s new actor step rest.0 answer rest.1 (call-leaves s.replica s.accounts step rest.0 s.cells rest.2 call)
    served

pub moves_leave : (s new : Server) (actor : ℕ) (answer : Moved) → IsUnderWay s actor → Served s actor Move answer new →
    LeavesAt actor answer new
moves_leave s new actor answer busy served =
    leaves_at s new actor Move busy.0 answer busy.1 (move-leaves busy.0.task busy.0 s.cells busy.2) served

-- if nothing is under way, there is an answer
pub rests : (actor : ℕ) (answer : Moved) (new : Server) → (answer ≡ moved.Scanning → ⊥) → LeavesAt actor answer new →
    IsAnswer answer × IsAtRest new actor
rests actor moved.Scanning new not leaves = absurd (not refl)
rests actor (moved.Done reply) new not leaves = (tt, leaves)
rests actor (moved.Refused refusal) new not leaves = (tt, leaves)
rests actor moved.Idle new not leaves = absurd leaves.2
rests actor (moved.Named name) new not leaves = absurd leaves.2

-- a look leaves the actor as it is
look_keeps : (replica : ℕ) (accounts : Accounts) (cell : ℕ) (a : Actor) (cells : List Machine) →
    (actor_step replica accounts (Look cell) a cells).1 ≡ a
look_keeps replica accounts cell a cells = split (is_busy a.task) (λ e. rw e refl) (λ e. rw e refl)

put_rest : (s new : Server) (actor : ℕ) (a : Actor) (done : Moved × Actor × List Machine) (answer : Moved) →
    slice_get s.actors actor ≡ Some a → with_actor actor s done ≡ (answer, new) → done.1.task ≡ Resting →
    IsAtRest new actor
put_rest s new actor a done answer is step rest =
    subst (λ d. IsAtRest d.1 actor) step (
      done.1,
      get-set_same s.actors actor done.1 (slice_get_within s.actors actor a is),
      rest,
    )

looked : (s new : Server) (actor cell : ℕ) (a : Actor) (answer : Moved) → slice_get s.actors actor ≡ Some a →
    a.task ≡ Resting → Served s actor (Look cell) answer new → IsAtRest new actor
looked s new actor cell a answer is rest (inl e) =
    put_rest s new actor a (actor_step s.replica s.accounts (Look cell) a s.cells) answer is (rw is at e)
    (ap (λ (b : Actor). b.task) (look_keeps s.replica s.accounts cell a s.cells) ∙ rest)
looked s new actor cell a answer is rest (inr h) =
    let found = rw is at h in
    let so = none_leaves (Look cell) a.task a s.cells (actor_step s.replica s.accounts (Look cell) a s.cells).0 answer
    found.0 found.1 refl found.2 in
    put_rest s new actor a (answer, found.0, found.1) answer is found.3 so.1

-- after a look the actor has nothing under way
pub looks_rest : (s new : Server) (actor cell : ℕ) (answer : Moved) → IsAtRest s actor →
    Served s actor (Look cell) answer new → IsAtRest new actor
looks_rest s new actor cell answer rest served = looked s new actor cell rest.0 answer rest.1 rest.2 served
