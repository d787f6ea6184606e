-- What is under way ends.
use Rattle.std.proofs.Common.{◌≡◌, inl, inr, ℕ, ◌+◌, ◌<◌, true, nat_lt, List, [], ◌∷◌, length}
use Rattle.std.proofs.Common.{Option, Some, None, Result, Ok, Err, refl, sym, ap, ◌∙◌, subst, arith}
use Rattle.std.specs.List.{slice_get, slice_set}
use Rattle.std.proofs.lemmas.Option.{slice_get_within}
use borrow.Author.Tests.{ltb-true}
use Rattle.pad_model.proofs.Newer.{split}
use Rattle.pad_model.specs.declared.refusal.Refusal.{Refusal}
use Rattle.pad_core.specs.Machine.{Machine}
use Rattle.pad_core.specs.declared.reply.Reply.{Reply}
use Rattle.pad_core.specs.declared.request.Request.{Request}
use Rattle.server_core.specs.Actor.{Actor}
use Rattle.server_core.specs.AtCell.{RowAnswer, row_answer}
use Rattle.server_core.specs.Machine.{Server, with_actor}
use Rattle.server_core.specs.Served.{Served}
use Rattle.server_core.specs.Steps.{concluded, goes_on, leave_first, move, scanned}
use Rattle.server_core.specs.declared.step.Moved.{Moved}
use Rattle.server_core.specs.declared.step.Moved.TheVariants as moved
use Rattle.server_core.specs.declared.step.Step.TheVariants.{Move}
use Rattle.server_core.specs.declared.task.Task.{Task}
use Rattle.server_core.specs.declared.task.Task.TheVariants.{Resting, Scanning, Listing, Leaving}
use Rattle.server_core.proofs.Lengths.{step-cells}
use Rattle.server_core.proofs.Served.{told_memory}
use Rattle.server_core.proofs.Named.{get-set_same}
use Rattle.conversation.specs.Fuel.{task_left, actor_left, moves_left}

-- a scan continues only if there is a further cell
behind : (answer : Result (Option Reply) Refusal) (cell count : ℕ) → goes_on answer cell count ≡ true → cell + 1 < count
behind (Ok None) cell count e = ltb-true (cell + 1) count e
behind (Ok (Some reply)) cell count e = cc
behind (Err refusal) cell count e = cc

concludes : (request : Request) (answer : Result (Option Reply) Refusal) → concluded request answer ≡ moved.Scanning → ⊥
concludes request (Ok None) e = cc
concludes request (Ok (Some reply)) e = cc
concludes request (Err refusal) e = cc

-- a move after which something is still under way leaves fewer moves to make
abbrev Nears : Task → Actor → List Machine → Moved × Actor × List Machine → Type 0
Nears task a cells done = done.0 ≡ moved.Scanning → task_left done.1.task done.1 done.2 < task_left task a cells

scan-nears : (request : Request) (cell : ℕ) (a : Actor) (cells : List Machine) (done : RowAnswer)
    → length (scanned request cell a done).2 ≡ length cells →
    Nears (Scanning request cell) a cells (scanned request cell a done)
scan-nears request cell a cells done len =
    split (goes_on done.0 cell (length done.2))
    (λ e. let more = behind done.0 cell (length done.2) e in let same = rw e at len in rw e (λ _. omega arith))
    (λ e. rw e (λ is. absurd (concludes request done.0 is)))

leave-nears : (a : Actor) (rooms : List Rattle.sessions.specs.declared.session.Room.Room) (cells : List Machine) →
    a.rooms ≡ rooms → Nears Leaving a cells (leave_first a rooms cells)
leave-nears a [] cells e = λ is. cc
leave-nears a (room ∷ []) cells e = λ is. cc
leave-nears a (room ∷ next ∷ rooms) cells e = λ is. omega (arith, ap length e)

move-nears : (replica : ℕ) (accounts : Rattle.sessions.specs.Accounts.Accounts) (task : Task) (a : Actor)
    (cells : List Machine) → a.task ≡ task → Nears task a cells (move task a cells)
move-nears replica accounts Resting a cells e = λ is. cc
move-nears replica accounts (Scanning request cell) a cells e =
    scan-nears request cell a cells (row_answer a.who request cell a.rooms cells)
    (subst (λ t. length (move t a cells).2 ≡ length cells) e (step-cells replica accounts Move a cells))
move-nears replica accounts (Listing cell found) a cells e = split (nat_lt (cell + 1) (length cells))
    (λ goes. let more = ltb-true (cell + 1) (length cells) goes in rw goes (λ _. omega (arith, more)))
    (λ stops. rw stops (λ is. cc))
move-nears replica accounts Leaving a cells e = leave-nears a a.rooms cells refl

-- the same for a server's actor
from_actor : (s : Server) (actor : ℕ) (answer : Moved) (new : Server) (o : Option Actor) → slice_get s.actors actor
    ≡ o → Served s actor Move answer new → answer ≡ moved.Scanning
    → moves_left actor new < moves_left actor s
from_actor s actor answer new None is (inl e) scans = let told = rw is at (ap (λ d. d.0) e) in cc
from_actor s actor answer new None is (inr h) scans = absurd (rw is at h)
from_actor s actor answer new (Some a) is (inr h) scans = let told = told_memory s new actor Move (Some a) answer
    (rw is at h) in cc
from_actor s actor answer new (Some a) is (inl e) scans =
    let done : Moved × Actor × List Machine = move a.task a s.cells in
    let step : with_actor actor s done ≡ (answer, new) = rw is at e in
    let put : slice_get (slice_set s.actors actor done.1) actor ≡ Some done.1 =
    get-set_same s.actors actor done.1 (slice_get_within s.actors actor a is) in
    let after : moves_left actor new ≡ task_left done.1.task done.1 done.2 =
    ap (λ d. moves_left actor d.1) (sym step) ∙ ap (λ o. actor_left o done.2) put in
    let before : moves_left actor s ≡ task_left a.task a s.cells = ap (λ o. actor_left o s.cells) is in
    let less : task_left done.1.task done.1 done.2 < task_left a.task a s.cells =
    move-nears s.replica s.accounts a.task a s.cells refl (ap (λ d. d.0) step ∙ scans) in
    omega arith

pub moves_fewer : (s : Server) (actor : ℕ) (answer : Moved) (new : Server) → Served s actor Move answer new →
    answer ≡ moved.Scanning → moves_left actor new < moves_left actor s
moves_fewer s actor answer new served scans = from_actor s actor answer new (slice_get s.actors actor) refl served scans
