-- A step keeps the number of cells.
use Rattle.std.proofs.Common.{◌≡◌, inl, inr, ℕ, ◌+◌, Bool, true, false, List, [], ◌∷◌, length, Option, Some, None}
use Rattle.std.proofs.Common.{nat_lt, Result, Ok, Err, refl, sym, ap, ◌∙◌, subst}
use Rattle.std.specs.List.{slice_get, slice_set}
use Rattle.std.proofs.lemmas.List.{length-set}
use Rattle.pad_model.proofs.Newer.{split}
use Rattle.pad_model.specs.declared.who.Who.{Who}
use Rattle.sessions.specs.Accounts.{Accounts}
use Rattle.sessions.specs.declared.session.Room.{Room}
use Rattle.pad_core.specs.Machine.{Machine}
use Rattle.pad_core.specs.declared.request.Request.{Request}
use Rattle.server_core.specs.Actor.{Actor}
use Rattle.server_core.specs.AtCell.{RowAnswer, row_answer}
use Rattle.server_core.specs.Served.{Acted, FoundNone, IsCutAt, ScanFoundNone}
use Rattle.server_core.specs.Steps.{actor_step, goes_on, leave_first, left_room, move, scanned}
use Rattle.server_core.specs.declared.step.Moved.{Moved}
use Rattle.server_core.specs.declared.step.Step.{Step}
use Rattle.server_core.specs.declared.step.Step.TheVariants.{Ask, Move, Look, Relay, End}
use Rattle.server_core.specs.declared.task.Task.{Task}
use Rattle.server_core.specs.declared.task.Task.TheVariants.{Resting, Scanning, Listing, Leaving}

by_cell : (who : Who) (request : Request) (cell : ℕ) (rooms : List Room) (cells : List Machine) (o : Option Machine) →
    slice_get cells cell ≡ o → length (row_answer who request cell rooms cells).2 ≡ length cells
by_cell who request cell rooms cells None e = rw e refl
by_cell who request cell rooms cells (Some m) e = rw e (length-set cells cell _)

scanned-cells : (request : Request) (cell : ℕ) (a : Actor) (done : RowAnswer) → (scanned request cell a done).2 ≡ done.2
scanned-cells request cell a done = split (goes_on done.0 cell (length done.2)) (λ e. rw e refl) (λ e. rw e refl)

left-cells : (who : Who) (room : Room) (cells : List Machine) (o : Option Machine) → slice_get cells room.cell ≡ o →
    length (left_room who room cells) ≡ length cells
left-cells who room cells None e = rw e refl
left-cells who room cells (Some m) e = rw e (length-set cells room.cell _)

leave-cells : (a : Actor) (rooms : List Room) (cells : List Machine) → length (leave_first a rooms cells).2
    ≡ length cells
leave-cells a [] cells = refl
leave-cells a (room ∷ rooms) cells = left-cells a.who room cells (slice_get cells room.cell) refl

move-cells : (task : Task) (a : Actor) (cells : List Machine) → length (move task a cells).2 ≡ length cells
move-cells Resting a cells = refl
move-cells (Scanning request cell) a cells =
    ap length (scanned-cells request cell a (row_answer a.who request cell a.rooms cells))
    ∙ by_cell a.who request cell a.rooms cells (slice_get cells cell) refl
move-cells (Listing cell found) a cells = split (nat_lt (cell + 1) (length cells)) (λ e. rw e refl) (λ e. rw e refl)
move-cells Leaving a cells = leave-cells a a.rooms cells

-- a step keeps the number of cells
pub step-cells : (replica : ℕ) (accounts : Accounts) (step : Step) (a : Actor) (cells : List Machine) →
    length (actor_step replica accounts step a cells).2 ≡ length cells
step-cells replica accounts (Ask request) a cells = refl
step-cells replica accounts Move a cells = move-cells a.task a cells
step-cells replica accounts (Look cell) a cells = refl
step-cells replica accounts (Relay number) a cells = refl
step-cells replica accounts End a cells = refl

cut-cells : (who : Who) (request : Request) (cell : ℕ) (cells after : List Machine) →
    IsCutAt who request cell cells after → length after ≡ length cells
cut-cells who request cell cells after (name, act, old, new, on, there, cut, e) = ap length e
    ∙ length-set cells cell new

scan-cells : (request : Request) (cell : ℕ) (a : Actor) (cells : List Machine) (answer : Moved) (new : Actor)
    (after : List Machine) → ScanFoundNone request cell a cells answer new after → length after ≡ length cells
scan-cells request cell a cells answer new after (told, same, inl kept) = ap length kept.0
scan-cells request cell a cells answer new after (told, same, inr cut) = cut-cells a.who request cell cells after cut

none-cells : (step : Step) (task : Task) (a : Actor) (cells : List Machine) (expected answer : Moved) (new : Actor)
    (after : List Machine) → FoundNone step task a cells expected answer new after → length after ≡ length cells
none-cells (Ask request) Resting a cells expected answer new after h = ap length h.2
none-cells (Ask request) (Scanning asked cell) a cells expected answer new after h = absurd h
none-cells (Ask request) (Listing at found) a cells expected answer new after h = absurd h
none-cells (Ask request) Leaving a cells expected answer new after h = absurd h
none-cells Move Resting a cells expected answer new after h = absurd h
none-cells Move (Scanning request cell) a cells expected answer new after h =
    scan-cells request cell a cells answer new after h
none-cells Move (Listing cell found) a cells expected answer new after h = ap length h.2
none-cells Move Leaving a cells expected answer new after h = absurd h
none-cells (Look cell) Resting a cells expected answer new after h = ap length h.2
none-cells (Look cell) (Scanning asked at) a cells expected answer new after h = absurd h
none-cells (Look cell) (Listing at found) a cells expected answer new after h = absurd h
none-cells (Look cell) Leaving a cells expected answer new after h = absurd h
none-cells (Relay number) task a cells expected answer new after h = absurd h
none-cells End task a cells expected answer new after h = absurd h

-- also if it runs out of memory
pub acted-cells : (replica : ℕ) (accounts : Accounts) (step : Step) (a : Actor) (cells : List Machine) (answer : Moved)
    (new : Actor) (after : List Machine) →
    Acted step cells a (actor_step replica accounts step a cells) answer new after → length after ≡ length cells
acted-cells replica accounts step a cells answer new after (inl v) = sym (ap (λ d. length d.2) v)
    ∙ step-cells replica accounts step a cells
acted-cells replica accounts step a cells answer new after (inr h) =
    none-cells step a.task a cells (actor_step replica accounts step a cells).0 answer new after h
