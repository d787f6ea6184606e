-- The outcome of a step that may run out of memory.
use Rattle.std.specs.Prelude.{◌≡◌, ◌⊎◌, ◌≢◌, ℕ, true, List, [], ◌∷◌, slice_get, slice_set, Option, Some, None, Result}
use Rattle.std.specs.Prelude.{Err, IsOk, IsTrue}
use Rattle.std.specs.List.{AllByRecursion}
use Rattle.pad_model.specs.Checked.{is_name}
use Rattle.pad_model.specs.declared.refusal.Refusal.{Refusal}
use Rattle.pad_model.specs.declared.refusal.Refusal.TheVariants.{Memory}
use Rattle.pad_model.specs.declared.who.Who.{Who}
use Rattle.sessions.specs.declared.session.Room.{Room}
use Rattle.pad_core.specs.Machine.{Machine, name_of}
use Rattle.pad_core.specs.Ran.{IsCutShort, takes_memory}
use Rattle.pad_core.specs.declared.act.Act.{Act}
use Rattle.pad_core.specs.declared.act.Act.TheVariants as act
use Rattle.pad_core.specs.declared.reply.Reply.{Reply}
use Rattle.pad_core.specs.declared.request.Request.{Request}
use Rattle.pad_core.specs.declared.request.Request.TheVariants.{Create, On}
use Rattle.server_core.specs.Actor.{Actor, rested}
use Rattle.server_core.specs.AtCell.{CellAnswer, RowAnswer, row_answer}
use Rattle.server_core.specs.Listing.{listed_at}
use Rattle.server_core.specs.Machine.{Server, server_step, with_accounts, with_actor}
use Rattle.server_core.specs.Steps.{actor_step}
use Rattle.server_core.specs.declared.step.Event.{Event}
use Rattle.server_core.specs.declared.step.Event.TheVariants as event
use Rattle.server_core.specs.declared.step.Moved.{Moved}
use Rattle.server_core.specs.declared.step.Moved.TheVariants.{Idle, Named, Refused}
use Rattle.server_core.specs.declared.step.Step.{Step}
use Rattle.server_core.specs.declared.task.Task.{Task}
use Rattle.server_core.specs.declared.step.Step.TheVariants as step
use Rattle.server_core.specs.declared.task.Task.TheVariants.{Resting, Scanning, Listing}

-- the request may make a room: memory for the room is allocated before the pad is asked, so running out of it may come
-- before the pad's refusal
abbrev pub TakesRoom : Request → Type 0
TakesRoom (Create name) = Unit {0}
TakesRoom (On name act.Join) = Unit {0}
TakesRoom (On name (act.Rejoin old)) = Unit {0}
TakesRoom other = ⊥

-- the act that a request asks for needs memory, the pad has the name, and its answer is not a refusal
abbrev pub IsGranted : Request → Machine → Result (Option Reply) Refusal → Type 0
IsGranted (On name act) m expected = (name_of m.owned ≡ Some name) × IsOk expected
    × (takes_memory act ≡ true)
IsGranted other m expected = ⊥

-- a request at a cell ran out of memory: nothing has changed, except if a push stopped in its release
abbrev pub FoundNoneAt : Who → Request → List Room → Machine → Result (Option Reply) Refusal →
    Result (Option Reply) Refusal → List Room → Machine → Type 0
FoundNoneAt who request rooms m expected answer new after =
    (answer ≡ Err Memory) × (new ≡ rooms)
    × (((after ≡ m) × (TakesRoom request ⊎ IsGranted request m expected))
    ⊎ ((name : List ℕ) × (act : Act) × (request ≡ On name act) × IsCutShort name who act m after))

-- a request at a cell is answered as the machine answers it, or ran out of memory
abbrev pub Visited : Who → Request → List Room → Machine → CellAnswer
    → Result (Option Reply) Refusal → List Room →
    Machine → Type 0
Visited who request rooms m expected answer new after = (expected ≡ (answer, new, after))
    ⊎ FoundNoneAt who request rooms m expected.0 answer new after

-- the cells after a push at one of them stopped in its release
abbrev pub IsCutAt : Who → Request → ℕ → List Machine → List Machine → Type 0
IsCutAt who request cell cells after =
    (name : List ℕ) × (act : Act) × (old : Machine) × (new : Machine) × (request ≡ On name act)
    × (slice_get cells cell ≡ Some old)
    × IsCutShort name who act old new × (after ≡ slice_set cells cell new)

-- the same for the pad at an index of the row
abbrev pub IsGrantedAt : Request → ℕ → List Machine → Result (Option Reply) Refusal → Type 0
IsGrantedAt request cell cells expected = (m : Machine) × (slice_get cells cell ≡ Some m)
    × IsGranted request m expected

-- a request at an index of the row is answered as the machine answers it, or ran out of memory
abbrev pub RowVisited : Who → Request → ℕ → List Room → List Machine → RowAnswer
    → Result (Option Reply) Refusal →
    List Room → List Machine → Type 0
RowVisited who request cell rooms cells expected answer new after =
    (expected ≡ (answer, new, after))
    ⊎ ((answer ≡ Err Memory) × (new ≡ rooms)
    × (((after ≡ cells) × (TakesRoom request ⊎ IsGrantedAt request cell cells expected.0))
    ⊎ IsCutAt who request cell cells after))

-- the result is not a refusal
abbrev pub IsNoRefusal : Moved → Type 0
IsNoRefusal (Refused refusal) = ⊥
IsNoRefusal other = Unit {0}

-- a request or a look ran out of memory, and changed nothing
abbrev pub AskFoundNone : Actor → List Machine → Moved → Moved → Actor → List Machine → Type 0
AskFoundNone a cells expected answer new after = (answer ≡ Refused Memory) × (new ≡ a)
    × (after ≡ cells)
    × IsNoRefusal expected

-- a scan ran out of memory at a cell: it has ended, and the cells are unchanged, except if a release stopped
abbrev pub ScanFoundNone : Request → ℕ → Actor → List Machine → Moved → Actor → List Machine
    → Type 0
ScanFoundNone request cell a cells answer new after =
    (answer ≡ Refused Memory) × (new ≡ rested a)
    × (((after ≡ cells) × (TakesRoom request
    ⊎ IsGrantedAt request cell cells (row_answer a.who request cell a.rooms cells).0))
    ⊎ IsCutAt a.who request cell cells after)

-- a list of pads ran out of memory at a cell that adds a pad: it has ended, and the cells are unchanged
abbrev pub ListFoundNone : ℕ → Actor → List Machine → Moved → Actor → List Machine → Type 0
ListFoundNone cell a cells answer new after =
    (answer ≡ Refused Memory) × (new ≡ rested a) × (after ≡ cells)
    × (listed_at a.who cell cells ≢ [])

-- an actor's step ran out of memory: a request or a look while nothing is under way, or a move of a scan or a list. No
-- other step needs memory
abbrev pub FoundNone : Step → Task → Actor → List Machine → Moved → Moved → Actor → List Machine
    → Type 0
FoundNone (step.Ask request) Resting a cells expected answer new after = AskFoundNone a cells
    expected answer new after
FoundNone (step.Look cell) Resting a cells expected answer new after = AskFoundNone a cells expected
    answer new after
FoundNone step.Move (Scanning request cell) a cells expected answer new after =
    ScanFoundNone request cell a cells answer new after
FoundNone step.Move (Listing cell found) a cells expected answer new after = ListFoundNone cell a
    cells answer new after
FoundNone other task a cells expected answer new after = ⊥

-- an actor's step is the machine's, or ran out of memory
abbrev pub Acted : Step → List Machine → Actor → Moved × Actor × List Machine → Moved → Actor
    → List Machine → Type 0
Acted step cells a expected answer new after = (expected ≡ (answer, new, after))
    ⊎ FoundNone step a.task a cells expected.0 answer new after

-- a name in the result is well formed
abbrev pub IsFormed : Moved → Type 0
IsFormed (Named (Some name)) = IsTrue (is_name name)
IsFormed other = Unit {0}

-- a request is answered as the machine answers it, or ran out of memory and changed nothing
abbrev pub Tried : Actor → Moved × Actor → Moved → Actor → Type 0
Tried a expected answer new = (expected ≡ (answer, new))
    ⊎ ((answer ≡ Refused Memory) × (new ≡ a) × IsNoRefusal expected.0)

-- the step of an actor that was opened ran out of memory
abbrev pub StepFoundNone : Server → ℕ → Step → Option Actor → Moved → Server → Type 0
StepFoundNone old at step None answer new = ⊥
StepFoundNone old at step (Some a) answer new =
    (actor : Actor) × (cells : List Machine) × FoundNone step a.task a old.cells
    (actor_step old.replica old.accounts step a old.cells).0 answer actor cells
    × (with_actor at old (answer, actor, cells) ≡ (answer, new))

-- a server's step is the machine's, or ran out of memory
abbrev pub Served : Server → ℕ → Step → Moved → Server → Type 0
Served old at step answer new = (server_step at step old ≡ (answer, new))
    ⊎ StepFoundNone old at step (slice_get old.actors at) answer new

-- a server handled an event: a step was served so, or the server has the new accounts and the result is Idle
abbrev pub GoesThrough : Server → Event → Moved → Server → Type 0
GoesThrough old (event.Step at step) answer new = Served old at step answer new
GoesThrough old (event.Accounts accounts) answer new = (answer ≡ Idle)
    × (new ≡ with_accounts accounts old)

-- a server handled each event so, one after another
abbrev pub Ran : Server → List Event → List Moved → Server → Type 0
Ran s [] [] new = new ≡ s
Ran s [] (answer ∷ answers) new = ⊥
Ran s (first ∷ events) [] new = ⊥
Ran s (first ∷ events) (answer ∷ answers) new = (next : Server) × GoesThrough s first answer next
    × Ran next events answers new

-- no step ran out of memory
abbrev pub FoundMemory : List Moved → Type 0
FoundMemory answers = AllByRecursion (λ answer. answer ≢ Refused Memory) answers
