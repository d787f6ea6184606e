-- The number of moves until an actor has nothing under way.
use Rattle.std.specs.Prelude.{ℕ, ◌-◌, List, length, slice_get, Option, Some, None}
use Rattle.pad_core.specs.Machine.{Machine}
use Rattle.server_core.specs.Actor.{Actor}
use Rattle.server_core.specs.Machine.{Server}
use Rattle.server_core.specs.declared.task.Task.{Task}
use Rattle.server_core.specs.declared.task.Task.TheVariants.{Resting, Scanning, Listing, Leaving}

-- the number of cells that a task has yet to visit, or of pads that it has yet to leave
abbrev pub task_left : Task → Actor → List Machine → ℕ
task_left Resting a cells = 0
task_left (Scanning request cell) a cells = length cells - cell
task_left (Listing cell found) a cells = length cells - cell
task_left Leaving a cells = length a.rooms

-- the same for an actor, if it was opened
abbrev pub actor_left : Option Actor → List Machine → ℕ
actor_left None cells = 0
actor_left (Some a) cells = task_left a.task a cells

-- the number of moves that an actor has yet to make
abbrev pub moves_left : ℕ → Server → ℕ
moves_left actor server = actor_left (slice_get server.actors actor) server.cells
