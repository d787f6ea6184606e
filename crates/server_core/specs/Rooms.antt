-- What a request needs at a cell.
use Rattle.std.specs.Prelude.{◌≡◌, ℕ, ◌≤◌, Bool, true, false, List, Option, Some, IsTrue}
use Rattle.pad_model.specs.Checked.{is_name}
use Rattle.pad_core.specs.declared.act.Act.{Act}
use Rattle.pad_core.specs.declared.act.Act.TheVariants as act
use Rattle.pad_core.specs.declared.request.Request.{Request}
use Rattle.pad_core.specs.declared.request.Request.TheVariants.{Create}
use Rattle.server_core.specs.declared.task.Task.{Task}
use Rattle.server_core.specs.declared.task.Task.TheVariants.{Scanning}

-- an act begins a visit
abbrev pub joins : Act → Bool
joins act.Join = true
joins (act.Rejoin old) = true
joins other = false

-- there is memory for the room that a join may make
abbrev pub HasRoom : Act → List ℕ → Option (List ℕ) → ℕ → Type 0
HasRoom act.Join pad name spare = (name ≡ Some pad) × (1 ≤ spare)
HasRoom (act.Rejoin old) pad name spare = (name ≡ Some pad) × (1 ≤ spare)
HasRoom other pad name spare = Unit {0}

-- the name of a pad to be created is well formed
abbrev pub IsAsked : Request → Type 0
IsAsked (Create pad) = IsTrue (is_name pad)
IsAsked other = Unit {0}

-- a request that is under way creates only a pad whose name is well formed
abbrev pub IsSoundTask : Task → Type 0
IsSoundTask (Scanning request cell) = IsAsked request
IsSoundTask other = Unit {0}
