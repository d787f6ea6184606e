use Rattle.pad_model.specs.Character.{run_characters}
use Rattle.pad_model.specs.Laws.{itself}
use Rattle.pad_model.proofs.Runs.{order-newest, IsRun-run_characters}
use Rattle.pad_model.proofs.laws.newest_law.Goals as goal

pub returns : goal.returns
returns _ s first parent text author t j h =
    order-newest itself s first parent (run_characters first parent text author) t j
    (IsRun-run_characters first parent text author) h
