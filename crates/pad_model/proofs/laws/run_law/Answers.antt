use Rattle.pad_model.specs.Character.{run_characters}
use Rattle.pad_model.specs.Laws.{itself}
use Rattle.pad_model.proofs.Runs.{order-run, IsRun-run_characters}
use Rattle.pad_model.proofs.laws.run_law.Goals as goal

pub returns : goal.returns
returns _ s first parent text author t j = order-run itself s first parent (run_characters first parent text author) t j
    (IsRun-run_characters first parent text author)
