use Rattle.store_records.proofs.Steps.{request_again}
use Rattle.store_records.proofs.laws.steps_law.Goals as goal

pub returns : goal.returns
returns c who request cell rooms old answer new after more left =
    request_again who request cell rooms old answer new after more left
