use Rattle.store_records.proofs.Idle.{request_idle}
use Rattle.store_records.proofs.laws.idle_law.Goals as goal

pub returns : goal.returns
returns c who request cell rooms old answer new after more left idle =
    request_idle who request cell rooms old answer new after more left idle
