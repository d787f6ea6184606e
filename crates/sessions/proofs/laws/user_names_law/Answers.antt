use Rattle.sessions.proofs.UserNames.{one_user, tells_user}
use Rattle.sessions.proofs.laws.user_names_law.Goals as goal

pub returns-clause-one : goal.returns-clause-one
returns-clause-one c = one_user

pub returns-clause-tells : goal.returns-clause-tells
returns-clause-tells c = tells_user
