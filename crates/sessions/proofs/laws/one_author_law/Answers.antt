use Rattle.sessions.proofs.OneAuthor.{one_author}
use Rattle.sessions.proofs.laws.one_author_law.Goals as goal

pub returns : goal.returns
returns c = one_author
