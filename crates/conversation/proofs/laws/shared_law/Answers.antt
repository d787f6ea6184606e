use Rattle.conversation.specs.ThreadSession.{CallsRow, IsApart}
use Rattle.conversation.proofs.Courses.{gave_all, gave_out}
use Rattle.conversation.proofs.laws.shared_law.Goals as goal

pub returns-clause-course : goal.returns-clause-course
returns-clause-course g _ = gave_out CallsRow IsApart

pub returns-clause-last : goal.returns-clause-last
returns-clause-last g _ = gave_all CallsRow IsApart
