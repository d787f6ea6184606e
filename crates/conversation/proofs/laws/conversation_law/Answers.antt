use Rattle.conversation.proofs.Courses.{gave_all_alone, gave_out_alone}
use Rattle.conversation.proofs.laws.conversation_law.Goals as goal

pub returns-clause-course : goal.returns-clause-course
returns-clause-course g _ = gave_out_alone g.P.Pads.calls

pub returns-clause-last : goal.returns-clause-last
returns-clause-last g _ = gave_all_alone g.P.Pads.calls
