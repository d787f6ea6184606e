use Rattle.std.proofs.Common.{subst}
use Rattle.conversation.specs.Names.{AreNames, NameBook}
use Rattle.conversation.proofs.names.NameBook.start.Goals as goal

pub returns-in-Create-clause-starts : goal.returns-in-Create-clause-starts
returns-in-Create-clause-starts c = (
  c.args.self.now,
  subst (λ (b : NameBook). AreNames 0 b.names) c.self.view_is c.self.invariant,
  c.start_of-start.ensures,
)

pub returns-in_default-clause-starts : goal.returns-in_default-clause-starts
returns-in_default-clause-starts c = (
  c.args.self.now,
  subst (λ (b : NameBook). AreNames 0 b.names) c.self.view_is c.self.invariant,
  c.start_of-start.ensures,
)
