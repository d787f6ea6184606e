use Rattle.std.proofs.Common.{rules, ◌≡◌, inl, inr}
use Rattle.event_loop.proofs.Steps.{says_farewell}
use Rattle.event_loop.proofs.party.Party.say_goodbye.Goals as goal

pub returns-then-may_be_told : goal.returns-then-may_be_told
returns-then-may_be_told g c = says_farewell _ _ (c.may_be_told.ensures c.if-may_be_told.true) c.tell_by_frame.ensures
