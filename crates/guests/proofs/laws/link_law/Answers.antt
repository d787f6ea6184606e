use Rattle.guests.proofs.Made.{link_of_guest}
use Rattle.guests.proofs.laws.link_law.Goals as goal

pub returns : goal.returns
returns c = link_of_guest
