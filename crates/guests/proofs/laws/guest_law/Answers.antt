use Rattle.guests.proofs.Made.{guest_is_guest, guest_named}
use Rattle.guests.proofs.laws.guest_law.Goals as goal

pub returns-clause-named : goal.returns-clause-named
returns-clause-named c = guest_named

pub returns-clause-guest : goal.returns-clause-guest
returns-clause-guest c = guest_is_guest
