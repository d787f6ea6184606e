-- The loop of `right_of_link`: what the link was granted is among the grants that are left.
use Rattle.std.proofs.Common.{◌≡◌}
use Rattle.guests.specs.Guests.{link_of}
use Rattle.rights.specs.Rights.{granted}
use Rattle.rights.proofs.book.RightsBook.right_of_link.Given as goal

-- what the link was granted is among the grants that are left
abbrev pub invariant-loop-name : goal.invariant-loop-name
invariant-loop-name l = granted l.name-iterator (link_of l.guest) ≡ granted l.self.grants (link_of l.guest)
