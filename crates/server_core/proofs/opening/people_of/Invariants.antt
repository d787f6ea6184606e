-- The loop of `people_of`: the persons among the authors so far.
use Rattle.std.proofs.Common.{◌≡◌, take}
use Rattle.server_core.specs.Opening.{people_of}
use Rattle.server_core.proofs.opening.people_of.Given as goal

abbrev pub invariant-loop-author : goal.invariant-loop-author
invariant-loop-author l = l.people ≡ people_of l.accounts (take l.author-index l.authors)
