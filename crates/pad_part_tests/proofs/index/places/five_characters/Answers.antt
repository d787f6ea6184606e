use Rattle.ident_index.proofs.CallerLemmas.{IsNew-empty}
use Rattle.pad_part_tests.proofs.index.places.five_characters.Goals as goal

pub add-requires-clause-fresh : goal.add-requires-clause-fresh
add-requires-clause-fresh c = rw c.new-index.ensures (IsNew-empty _ 5)
