use Rattle.std.proofs.Common.{arith}
use Rattle.std.specs.FinMap.{empty}
use Rattle.ident_index.proofs.CallerLemmas.{IsNew-empty, IsNew-insert}
use Rattle.pad_part_tests.proofs.index.places.replicas_with_equal_counters_do_not_meet.Goals as goal

pub add-requires-clause-fresh : goal.add-requires-clause-fresh
add-requires-clause-fresh g c =
    rw (c.in_ok-index.ensures, c.in_ok-other.ensures)
    (IsNew-insert empty (record { counter = 1; replica = 1 }) (record { len = 5; label = 100 })
    (record { counter = 1; replica = 2 }) 3 (IsNew-empty _ 3)
    (λ s here there. absurd (omega arith)))
