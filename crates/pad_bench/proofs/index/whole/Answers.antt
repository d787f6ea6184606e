use Rattle.std.proofs.Common.{refl, arith}
use Rattle.ident_index.proofs.CallerLemmas.{IsNew-empty, IsNew-insert}
use Rattle.pad_bench.proofs.index.whole.Goals as goal

pub loop-replica-init : goal.loop-replica-init
loop-replica-init c = rw c.new-index.ensures (λ s above. IsNew-empty s 1 s (refl, omega arith, omega arith))

pub loop-replica-preserved : goal.loop-replica-preserved
loop-replica-preserved c =
    rw c.in_ok-add.ensures.ok
    (λ s above.
    IsNew-insert c.loop-replica.index _ _ s 1 (λ t covers. c.loop-replica.invariant t (let h = covers in omega arith))
    (λ t covers other. let h = covers in let i = other in absurd (omega arith)) s (refl, omega arith, omega arith))
