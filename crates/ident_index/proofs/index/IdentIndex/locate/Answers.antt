use Rattle.std.proofs.Common.{◌≡◌, arith}
use Rattle.ident_index.specs.View.{stamp_of}
use Rattle.ident_index.proofs.Order.{same_stamps}
use Rattle.ident_index.proofs.Nearest.{nearest_from_range, none_from_range, nearest_block, nearest_holds, nearest_place}
use Rattle.ident_index.proofs.index.IdentIndex.locate.Goals as goal

pub returns-in_err-key-clause-place : goal.returns-in_err-key-clause-place
returns-in_err-key-clause-place c =
    rw c.from_residual.ensures
    (none_from_range c.self.inside.entries _ _ _ c.self.view_is
    (rw c.new.ensures.value at (c.range.ensures.in_range tt)) c.in_err-key.ensures.steps.0)

pub returns-then-key-replica-clause-place : goal.returns-then-key-replica-clause-place
returns-then-key-replica-clause-place c = λ first h.
    let part = rw c.new.ensures.value at (c.range.ensures.in_range tt) in
    let near = nearest_from_range c.self.inside.entries _ _ _ c.self.view_is part _ _ _ c.in_ok-key.ensures.steps in
    let covers = (nearest_holds _ _ _ _ (rw c.self.view_is at c.self.invariant) near first h).1 in
    absurd (omega arith)

pub returns-then-offset-entry-clause-place : goal.returns-then-offset-entry-clause-place
returns-then-offset-entry-clause-place c = λ first h.
    let part = rw c.new.ensures.value at (c.range.ensures.in_range tt) in
    let near = nearest_from_range c.self.inside.entries _ _ _ c.self.view_is part _ _ _ c.in_ok-key.ensures.steps in
    let covers = (nearest_holds _ _ _ _ (rw c.self.view_is at c.self.invariant) near first h).1 in
    absurd (omega arith)

pub returns-in_default-clause-place : goal.returns-in_default-clause-place
returns-in_default-clause-place c =
    let part = rw c.new.ensures.value at (c.range.ensures.in_range tt) in
    let near = nearest_from_range c.self.inside.entries _ _ _ c.self.view_is part _ _ _ c.in_ok-key.ensures.steps in
    absurd (c.in_default.ensures.value.1 (nearest_block _ _ _ _ (rw c.self.view_is at c.self.invariant) near).limits)

pub returns-clause-place : goal.returns-clause-place
returns-clause-place c =
    let part = rw c.new.ensures.value at (c.range.ensures.in_range tt) in
    let near = nearest_from_range c.self.inside.entries _ _ _ c.self.view_is part _ _ _ c.in_ok-key.ensures.steps in
    let first : c.in-Ok.first ≡ stamp_of c.in_ok-key.key.now =
    same_stamps _ _ c.in-Ok.ensures.value.0 c.in-Ok.ensures.value.1 in
    rw (first, c.counter.ensures.value)
    (nearest_place _ _ _ _ (rw c.self.view_is at c.self.invariant) near (omega arith)
    (rw c.counter.ensures.value at c.if-offset-entry.false))
