use Rattle.std.proofs.Common.{refl, arith}
use Rattle.pad_model.specs.declared.limits.TheConstants.{MAX_COUNTER}
use Rattle.ident_index.specs.Index.{IsBlock, IsSound}
use Rattle.ident_index.specs.View.{stamp_of}
use Rattle.ident_index.proofs.Kept.{there}
use Rattle.ident_index.proofs.Nearest.{IsNearest, nearest_from_range, none_begins, nearest_block, nearest_bounds}
use Rattle.ident_index.proofs.Nearest.{nearest_end, nearest_other, holder_begins}
use Rattle.ident_index.proofs.index.IdentIndex.last_of.Goals as goal
use Rattle.ident_index.proofs.index.IdentIndex.last_of.Goals.{In-Some}

sound : (c : In-Some) → IsSound c.args.self.now
sound c = rw c.self.view_is at c.self.invariant

near : (c : In-Some) → IsNearest c.args.self.now (record { counter = MAX_COUNTER; replica = c.args.replica })
    (stamp_of c.in-Some.key.now) c.in-Some.entry.now
near c = nearest_from_range c.self.inside.entries c.args.self.now
    (record { counter = MAX_COUNTER; replica = c.args.replica }) _ c.self.view_is (c.range.ensures.in_range tt) _ _ _
    c.in-Some.ensures.steps

block : (c : In-Some) → IsBlock (stamp_of c.in-Some.key.now) c.in-Some.entry.now
block c = nearest_block _ _ _ _ (sound c) (near c)

pub returns-in_default-clause-bound : goal.returns-in_default-clause-bound
returns-in_default-clause-bound c = λ first s replica held.
    let begins = holder_begins c.args.self.now first s (rw c.self.view_is at c.self.invariant) held in
    absurd (there _ begins.2 (none_begins c.self.inside.entries c.args.self.now
    (record { counter = MAX_COUNTER; replica = c.args.replica }) _ c.self.view_is (c.range.ensures.in_range tt)
    c.in_default.ensures.steps.0 first (let same = begins.1 in omega arith) begins.0))

pub returns-then-key-replica-clause-bound : goal.returns-then-key-replica-clause-bound
returns-then-key-replica-clause-bound c = λ first s replica held.
    let i = (goal.at.returns-then-key-replica-clause-bound c).In-Some in
    absurd (nearest_other _ _ _ _ (sound i) (near i) (λ same. omega (arith, same, c.if-key-replica.true)) refl first s
    replica held)

pub overflow_sub-result : goal.overflow_sub-result
overflow_sub-result c = (block (goal.at.overflow_sub-result c).In-Some).sized

pub overflow_add-result : goal.overflow_add-result
overflow_add-result c = let b = block (goal.at.overflow_add-result c).In-Some in let ends = b.ends in omega arith

pub returns-clause-bound : goal.returns-clause-bound
returns-clause-bound c = λ first s replica held.
    let i = (goal.at.returns-clause-bound c).In-Some in
    let behind = nearest_bounds _ _ _ _ (sound i) (near i) (let same = c.if-key-replica.false in omega arith) refl first
    s replica held in
    omega arith

pub returns-clause-there : goal.returns-clause-there
returns-clause-there c = λ some.
    let i = (goal.at.returns-clause-there c).In-Some in (
      stamp_of c.in-Some.key.now,
      nearest_end _ _ _ _ _ (sound i) (near i) (let same = c.if-key-replica.false in
          omega arith) refl,
    )
