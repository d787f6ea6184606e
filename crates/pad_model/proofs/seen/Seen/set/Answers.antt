use Rattle.std.proofs.Common.{◌≡◌, arith, sym, subst, inl, inr}
use Rattle.pad_model.specs.Seen.{IsVector, IsAt, IsGapFor, count_in, with_count}
use Rattle.pad_model.proofs.SeenLemmas.{set_at, remove_at, insert_at, none_at, gap_count, IsVector-with_count}
use Rattle.pad_model.proofs.seen.Seen.set.Goals as goal

-- the pair of the origin is taken out
removed : (c : goal.After-shrink_to_fit) → c.shrink_to_fit.new.self.items
    ≡ with_count c.self.inside.pairs.items c.args.origin c.args.count
removed c =
    let at : IsAt c.self.inside.pairs.items c.args.origin c.in-Ok.place =
    rw c.deref.ensures.value at c.in-Ok.ensures.found in
    rw (c.shrink_to_fit.ensures.items, c.remove.ensures.items, c.if-count-eq0.true)
    (remove_at _ c.self.invariant c.args.origin c.in-Ok.place at)

pub invariant_of-self : goal.invariant_of-self
invariant_of-self c = subst IsVector (sym (removed c))
    (IsVector-with_count _ c.args.origin c.args.count c.self.invariant)

pub returns-in-Ok-clause-ok : goal.returns-in-Ok-clause-ok
returns-in-Ok-clause-ok c = rw (← c.self.view_is) (removed c)

-- the pair of the origin is written over
pub returns-in-Ok-2-clause-ok : goal.returns-in-Ok-2-clause-ok
returns-in-Ok-2-clause-ok c =
    let at : IsAt c.self.inside.pairs.items c.args.origin c.in-Ok.place =
    rw c.deref.ensures.value at c.in-Ok.ensures.found in
    rw (← c.self.view_is) (set_at _ c.self.invariant c.args.origin c.in-Ok.place c.args.count at
    (omega (arith, c.if-count-eq0.false)))

pub invariant_of-self-in-Ok-2 : goal.invariant_of-self-in-Ok-2
invariant_of-self-in-Ok-2 c =
    let at : IsAt c.self.inside.pairs.items c.args.origin c.in-Ok.place =
    rw c.deref.ensures.value at c.in-Ok.ensures.found in
    subst IsVector (sym (set_at _ c.self.invariant c.args.origin c.in-Ok.place c.args.count at
    (omega (arith, c.if-count-eq0.false))))
    (IsVector-with_count _ c.args.origin c.args.count c.self.invariant)

-- no pair has the origin, and none is added
pub returns-in-Err-clause-ok : goal.returns-in-Err-clause-ok
returns-in-Err-clause-ok c =
    let gap : IsGapFor c.self.inside.pairs.items c.args.origin c.in-Err.field-0 =
    rw c.deref.ensures.value at c.in-Err.ensures.absent in
    rw (← c.self.view_is, c.if-count-eq0-2.true) (sym (none_at _ c.args.origin c.in-Err.field-0 gap))

-- the new pair goes where the gap is
inserted : (c : goal.In_ok-insert-in-Err-2) → c.insert.new.self.items
    ≡ with_count c.self.inside.pairs.items c.args.origin c.args.count
inserted c =
    let gap : IsGapFor c.self.inside.pairs.items c.args.origin c.in-Err.field-0 =
    rw c.deref.ensures.value at c.in-Err.ensures.absent in
    rw c.in_ok-insert-in-Err-2.ensures.items (insert_at _ c.args.origin c.in-Err.field-0 c.args.count gap
    (omega (arith, c.if-count-eq0-2.false)))

pub invariant_of-self-in-Continue-1 : goal.invariant_of-self-in-Continue-1
invariant_of-self-in-Continue-1 c = subst IsVector (sym (inserted c))
    (IsVector-with_count _ c.args.origin c.args.count c.self.invariant)

pub returns-in_ok-insert-in-Err-2-clause-ok : goal.returns-in_ok-insert-in-Err-2-clause-ok
returns-in_ok-insert-in-Err-2-clause-ok c = rw (← c.self.view_is) (inserted c)

-- memory is asked for only where the origin has no count, and gets one
pub returns-in_err-insert-in-Err-2-clause-room : goal.returns-in_err-insert-in-Err-2-clause-room
returns-in_err-insert-in-Err-2-clause-room c either =
    let gap : IsGapFor c.self.inside.pairs.items c.args.origin c.in-Err.field-0 =
    rw c.deref.ensures.value at c.in-Err.ensures.absent in
    let none : count_in c.args.self.now c.args.origin ≡ 0 =
    rw (← c.self.view_is) (gap_count _ c.args.origin c.in-Err.field-0 gap) in
    absurd (elim either [ inl zero_count ↦ c.if-count-eq0-2.false zero_count | inr some ↦ omega arith ])
