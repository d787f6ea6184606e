use Rattle.std.proofs.Common.{◌≡◌, true, false, length, sym, subst, arith, add-one}
use Rattle.std.proofs.lemmas.Grind.{common_steps}
use Rattle.std.specs.Ordering.{is_lt}
use Rattle.weight_tree.specs.Rank.{IsRising}
use Rattle.weight_tree.proofs.AtBranch.{items_at}
use Rattle.weight_tree.proofs.Counts.{rising_left, rising_right, count_past, count_up_to}
use Rattle.weight_tree.proofs.tree.WeightTree.+place.Goals as goal

pub returns-then-below-clause-rank : goal.returns-then-below-clause-rank
returns-then-below-clause-rank g t c =
    λ order by rising.
    let b = c.in-Some.branch.value in
    let is = items_at _ _ c.args.self.now c.self.view_is c.in-Some.is in
    let asked = c.ask.ensures.answer order by in
    let less : is_lt (order b.item) ≡ true = grind (arith, asked.1) in
    let spread = subst (IsRising order) is rising in
    let below = (rw c.deref-then-below.ensures at c.place-right.ensures.rank) order asked.0
    (rising_right order b.left.items b.item b.right.items spread) in
    let left : c.deref-then-below-2.result.now.left_size ≡ length b.left.items = grind arith in
    rw (is, left, below) (sym (count_past order b.left.items b.item b.right.items spread less))

pub returns-else-below-clause-rank : goal.returns-else-below-clause-rank
returns-else-below-clause-rank g t c =
    λ order by rising.
    let b = c.in-Some.branch.value in
    let is = items_at _ _ c.args.self.now c.self.view_is c.in-Some.is in
    let asked = c.ask.ensures.answer order by in
    let not_less : is_lt (order b.item) ≡ false = grind (arith, asked.1) in
    let spread = subst (IsRising order) is rising in
    let below = (rw c.deref-else-below.ensures at c.place-left.ensures.rank) order asked.0
    (rising_left order b.left.items b.item b.right.items spread) in
    rw (is, below) (sym (count_up_to order b.left.items b.item b.right.items spread not_less))

pub returns-then-below-clause-calls : goal.returns-then-below-clause-calls
returns-then-below-clause-calls g t c = rw add-one (_, _, _, c.ask.ensures.called, c.place-right.ensures.calls)

pub returns-else-below-clause-calls : goal.returns-else-below-clause-calls
returns-else-below-clause-calls g t c = rw add-one (_, _, _, c.ask.ensures.called, c.place-left.ensures.calls)

pub place-right-requires : goal.place-right-requires
place-right-requires g t c = grind (arith, common_steps)

pub place-left-requires : goal.place-left-requires
place-left-requires g t c = grind (arith, common_steps)

pub returns-then-below-clause-in_range : goal.returns-then-below-clause-in_range
returns-then-below-clause-in_range g t c = grind (arith, common_steps)

pub returns-else-below-clause-in_range : goal.returns-else-below-clause-in_range
returns-else-below-clause-in_range g t c = grind (arith, common_steps)
