use Rattle.std.proofs.Common.{◌-◌, sum_by, arith}
use Rattle.std.proofs.lemmas.Grind.{common_steps}
use Rattle.weight_tree.specs.Find.{FallsIn}
use Rattle.weight_tree.proofs.AtBranch.{items_at}
use Rattle.weight_tree.proofs.Falls.{falls_left, falls_here, falls_right}
use Rattle.weight_tree.proofs.tree.WeightTree.+find.Goals as goal

pub returns-then-number-left_weight-clause-some : goal.returns-then-number-left_weight-clause-some
returns-then-number-left_weight-clause-some g t c =
    let b = c.in-Some.branch.value in
    let is = items_at _ _ c.args.self.now c.self.view_is c.in-Some.is in
    let below = rw c.deref-then-number-left_weight.ensures at c.in_ok-found.ensures.some in
    rw is (falls_left g.T.Weigh.weight_of b.left.items b.item b.right.items _ _ _ below)

pub returns-then-offset-item_weight-clause-some : goal.returns-then-offset-item_weight-clause-some
returns-then-offset-item_weight-clause-some g t c =
    let b = c.in-Some.branch.value in
    let is = items_at _ _ c.args.self.now c.self.view_is c.in-Some.is in
    rw is (falls_here g.T.Weigh.weight_of b.left.items b.item b.right.items _ _ _ (grind arith) (grind arith) (grind arith))

pub returns-clause-some : goal.returns-clause-some
returns-clause-some g t c =
    let b = c.in-Some.branch.value in
    let is = items_at _ _ c.args.self.now c.self.view_is c.in-Some.is in
    let w = g.T.Weigh.weight_of in
    let below : FallsIn w b.right.items (c.args.number - sum_by w b.left.items - w b.item) c.in_ok-found-2.found.rank
    c.in_ok-found-2.found.offset = grind arith in
    rw is (falls_right w b.left.items b.item b.right.items _ _ _ _ (grind arith) (grind arith) below)

pub find-requires : goal.find-requires
find-requires g t c = grind (arith, common_steps)

pub returns-then-number-left_weight-clause-none : goal.returns-then-number-left_weight-clause-none
returns-then-number-left_weight-clause-none g t c = grind (arith, common_steps)

pub returns-then-offset-item_weight-clause-none : goal.returns-then-offset-item_weight-clause-none
returns-then-offset-item_weight-clause-none g t c = grind (arith, common_steps)

pub find-requires-2 : goal.find-requires-2
find-requires-2 g t c = grind (arith, common_steps)

pub returns-in_err-found-2-clause-none : goal.returns-in_err-found-2-clause-none
returns-in_err-found-2-clause-none g t c = grind (arith, common_steps)

pub overflow_add-result-3 : goal.overflow_add-result-3
overflow_add-result-3 g t c = grind (arith, common_steps)

pub returns-clause-none : goal.returns-clause-none
returns-clause-none g t c = grind (arith, common_steps)
