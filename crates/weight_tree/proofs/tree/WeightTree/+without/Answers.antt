use Rattle.std.proofs.Common.{◌≡◌, suc, ◌+◌, ◌-◌, ◌++◌, ◌∷◌, Some, length, sum_by, slice_get, sym, ap, ◌∙◌, subst}
use Rattle.std.proofs.Common.{arith}
use Rattle.std.specs.List.{remove}
use Rattle.std.proofs.lemmas.List.Edits.{length-remove}
use Rattle.weight_tree.proofs.Around.{remove_here, remove_right, get_left, get_here, get_right, sum_removed, first_back}
use Rattle.weight_tree.proofs.Around.{length_around, sum_around}
use Rattle.weight_tree.proofs.tree.WeightTree.+without.Goals as goal

pub rebalance-requires-clause-fits : goal.rebalance-requires-clause-fits
rebalance-requires-clause-fits g t c =
    let left = c.split-left.result.0.items in
    let middle = c.split-left.result.1 in
    let right = c.split-left.result.2.items in
    let w = g.T.Weigh.weight_of in
    let is = c.split-left.ensures.items in
    let size = ap length is ∙ length_around left middle right in
    let sum = ap (sum_by w) is ∙ sum_around w left middle right in
    let less = ap length c.without-left.ensures.items in
    let count = length-remove left c.args.rank (omega arith) in
    let part = ap (sum_by w) c.without-left.ensures.items in
    let rest = sum_removed w left c.args.rank c.without-left.result.1 c.without-left.ensures.removed in
    record { size = omega (arith, size, less, count, c.len.ensures.len); weight = omega (arith, sum, part, rest, c.weight.ensures.sum) }

pub returns-then-rank-left_len-clause-removed : goal.returns-then-rank-left_len-clause-removed
returns-then-rank-left_len-clause-removed g t c =
    subst (λ l. slice_get l c.args.rank ≡ Some c.without-left.result.1) (sym c.split-left.ensures.items)
    (get_left c.split-left.result.0.items c.split-left.result.1 c.split-left.result.2.items c.args.rank
    c.without-left.result.1 c.without-left.ensures.removed)

pub rebalance-requires-then-rank-left_len-2-clause-fits : goal.rebalance-requires-then-rank-left_len-2-clause-fits
rebalance-requires-then-rank-left_len-2-clause-fits g t c =
    let left = c.split-left.result.0.items in
    let middle = c.split-left.result.1 in
    let right = c.split-left.result.2.items in
    let w = g.T.Weigh.weight_of in
    let is = c.split-left.ensures.items in
    let size = ap length is ∙ length_around left middle right in
    let sum = ap (sum_by w) is ∙ sum_around w left middle right in
    let less = ap length c.without-right.ensures.items in
    let count = length-remove right (c.args.rank - c.len-left_len.result - 1)
    (omega (arith, size, c.requires.in_range, c.len-left_len.ensures.len)) in
    let part = ap (sum_by w) c.without-right.ensures.items in
    let rest = sum_removed w right (c.args.rank - c.len-left_len.result - 1) c.without-right.result.1
    c.without-right.ensures.removed in
    record { size = omega (arith, size, less, count, c.len.ensures.len); weight = omega (arith, sum, part, rest, c.weight.ensures.sum) }

pub returns-then-rank-left_len-2-clause-items : goal.returns-then-rank-left_len-2-clause-items
returns-then-rank-left_len-2-clause-items g t c =
    let left = c.split-left.result.0.items in
    let middle = c.split-left.result.1 in
    let right = c.split-left.result.2.items in
    let place : c.args.rank ≡ length left + suc (c.args.rank - c.len-left_len.result - 1) =
    omega (arith, c.len-left_len.ensures.len) in
    c.rebalance-then-rank-left_len-2.ensures.items ∙ ap (λ l. left ++ middle ∷ l) c.without-right.ensures.items
    ∙ sym (ap (λ l. remove l c.args.rank) c.split-left.ensures.items
    ∙ remove_right left middle right c.args.rank _ place)

pub returns-then-rank-left_len-2-clause-removed : goal.returns-then-rank-left_len-2-clause-removed
returns-then-rank-left_len-2-clause-removed g t c =
    let left = c.split-left.result.0.items in
    let middle = c.split-left.result.1 in
    let right = c.split-left.result.2.items in
    let place : c.args.rank ≡ length left + suc (c.args.rank - c.len-left_len.result - 1) =
    omega (arith, c.len-left_len.ensures.len) in
    subst (λ l. slice_get l c.args.rank ≡ Some c.without-right.result.1) (sym c.split-left.ensures.items)
    (get_right left middle right c.args.rank _ c.without-right.result.1 place c.without-right.ensures.removed)

pub returns-then-is_empty-clause-removed : goal.returns-then-is_empty-clause-removed
returns-then-is_empty-clause-removed g t c =
    let place : c.args.rank ≡ length c.split-left.result.0.items = omega (arith, c.len-left_len.ensures.len) in
    subst (λ l. slice_get l c.args.rank ≡ Some c.split-left.result.1) (sym c.split-left.ensures.items)
    (get_here c.split-left.result.0.items c.split-left.result.1 c.split-left.result.2.items c.args.rank place)

pub returns-clause-removed : goal.returns-clause-removed
returns-clause-removed g t c =
    let place : c.args.rank ≡ length c.split-left.result.0.items = omega (arith, c.len-left_len.ensures.len) in
    subst (λ l. slice_get l c.args.rank ≡ Some c.split-left.result.1) (sym c.split-left.ensures.items)
    (get_here c.split-left.result.0.items c.split-left.result.1 c.split-left.result.2.items c.args.rank place)

pub returns-clause-items : goal.returns-clause-items
returns-clause-items g t c =
    let left = c.split-left.result.0.items in
    let middle = c.split-left.result.1 in
    let right = c.split-left.result.2.items in
    let place : c.args.rank ≡ length left = omega (arith, c.len-left_len.ensures.len) in
    let again : c.without-right-2.result.1 ∷ c.without-right-2.result.0.items ≡ right =
    ap (λ l. c.without-right-2.result.1 ∷ l) c.without-right-2.ensures.items
    ∙ first_back right c.without-right-2.result.1 c.without-right-2.ensures.removed in
    c.rebalance-2.ensures.items ∙ ap (λ l. left ++ l) again
    ∙ sym (ap (λ l. remove l c.args.rank) c.split-left.ensures.items ∙ remove_here left middle right c.args.rank place)
