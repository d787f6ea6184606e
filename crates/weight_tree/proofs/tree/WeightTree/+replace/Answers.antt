use Rattle.std.proofs.Common.{arith}
use Rattle.std.proofs.lemmas.Grind.{elements}
use Rattle.weight_tree.proofs.Around.{edits}
use Rattle.weight_tree.proofs.tree.WeightTree.+replace.Goals as goal

pub replace-replaced-requires : goal.replace-replaced-requires
replace-replaced-requires g t c = grind (arith, edits)

pub overflow_add-rest : goal.overflow_add-rest
overflow_add-rest g t c = grind (arith, edits)

pub overflow_add-rest-then-rank-left-2 : goal.overflow_add-rest-then-rank-left-2
overflow_add-rest-then-rank-left-2 g t c = grind (arith, edits)

pub replace-replaced-requires-else-rank-left-2 : goal.replace-replaced-requires-else-rank-left-2
replace-replaced-requires-else-rank-left-2 g t c = grind (arith, edits)

pub overflow_add-rest-else-rank-left-2 : goal.overflow_add-rest-else-rank-left-2
overflow_add-rest-else-rank-left-2 g t c = grind (arith, edits)

pub invariant_of-self : goal.invariant_of-self
invariant_of-self g t c = grind (arith, edits)

pub returns-clause-items : goal.returns-clause-items
returns-clause-items g t c = grind (arith, edits)

pub returns-clause-replaced : goal.returns-clause-replaced
returns-clause-replaced g t c = grind (arith, elements)
