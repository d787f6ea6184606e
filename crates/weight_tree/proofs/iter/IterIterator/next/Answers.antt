use Rattle.std.proofs.Common.{◌∷◌, length, Some, ap, sym, ◌∙◌, arith, rules}
use Rattle.weight_tree.proofs.Waits.{from_waiting_top}
use Rattle.weight_tree.proofs.iter.IterIterator.next.Goals as goal

pub returns-clause-steps : goal.returns-clause-steps
returns-clause-steps g c =
    let b = c.in-Some.branch.now in
    let top = from_waiting_top c.self.inside.waiting c.self.inside.depth _ (Some c.in-Some.branch) (omega arith)
    (search rules) c.in-Some.is in
    sym c.self.view_is ∙ top ∙ ap (λ l. b.item ∷ l) (sym c.descend-self-inside.ensures.items)

pub returns-clause-goes : goal.returns-clause-goes
returns-clause-goes g c =
    let fewer = ap length (returns-clause-steps g c) in
    record { on = λ finite. (tt, finite, omega (arith, fewer)); keeps = tt; rests = λ _. tt }
