use Rattle.std.proofs.Common.{◌∙◌, ap, eqb}
use Rattle.sessions.proofs.Tokens.{none_differs}
use Rattle.sessions.proofs.word.are_same.Goals as goal

pub returns-then-a-b : goal.returns-then-a-b
returns-then-a-b c = ap (λ n. eqb n 0) c.count_differences.ensures
    ∙ none_differs c.args.a.now c.args.b.now c.if-a-b.true
