use Rattle.std.proofs.Common.{◌+◌, ◌∷◌, List, ℕ, take, eqb, ap, sym, ◌∙◌}
use Rattle.std.proofs.lemmas.List.{take_rest}
use Rattle.sessions.specs.AccountsFile.{words}
use Rattle.sessions.proofs.Lines.{split_found, split_absent}
use Rattle.sessions.proofs.line.cut_word.Goals as goal

pub returns-in-Some : goal.returns-in-Some
returns-in-Some c =
    let text = c.args.text.now in
    let end = c.in-Some.end in
    split_found (λ b. eqb b 32) text end (sym c.place_of.ensures ∙ c.in-Some.is)
    ∙ ap (λ (rest : List ℕ). take end text ∷ words rest) (sym (take_rest text (end + 1)))

pub returns-in-None : goal.returns-in-None
returns-in-None c = split_absent (λ b. eqb b 32) c.args.text.now (sym c.place_of.ensures ∙ c.in-None.is)
