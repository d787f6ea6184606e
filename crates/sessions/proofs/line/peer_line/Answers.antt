use Rattle.std.proofs.Common.{◌≡◌, ◌∷◌, List, ℕ, Err, ap, sym, refl, ◌∙◌}
use Rattle.sessions.specs.AccountsFile.{peer_said}
use Rattle.sessions.specs.declared.mistake.Mistake.TheVariants.{ExtraWord}
use Rattle.sessions.proofs.Lines.{of_more_words, words_at}
use Rattle.sessions.proofs.line.peer_line.Goals as goal

pub returns-then-is_some : goal.returns-then-is_some
returns-then-is_some c =
    let number = c.cut_word.result.0.now in
    let token = c.cut_word-2.result.0.now in
    let address = c.cut_word-3.result.0.now in
    let many = of_more_words (λ more. peer_said (number ∷ token ∷ address ∷ more) ≡ Err ExtraWord) (λ word rest. refl)
    c.cut_word-3.result.1 (sym c.is_some.ensures ∙ c.if-is_some.true) in
    let behind3 = words_at _ _ c.in_ok-ok_or-3.ensures.ok_part ∙ c.cut_word-3.ensures in
    let behind2 = words_at _ _ c.in_ok-ok_or-2.ensures.ok_part ∙ c.cut_word-2.ensures
    ∙ ap (λ (ws : List (List ℕ)). token ∷ ws) behind3 in
    let behind1 = words_at _ _ c.in_ok-ok_or.ensures.ok_part ∙ c.cut_word.ensures
    ∙ ap (λ (ws : List (List ℕ)). number ∷ ws) behind2 in
    sym (ap peer_said behind1 ∙ many)
