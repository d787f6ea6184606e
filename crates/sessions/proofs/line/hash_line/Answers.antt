use Rattle.std.proofs.Common.{◌≡◌, ◌∷◌, List, ℕ, Err, ap, sym, refl, ◌∙◌}
use Rattle.sessions.specs.AccountsFile.{hash_said}
use Rattle.sessions.specs.declared.mistake.Mistake.TheVariants.{ExtraWord}
use Rattle.sessions.proofs.Lines.{of_more_words, words_at}
use Rattle.sessions.proofs.line.hash_line.Goals as goal

pub returns-then-is_some : goal.returns-then-is_some
returns-then-is_some c =
    let name = c.cut_word.result.0.now in
    let hash = c.cut_word-2.result.0.now in
    let many = of_more_words (λ more. hash_said (name ∷ hash ∷ more) ≡ Err ExtraWord) (λ word rest. refl)
    c.cut_word-2.result.1 (sym c.is_some.ensures ∙ c.if-is_some.true) in
    let behind2 = words_at _ _ c.in_ok-ok_or-2.ensures.ok_part ∙ c.cut_word-2.ensures in
    let behind1 = words_at _ _ c.in_ok-ok_or.ensures.ok_part ∙ c.cut_word.ensures
    ∙ ap (λ (ws : List (List ℕ)). name ∷ ws) behind2 in
    sym (ap hash_said behind1 ∙ many)
