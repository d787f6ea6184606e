use Rattle.std.proofs.Common.{◌∷◌, List, ℕ, ap, sym, ◌∙◌}
use Rattle.sessions.specs.AccountsFile.{person_said}
use Rattle.sessions.proofs.Lines.{person_words, words_at}
use Rattle.sessions.proofs.line.person_line.Goals as goal

pub returns : goal.returns
returns c =
    let name = c.cut_word.result.0.now in
    let id = c.cut_word-2.result.0.now in
    let display = c.in_ok-display.display.now in
    let behind3 = words_at _ _ c.in_ok-display.ensures.ok_part in
    let behind2 = words_at _ _ c.in_ok-ok_or-2.ensures.ok_part ∙ c.cut_word-2.ensures
    ∙ ap (λ (ws : List (List ℕ)). id ∷ ws) behind3 in
    let behind1 = words_at _ _ c.in_ok-ok_or.ensures.ok_part ∙ c.cut_word.ensures
    ∙ ap (λ (ws : List (List ℕ)). name ∷ ws) behind2 in
    c.person_of.ensures ∙ sym (ap person_said behind1 ∙ person_words name id display)
