use Rattle.std.proofs.Common.{sym}
use Rattle.pad_model.proofs.Newer.{split}
use Rattle.sessions.specs.AccountsFile.{is_word}
use Rattle.sessions.proofs.Lines.{name_is_word, word_is_text}
use Rattle.pad_accounts.proofs.names.is_well_formed.Goals as goal

pub returns-in-Err : goal.returns-in-Err
returns-in-Err c =
    let name = c.args.name.now in
    split (is_word 32 name)
    (λ t. absurd (c.in-Err.ensures.cases.0 (word_is_text 32 name t)))
    (λ f. sym (name_is_word name f))
