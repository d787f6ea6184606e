use Rattle.std.proofs.Common.{sym}
use Rattle.sessions.proofs.Lines.{word_is_text}
use Rattle.sessions.proofs.line.word_text.Goals as goal

pub returns-in-Err : goal.returns-in-Err
returns-in-Err c = absurd (c.in-Err.ensures.cases.0
    (word_is_text c.args.most c.args.word.now (sym c.if-not-is_word.ensures)))
