use Rattle.std.proofs.Common.{◌≡◌, None, sym, ◌∙◌}
use Rattle.pad_core.specs.Notes.{comment_refusal}
use Rattle.pad_core.proofs.Noted.{comment_checked, comment_fits}
use Rattle.pad_core.proofs.note.comment.Goals as goal

pub note-requires-clause-checked : goal.note-requires-clause-checked
note-requires-clause-checked g c =
    let none : comment_refusal c.args.passage.rev c.args.passage.at c.args.passage.len c.args.text.now c.args.ledger.now
    ≡ None = sym c.refuse_comment.ensures.value ∙ c.in_default.is in
    comment_checked c.args.writer.replica c.args.writer.author.now c.args.passage.rev c.args.passage.at
    c.args.passage.len c.args.text.now c.in_ok-part.part c.args.ledger.now none c.in_ok-part.ensures
    c.refuse_comment.ensures.sound.history c.requires.author c.requires.replica

pub note-requires-clause-allowed : goal.note-requires-clause-allowed
note-requires-clause-allowed g c =
    let none : comment_refusal c.args.passage.rev c.args.passage.at c.args.passage.len c.args.text.now c.args.ledger.now
    ≡ None = sym c.refuse_comment.ensures.value ∙ c.in_default.is in
    comment_fits c.args.writer.replica c.args.writer.author.now c.args.passage.rev c.args.passage.at c.args.passage.len
    c.args.text.now c.in_ok-part.part c.args.ledger.now none c.in_ok-part.ensures c.refuse_comment.ensures.sound
