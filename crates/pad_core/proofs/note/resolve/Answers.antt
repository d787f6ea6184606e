use Rattle.std.proofs.Common.{◌≡◌, ◌<◌, true, length, sym, ◌∙◌, arith}
use Rattle.pad_core.specs.Notes.{has_comment}
use Rattle.pad_core.proofs.Noted.{resolve_checked}
use Rattle.pad_core.proofs.note.resolve.Goals as goal

pub note-requires-clause-checked : goal.note-requires-clause-checked
note-requires-clause-checked g c =
    let there : has_comment c.args.comment c.args.ledger.now ≡ true = sym c.has_comment.ensures
    ∙ c.if-not-has_comment.false in
    let short : length c.args.ledger.now < 200000 = omega arith in
    resolve_checked c.args.writer.replica c.args.writer.author.now c.args.comment c.args.ledger.now there short
    c.len.ensures.sound.history c.requires.author c.requires.replica
