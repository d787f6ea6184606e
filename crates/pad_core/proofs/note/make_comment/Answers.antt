use Rattle.std.proofs.Common.{◌≤◌, length, arith}
use Rattle.pad_model.specs.Operation.{characters_in}
use Rattle.pad_core.proofs.Noted.{commentable, visible_low}
use Rattle.pad_core.proofs.note.make_comment.Goals as goal

pub overflow_add-at : goal.overflow_add-at
overflow_add-at g c =
    let within = (commentable c.args.passage.rev c.args.passage.at c.args.passage.len c.args.text.now c.args.ledger.now
    c.requires.allowed).within in
    let low = visible_low c.args.ledger.now c.args.passage.rev c.requires.sound.history in
    let room : length (characters_in c.args.ledger.now).inserted ≤ 4000000 = c.requires.sound.room in
    omega arith
