use Rattle.std.proofs.Common.{rules, ◌≡◌, None, ap, ◌∙◌}
use Rattle.pad_model.specs.Checked.{is_checked}
use Rattle.pad_core.specs.Counts.{op_of}
use Rattle.pad_core.specs.Delivered.{delivery_refusal}
use Rattle.pad_core.specs.Edits.{edit_refusal}
use Rattle.pad_core.proofs.Made.{edit_answers, edit_checked, edit_fits}
use Rattle.pad_core.proofs.edit.make_edit.Goals as goal

pub append_parts-requires-clause-checked : goal.append_parts-requires-clause-checked
append_parts-requires-clause-checked g c =
    let none : edit_refusal c.args.rev c.args.changes.now c.args.ledger.now ≡ None = search rules in
    ap (λ parts. is_checked (op_of c.args.writer.replica c.args.writer.author.now parts c.args.ledger.now))
    c.in_ok-parts.ensures
    ∙ edit_checked c.args.writer.replica c.args.rev c.args.writer.author.now c.args.changes.now c.args.ledger.now none
    c.in_default.ensures.sound.history c.requires.author c.requires.replica

pub append_parts-requires-clause-allowed : goal.append_parts-requires-clause-allowed
append_parts-requires-clause-allowed g c =
    let none : edit_refusal c.args.rev c.args.changes.now c.args.ledger.now ≡ None = search rules in
    ap (λ parts. delivery_refusal (op_of c.args.writer.replica c.args.writer.author.now parts c.args.ledger.now)
    c.args.ledger.now) c.in_ok-parts.ensures
    ∙ edit_fits c.args.writer.replica c.args.rev c.args.writer.author.now c.args.changes.now c.args.ledger.now none
    c.in_default.ensures.sound.history

pub returns-clause-answer : goal.returns-clause-answer
returns-clause-answer g c =
    let none : edit_refusal c.args.rev c.args.changes.now c.args.ledger.now ≡ None = search rules in
    edit_answers c.args.writer.replica c.args.rev c.args.writer.author.now c.args.changes.now c.in_ok-parts.parts
    c.args.ledger.now c.append_parts.new.ledger c.append_parts.result none c.in_ok-parts.ensures c.append_parts.ensures.answer
