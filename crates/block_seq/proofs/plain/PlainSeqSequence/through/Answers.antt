use Rattle.std.proofs.Common.{sym, ap, ◌∙◌}
use Rattle.pad_model.specs.Cell.{character_of, shown_at}
use Rattle.pad_model.specs.Legal.{has_stamp}
use Rattle.pad_model.specs.Visible.{shown_through}
use Rattle.block_seq.specs.Plain.{cell_of, kept_character, is_shown}
use Rattle.pad_model.proofs.Maps.{shown_through-map}
use Rattle.block_seq.proofs.Kept.{has_view, unless_has, where_has}
use Rattle.block_seq.proofs.plain.PlainSeqSequence.through.Goals as goal

pub returns-then-not-has : goal.returns-then-not-has
returns-then-not-has c = unless_has c.has.result (has_stamp character_of c.args.self.now c.args.stamp) _
    (has_view c.self.inside.authors.items c.self.inside.cells.items c.as_slice-cells.result.now c.args.self.now
    c.args.stamp c.has.result c.self.view_is c.as_slice-cells.ensures.value c.has.ensures) c.if-not-has.true

pub returns : goal.returns
returns c =
    where_has c.has.result (has_stamp character_of c.args.self.now c.args.stamp) c.count_through.result
    (shown_through character_of (shown_at c.args.rev) c.args.self.now c.args.stamp)
    (has_view c.self.inside.authors.items c.self.inside.cells.items c.as_slice-cells.result.now c.args.self.now
    c.args.stamp c.has.result c.self.view_is c.as_slice-cells.ensures.value c.has.ensures) c.if-not-has.false
    (c.count_through.ensures ∙ ap (λ l. shown_through kept_character (is_shown c.args.rev) l c.args.stamp)
    c.as_slice-cells.ensures.value
    ∙ sym (shown_through-map (cell_of c.self.inside.authors.items) character_of
    (shown_at c.args.rev) c.self.inside.cells.items c.args.stamp)
    ∙ ap (λ l. shown_through character_of (shown_at c.args.rev) l c.args.stamp) c.self.view_is)
