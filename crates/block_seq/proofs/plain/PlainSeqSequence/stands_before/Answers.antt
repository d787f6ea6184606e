use Rattle.std.proofs.Common.{sym, ap, ◌∙◌}
use Rattle.pad_model.specs.Cell.{character_of}
use Rattle.pad_model.specs.Legal.{has_stamp}
use Rattle.pad_model.specs.Log.{stands_before}
use Rattle.block_seq.specs.Plain.{cell_of, kept_character}
use Rattle.pad_model.proofs.Maps.{stands_before-map}
use Rattle.block_seq.proofs.Kept.{has_view, unless_first, unless_both, where_both}
use Rattle.block_seq.proofs.plain.PlainSeqSequence.stands_before.Goals as goal

pub returns-then-not-has : goal.returns-then-not-has
returns-then-not-has c =
    unless_first c.has.result (has_stamp character_of c.args.self.now c.args.a)
    (has_stamp character_of c.args.self.now c.args.b) _
    (has_view c.self.inside.authors.items c.self.inside.cells.items c.as_slice-cells.result.now c.args.self.now c.args.a
    c.has.result c.self.view_is c.as_slice-cells.ensures.value c.has.ensures) c.if-not-has.true

pub returns-then-not-has-2 : goal.returns-then-not-has-2
returns-then-not-has-2 c =
    unless_both c.has-2.result (has_stamp character_of c.args.self.now c.args.a)
    (has_stamp character_of c.args.self.now c.args.b) _
    (has_view c.self.inside.authors.items c.self.inside.cells.items c.as_slice-cells.result.now c.args.self.now c.args.a
    c.has.result c.self.view_is c.as_slice-cells.ensures.value c.has.ensures ∙ c.if-not-has.false)
    (has_view c.self.inside.authors.items c.self.inside.cells.items c.as_slice-cells.result.now c.args.self.now c.args.b
    c.has-2.result c.self.view_is c.as_slice-cells.ensures.value c.has-2.ensures) c.if-not-has-2.true

pub returns : goal.returns
returns c =
    where_both (has_stamp character_of c.args.self.now c.args.a) (has_stamp character_of c.args.self.now c.args.b)
    c.stands_before.result (stands_before character_of c.args.self.now c.args.a c.args.b)
    (has_view c.self.inside.authors.items c.self.inside.cells.items c.as_slice-cells.result.now c.args.self.now c.args.a
    c.has.result c.self.view_is c.as_slice-cells.ensures.value c.has.ensures ∙ c.if-not-has.false)
    (has_view c.self.inside.authors.items c.self.inside.cells.items c.as_slice-cells.result.now c.args.self.now c.args.b
    c.has-2.result c.self.view_is c.as_slice-cells.ensures.value c.has-2.ensures ∙ c.if-not-has-2.false)
    (c.stands_before.ensures ∙ ap (λ l. stands_before kept_character l c.args.a c.args.b) c.as_slice-cells.ensures.value
    ∙ sym (stands_before-map (cell_of c.self.inside.authors.items) character_of c.self.inside.cells.items c.args.a
    c.args.b)
    ∙ ap (λ l. stands_before character_of l c.args.a c.args.b) c.self.view_is)
