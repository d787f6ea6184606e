use Rattle.std.proofs.Common.{sym, ap, flat_map, ◌∙◌}
use Rattle.pad_model.specs.Cell.{text_at}
use Rattle.block_seq.specs.Rows.{shown_stretch}
use Rattle.block_seq.proofs.RowReads.{text-at}
use Rattle.block_seq.proofs.Views.{cells_seen}
use Rattle.block_seq.proofs.rows.BlockSeqSequence.text_at.Goals as goal

pub returns : goal.returns
returns c =
    c.from_vec.ensures ∙ c.in_ok-read_text.ensures
    ∙ ap (λ t. flat_map (shown_stretch c.args.rev t) c.self.inside.tree.items) c.as_slice-text.ensures.value
    ∙ sym (text-at c.args.rev c.self.inside.authors.items c.self.inside.text.items c.self.inside.tree.items)
    ∙ ap (text_at c.args.rev) (cells_seen c.self.view_is)
