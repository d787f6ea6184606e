use Rattle.std.proofs.Common.{ℕ, List, ◌∙◌, sym, ap, ap₂, flat_map}
use Rattle.pad_model.specs.Pieces.{changes, fewest}
use Rattle.pad_model.specs.declared.who.Author.{Author}
use Rattle.block_seq.specs.PieceLists.{block_pieces}
use Rattle.block_seq.proofs.RowPieces.{pieces-blocks}
use Rattle.block_seq.proofs.Views.{cells_seen}
use Rattle.block_seq.proofs.rows.BlockSeqSequence.changes.Goals as goal

pub returns : goal.returns
returns c =
    c.from_vec.ensures ∙ c.in_ok-list_pieces.ensures
    ∙ ap₂ (λ (a : List Author) (t : List ℕ). fewest (flat_map (block_pieces c.args.rev c.args.to a t) c.self.inside.tree.items))
    c.as_slice-2.ensures.value c.as_slice.ensures.value
    ∙ sym (pieces-blocks c.args.rev c.args.to c.self.inside.authors.items c.self.inside.text.items c.self.inside.tree.items
    c.self.invariant.row.within c.self.invariant.row.kept.listed.sized)
    ∙ ap (changes c.args.rev c.args.to) (cells_seen c.self.view_is)
