use Rattle.std.proofs.Common.{◌∙◌, sym, ap, map, take, drop}
use Rattle.pad_model.specs.Cell.{cells_at}
use Rattle.pad_model.specs.Visible.{spans}
use Rattle.block_seq.proofs.RowLists.{stamps_between}
use Rattle.block_seq.proofs.Views.{cells_seen}
use Rattle.block_seq.proofs.rows.BlockSeqSequence.spans_at.Goals as goal

pub returns : goal.returns
returns c =
    c.from_vec.ensures ∙ c.in_ok-read_spans.ensures
    ∙ ap spans (sym (stamps_between c.args.rev c.self.inside.authors.items c.self.inside.text.items
    c.self.inside.tree.items c.args.at c.args.len c.self.invariant.row.within)
    ∙ ap (λ l. map (λ x. x.stamp) (take c.args.len (drop c.args.at (cells_at c.args.rev l))))
    (cells_seen c.self.view_is))
