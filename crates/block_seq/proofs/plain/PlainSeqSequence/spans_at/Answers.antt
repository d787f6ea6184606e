use Rattle.std.proofs.Common.{◌∙◌, map, filter, take, drop, ap}
use Rattle.pad_model.specs.Visible.{spans}
use Rattle.block_seq.specs.Plain.{is_shown}
use Rattle.block_seq.proofs.Kept.{stamps_at-cells_of}
use Rattle.block_seq.proofs.plain.PlainSeqSequence.spans_at.Goals as goal

pub returns : goal.returns
returns c =
    c.from_vec.ensures ∙ c.in_ok-spans_of.ensures
    ∙ ap spans (c.as_slice-2.ensures.value ∙ c.in_ok-stamps.ensures
    ∙ ap (λ cells. map (λ x. x.stamp) (take c.args.len (drop c.args.at (filter (is_shown c.args.rev) cells))))
    c.as_slice.ensures.value
    ∙ stamps_at-cells_of c.self.inside.authors.items c.args.rev c.args.at c.args.len c.self.inside.cells.items
    c.args.self.now c.self.view_is)
