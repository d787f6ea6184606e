use Rattle.std.proofs.Common.{◌∙◌, map, filter, ap}
use Rattle.pad_model.specs.Visible.{runs}
use Rattle.block_seq.specs.Plain.{author_at, is_shown}
use Rattle.block_seq.proofs.Kept.{authors_at-cells_of}
use Rattle.block_seq.proofs.plain.PlainSeqSequence.authors_at.Goals as goal

pub returns : goal.returns
returns c =
    c.from_vec.ensures ∙ c.in_ok-runs_of.ensures
    ∙ ap runs (ap (map (λ author. author.now)) c.as_slice-2.ensures.value ∙ c.in_ok-authors.ensures
    ∙ ap (λ cells. map (λ x. author_at c.as_slice.result.now x.author) (filter (is_shown c.args.rev) cells))
    c.as_slice-cells.ensures.value
    ∙ ap (λ authors. map (λ x. author_at authors x.author) (filter (is_shown c.args.rev) c.self.inside.cells.items))
    c.as_slice.ensures.value
    ∙ authors_at-cells_of c.self.inside.authors.items c.args.rev c.self.inside.cells.items c.args.self.now
    c.self.view_is)
