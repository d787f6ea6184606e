use Rattle.std.proofs.Common.{ap, ◌∙◌, eqb}
use Rattle.block_seq.specs.Plain.{kept_character}
use Rattle.block_seq.proofs.Spans.{all_there}
use Rattle.block_seq.proofs.erase.has_span.Goals as goal

pub returns : goal.returns
returns c =
    ap (λ n. eqb n c.args.span.now.len) c.count_covered.ensures
    ∙ all_there kept_character c.args.cells.now c.requires.distinct c.args.span.now.first c.args.span.now.len
