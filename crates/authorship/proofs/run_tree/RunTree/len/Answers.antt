use Rattle.std.proofs.Common.{◌∙◌, ap, sym, length}
use Rattle.authorship.specs.StoredRuns.{AuthorPlaces}
use Rattle.authorship.proofs.Cuts.{length-places}
use Rattle.authorship.proofs.run_tree.RunTree.len.Goals as goal

pub returns : goal.returns
returns c = c.weight.ensures.sum ∙ sym (length-places c.self.inside.runs.items)
    ∙ ap (λ (t : AuthorPlaces). length t.places) c.self.view_is
