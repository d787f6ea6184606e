use Rattle.std.proofs.Common.{ap, length, arith}
use Rattle.authorship.specs.StoredRuns.{AuthorPlaces}
use Rattle.authorship.proofs.Changes.{fits_take}
use Rattle.authorship.proofs.Cuts.{length-places}
use Rattle.authorship.proofs.run_tree.RunTree.delete.Goals as goal

pub take_out-requires-clause-stretch : goal.take_out-requires-clause-stretch
take_out-requires-clause-stretch c =
    let size = ap (λ (t : AuthorPlaces). length t.places) c.self.view_is in
    let all = length-places c.self.inside.runs.items in
    omega arith

pub invariant_of-self : goal.invariant_of-self
invariant_of-self c =
    let size = ap (λ (t : AuthorPlaces). length t.places) c.self.view_is in
    let all = length-places c.self.inside.runs.items in record {
      proper = c.take_out.ensures.proper;
      fits = fits_take c.self.inside.runs.items c.take_out.new.runs.items c.args.pos c.args.len c.self.invariant.fits
          (omega arith) c.take_out.ensures.places;
      empty = c.self.invariant.empty;
    }
