use Rattle.std.proofs.Common.{ap, length, arith}
use Rattle.authorship.specs.StoredRuns.{AuthorPlaces}
use Rattle.authorship.proofs.Changes.{fits_put}
use Rattle.authorship.proofs.Cuts.{length-places}
use Rattle.authorship.proofs.run_tree.RunTree.insert.Goals as goal

pub put_in-requires-clause-place : goal.put_in-requires-clause-place
put_in-requires-clause-place c =
    let size = ap (λ (t : AuthorPlaces). length t.places) c.self.view_is in
    let all = length-places c.self.inside.runs.items in
    omega (arith, size, all, c.requires.place)

pub put_in-requires-clause-fits : goal.put_in-requires-clause-fits
put_in-requires-clause-fits c =
    let size = ap (λ (t : AuthorPlaces). length t.places) c.self.view_is in
    let all = length-places c.self.inside.runs.items in
    omega (arith, size, all, c.requires.fits)

pub invariant_of-self : goal.invariant_of-self
invariant_of-self c =
    let size = ap (λ (t : AuthorPlaces). length t.places) c.self.view_is in
    let all = length-places c.self.inside.runs.items in record {
      proper = c.put_in.ensures.proper;
      fits = fits_put c.self.inside.runs.items c.put_in.new.runs.items c.args.pos c.args.author c.args.len
          (omega (arith, size, all, c.requires.fits)) (omega (arith, size, all, c.requires.place))
          c.put_in.ensures.places;
      empty = c.put_in.ensures.empty;
    }
