use Rattle.std.proofs.Common.{◌∙◌, Some, ap, sym, length, slice_get, arith}
use Rattle.authorship.specs.StoredRuns.{AuthorPlaces}
use Rattle.authorship.specs.declared.stored_run.StoredRun.{StoredRun}
use Rattle.authorship.proofs.At.{at_place, read}
use Rattle.authorship.proofs.Cuts.{length-places}
use Rattle.authorship.proofs.run_tree.RunTree.author_at.Goals as goal

pub place_of-place-requires : goal.place_of-place-requires
place_of-place-requires c =
    let size = ap (λ (t : AuthorPlaces). length t.places) c.self.view_is in
    let all = length-places c.self.inside.runs.items in
    omega (arith, size, all)

pub get-requires : goal.get-requires
get-requires c =
    let size = ap (λ (t : AuthorPlaces). length t.places) c.self.view_is in
    let all = length-places c.self.inside.runs.items in
    record { in_range = (at_place c.self.inside.runs.items c.place_of-place.result c.args.pos c.place_of-place.ensures.place c.place_of-place.ensures.position (omega (arith, size, all))).0 }

pub returns : goal.returns
returns c =
    let size = ap (λ (t : AuthorPlaces). length t.places) c.self.view_is in
    let all = length-places c.self.inside.runs.items in
    let there = read c.self.inside.runs.items c.place_of-place.result.index c.get.result.now c.get.ensures.item in
    ap (λ (t : AuthorPlaces). slice_get t.places c.args.pos) (sym c.self.view_is)
    ∙ (at_place c.self.inside.runs.items c.place_of-place.result c.args.pos c.place_of-place.ensures.place
    c.place_of-place.ensures.position (omega (arith, size, all))).1
    ∙ ap (λ (r : StoredRun). Some r.author) there.1
