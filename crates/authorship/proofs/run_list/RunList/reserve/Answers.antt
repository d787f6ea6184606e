use Rattle.authorship.proofs.Changes.{refused, kept_grown, view_grown, view_reserved}
use Rattle.authorship.proofs.run_list.RunList.reserve.Goals as goal

pub returns-in_err-place-clause-memory : goal.returns-in_err-place-clause-memory
returns-in_err-place-clause-memory c =
    refused c.from_residual-in_err-place.result c.args.self.now _ c.from_residual-in_err-place.ensures.1
    (view_grown c.self.inside.table.items c.place_author.new.table.items c.args.author.now c.self.inside.runs.places
    c.reserve.new.self.places c.self.inside.runs.room c.self.inside.spare c.args.self.now c.self.invariant.known
    c.self.invariant.room c.self.view_is c.reserve.ensures.places c.place_author.ensures.more)

pub invariant_of-self-2 : goal.invariant_of-self-2
invariant_of-self-2 c =
    kept_grown c.self.inside.table.items c.place_author.new.table.items c.args.author.now c.self.inside.runs
    c.reserve.new.self c.self.inside.spare _ c.self.invariant c.reserve.ensures.places c.place_author.ensures.more
    c.place_author.ensures.once (c.in_ok-place.ensures.place.0, c.in_ok-reserve.ensures.ok)

pub returns-clause-ok : goal.returns-clause-ok
returns-clause-ok c =
    view_reserved c.self.inside.table.items c.place_author.new.table.items c.args.author.now c.self.inside.runs.places
    c.reserve.new.self.places c.self.inside.spare c.in_ok-place.place c.args.n c.args.self.now c.self.invariant.known
    c.self.view_is c.reserve.ensures.places c.place_author.ensures.more c.in_ok-place.ensures.place.1
