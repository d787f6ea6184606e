use Rattle.authorship.proofs.Changes.{kept_put, view_put, spare_is, some_left, used_spare}
use Rattle.authorship.proofs.run_list.RunList.insert_reserved.Goals as goal

pub invariant_of-self : goal.invariant_of-self
invariant_of-self c =
    let view = rw c.in-Some.is at c.self.view_is in
    let some = some_left c.args.self.now _ (spare_is c.self.inside.table.items c.self.inside.runs.places c.in-Some.spare
    c.args.self.now view) c.requires.room in
    kept_put c.self.inside.table.items c.self.inside.runs c.insert.new.self c.in-Some.spare c.args.pos c.args.n
    (rw c.in-Some.is at c.self.invariant) some c.insert.ensures.room c.insert.ensures.places

pub returns-in-Some : goal.returns-in-Some
returns-in-Some c =
    let view = rw c.in-Some.is at c.self.view_is in
    used_spare c.args.self.now _ _ c.args.pos c.args.n
    (spare_is c.self.inside.table.items c.self.inside.runs.places c.in-Some.spare c.args.self.now view)
    (view_put c.self.inside.table.items c.self.inside.runs.places c.insert.new.self.places c.in-Some.spare c.args.pos
    c.args.n c.args.self.now view c.insert.ensures.places)
