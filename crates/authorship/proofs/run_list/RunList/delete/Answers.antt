use Rattle.authorship.proofs.Changes.{kept_take, view_take}
use Rattle.authorship.proofs.run_list.RunList.delete.Goals as goal

pub invariant_of-self : goal.invariant_of-self
invariant_of-self c =
    kept_take c.self.inside.table.items c.self.inside.runs c.delete.new.self c.self.inside.spare c.args.pos c.args.n
    c.self.invariant c.delete.ensures.room c.delete.ensures.places

pub returns : goal.returns
returns c =
    view_take c.self.inside.table.items c.self.inside.runs.places c.delete.new.self.places c.self.inside.spare c.args.pos
    c.args.n c.args.self.now c.self.view_is c.delete.ensures.places
