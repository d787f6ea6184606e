use Rattle.std.proofs.Common.{ap, ◌++◌, ◌∙◌}
use Rattle.web_wire.specs.Course.{farewell}
use Rattle.web_wire.proofs.Roles.{farewell_sent}
use Rattle.web_wire.proofs.frames.Frames.end.Goals.{in-Ok, in-Err}
use Rattle.web_wire.proofs.frames.Frames.end.Goals as goal

pub returns-clause-ok : goal.returns-clause-ok
returns-clause-ok c =
    let conn_is = ap (λ s. s.conn) c.self.view_is in
    elim c.match-told.branch [
      | in-Ok w ↦ rw w.result-is (farewell_sent c.self.inside.context c.close-told.new.self c.args.code
          c.args.output.now.items c.close-told.new.output.items (ap (λ k. k.role) conn_is ∙ c.requires)
          (rw w.in-Ok.is at c.close-told.ensures.ok) ∙ ap (λ k. c.args.output.now.items ++ farewell k c.args.code) conn_is)
      | in-Err w ↦ rw w.result-is tt
    ]
