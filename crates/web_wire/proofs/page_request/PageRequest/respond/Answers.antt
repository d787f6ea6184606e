use Rattle.std.proofs.Common.{refl, sym, arith}
use Rattle.web_wire.proofs.Responses.{page_responds, refusal_responds, socket_responds, unchanged_responds}
use Rattle.web_wire.specs.contracts.page_request.PageRequest.{the_view}
use Rattle.web_wire.proofs.page_request.PageRequest.respond.Goals as goal

pub returns-in-Page : goal.returns-in-Page
returns-in-Page c =
    let told = c.settle.ensures in
    rw (c.in-Page.is, sym c.self.view_is) (page_responds c.args.server.now c.in-Page.page c.in-Page.whole c.len-before.result
    (the_view c.self.inside) (record (the_view c.self.inside) { output = c.put_page-put.new.output.items })
    c.settle.new.self c.put_page-put.result c.settle.result refl c.put_page-put.ensures.ok c.put_page-put.ensures.grows
    told.ok told.undone (omega (arith, c.len-before.ensures, c.self.inside.output.ok.0)) told.failed)

pub returns-in-Unchanged : goal.returns-in-Unchanged
returns-in-Unchanged c =
    let told = c.settle-in-Unchanged.ensures in
    rw (c.in-Unchanged.is, sym c.self.view_is) (unchanged_responds c.args.server.now c.in-Unchanged.page c.len-before.result
    (the_view c.self.inside) (record (the_view c.self.inside) { output = c.put_unchanged-put.new.output.items })
    c.settle-in-Unchanged.new.self c.put_unchanged-put.result c.settle-in-Unchanged.result refl c.put_unchanged-put.ensures.ok c.put_unchanged-put.ensures.grows
    told.ok told.undone (omega (arith, c.len-before.ensures, c.self.inside.output.ok.0)) told.failed)

pub returns-in-Refused : goal.returns-in-Refused
returns-in-Refused c =
    let told = c.settle-in-Refused.ensures in
    rw (c.in-Refused.is, sym c.self.view_is) (refusal_responds c.args.server.now c.in-Refused.status c.in-Refused.whole (rw c.in-Refused.is at c.requires) c.len-before.result
    (the_view c.self.inside) (record (the_view c.self.inside) { output = c.put_refusal-put.new.output.items })
    c.settle-in-Refused.new.self c.put_refusal-put.result c.settle-in-Refused.result refl c.put_refusal-put.ensures.ok c.put_refusal-put.ensures.grows
    told.ok told.undone (omega (arith, c.len-before.ensures, c.self.inside.output.ok.0)) told.failed)

pub returns-in-Socket : goal.returns-in-Socket
returns-in-Socket c =
    let told = c.settle-in-Socket.ensures in
    rw (c.in-Socket.is, sym c.self.view_is) (socket_responds c.args.server.now c.in-Socket.key c.len-before.result
    (the_view c.self.inside) (record (the_view c.self.inside) { output = c.put_upgrade-put.new.output.items })
    c.settle-in-Socket.new.self c.put_upgrade-put.result c.settle-in-Socket.result refl c.put_upgrade-put.ensures.ok c.put_upgrade-put.ensures.grows
    told.ok told.undone (omega (arith, c.len-before.ensures, c.self.inside.output.ok.0)) told.failed)
