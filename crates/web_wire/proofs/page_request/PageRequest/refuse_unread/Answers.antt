use Rattle.std.proofs.Common.{refl, sym, arith}
use Rattle.web_wire.proofs.Responses.{unread_told}
use Rattle.web_wire.specs.contracts.page_request.PageRequest.{the_view}
use Rattle.web_wire.proofs.page_request.PageRequest.refuse_unread.Goals as goal

pub returns-clause-told : goal.returns-clause-told
returns-clause-told c =
    let told = c.settle.ensures in
    rw (sym c.self.view_is) (unread_told c.put_unread-put.result c.settle.result c.args.status c.len-before.result
    (the_view c.self.inside) (record (the_view c.self.inside) { output = c.put_unread-put.new.output.items })
    c.settle.new.self refl c.put_unread-put.ensures.ok c.put_unread-put.ensures.grows
    told.ok told.undone (omega (arith, c.len-before.ensures, c.self.inside.output.ok.0)) told.failed)
