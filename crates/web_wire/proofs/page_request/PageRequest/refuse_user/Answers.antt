use Rattle.std.proofs.Common.{[], refl}
use Rattle.web_wire.proofs.Responses.{unread_told}
use Rattle.web_wire.specs.contracts.page_request.PageRequest.{the_view}
use Rattle.web_wire.proofs.page_request.PageRequest.refuse_user.Goals as goal

pub returns-clause-told : goal.returns-clause-told
returns-clause-told c =
    let told = c.settle.ensures in
    let put = rw (c.clear.ensures.items) at c.put_stranger-put.ensures in
    unread_told c.put_stranger-put.result c.settle.result 403 0
    (record (the_view c.self.inside) { output = [] })
    (record (the_view c.self.inside) { output = c.put_stranger-put.new.output.items })
    c.settle.new.self refl put.ok put.grows
    told.ok told.undone refl told.failed
