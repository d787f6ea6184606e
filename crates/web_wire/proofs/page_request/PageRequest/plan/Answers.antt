use Rattle.std.proofs.Common.{ap, sym}
use Rattle.web_wire.proofs.page_request.PageRequest.plan.Goals as goal

pub returns : goal.returns
returns c =
    let input = ap (λ d. d.input) (sym c.self.view_is) in
    rw (c.as_slice.ensures.value, sym input, c.has_bytes-has_body.ensures, c.unread_size.ensures) at c.plan_of.ensures
