use Rattle.std.proofs.Common.{◌∷◌, Ok, sym, ap, ◌∙◌}
use Rattle.web_wire.proofs.PageRequests.{page_kept, page_served, refusal_reason, socket_opens, unread_reason, user_asked}
use Rattle.web_wire.proofs.Responses.{known_status, status_told}
use Rattle.web_wire.proofs.page_request.PageRequest.answer.Goals as goal

pub returns-in-Ok-respond-clause-socket : goal.returns-in-Ok-respond-clause-socket
returns-in-Ok-respond-clause-socket c is =
    let input = ap (λ d. d.input) (sym c.self.view_is) in
    socket_opens c.plan-found.result c.respond.result c.args.self.now c.respond.new.self c.take_head.new.self
    (c.args.kept.now ∷ c.args.site.pages.now) _ _ c.args.site.users c.args.from _ _ _ c.in-Head.head _
    (c.in-Ok-respond.is ∙ is)
    (rw (c.in-Head.is, c.new-server.ensures, c.limits.ensures, c.as_slice.ensures.value, sym input) at c.in-Ok.ensures.ok)
    c.plan-found.ensures c.in_ok-user-in-Head.ensures c.respond.ensures c.take_head.ensures

pub returns-in-Ok-respond-clause-user : goal.returns-in-Ok-respond-clause-user
returns-in-Ok-respond-clause-user c is =
    let input = ap (λ d. d.input) (sym c.self.view_is) in
    user_asked c.plan-found.result c.respond.result c.args.self.now c.respond.new.self c.take_head.new.self
    (c.args.kept.now ∷ c.args.site.pages.now) _ _ c.args.site.users c.args.from _ _ _ c.in-Head.head _
    (c.in-Ok-respond.is ∙ is)
    (rw (c.in-Head.is, c.new-server.ensures, c.limits.ensures, c.as_slice.ensures.value, sym input) at c.in-Ok.ensures.ok)
    c.plan-found.ensures c.in_ok-user-in-Head.ensures c.respond.ensures c.take_head.ensures

pub returns-in-Ok-respond-clause-refused : goal.returns-in-Ok-respond-clause-refused
returns-in-Ok-respond-clause-refused c =
    let input = ap (λ d. d.input) (sym c.self.view_is) in
    refusal_reason c.plan-found.result (Ok c.in-Ok-respond.next) c.args.self.now c.respond.new.self
    c.take_head.new.self _ _ _ c.args.site.users c.args.from _ _ _ c.in-Head.head _
    (rw (c.in-Head.is, c.new-server.ensures, c.limits.ensures, c.as_slice.ensures.value, sym input) at c.in-Ok.ensures.ok)
    c.plan-found.ensures (rw c.in-Ok-respond.is at c.respond.ensures) c.take_head.ensures

pub returns-in-Err-clause-refused : goal.returns-in-Err-clause-refused
returns-in-Err-clause-refused c =
    let input = ap (λ d. d.input) (sym c.self.view_is) in
    let refuses = rw (c.new-server.ensures, c.limits.ensures, c.as_slice.ensures.value, sym input) at c.in-Err.ensures.err in
    unread_reason c.refuse_unread.result c.args.self.now c.refuse_unread.new.self _ _ _ _ _ refuses.0

pub returns-in-Ok-respond-clause-known : goal.returns-in-Ok-respond-clause-known
returns-in-Ok-respond-clause-known c =
    known_status c.read.new.self c.plan-found.result c.in-Ok-respond.next c.args.self.now c.respond.new.self
    c.in-Ok-respond.ensures

pub returns-in-Ok-respond-clause-page : goal.returns-in-Ok-respond-clause-page
returns-in-Ok-respond-clause-page c is =
    let input = ap (λ d. d.input) (sym c.self.view_is) in
    page_served c.plan-found.result c.respond.result c.args.self.now c.respond.new.self c.take_head.new.self
    _ _ _ c.args.site.users c.args.from _ _ _ c.in-Head.head _ (c.in-Ok-respond.is ∙ is)
    (rw (c.in-Head.is, c.new-server.ensures, c.limits.ensures, c.as_slice.ensures.value, sym input) at c.in-Ok.ensures.ok)
    c.plan-found.ensures c.respond.ensures c.take_head.ensures

pub returns-in-Ok-respond-clause-unchanged : goal.returns-in-Ok-respond-clause-unchanged
returns-in-Ok-respond-clause-unchanged c is =
    let input = ap (λ d. d.input) (sym c.self.view_is) in
    page_kept c.plan-found.result c.respond.result c.args.self.now c.respond.new.self c.take_head.new.self
    _ _ _ c.args.site.users c.args.from _ _ _ c.in-Head.head _ (c.in-Ok-respond.is ∙ is)
    (rw (c.in-Head.is, c.new-server.ensures, c.limits.ensures, c.as_slice.ensures.value, sym input) at c.in-Ok.ensures.ok)
    c.plan-found.ensures c.respond.ensures c.take_head.ensures

pub returns-in-Ok-respond-clause-told : goal.returns-in-Ok-respond-clause-told
returns-in-Ok-respond-clause-told c =
    status_told c.read.new.self c.plan-found.result (Ok c.in-Ok-respond.next) c.args.self.now c.respond.new.self
    c.take_head.new.self c.in-Ok-respond.ensures (ap (λ d. d.output) c.take_head.ensures)
