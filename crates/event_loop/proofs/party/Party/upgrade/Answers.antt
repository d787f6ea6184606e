use Rattle.std.proofs.Common.{Ok, ap, ◌∙◌, sym}
use denote.Param.{param}
use Rattle.event_loop.specs.contracts.party.Party.{the_view}
use Rattle.event_loop.proofs.Users.{same_request, signed_up}
use Rattle.event_loop.proofs.party.Party.upgrade.Goals as goal

pub returns-in-Ok-None : goal.returns-in-Ok-None
returns-in-Ok-None g c exchange is =
    let same = same_request c.self.inside.protocol c.in-PageRequest.request exchange
    (sym c.replace.ensures.value ∙ c.in-PageRequest.is) (ap (λ b. b.protocol) c.self.view_is ∙ is) in
    let signs = c.sign_in.ensures.signs (c.in-Ok-None.is ∙ ap Ok c.in-Ok-None.field-0-is) in
    rw (← c.self.view_is)
    (signed_up c.args.accounts.now exchange c.in-PageRequest.request (the_view (param 0 g.row.K) g.K.ByteSocket c.self.inside)
    c.sign_in.new.session same (rw c.user.ensures at signs.0) signs.1)
