use denote.Param.{param}
use Rattle.std.proofs.Common.{ap, ◌∙◌, sym, subst, string_bytes}
use Rattle.web_wire.specs.PageRequests.{Exchange}
use Rattle.event_loop.specs.Answered.{Told}
use Rattle.event_loop.specs.contracts.party.Party.{the_view}
use Rattle.event_loop.proofs.Users.{same_request, stopped_so, tells_line, told_line, told_stranger}
use Rattle.event_loop.proofs.party.Party.tell_user.Goals.{in-Err, in-Ok-Ok}
use Rattle.event_loop.proofs.party.Party.tell_user.Goals as goal

pub returns-in-Ok-Err : goal.returns-in-Ok-Err
returns-in-Ok-Err g c exchange is =
    let same = same_request c.self.inside.protocol c.in-PageRequest.request exchange
    (sym c.replace.ensures.value ∙ c.in-PageRequest.is) (ap (λ b. b.protocol) c.self.view_is ∙ is) in
    rw (← c.self.view_is)
    (told_stranger c.args.authors.accounts.now c.args.authors.replica exchange (the_view (param 0 g.row.K) g.K.ByteSocket c.self.inside)
    _ c.turn_away.new.self (ap (λ p. record (the_view (param 0 g.row.K) g.K.ByteSocket c.self.inside) { protocol = p }) c.replace.ensures.after)
    _ c.in-Ok-Err.stranger (ap (λ (x : Exchange). x.user) (sym same) ∙ sym c.user.ensures)
    (rw c.in-Ok-Err.field-0-is at c.in-Ok-Err.ensures) c.turn_away.result c.turn_away.ensures)

pub returns : goal.returns
returns g c exchange is =
    let accounts = c.args.authors.accounts.now in
    let replica = c.args.authors.replica in
    let request = c.in-PageRequest.request in
    let old = the_view (param 0 g.row.K) g.K.ByteSocket c.self.inside in
    let mid = c.match-user_line.self in
    let new = c.close_told.new.self in
    let same = same_request c.self.inside.protocol request exchange
    (sym c.replace.ensures.value ∙ c.in-PageRequest.is) (ap (λ b. b.protocol) c.self.view_is ∙ is) in
    let over = ap (λ p. record old { protocol = p }) c.replace.ensures.after in
    let told : Told accounts replica request c.match-user_line.told old new =
    elim c.match-user_line.branch [
      | in-Ok-Ok w ↦
          rw w.told-is (told_line accounts replica request old mid new (w.self-is ∙ over) w.tell_user-told.new.self
          w.as_bytes.result.now w.tell_user-told.result w.tell_user-told.ensures.closes w.tell_user-told.ensures.told
          w.tell_user-told.ensures.failed (rw (w.told-is, w.request-is) at c.close_told.ensures.ok)
          (rw w.told-is at c.close_told.ensures.err)
          (λ page puts. tells_line accounts replica request _ (string_bytes w.in-Ok-Ok.line) (sym c.user.ensures)
          (rw w.in-Ok-Ok.field-0-is at w.in-Ok-Ok.ensures) page (rw w.as_bytes.ensures.value at puts)))
      | in-Err w ↦ rw w.told-is (stopped_so accounts replica request old mid new (w.self-is ∙ over)
          (rw w.told-is at c.close_told.ensures.err))
    ] in
    rw (← c.self.view_is, c.close_told.ensures.same) (subst (λ x. Told accounts replica x c.match-user_line.told old new) same told)
