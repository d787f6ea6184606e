use Rattle.std.proofs.Common.{◌≡◌, ◌⊎◌, inl, ap, subst, sym, ◌∙◌}
use Rattle.event_loop.specs.Party.{Board, IsStopped, IsTold, tale_of}
use Rattle.event_loop.specs.declared.protocol.Protocol.TheVariants.{Lines, Socket}
use Rattle.event_loop.proofs.Steps.{page_told, tells_of_memory}
use Rattle.event_loop.proofs.party.Party.tell_of_memory.Goals as goal

pub returns-in-Lines : goal.returns-in-Lines
returns-in-Lines g c =
    let is : c.args.self.now.protocol ≡ Lines = rw (← c.self.view_is) c.in-Lines.is in
    tells_of_memory c.args.self.now c.tell.new.self (c.may_be_told.ensures c.if-not-may_be_told.false)
    (inl (subst (λ p. IsTold (tale_of p) c.args.self.now c.tell.new.self) (sym is)
    (subst (λ tale. IsTold tale c.args.self.now c.tell.new.self) c.memory_line.ensures c.tell.ensures)))

pub returns-in-Socket : goal.returns-in-Socket
returns-in-Socket g c =
    let is : c.args.self.now.protocol ≡ Socket c.in-Socket.field-0 = rw (← c.self.view_is) c.in-Socket.is in
    tells_of_memory c.args.self.now c.tell_by_message.new.self (c.may_be_told.ensures c.if-not-may_be_told.false)
    (subst (λ p. IsTold (tale_of p) c.args.self.now c.tell_by_message.new.self
    ⊎ IsStopped c.args.self.now c.tell_by_message.new.self) (sym is) c.tell_by_message.ensures)

pub returns-in_default : goal.returns-in_default
returns-in_default g c =
    tells_of_memory c.args.self.now c.tell-in_default.new.self (c.may_be_told.ensures c.if-not-may_be_told.false)
    (inl (subst (λ tale. IsTold tale c.args.self.now c.tell-in_default.new.self)
    (page_told c.args.self.now.protocol
    (λ is. c.in_default.not-Lines (ap (λ (b : Board). b.protocol) c.self.view_is ∙ is))
    (λ socket is. c.in_default.not-Socket socket (ap (λ (b : Board). b.protocol) c.self.view_is ∙ is)))
    c.tell-in_default.ensures))
