use Rattle.std.proofs.Common.{◌≡◌, Some, sym, ap, ◌∙◌}
use Rattle.std.proofs.lemmas.Slice.Eq.{bytes_eq-Decides}
use Rattle.pad_core.specs.Machine.{Machine, name_of}
use Rattle.pad_core.proofs.Sessions.{author_stepped, peer_stepped}
use Rattle.pad_core.proofs.pad.Pad.step.Goals as goal

pub returns-in-Author : goal.returns-in-Author
returns-in-Author g c =
    let owned : c.args.self.now.owned ≡ Some c.in-Some.owned = ap (λ (m : Machine). m.owned) (sym c.self.view_is)
    ∙ c.in-Some.is in
    let same = c.is.ensures.0 c.if-not-is.false in
    author_stepped c.in-Some.owned c.in-Author.name c.args.event.now c.args.self.now c.author_step.new.self
    c.author_step.result
    owned same ((bytes_eq-Decides c.in-Some.owned.name c.args.event.now.pad.now).1 same) c.in-Author.is
    (c.author_step.ensures.answers c.in-Some.owned owned)
    (λ none. c.author_step.ensures.exact none c.in-Some.owned owned)

pub returns-in-Peer : goal.returns-in-Peer
returns-in-Peer g c =
    let owned : c.args.self.now.owned ≡ Some c.in-Some.owned = ap (λ (m : Machine). m.owned) (sym c.self.view_is)
    ∙ c.in-Some.is in
    let same = c.is.ensures.0 c.if-not-is.false in
    peer_stepped c.in-Some.owned c.in-Peer.number c.in-Peer.version c.args.event.now c.args.self.now c.peer_act.new.self
    c.peer_act.result
    owned same ((bytes_eq-Decides c.in-Some.owned.name c.args.event.now.pad.now).1 same) c.in-Peer.is
    (c.peer_act.ensures c.in-Some.owned.name c.in-Peer.number (ap name_of owned))
