use Rattle.std.proofs.Common.{◌≡◌, ◌<◌, inl, inr, true, false, length, sym, ap, ◌∙◌, subst, arith}
use Rattle.shared_pads.specs.LockedPad.{Departs}
use Rattle.conversation.proofs.Departures.{leaves_by, none_of_cell, none_there, same_at}
use Rattle.conversation.proofs.pad_table.PadTable.leave.Goals as goal
use Rattle.conversation.proofs.pad_table.PadTable.leave.Goals.{then-place-self-via-then-place-self, then-place-self-via-else-place-self+then-place-len}

false_true : false ≡ true → ⊥
false_true e = cc

pub returns-then-place-self : goal.returns-then-place-self
returns-then-place-self g c =
    elim c.then-place-self.branch [
      | then-place-self-via-then-place-self w ↦ none_there c.args.self.now.cells.now c.args.session.now.who
          c.args.room.now c.args.seats.now.items (inl w.if-place-self.true)
      | then-place-self-via-else-place-self+then-place-len w ↦ none_there c.args.self.now.cells.now
          c.args.session.now.who c.args.room.now c.args.seats.now.items
          (inr (let many = w.len.ensures in omega (arith, c.args.seats.now.ok.0)))
    ]

pub depart-requires : goal.depart-requires
depart-requires g c =
    let low : c.args.room.now.cell < length c.args.seats.now.items =
    (let many = c.len.ensures in omega (arith, c.args.seats.now.ok.0)) in
    ap (λ s. s.cell) (same_at c.args.seats.now.items c.args.room.now.cell c.index_mut.result.now c.index.result.now low
    c.index_mut.ensures.value c.index.ensures)
    ∙ c.owns.ensures.0 c.if-owns.true

pub returns-then-owns : goal.returns-then-owns
returns-then-owns g c =
    let low : c.args.room.now.cell < length c.args.seats.now.items =
    (let many = c.len.ensures in omega (arith, c.args.seats.now.ok.0)) in
    leaves_by c.args.self.now.cells.now c.args.session.now.who c.args.room.now c.args.seats.now.items
    c.index-self-place.result c.index_mut.result.now c.if-place-self.false c.index-self-place.is low
    c.index_mut.ensures.value c.depart.new.seat
    (ap (λ s. s.cell) (same_at c.args.seats.now.items c.args.room.now.cell c.index_mut.result.now c.index.result.now low
    c.index_mut.ensures.value c.index.ensures)
    ∙ c.owns.ensures.0 c.if-owns.true ∙ ap (λ p. p.cell) (sym c.index-self-place.is))
    (subst (λ w. Departs c.index_mut.result.now w c.args.room.now c.depart.new.seat) c.who.ensures.value
    c.depart.ensures.departs)

pub returns-else-owns : goal.returns-else-owns
returns-else-owns g c =
    let low : c.args.room.now.cell < length c.args.seats.now.items =
    (let many = c.len.ensures in omega (arith, c.args.seats.now.ok.0)) in
    none_of_cell c.args.self.now.cells.now c.args.session.now.who c.args.room.now c.args.seats.now.items
    c.index-self-place.result c.index.result.now c.if-place-self.false c.index-self-place.is low c.index.ensures
    (λ same. false_true (sym c.if-owns.false
    ∙ c.owns.ensures.1 (same ∙ ap (λ p. p.cell) c.index-self-place.is)))
