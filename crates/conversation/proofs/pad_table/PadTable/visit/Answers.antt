use Rattle.std.proofs.Common.{◌≡◌, ◌<◌, inl, inr, true, false, length, Some, refl, sym, ap, ◌∙◌, arith}
use Rattle.std.proofs.lemmas.Option.{slice_get-get_or}
use Rattle.shared_pads.specs.declared.seat.Seat.{Seat}
use Rattle.conversation.proofs.Departures.{no_place, other_cell, same_at}
use Rattle.conversation.proofs.pad_table.PadTable.visit.Goals as goal
use Rattle.conversation.proofs.pad_table.PadTable.visit.Goals.{then-place-self-via-then-place-self, then-place-self-via-else-place-self+then-place-len}

false_true : false ≡ true → ⊥
false_true e = cc

pub returns-then-place-self-clause-visits : goal.returns-then-place-self-clause-visits
returns-then-place-self-clause-visits g c =
    elim c.then-place-self.branch [
      | then-place-self-via-then-place-self w ↦
          inl (
            refl,
            refl,
            no_place c.args.self.now.cells.now c.args.place c.args.seats.now.items
                (inl w.if-place-self.true),
          )
      | then-place-self-via-else-place-self+then-place-len w ↦
          inl (
            refl,
            refl,
            no_place c.args.self.now.cells.now c.args.place c.args.seats.now.items
                (inr (let many = w.len.ensures in omega (arith, c.args.seats.now.ok.0))),
          )
    ]

pub returns-then-not-owns-clause-visits : goal.returns-then-not-owns-clause-visits
returns-then-not-owns-clause-visits g c =
    let low : c.args.place < length c.args.seats.now.items =
    (let many = c.len.ensures in omega (arith, c.args.seats.now.ok.0)) in
    inl (
      refl,
      refl,
      other_cell c.args.self.now.cells.now c.args.place c.args.seats.now.items c.index-self-place.result
          c.index.result.now c.if-place-self.false c.index-self-place.is low c.index.ensures
          (λ same. false_true (sym c.if-not-owns.true
          ∙ c.owns.ensures.1 (same ∙ ap (λ p. p.cell) c.index-self-place.is))),
    )

pub call-requires-clause-owned : goal.call-requires-clause-owned
call-requires-clause-owned g c =
    let low : c.args.place < length c.args.seats.now.items =
    (let many = c.len.ensures in omega (arith, c.args.seats.now.ok.0)) in
    ap (λ (s : Seat). s.cell) (same_at c.args.seats.now.items c.args.place c.index_mut.result.now c.index.result.now low
    c.index_mut.ensures.value c.index.ensures)
    ∙ c.owns.ensures.0 c.if-not-owns.false

pub returns-clause-visits : goal.returns-clause-visits
returns-clause-visits g c =
    let low : c.args.place < length c.args.seats.now.items =
    (let many = c.len.ensures in omega (arith, c.args.seats.now.ok.0)) in
    inr (
      c.index_mut.result.now,
      c.call.new.seat,
      slice_get-get_or c.args.seats.now.items c.args.place c.index_mut.result.now low
          ∙ ap Some (sym c.index_mut.ensures.value),
      c.call.ensures.called,
      refl,
    )
