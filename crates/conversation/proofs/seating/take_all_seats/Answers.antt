use Rattle.std.proofs.Common.{◌≡◌, ◌++◌, ◌∷◌, [], inl, inr, List, refl, sym, ap, ◌∙◌, subst, append-nil, arith}
use Rattle.std.specs.Prelude.{Vec, replicate}
use Rattle.std.specs.declared.alloc.Global.{Global}
use Rattle.shared_pads.specs.declared.seat.Seat.{Seat}
use Rattle.conversation.specs.Seating.{cells_in, cells_of, crew_cells}
use Rattle.conversation.proofs.Seatings.{one_more_thread, refused_taking}
use Rattle.conversation.proofs.seating.take_all_seats.Goals as goal

pub returns-in_err-reserve-clause-crew : goal.returns-in_err-reserve-clause-crew
returns-in_err-reserve-clause-crew g c =
    let so = c.loop-thread.invariant in
    refused_taking _ c.args.cells.now c.args.threads c.args.crew.now.items c.reserve.new.self.items c.from_residual.result
    c.from_residual.ensures.1 (
      so.0,
      [],
      c.loop-thread._thread,
      c.in_err-reserve.ensures.items ∙ so.1 ∙ sym (append-nil (c.args.crew.now.items ++ so.0)),
      c.loop-thread-test.true,
      so.2,
      inl refl,
    )

pub returns-in_err-taken-clause-crew : goal.returns-in_err-taken-clause-crew
returns-in_err-taken-clause-crew g c =
    let so = c.loop-thread.invariant in
    let seats = c.take_seats-taken.new.seats in
    let taken = c.in_err-taken.ensures.seats in
    refused_taking _ c.args.cells.now c.args.threads c.args.crew.now.items c.push_reserved.new.self.items
    c.from_residual-in_err-taken.result c.from_residual-in_err-taken.ensures.1 (
      so.0,
      c.take_seats-taken.new.seats ∷ [],
      c.loop-thread._thread,
      c.push_reserved.ensures.items
          ∙ ap (λ (crew : List (Vec Seat Global)). crew ++ c.take_seats-taken.new.seats ∷ [])
          (c.in_ok-reserve.ensures.items ∙ so.1),
      c.loop-thread-test.true,
      so.2,
      inr (
        c.take_seats-taken.new.seats,
        taken.1,
        refl,
        ap cells_of (taken.2 ∙ ap (λ (none : List Seat). none ++ taken.0) c.new-seats.ensures.items) ∙ taken.3,
      ),
    )

pub loop-thread-preserved : goal.loop-thread-preserved
loop-thread-preserved g c =
    let so = c.loop-thread.invariant in
    let taken = c.in_ok-taken.ensures.seats in
    let more = one_more_thread c.args.crew.now.items c.loop-thread.crew.items c.push_reserved.new.self.items so.0
    c.take_seats-taken.new.seats c.args.cells.now c.loop-thread._thread so.1 so.2
    (c.push_reserved.ensures.items
    ∙ ap (λ (crew : List (Vec Seat Global)). crew ++ c.take_seats-taken.new.seats ∷ []) c.in_ok-reserve.ensures.items)
    (ap cells_of (taken.1 ∙ ap (λ (none : List Seat). none ++ taken.0) c.new-seats.ensures.items) ∙ taken.2) in
    (so.0 ++ c.take_seats-taken.new.seats ∷ [], more.0, more.1)

pub returns-clause-crew : goal.returns-clause-crew
returns-clause-crew g c =
    let so = c.loop-thread.invariant in
    let all : c.loop-thread._thread ≡ c.args.threads = omega arith in (
      so.0,
      so.1,
      subst (λ count. crew_cells so.0 ≡ replicate count (cells_in c.args.cells.now)) all so.2,
    )
