use Rattle.std.proofs.Common.{◌≡◌, ◌+◌, ◌++◌, ◌∷◌, [], List, take, take_all, sym, ap, ◌∙◌, subst}
use Rattle.pad_core.proofs.Exits.{passed_on}
use Rattle.std.proofs.lemmas.List.{take_more}
use Rattle.shared_pads.specs.declared.seat.Seat.{Seat}
use Rattle.conversation.specs.Seating.{TakesSeats, cells_in}
use Rattle.conversation.proofs.Seatings.{one_more_seat}
use Rattle.conversation.proofs.seating.take_seats.Goals as goal

pub loop-cell-preserved : goal.loop-cell-preserved
loop-cell-preserved g c =
    let one_more : take (c.loop-cell.cell-index + 1) c.args.cells.now ≡ take c.loop-cell.cell-index c.args.cells.now
    ++ c.cell-item.result ∷ [] =
    take_more c.args.cells.now c.loop-cell.cell-index c.cell-item.result c.loop-cell-test.true
    ∙ ap (λ e. take c.loop-cell.cell-index c.args.cells.now ++ e ∷ []) (sym c.cell-item.is)
    in
    let pushed : c.push_reserved.new.self.items ≡ c.loop-cell.seats.items ++ c.in_ok-seat.field-0 ∷ [] =
    c.push_reserved.ensures.items ∙ ap (λ (s : List Seat). s ++ c.in_ok-seat.field-0 ∷ []) c.in_ok-reserve.ensures.items
    in
    let so = c.loop-cell.invariant in
    let more =
    one_more_seat c.args.seats.now.items c.loop-cell.seats.items c.push_reserved.new.self.items so.0
    c.in_ok-seat.field-0
    (take c.loop-cell.cell-index c.args.cells.now) (take (c.loop-cell.cell-index + 1) c.args.cells.now)
    c.cell-item.result so.1 so.2 pushed c.in_ok-seat.ensures.seat.0 one_more in
    (so.0 ++ c.in_ok-seat.field-0 ∷ [], more.0, more.1)

pub returns-clause-seats : goal.returns-clause-seats
returns-clause-seats g c =
    let all : take c.loop-cell.cell-index c.args.cells.now ≡ c.args.cells.now =
    take_all c.loop-cell.cell-index c.args.cells.now c.loop-cell-test.false in
    let so = c.loop-cell.invariant in (so.0, so.1, so.2 ∙ ap cells_in all)

pub returns-in_err-seat-clause-seats : goal.returns-in_err-seat-clause-seats
returns-in_err-seat-clause-seats g c =
    let so = c.loop-cell.invariant in
    subst (λ r. TakesSeats c.args.cells.now c.args.seats.now.items r c.reserve.new.self.items)
    (sym (passed_on c.from_residual-in_err-seat.result c.from_residual-in_err-seat.ensures.1))
    (so.0, c.loop-cell.cell-index, c.in_ok-reserve.ensures.items ∙ so.1, so.2)
