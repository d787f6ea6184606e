use Rattle.std.proofs.Common.{◌≡◌, subst, arith}
use Rattle.std.specs.List.{range_with_len}
use Rattle.conversation.specs.Seating.{cells_in}
use Rattle.conversation.proofs.Seatings.{one_more_pad}
use Rattle.conversation.proofs.pad_table.open_row.Goals as goal

pub loop-cell-preserved : goal.loop-cell-preserved
loop-cell-preserved g c =
    one_more_pad c.loop-cell.row.items c.push.new.self.items c.new-in-loop-cell-2.result c.loop-cell.cell c.loop-cell.invariant
    c.in_ok-push.ensures.items c.new-in-loop-cell-2.ensures

pub returns-clause-cells : goal.returns-clause-cells
returns-clause-cells g c =
    let all : c.loop-cell.cell ≡ c.args.cells = omega arith in
    subst (λ count. cells_in c.loop-cell.row.items ≡ range_with_len 0 count) all c.loop-cell.invariant
