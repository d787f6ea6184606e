use Rattle.std.proofs.Common.{◌+◌, arith, inl, inr}
use Rattle.std.proofs.lemmas.Bool.{cases_lt}
use Rattle.pad_model.specs.declared.limits.TheConstants.{MAX_COUNTER}
use Rattle.ident_index.specs.Index.{stamp_behind}
use Rattle.blocks.proofs.Cells.{same_then}
use Rattle.block_seq.proofs.RowErase.{edge_past}
use Rattle.block_seq.proofs.row_erase.cut_span.Goals as goal

pub returns-in-Ok-clause-cells : goal.returns-in-Ok-clause-cells
returns-in-Ok-clause-cells c = same_then c.args.tree.now.items c.cut_at.new.tree.items c.cut_at-in-Ok.new.tree.items
    c.in_ok-cut_at.ensures.cells c.cut_at-in-Ok.ensures.cells

pub returns-in-Err-clause-cut : goal.returns-in-Err-clause-cut
returns-in-Err-clause-cut c = (
  c.in_ok-cut_at.ensures.edge,
  edge_past c.cut_at.new.index c.cut_at.new.tree.items (stamp_behind c.args.span.now.first c.args.span.now.len)
      c.in_ok-cut_at.ensures.kept.listed
      (elim (cases_lt MAX_COUNTER (c.args.span.now.first.counter + c.args.span.now.len)) [
        | inl past ↦ past
        | inr by ↦
            let limits = c.counter.ensures.limits in
            absurd (c.in-Err.ensures.value.1 (
              omega (arith, c.counter.ensures.value),
              omega (arith, c.counter.ensures.value),
              omega (arith, c.replica.ensures.value, limits),
              omega (arith, c.replica.ensures.value, limits),
            ))
      ]),
)
