-- The loop of `read_spans`: the spans are those of the stamps so far, and these with what is left are the window.
use Rattle.std.proofs.Common.{◌≡◌, ◌+◌, ◌≤◌, ◌++◌, List, take, drop, flat_map, sum_by}
use Rattle.pad_model.specs.Stamp.{Stamp}
use Rattle.pad_model.specs.Visible.{spans}
use Rattle.pad_model.specs.declared.limits.TheConstants.{MAX_CHARACTERS}
use Rattle.block_seq.specs.Rows.{shown_len}
use Rattle.block_seq.specs.RowLists.{shown_stamps}
use Rattle.block_seq.proofs.row_past.read_spans.Given as goal

-- the spans are those of the stamps so far, and these and what is left of the window are the window
abbrev pub invariant-loop-rank : goal.invariant-loop-rank
invariant-loop-rank l = record {
  done : List Stamp;
  spans : l.spans.items ≡ spans done;
  all : done ++ take l.left (drop l.skip (flat_map (shown_stamps l.rev) (drop l.rank l.row.tree.now.items)))
      ≡ take l.len (drop l.at (flat_map (shown_stamps l.rev) l.row.tree.now.items));
  small : sum_by (λ s. s.len) l.spans.items + sum_by (shown_len l.rev) (drop l.rank l.row.tree.now.items)
      ≤ MAX_CHARACTERS;
}
