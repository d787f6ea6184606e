-- The loop of `count_before`: the characters counted and those left to count before the stamp are all.
use Rattle.std.proofs.Common.{◌≡◌, ◌+◌, ◌≤◌, drop}
use Rattle.pad_model.specs.Visible.{shown_before}
use Rattle.block_seq.specs.Plain.{kept_character, is_shown}
use Rattle.block_seq.proofs.measure.count_before.Given as goal

-- what is counted, and what is left to count
abbrev pub invariant-loop-cell : goal.invariant-loop-cell
invariant-loop-cell l = record {
  counted : l.count + shown_before kept_character (is_shown l.rev) (drop l.cell-index l.cells) l.stamp
      ≡ shown_before kept_character (is_shown l.rev) l.cells l.stamp;
  small : l.count ≤ l.cell-index;
}
