-- The loop of `count_through`: the characters counted and those left to count up to the stamp are all.
use Rattle.std.proofs.Common.{◌≡◌, ◌+◌, ◌≤◌, drop}
use Rattle.pad_model.specs.Visible.{shown_through}
use Rattle.block_seq.specs.Plain.{kept_character, is_shown}
use Rattle.block_seq.proofs.measure.count_through.Given as goal

-- what is counted, and what is left to count
abbrev pub invariant-loop-cell : goal.invariant-loop-cell
invariant-loop-cell l = record {
  counted : l.count + shown_through kept_character (is_shown l.rev) (drop l.cell-index l.cells) l.stamp
      ≡ shown_through kept_character (is_shown l.rev) l.cells l.stamp;
  small : l.count ≤ l.cell-index;
}
