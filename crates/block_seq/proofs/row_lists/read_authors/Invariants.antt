-- The loop of `read_authors`: the runs are those of the authors so far, and these with those to come are all.
use Rattle.std.proofs.Common.{◌≡◌, ◌+◌, ◌≤◌, ◌++◌, List, flat_map, sum_by, length}
use Rattle.std.specs.List.{AllByRecursion}
use Rattle.pad_model.specs.Visible.{runs}
use Rattle.pad_model.specs.declared.limits.TheConstants.{MAX_CHARACTERS}
use Rattle.pad_model.specs.declared.who.Author.{Author}
use Rattle.blocks.specs.Blocks.{IsSized}
use Rattle.blocks.specs.Cells.{IsWithin}
use Rattle.block_seq.specs.Rows.{shown_len}
use Rattle.block_seq.specs.RowLists.{shown_by}
use Rattle.block_seq.proofs.row_lists.read_authors.Given as goal

-- the runs are those of the authors so far, and these and those to come are all
abbrev pub invariant-loop-block : goal.invariant-loop-block
invariant-loop-block l = record {
  done : List Author;
  runs : l.runs.items ≡ runs done;
  all : done ++ flat_map (shown_by l.rev l.authors) l.block-iterator ≡ flat_map (shown_by l.rev l.authors) l.tree.items;
  within : AllByRecursion (IsWithin (length l.authors) l.text_len) l.block-iterator;
  sized : AllByRecursion IsSized l.block-iterator;
  small : sum_by (λ r. r.len) l.runs.items + sum_by (shown_len l.rev) l.block-iterator ≤ MAX_CHARACTERS;
}
