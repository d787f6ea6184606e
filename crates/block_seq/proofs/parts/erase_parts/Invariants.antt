-- The loop of `erase_parts`: the cells that the parts passed so far hide are marked, and counted.
use Rattle.std.proofs.Common.{◌≡◌, take, map, count_by}
use Rattle.pad_model.specs.Parts.{spans_in}
use Rattle.block_seq.specs.Plain.{erased_at, is_hidden_by}
use Rattle.block_seq.proofs.parts.erase_parts.Given as goal

-- the cells are marked and counted that the parts so far hide
abbrev pub invariant-loop-part : goal.invariant-loop-part
invariant-loop-part l =
    (l.cells ≡ map (erased_at l.rev (spans_in (take l.part-index l.parts))) l.initial.cells)
    × (l.hidden ≡ count_by (is_hidden_by (spans_in (take l.part-index l.parts))) l.initial.cells)
