-- The loop of `list_spans`: the spans of the parts passed so far are listed.
use Rattle.std.proofs.Common.{◌≡◌, take}
use Rattle.pad_model.specs.Parts.{spans_in}
use Rattle.block_seq.proofs.row_parts.list_spans.Given as goal

-- the spans of the parts so far
abbrev pub invariant-loop-part : goal.invariant-loop-part
invariant-loop-part l = l.all.items ≡ spans_in (take l.part-index l.parts)
