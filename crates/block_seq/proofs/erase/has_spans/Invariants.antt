-- The loop of `has_spans`: the characters of the spans passed so far are there.
use Rattle.std.proofs.Common.{◌≡◌, drop}
use Rattle.std.specs.List.{list_all}
use Rattle.pad_model.specs.Legal.{has_stamp}
use Rattle.pad_model.specs.Operation.{span_stamps}
use Rattle.block_seq.specs.Plain.{kept_character}
use Rattle.block_seq.proofs.erase.has_spans.Given as goal

-- the spans so far are there
abbrev pub invariant-loop-span : goal.invariant-loop-span
invariant-loop-span l =
    list_all (λ span. list_all (λ s. has_stamp kept_character l.cells s) (span_stamps span)) (drop l.span-index l.spans)
    ≡ list_all (λ span. list_all (λ s. has_stamp kept_character l.cells s) (span_stamps span)) l.spans
