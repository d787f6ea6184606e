-- The loop of `each_fits`: the parts passed so far fit, so whether all do depends on the others.
use Rattle.std.proofs.Common.{◌≡◌, drop}
use Rattle.std.specs.List.{list_all}
use Rattle.pad_model.specs.Parts.{part_fits}
use Rattle.block_seq.specs.Plain.{kept_character}
use Rattle.block_seq.proofs.parts.each_fits.Given as goal

-- the parts so far fit
abbrev pub invariant-loop-part : goal.invariant-loop-part
invariant-loop-part l = list_all (part_fits kept_character l.cells) (drop l.part-index l.parts)
    ≡ list_all (part_fits kept_character l.cells) l.parts
