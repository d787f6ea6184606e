-- The numbers and the names of what a standby refuses.
use Rattle.std.specs.Prelude.{ℕ, List, codes}
use Rattle.pad_model.specs.Refusals as pads
use Rattle.standby.specs.declared.taking.StandbyRefusal.{StandbyRefusal}
use Rattle.standby.specs.declared.taking.StandbyRefusal.TheVariants as refusal

-- the number of a refusal; those that pads have too keep theirs
abbrev pub code_of : StandbyRefusal → ℕ
code_of refusal.OtherPast = 340
code_of refusal.IsStandby = 341
code_of (refusal.Pads other) = pads.code_of other

-- the name of a refusal
abbrev pub name_of : StandbyRefusal → List ℕ
name_of refusal.OtherPast = codes "OtherPast"
name_of refusal.IsStandby = codes "IsStandby"
name_of (refusal.Pads other) = pads.name_of other
