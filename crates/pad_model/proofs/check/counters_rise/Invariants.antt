-- The loop of `counters_rise`: the counters rise in all parts just when they do in those that are left.
use Rattle.std.proofs.Common.{◌≡◌, drop}
use Rattle.pad_model.specs.Checked.{counters_rise}
use Rattle.pad_model.proofs.check.counters_rise.Given as goal

-- the parts that are left, from the floor on, rise as all parts do
abbrev pub invariant-loop-part : goal.invariant-loop-part
invariant-loop-part l = counters_rise l.floor (drop l.part-index l.parts) ≡ counters_rise 0 l.parts
