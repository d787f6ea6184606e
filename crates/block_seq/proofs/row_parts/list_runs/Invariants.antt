-- The loop of `list_runs`: the runs of the parts passed so far are listed.
use Rattle.std.proofs.Common.{◌≡◌, take, map}
use Rattle.pad_model.specs.Parts.{runs_in}
use Rattle.block_seq.proofs.row_parts.list_runs.Given as goal

-- the runs of the parts so far
abbrev pub invariant-loop-part : goal.invariant-loop-part
invariant-loop-part l = map (λ run. run.now) l.all.items ≡ runs_in (take l.part-index l.parts)
