-- The loop of `put_code_samples`: the samples of the numbers so far are behind what was there before.
use Rattle.std.proofs.Common.{◌≡◌, ◌++◌, take, flat_map, string_bytes}
use Rattle.server_counts.specs.Samples.{code_text}
use Rattle.server_counts.proofs.samples.put_code_samples.Given as goal

abbrev pub invariant-loop-counted : goal.invariant-loop-counted
invariant-loop-counted l = string_bytes l.text ≡ string_bytes l.initial.text
    ++ flat_map (code_text l.name) (take l.counted-index l.counts)
