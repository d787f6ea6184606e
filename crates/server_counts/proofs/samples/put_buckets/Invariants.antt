-- The loop of `put_buckets`: the samples of the buckets so far are behind what was there before.
use Rattle.std.proofs.Common.{◌≡◌, ◌++◌, take, flat_map, string_bytes}
use Rattle.server_counts.specs.Samples.{bucket_text}
use Rattle.server_counts.proofs.samples.put_buckets.Given as goal

abbrev pub invariant-loop-bucket : goal.invariant-loop-bucket
invariant-loop-bucket l = string_bytes l.text ≡ string_bytes l.initial.text
    ++ flat_map (bucket_text l.name) (take l.bucket-index l.buckets)
