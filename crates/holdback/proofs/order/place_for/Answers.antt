use Rattle.std.proofs.Common.{rules}
use Rattle.std.proofs.lemmas.List.Sorted.{IsPartitionPoint-from_clause}
use Rattle.pad_model.specs.Log.{precedes}
use Rattle.holdback.proofs.Places.{partitioned}
use Rattle.holdback.proofs.order.place_for.Goals as goal

-- the closure says whether a name comes before this one
pub returns : goal.returns
returns c =
    let facts = c.partition_point.ensures in
    let sides = IsPartitionPoint-from_clause (λ op. precedes op.name c.args.name) c.args.held.now
    c.partition_point.result facts.partitioned (partitioned c.args.held.now c.args.name c.requires)
    (λ a r f' called. search rules) in
    record { in_range = facts.bound; before = sides.0; behind = sides.1 }
