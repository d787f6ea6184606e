use Rattle.std.proofs.Common.{rules, ltb}
use Rattle.std.proofs.lemmas.List.Sorted.{IsPartitionPoint-from_clause}
use Rattle.op_log.proofs.Ranges.{Rises, places_rise, partitioned_below, count_below}
use Rattle.op_log.proofs.index.count_before.Goals as goal

pub returns : goal.returns
returns c test ops is =
    let places = c.args.places.now in
    let end = c.args.end in
    let facts = c.partition_point.ensures in
    let rises : Rises places = rw is (places_rise test 0 ops) in
    let parts = IsPartitionPoint-from_clause (λ q. ltb q end) places c.partition_point.result facts.partitioned
    (partitioned_below places end rises) (λ a r f' called. search rules) in
    count_below test end c.partition_point.result ops places is facts.bound parts.0 parts.1
