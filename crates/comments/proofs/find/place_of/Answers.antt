use Rattle.std.proofs.Common.{rules}
use Rattle.std.proofs.lemmas.List.Sorted.{IsPartitionPoint-from_clause}
use Rattle.pad_model.specs.Log.{precedes}
use Rattle.comments.proofs.Sorted.{prefix-parted, parted_by_name}
use Rattle.comments.proofs.find.place_of.Goals as goal

pub returns : goal.returns
returns c =
    prefix-parted (λ comment. precedes comment.name c.args.name) c.args.comments.now c.partition_point.result
    c.partition_point.ensures.bound
    (IsPartitionPoint-from_clause (λ comment. precedes comment.name c.args.name) c.args.comments.now
    c.partition_point.result c.partition_point.ensures.partitioned
    (parted_by_name c.args.comments.now c.args.name c.requires) (λ a r f called. search rules))
