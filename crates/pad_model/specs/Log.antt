-- When a log may take one more operation.
use Rattle.std.specs.Prelude.{◌+◌, Bool, true, false, not, ◌&&◌, ◌||◌, ◌==◌, nat_lt, nat_le, if◌then◌else◌, List, []}
use Rattle.std.specs.Prelude.{◌∷◌, length, Option, Some, None, flat_map, count_by}
use Rattle.std.specs.List.{list_any, list_all}
use Rattle.pad_model.specs.Stamp.{Stamp, same_stamp}
use Rattle.pad_model.specs.Character.{Character}
use Rattle.pad_model.specs.Laws.{itself}
use Rattle.pad_model.specs.Legal.{has_stamp, has_parent, counter_of}
use Rattle.pad_model.specs.Operation.{span_stamps, inserted_by, characters_in}
use Rattle.pad_model.specs.Order.{order}
use Rattle.pad_model.specs.declared.op.Span.{Span}
use Rattle.pad_model.specs.declared.op.OpName.{OpName}
use Rattle.pad_model.specs.declared.op.Part.{Part}
use Rattle.pad_model.specs.declared.op.Part.TheVariants.{Insert, Delete, Comment, Resolve}
use Rattle.pad_model.specs.declared.op.Op.{Op}
use Rattle.pad_model.specs.declared.refusal.Refusal.{Refusal}
use Rattle.pad_model.specs.declared.refusal.Refusal.TheVariants.{PadFull, LogFull, CommentsFull}
use Rattle.pad_model.specs.declared.limits.TheConstants.{MAX_CHARACTERS, MAX_OPERATIONS, MAX_COMMENTS}

-- whether a run may join the items: its parent is there, and its counter is above those of its parent and of each item
-- of its replica
abbrev pub run_may_join : {A : Type 0} → (A → Character) → List A → Stamp → Option Stamp → Bool
run_may_join at items first parent =
    has_parent at items parent && nat_lt (counter_of parent) first.counter
    && list_all (λ x. not ((at x).stamp.replica == first.replica)
    || nat_lt (at x).stamp.counter first.counter) items

-- whether all stamps of the spans are there
abbrev pub has_spans : {A : Type 0} → (A → Character) → List A → List Span → Bool
has_spans at items spans = list_all (λ s. has_stamp at items s) (flat_map span_stamps spans)

-- whether a and b are there, and a is b or comes before it
abbrev pub stands_before : {A : Type 0} → (A → Character) → List A → Stamp → Stamp → Bool
stands_before at [] a b = false
stands_before at (x ∷ xs) a b = if same_stamp (at x).stamp a
    then same_stamp a b || has_stamp at xs b
    else stands_before at xs a b

-- whether two operations have the same name
abbrev pub same_name : OpName → OpName → Bool
same_name a b = a.origin == b.origin && a.number == b.number

-- whether a name comes before another: its origin is smaller, or the origins are equal and its number is smaller
abbrev pub precedes : OpName → OpName → Bool
precedes a b = nat_lt a.origin b.origin || (a.origin == b.origin && nat_lt a.number b.number)

-- whether a part is a comment
abbrev pub is_comment_part : Part → Bool
is_comment_part (Insert run) = false
is_comment_part (Delete spans) = false
is_comment_part (Comment first last text) = true
is_comment_part (Resolve comment) = false

-- whether an operation makes a comment
abbrev pub is_comment : Op → Bool
is_comment op = list_any is_comment_part op.parts

-- whether a part fits the log before its operation
abbrev pub part_is_valid : Part → List Op → Bool
part_is_valid (Insert run) log = run_may_join itself (characters_in log).inserted run.first
    run.after
part_is_valid (Delete spans) log = has_spans itself (characters_in log).inserted spans
part_is_valid (Comment first last text) log = stands_before itself
    (order itself (characters_in log).inserted) first
    last
part_is_valid (Resolve comment) log = list_any (λ op. is_comment op && same_name op.name comment)
    log

-- whether no two characters have the same stamp
abbrev pub all_differ : List Character → Bool
all_differ [] = true
all_differ (c ∷ cs) = not (has_stamp itself cs c.stamp) && all_differ cs

-- whether an operation may follow a log: each part fits the log before it, and no stamp is inserted twice
abbrev pub is_valid : Op → List Op → Bool
is_valid op log = list_all (λ part. part_is_valid part log) op.parts && all_differ (inserted_by op)

-- the limit of a pad that one more operation would exceed, if any
abbrev pub limit_passed : Op → List Op → Option Refusal
limit_passed op log =
    if nat_lt MAX_CHARACTERS (length (characters_in log).inserted + length (inserted_by op))
    then Some PadFull
    else if nat_le MAX_OPERATIONS (length log) then Some LogFull
    else if is_comment op && nat_le MAX_COMMENTS (count_by is_comment log) then Some CommentsFull
    else None
