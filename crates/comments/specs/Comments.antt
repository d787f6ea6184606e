-- The comments of a pad.
use Rattle.std.specs.Prelude.{◌≡◌, ℕ, ◌≤◌, ◌-◌, Bool, true, false, ◌&&◌, ◌||◌, ◌==◌, nat_lt, nat_le, if◌then◌else◌, min}
use Rattle.std.specs.Prelude.{List, [], ◌∷◌, length, map, filter, find, Option, Some, None}
use Rattle.std.specs.List.{AllByRecursion, insert, list_any, prefix_len}
use Rattle.pad_model.specs.Cell.{Cell, character_of, shown_at}
use Rattle.pad_model.specs.Legal.{has_stamp}
use Rattle.pad_model.specs.Log.{precedes, same_name}
use Rattle.pad_model.specs.Stamp.{Stamp}
use Rattle.pad_model.specs.Visible.{Range, shown_before, shown_through}
use Rattle.pad_model.specs.declared.op.OpName.{OpName}
use Rattle.pad_model.specs.declared.limits.TheConstants.{MAX_COMMENTS}
use Rattle.pad_model.specs.declared.refusal.Refusal.{Refusal}
use Rattle.pad_model.specs.declared.refusal.Refusal.TheVariants.{Memory, CommentsFull}
use Rattle.comments.specs.declared.comment.Comment.{Comment}
use Rattle.comments.specs.declared.show.Shown.{Shown}

-- the names rise
abbrev pub IsByName : List Comment → Type 0
IsByName [] = Unit {0}
IsByName (comment ∷ comments) = AllByRecursion (λ later. precedes comment.name later.name ≡ true)
    comments
    × IsByName comments

-- the names rise, and there are at most as many comments as a pad may have
pub record IsBook (comments : List Comment) : Type 0 where
  pub by_name : IsByName comments
  pub few : length comments ≤ MAX_COMMENTS

-- whether there is a comment with a name
abbrev pub is_comment : OpName → List Comment → Bool
is_comment name comments = list_any (λ c. same_name c.name name) comments

-- the comment with a name, if there is one
abbrev pub comment_of : OpName → List Comment → Option Comment
comment_of name comments = find (λ c. same_name c.name name) comments

-- the number of comments that come before a name
abbrev pub place_of : OpName → List Comment → ℕ
place_of name comments = prefix_len (λ c. precedes c.name name) comments

-- the comments with a new one at its place by name
abbrev pub with_comment : Comment → List Comment → List Comment
with_comment comment comments = insert comments (place_of comment.name comments) comment

-- why a new comment is refused: the pad has as many as it may have, or memory ran out
abbrev pub refusal_of : List Comment → Refusal
refusal_of comments = if length comments == MAX_COMMENTS then CommentsFull else Memory

-- the revision that resolves a comment after one more resolution: the earlier one
abbrev pub earlier : Option ℕ → ℕ → ℕ
earlier None rev = rev
earlier (Some before) rev = min before rev

-- the comment after a resolution at a revision
abbrev pub resolved_at : ℕ → Comment → Comment
resolved_at rev comment = record comment { resolved = Some (earlier comment.resolved rev) }

-- the comments after the one with a name is resolved
abbrev pub with_resolution : OpName → ℕ → List Comment → List Comment
with_resolution name rev comments = map
    (λ c. if same_name c.name name then resolved_at rev c else c) comments

-- the comments that a revision has
abbrev pub born_by : ℕ → List Comment → List Comment
born_by rev comments = filter (λ c. nat_le c.born rev) comments

-- whether a comment with this resolution is resolved at a revision
abbrev pub is_resolved : ℕ → Option ℕ → Bool
is_resolved rev None = false
is_resolved rev (Some resolved) = nat_le resolved rev

-- the number of visible characters before a comment's first character, and from it to the last one, both included
abbrev pub range_in : ℕ → List Cell → Stamp → Stamp → Range
range_in rev cells first last =
    let at = shown_before character_of (shown_at rev) cells first in
    record { at = at; len = shown_through character_of (shown_at rev) cells last - at }

-- whether both stamps are in the sequence, erased or not
abbrev pub has_both : List Cell → Stamp → Stamp → Bool
has_both cells first last = has_stamp character_of cells first && has_stamp character_of cells last

-- the range between two stamps, if both are there
abbrev pub range_between : ℕ → List Cell → Stamp → Stamp → Option Range
range_between rev cells first last = if has_both cells first last
    then Some (range_in rev cells first last) else None

-- the range of a comment, if there is one and its stamps are there
abbrev pub range_of : ℕ → List Cell → Option Comment → Option Range
range_of rev cells None = None
range_of rev cells (Some comment) = range_between rev cells comment.first comment.last

-- a comment as a revision shows it
abbrev pub shown : ℕ → List Cell → Comment → Shown
shown rev cells comment =
    let range = range_in rev cells comment.first comment.last in
    record {
      name = comment.name;
      author = comment.author;
      text = comment.text;
      at = range.at;
      len = range.len;
      resolved = is_resolved rev comment.resolved;
    }

-- the comments of a revision, by name
abbrev pub comments_at : ℕ → List Cell → List Comment → List Shown
comments_at rev cells comments = map (shown rev cells) (born_by rev comments)

-- the stamps of each comment are in the sequence
abbrev pub AreHeld : List Cell → List Comment → Type 0
AreHeld cells comments = AllByRecursion (λ c. has_both cells c.first c.last ≡ true) comments
