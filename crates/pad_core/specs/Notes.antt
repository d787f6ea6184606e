-- What an author's comments and resolutions make of a log.
use Rattle.std.specs.Prelude.{ℕ, ◌+◌, ◌-◌, Bool, ◌==◌, ◌||◌, not, ◌&&◌, nat_lt, nat_le, if◌then◌else◌, List, [], ◌∷◌}
use Rattle.std.specs.Prelude.{◌++◌, length, count_by, Option, Some, None, Result, Ok, Err}
use Rattle.std.specs.List.{list_any}
use Rattle.pad_model.specs.Stamp.{Stamp}
use Rattle.pad_model.specs.Log.{is_comment, same_name}
use Rattle.pad_model.specs.Operation.{Characters}
use Rattle.pad_model.specs.Visible.{visible, stamp_at}
use Rattle.pad_model.specs.declared.op.Op.{Op}
use Rattle.pad_model.specs.declared.op.OpName.{OpName}
use Rattle.pad_model.specs.declared.op.Part.{Part}
use Rattle.pad_model.specs.declared.op.Part.TheVariants.{Comment, Resolve}
use Rattle.pad_model.specs.declared.refusal.Refusal.{Refusal}
use Rattle.pad_model.specs.declared.refusal.Refusal.TheVariants.{NoRevision, OutOfRange, Empty, TooMuch, NoComment}
use Rattle.pad_model.specs.declared.refusal.Refusal.TheVariants.{LogFull, CommentsFull}
use Rattle.pad_model.specs.declared.limits.TheConstants.{MAX_COMMENT, MAX_COMMENTS, MAX_OPERATIONS}
use Rattle.pad_core.specs.Counts.{characters_at, next_name, op_of}
use Rattle.pad_core.specs.declared.reply.PadReply.{PadReply}
use Rattle.pad_core.specs.declared.reply.PadReply.TheVariants.{Made}

-- one operation of one part, unless it is refused
abbrev pub noted : Option Refusal → ℕ → List ℕ → List Part → List Op
    → Result PadReply Refusal × List Op
noted (Some refusal) own author parts log = (Err refusal, log)
noted None own author parts log = (
  Ok (Made (length log + 1) (next_name own log)),
  log ++ op_of own author parts log
      ∷ [],
)

-- why a comment is refused, if it is
abbrev pub comment_refusal : ℕ → ℕ → ℕ → List ℕ → List Op → Option Refusal
comment_refusal rev at len text log =
    if nat_lt (length log) rev then Some NoRevision
    else if nat_lt (length (visible (characters_at rev log))) (at + len) then Some OutOfRange
    else if len == 0 || length text == 0 then Some Empty
    else if nat_lt MAX_COMMENT (length text) then Some TooMuch
    else if nat_le MAX_OPERATIONS (length log) then Some LogFull
    else if nat_le MAX_COMMENTS (count_by is_comment log) then Some CommentsFull
    else None

-- a comment from one character to another; none where one is missing, which is refused before
abbrev pub comment_between : Option Stamp → Option Stamp → List ℕ → List Part
comment_between (Some first) (Some last) text = Comment first last text ∷ []
comment_between (Some first) None text = []
comment_between None last text = []

-- the part of a comment: from the first character that the revision shows there to the last
abbrev pub comment_parts : Characters → ℕ → ℕ → List ℕ → List Part
comment_parts set at len text = comment_between (stamp_at set at) (stamp_at set (at + len - 1)) text

-- a comment on what a revision shows at a place
abbrev pub comment : ℕ → List ℕ → ℕ → ℕ → ℕ → List ℕ → List Op → Result PadReply Refusal × List Op
comment own author rev at len text log = noted (comment_refusal rev at len text log) own author
    (comment_parts (characters_at rev log) at len text) log

-- whether a log has the comment of a name
abbrev pub has_comment : OpName → List Op → Bool
has_comment name log = list_any (λ op. is_comment op && same_name op.name name) log

-- why a resolution is refused, if it is
abbrev pub resolve_refusal : OpName → List Op → Option Refusal
resolve_refusal name log =
    if not (has_comment name log) then Some NoComment
    else if nat_le MAX_OPERATIONS (length log) then Some LogFull
    else None

-- a resolution of a comment
abbrev pub resolve : ℕ → List ℕ → OpName → List Op → Result PadReply Refusal × List Op
resolve own author name log = noted (resolve_refusal name log) own author (Resolve name ∷ []) log
