-- What a log answers to its readers.
use Rattle.std.specs.Prelude.{ℕ, zero, suc, ◌+◌, ◌-◌, ◌==◌, ◌||◌, Bool, not, nat_lt, if◌then◌else◌, List, [], ◌∷◌, length, map, slice_get, take}
use Rattle.std.specs.Prelude.{count_by, drop, Option, Some, None, unwrap_or, Result, Ok, Err}
use Rattle.std.specs.List.{list_all}
use Rattle.pad_model.specs.Cell.{Cell, cells_at}
use Rattle.pad_model.specs.Checked.{is_edit}
use Rattle.pad_model.specs.History.{cells_of}
use Rattle.pad_model.specs.Operation.{author_of, characters_in}
use Rattle.pad_model.specs.Pieces.{changes}
use Rattle.pad_model.specs.Visible.{visible, text_of, runs_of}
use Rattle.pad_model.specs.declared.op.Op.{Op}
use Rattle.pad_model.specs.declared.op.Part.{Part}
use Rattle.pad_model.specs.declared.op.Part.TheVariants as part
use Rattle.pad_model.specs.declared.refusal.Refusal.{Refusal}
use Rattle.pad_model.specs.declared.refusal.Refusal.TheVariants.{NoRevision, OutOfRange, Empty, TooMuch}
use Rattle.op_log.specs.Log.{entries}
use Rattle.op_log.specs.Times.{count_until}
use Rattle.pad_core.specs.Comments.{comments_of}
use Rattle.pad_core.specs.Counts.{characters_at}
use Rattle.pad_core.specs.declared.reads.TheConstants.{MAX_ENTRIES, MAX_MOMENTS, MAX_TIMES, MAX_WAIT}
use Rattle.pad_core.specs.declared.reply.LogEntry.{LogEntry}
use Rattle.pad_core.specs.declared.reply.Kind.{Kind}
use Rattle.pad_core.specs.declared.reply.Kind.TheVariants as kind
use Rattle.pad_core.specs.declared.reply.PadReply.{PadReply}
use Rattle.pad_core.specs.declared.reply.PadReply.TheVariants.{Text, Runs, Comments, Changes, Revs, Entries, Times, RevsAt, Birth}

-- the revision that is asked for, or the present one
abbrev pub revision_of : Option ℕ → List Op → ℕ
revision_of None log = length log
revision_of (Some rev) log = rev

-- an answer that a log gives if it has the revision
abbrev pub at_revision : ℕ → List Op → PadReply → Result PadReply Refusal
at_revision rev log reply = if nat_lt (length log) rev then Err NoRevision else Ok reply

-- the text of a revision
abbrev pub read_text : Option ℕ → List Op → Result PadReply Refusal
read_text asked log = let rev = revision_of asked log in
    at_revision rev log (Text (length log) rev (text_of (characters_at rev log)))

-- who wrote the text of a revision
abbrev pub read_runs : Option ℕ → List Op → Result PadReply Refusal
read_runs asked log = let rev = revision_of asked log in
    at_revision rev log (Runs (length log) rev (runs_of (characters_at rev log)))

-- the comments of a revision
abbrev pub read_comments : Option ℕ → List Op → Result PadReply Refusal
read_comments asked log = let rev = revision_of asked log in
    at_revision rev log (Comments (length log) rev (comments_of (take rev log)))

-- whether an operation comments or resolves
abbrev pub is_note : Op → Bool
is_note op = not (list_all is_edit op.parts)

-- how many operations after one revision and up to another comment or resolve
abbrev pub notes_between : ℕ → ℕ → List Op → ℕ
notes_between rev to log = count_by is_note (take (to - rev) (drop rev log))

-- the changes that lead from the text of one revision to that of another, and how many notes there are between
abbrev pub read_changes : ℕ → Option ℕ → ℕ → List Op → Result PadReply Refusal
read_changes rev asked wait log = let to = revision_of asked log in
    if nat_lt (length log) to || nat_lt to rev then Err NoRevision
    else if nat_lt MAX_WAIT wait then Err TooMuch
    else Ok (Changes (length log) rev to (changes rev to (cells_of log)) (notes_between rev to log))

-- the length of the pad, with and without erased characters
abbrev pub read_revs : List Op → Result PadReply Refusal
read_revs log = Ok (Revs (length log) (length (characters_in log).inserted)
    (length (visible (characters_in log))))

-- what parts do, in a word
abbrev pub kind_of : List Part → Kind
kind_of [] = kind.Edit
kind_of (part.Insert run ∷ []) = kind.Insert
kind_of (part.Delete spans ∷ []) = kind.Delete
kind_of (part.Comment first last text ∷ []) = kind.Comment
kind_of (part.Resolve comment ∷ []) = kind.Resolve
kind_of (one ∷ another ∷ parts) = kind.Edit

-- when a revision was made
abbrev pub time_of : ℕ → List ℕ → Option ℕ
time_of rev times = slice_get times (rev - 1)

-- who wrote a character, in which revision, and when
abbrev pub told_birth : ℕ → List ℕ → Option Cell → Result PadReply Refusal
told_birth now times None = Err OutOfRange
told_birth now times (Some cell) = Ok (Birth now cell.author cell.born (unwrap_or (time_of cell.born times) 0))

-- who wrote the character that a revision shows at a place, in which revision, and when
abbrev pub read_birth : ℕ → ℕ → List Op → List ℕ → Result PadReply Refusal
read_birth rev at log times =
    if nat_lt (length log) rev then Err NoRevision
    else told_birth (length log) times (slice_get (cells_at rev (cells_of log)) at)

-- the operation that made a revision, as it is listed, with its time if it is told
abbrev pub entry_of : ℕ → Op → Option ℕ → LogEntry
entry_of rev op at = record {
  rev = rev;
  name = op.name;
  author = author_of op;
  kind = kind_of op.parts;
  at = at;
}

-- operations with their revisions, the first of which is this one, and with their times if these are told
abbrev pub entries_from : Bool → List ℕ → ℕ → List Op → List LogEntry
entries_from timed times rev [] = []
entries_from timed times rev (op ∷ ops) =
    entry_of rev op (if timed then time_of rev times else None) ∷ entries_from timed times (suc rev) ops

-- numbers from one on, each so far behind the one before it
abbrev pub places_from : ℕ → ℕ → ℕ → List ℕ
places_from from step zero = []
places_from from step (suc count) = from ∷ places_from (from + step) step count

-- a time before others, if there is one
abbrev pub with_time : Option ℕ → List ℕ → List ℕ
with_time None times = times
with_time (Some time) times = time ∷ times

-- the times at some places, as far as there are any
abbrev pub times_at : List ℕ → List ℕ → List ℕ
times_at times [] = []
times_at times (place ∷ places) = with_time (slice_get times place) (times_at times places)

-- when some revisions were made: one, and others each a step further on, as far as there are any
abbrev pub read_times : ℕ → ℕ → ℕ → List Op → List ℕ → Result PadReply Refusal
read_times from step count log times =
    if from == 0 || nat_lt (length log + 1) from then Err NoRevision
    else if count == 0 || step == 0 then Err Empty
    else if nat_lt MAX_TIMES count then Err TooMuch
    else Ok (Times (length log) (times_at times (places_from (from - 1) step count)))

-- the last revisions that are not later than some moments
abbrev pub read_revs_at : List ℕ → List Op → List ℕ → Result PadReply Refusal
read_revs_at moments log times =
    if length moments == 0 then Err Empty
    else if nat_lt MAX_MOMENTS (length moments) then Err TooMuch
    else Ok (RevsAt (length log) (map (λ moment. count_until moment times) moments))

-- what made some revisions, as far as there are any
abbrev pub read_entries : ℕ → ℕ → Bool → List Op → List ℕ → Result PadReply Refusal
read_entries from count timed log times =
    if from == 0 || nat_lt (length log + 1) from then Err NoRevision
    else if count == 0 then Err Empty
    else if nat_lt MAX_ENTRIES count then Err TooMuch
    else Ok (Entries (length log) (entries_from timed times from (entries log from count)))
