-- What an author's edits make of a log. Places are those of the revision that is named; the operation is made now.
use Rattle.std.specs.Prelude.{ℕ, zero, suc, ◌+◌, Bool, ◌||◌, ◌==◌, nat_lt, nat_le, if◌then◌else◌, List, [], ◌∷◌, ◌++◌, length, sum_by, Option, Some, None, Result, Ok, Err}
use Rattle.std.specs.List.{list_any}
use Rattle.pad_model.specs.Stamp.{Stamp}
use Rattle.pad_model.specs.History.{clock_of_characters}
use Rattle.pad_model.specs.Operation.{Characters, characters_in, erased_by}
use Rattle.pad_model.specs.Visible.{visible, stamp_at, spans_of, hidden_by}
use Rattle.pad_model.specs.declared.op.Op.{Op}
use Rattle.pad_model.specs.declared.op.Part.{Part}
use Rattle.pad_model.specs.declared.op.Part.TheVariants as part
use Rattle.pad_model.specs.declared.refusal.Refusal.{Refusal}
use Rattle.pad_model.specs.declared.refusal.Refusal.TheVariants.{NoRevision, OutOfRange, Empty, TooMuch, PadFull}
use Rattle.pad_model.specs.declared.refusal.Refusal.TheVariants.{ClockFull, LogFull}
use Rattle.pad_model.specs.declared.limits.TheConstants.{MAX_TEXT, MAX_PARTS, MAX_CHARACTERS, MAX_COUNTER}
use Rattle.pad_model.specs.declared.limits.TheConstants.{MAX_OPERATIONS}
use Rattle.pad_core.specs.Counts.{characters_at, next_name, op_of}
use Rattle.pad_core.specs.declared.act.Change.{Change}
use Rattle.pad_core.specs.declared.act.Change.TheVariants.{Insert, Delete}
use Rattle.pad_core.specs.declared.edit.Edited.{Edited}
use Rattle.pad_core.specs.declared.reply.PadReply.{PadReply}
use Rattle.pad_core.specs.declared.reply.PadReply.TheVariants as reply

-- whether a change lies outside a text of this length
abbrev pub is_outside : ℕ → Change → Bool
is_outside shown (Insert at text) = nat_lt shown at
is_outside shown (Delete at len) = nat_lt shown (at + len)

-- how many characters a change inserts or erases
abbrev pub size_of : Change → ℕ
size_of (Insert at text) = length text
size_of (Delete at len) = len

-- how many characters a change inserts
abbrev pub growth_of : Change → ℕ
growth_of (Insert at text) = length text
growth_of (Delete at len) = 0

-- whether a change does nothing
abbrev pub is_blank : Change → Bool
is_blank change = size_of change == 0

-- the limit of a pad that one more operation with this many more characters would exceed, if any
abbrev pub growth_refusal : ℕ → List Op → Option Refusal
growth_refusal growth log =
    let inserted = (characters_in log).inserted in
    if nat_lt MAX_CHARACTERS (length inserted + growth) then Some PadFull
    else if nat_lt MAX_COUNTER (clock_of_characters inserted + growth) then Some ClockFull
    else if nat_le MAX_OPERATIONS (length log) then Some LogFull
    else None

-- why changes of a revision are refused, if they are: each check runs over all of them before the next
abbrev pub edit_refusal : ℕ → List Change → List Op → Option Refusal
edit_refusal rev changes log =
    if nat_lt (length log) rev then Some NoRevision
    else if list_any (is_outside (length (visible (characters_at rev log)))) changes
    then Some OutOfRange
    else if length changes == 0 || list_any is_blank changes then Some Empty
    else if nat_lt MAX_PARTS (length changes) || nat_lt MAX_TEXT (sum_by size_of changes)
    then Some TooMuch
    else growth_refusal (sum_by growth_of changes) log

-- the character before a place, or the start
abbrev pub before_place : Characters → ℕ → Option Stamp
before_place set zero = None
before_place set (suc i) = stamp_at set i

-- the part that a change of a revision makes: what it inserts is counted up from this counter on
abbrev pub part_from : ℕ → ℕ → Characters → Change → Part
part_from counter own set (Insert at text) = part.Insert
    (record {
      first = record { counter = counter; replica = own };
      after = before_place set at;
      text = text;
    })
part_from counter own set (Delete at len) = part.Delete (spans_of set at len)

-- the parts of several changes, each counted on from the one before it
abbrev pub parts_from : ℕ → ℕ → Characters → List Change → List Part
parts_from counter own set [] = []
parts_from counter own set (change ∷ changes) = part_from counter own set change
    ∷ parts_from (counter + growth_of change) own set changes

-- the parts that several changes make on a log, newer than all its characters
abbrev pub made_parts : ℕ → ℕ → List Change → List Op → List Part
made_parts own rev changes log = parts_from (clock_of_characters (characters_in log).inserted + 1)
    own (characters_at rev log) changes

-- the next operation of an author is made and delivered: its name, and how many visible characters it hides
abbrev pub appended : ℕ → List ℕ → List Part → List Op → Result Edited Refusal × List Op
appended own author parts log =
    let op = op_of own author parts log in (
      Ok (record {
        name = next_name own log;
        hidden = hidden_by (erased_by op) (characters_in log);
      }),
      log ++ op ∷ [],
    )

-- one operation of all changes, or none; with its name, and how many visible characters it hides
abbrev pub edited : ℕ → List ℕ → ℕ → List Change → List Op → Result Edited Refusal × List Op
edited own author rev changes log = unless_refused (edit_refusal rev changes log)
  where
    unless_refused : Option Refusal → Result Edited Refusal × List Op
    unless_refused (Some refusal) = (Err refusal, log)
    unless_refused None = appended own author (made_parts own rev changes log) log

-- the reply that reports how many characters an edit hides
abbrev pub told_hidden : Result Edited Refusal × List Op → Result PadReply Refusal × List Op
told_hidden (Ok edit, log) = (Ok (reply.Changed (length log) edit.name edit.hidden), log)
told_hidden (Err refusal, log) = (Err refusal, log)

-- the reply that reports an edit's name alone
abbrev pub told_name : Result Edited Refusal × List Op → Result PadReply Refusal × List Op
told_name (Ok edit, log) = (Ok (reply.Made (length log) edit.name), log)
told_name (Err refusal, log) = (Err refusal, log)

-- an insertion is an edit of one change
abbrev pub insert : ℕ → List ℕ → ℕ → ℕ → List ℕ → List Op → Result PadReply Refusal × List Op
insert own author rev at text log = told_name (edited own author rev (Insert at text ∷ []) log)

-- a deletion is an edit of one change
abbrev pub delete : ℕ → List ℕ → ℕ → ℕ → ℕ → List Op → Result PadReply Refusal × List Op
delete own author rev at len log = told_hidden (edited own author rev (Delete at len ∷ []) log)

-- several changes of a revision
abbrev pub edit : ℕ → List ℕ → ℕ → List Change → List Op → Result PadReply Refusal × List Op
edit own author rev changes log = told_hidden (edited own author rev changes log)
