-- What the laws of the pad machine say.
use Rattle.std.specs.Prelude.{◌≡◌, ◌≢◌, ◌↔◌, List, [], ◌∷◌, ◌++◌, Contains, Option, Some, None, Result, Ok}
use Rattle.pad_model.specs.Operation.{characters_in}
use Rattle.pad_model.specs.Visible.{text_of, runs_of}
use Rattle.pad_model.specs.declared.op.Op.{Op}
use Rattle.pad_model.specs.declared.refusal.Refusal.{Refusal}
use Rattle.pad_core.specs.Comments.{comments_of}
use Rattle.pad_core.specs.Delivered.{IsDelivered}
use Rattle.pad_core.specs.Reads.{read_comments, read_runs, read_text}
use Rattle.pad_core.specs.declared.act.Act.{Act}
use Rattle.pad_core.specs.declared.act.Act.TheVariants as act
use Rattle.pad_core.specs.declared.event.PadEvent.{PadEvent}
use Rattle.pad_core.specs.declared.reply.PadReply.{PadReply}
use Rattle.pad_core.specs.declared.reply.PadReply.TheVariants.{Elsewhere}

-- two logs have the same operations, in whatever order
abbrev pub HaveSame : List Op → List Op → Type 0
HaveSame log other = (op : Op) → Contains log op ↔ Contains other op

-- two logs show the same text, by the same authors, with the same comments on it
abbrev pub ShowSame : List Op → List Op → Type 0
ShowSame log other =
    (text_of (characters_in log) ≡ text_of (characters_in other))
    × (runs_of (characters_in log) ≡ runs_of (characters_in other))
    × (comments_of log ≡ comments_of other)

-- logs that pads can have show the same if they have the same operations
abbrev pub SameSetLaw : Type 0
SameSetLaw = (log other : List Op) → IsDelivered log → IsDelivered other → HaveSame log other
    → ShowSame log other

-- what a log answers to a reading of the text, the authors or the comments of its present revision
abbrev pub reading : Act → List Op → Option (Result PadReply Refusal)
reading (act.Text None) log = Some (read_text None log)
reading (act.Runs None) log = Some (read_runs None log)
reading (act.Comments None) log = Some (read_comments None log)
reading other log = None

-- two logs answer each such reading alike
abbrev pub ReadAlike : List Op → List Op → Type 0
ReadAlike log other = (asked : Act) → reading asked log ≡ reading asked other

-- where the last of some events was such a reading of a pad, its reply is the answer of any log with the operations
-- that the pad has then
abbrev pub LastReadsAlike : List PadEvent → List (Result PadReply Refusal) → List Op → Type 0
LastReadsAlike events replies log =
    (before : List PadEvent) (event : PadEvent) (answered : List (Result PadReply Refusal))
    (reply : PadReply) →
    events ≡ before ++ event ∷ [] → replies ≡ answered ++ Ok reply ∷ [] → reply ≢ Elsewhere →
    (other : List Op) → IsDelivered other → HaveSame log other → (told : Result PadReply Refusal) →
    reading event.act.now other ≡ Some told → told ≡ Ok reply
