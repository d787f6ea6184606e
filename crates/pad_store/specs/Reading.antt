-- What is read from the bytes of a pad's file.
use Rattle.std.specs.Prelude.{◌≡◌, ◌⊎◌, ℕ, List, length, encode_utf8_all, Some, Result, Ok, Err}
use Rattle.pad_model.specs.declared.op.Op.{Op}
use Rattle.pad_model.specs.declared.refusal.Refusal.{Refusal}
use Rattle.pad_model.specs.declared.refusal.Refusal.TheVariants as refusal
use Rattle.pad_core.specs.Machine.{Machine}
use Rattle.pad_core.specs.Reads.{read_changes, read_comments, read_revs, read_revs_at, read_runs, read_text}
use Rattle.pad_core.specs.declared.act.Act.{Act}
use Rattle.pad_core.specs.declared.act.Act.TheVariants as act
use Rattle.pad_core.specs.declared.reply.PadReply.{PadReply}
use Rattle.pad_core.specs.declared.reply.PadReply.TheVariants.{Elsewhere, Text}
use Rattle.presence.specs.declared.presence.TheConstants.{DEFAULT_PRESENT}
use Rattle.store_format.specs.Files.{Read, pad_read}
use Rattle.store_format.specs.declared.reader.Damage.{Damage}
use Rattle.store_format.specs.declared.reader.Damage.TheVariants as damage
use Rattle.pad_store.specs.Choices.{number_of}
use Rattle.pad_store.specs.declared.revision_choice.RevisionChoice.{RevisionChoice}
use Rattle.pad_store.specs.declared.trouble.Trouble.{Trouble}
use Rattle.pad_store.specs.declared.trouble.Trouble.TheVariants.{Memory, Damaged, NoRevision, Unread}

-- the bytes of a file lead to a pad with this log and these times, under some name
unfoldable pub LeadTo : List ℕ → List Op → List ℕ → Type 0
LeadTo bytes log times = (name : List ℕ) × (read : Read)
    × (pad_read 1 DEFAULT_PRESENT name bytes ≡ Ok read) × (log ≡ read.pad.log) × (times ≡ read.pad.made.times)

-- a text in UTF-8 is that of the revision that is asked for, of a log with these times
unfoldable pub ShowsOf : List Op → List ℕ → RevisionChoice → List ℕ → Type 0
ShowsOf log times asked text = (at : ℕ) × (shown : List ℕ)
    × (read_text (Some (number_of asked log times)) log ≡ Ok (Text (length log) at shown))
    × (text ≡ encode_utf8_all shown)

-- it is that of the pad that the bytes of a file lead to
unfoldable pub Shows : List ℕ → RevisionChoice → List ℕ → Type 0
Shows bytes asked text = (log : List Op) × (times : List ℕ) × LeadTo bytes log times × ShowsOf log times asked text

-- the trouble that a refusal of a pad means
abbrev pub trouble_of : Refusal → Trouble
trouble_of refusal.Memory = Memory
trouble_of refusal.NoRevision = NoRevision
trouble_of other = Unread

-- the trouble that damage means
abbrev pub trouble_after : Damage → Trouble
trouble_after damage.Memory = Memory
trouble_after other = Damaged other

-- if the bytes of a file are reported as damaged, they are damaged so
unfoldable pub IsFault : List ℕ → Trouble → Type 0
IsFault bytes (Damaged found) = (name : List ℕ)
    × (pad_read 1 DEFAULT_PRESENT name bytes ≡ Err found)
IsFault bytes other = Unit {0}

-- no damage is reported
abbrev pub IsNoDamage : Trouble → Type 0
IsNoDamage (Damaged found) = ⊥
IsNoDamage other = Unit {0}

-- the answer to an act that reads the log and the times is that of the pad, with no claim about any other act
abbrev pub IsAnswered : Act → PadReply → Machine → Type 0
IsAnswered (act.Text rev) answer m = read_text rev m.log ≡ Ok answer
IsAnswered (act.Runs rev) answer m = read_runs rev m.log ≡ Ok answer
IsAnswered (act.Comments rev) answer m = read_comments rev m.log ≡ Ok answer
IsAnswered (act.Changes rev to wait) answer m = read_changes rev to wait m.log ≡ Ok answer
IsAnswered act.Revs answer m = read_revs m.log ≡ Ok answer
IsAnswered (act.RevsAt moments) answer m = read_revs_at moments m.log m.made.times ≡ Ok answer
IsAnswered other answer m = Unit {0}

-- whether an act only reads the log and the times
abbrev pub Reads : Act → Type 0
Reads (act.Text rev) = Unit {0}
Reads (act.Runs rev) = Unit {0}
Reads (act.Comments rev) = Unit {0}
Reads (act.Changes rev to wait) = Unit {0}
Reads act.Revs = Unit {0}
Reads (act.RevsAt moments) = Unit {0}
Reads other = ⊥

-- an act that reads is answered from the pad, whose log stays unchanged, unless the pad has another name
abbrev pub IsTold : Act → PadReply → Machine → Machine → Type 0
IsTold this answer old new = Reads this
    → ((answer ≡ Elsewhere) ⊎ IsAnswered this answer old) × (new.log ≡ old.log)
