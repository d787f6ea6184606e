-- How replies are written.
use Rattle.std.specs.Prelude.{ℕ, Bool, List, [], ◌∷◌, ◌++◌, codes, true, false, Result, Ok, Err, ◌≡◌, ◌≤◌, Option, Some, None}
use Rattle.std.specs.List.{AllByRecursion}
use Rattle.serde_json.specs.Data.{Data, boolean, null, string}
use Rattle.serde_json.specs.Read.{read}
use Rattle.serde_json.specs.Written.{compact_text}
use Rattle.comments.specs.declared.show.Shown.{Shown}
use Rattle.guests.specs.declared.guest.Guest.{Guest}
use Rattle.rights.specs.declared.book.Grant.{Grant}
use Rattle.named_revisions.specs.declared.named_revision.NamedRevision.{NamedRevision}
use Rattle.pad_model.specs.Refusals.{code_of, name_of}
use Rattle.pad_model.specs.declared.op.OpName.{OpName}
use Rattle.pad_model.specs.declared.piece.Piece.{Piece}
use Rattle.pad_model.specs.declared.piece.Piece.TheVariants as piece
use Rattle.pad_model.specs.declared.refusal.Refusal.{Refusal}
use Rattle.pad_model.specs.declared.who.AuthorRun.{AuthorRun}
use Rattle.pad_model.specs.declared.who.Version.{Version}
use Rattle.pad_model.specs.declared.who.Version.TheVariants as version
use Rattle.pad_core.specs.declared.reply.LogEntry.{LogEntry}
use Rattle.pad_core.specs.declared.reply.Listed.{Listed}
use Rattle.pad_core.specs.declared.reply.Person.{Person}
use Rattle.pad_core.specs.declared.reply.Present.{Present}
use Rattle.pad_core.specs.declared.reply.PadReply.{PadReply}
use Rattle.pad_core.specs.declared.reply.PadReply.TheVariants as pad
use Rattle.pad_core.specs.declared.reply.Reply.{Reply}
use Rattle.pad_core.specs.declared.reply.Reply.TheVariants as reply
use Rattle.wire_json.specs.Words.{grantee_word, right_word, kind_word, state_word}
use Rattle.wire_json.specs.Forms.{Field, fields_data, list_data, each_data, number_data, text_data, op_name_data}
use Rattle.wire_json.specs.Forms.{seen_data, author_data}
use Rattle.wire_json.specs.Operations.{op_data}

-- a stretch of one author
abbrev pub run_data : AuthorRun → Data
run_data run = list_data (author_data run.author ∷ number_data run.len ∷ [])

-- a piece of the changes from one text to another
abbrev pub piece_data : Piece → Data
piece_data (piece.Keep n) = list_data (string (codes "keep") ∷ number_data n ∷ [])
piece_data (piece.Drop n) = list_data (string (codes "drop") ∷ number_data n ∷ [])
piece_data (piece.Insert author text) =
    list_data (string (codes "insert") ∷ text_data text ∷ author_data author ∷ [])

-- a comment
abbrev pub shown_data : Shown → Data
shown_data shown = fields_data
    ((codes "at", number_data shown.at) ∷ (codes "author", author_data shown.author)
    ∷ (codes "len", number_data shown.len)
    ∷ (codes "name", op_name_data shown.name) ∷ (codes "resolved", boolean shown.resolved)
    ∷ (codes "text", text_data shown.text) ∷ [])

-- a time, where it is told
abbrev pub time_fields : Option ℕ → List Field
time_fields None = []
time_fields (Some at) = (codes "at", number_data at) ∷ []

-- the operation that made a revision
abbrev pub entry_data : LogEntry → Data
entry_data entry = fields_data
    (time_fields entry.at ++ (codes "author", author_data entry.author)
    ∷ (codes "kind", string (kind_word entry.kind)) ∷ (codes "name", op_name_data entry.name)
    ∷ (codes "rev", number_data entry.rev) ∷ [])

-- a visit that is present
abbrev pub present_data : Present → Data
present_data present =
    fields_data ((codes "author", author_data present.author) ∷ (codes "caret", number_data present.caret)
    ∷ (codes "visit", number_data present.visit) ∷ [])

-- who has a right, and which
abbrev pub grant_data : Grant → Data
grant_data grant = list_data (string (grantee_word grant.grantee) ∷ string (right_word grant.right) ∷ [])

-- a revision with a name, who named it and when
abbrev pub mark_data : NamedRevision → Data
mark_data mark = fields_data
    ((codes "at", number_data mark.at) ∷ (codes "author", string mark.author)
    ∷ (codes "rev", number_data mark.rev)
    ∷ (codes "text", text_data mark.text) ∷ [])

-- a guest with its display name
abbrev pub guest_data : Guest → Data
guest_data guest =
    fields_data ((codes "author", string guest.author) ∷ (codes "name", text_data guest.display) ∷ [])

-- that a pad is closed, where it is
abbrev pub closed_fields : Bool → List Field
closed_fields false = []
closed_fields true = (codes "closed", boolean true) ∷ []

-- the same in a list of pads
abbrev pub closed_words : Bool → List Data
closed_words false = []
closed_words true = string (codes "closed") ∷ []

-- a pad in a list of pads: its name, the right on it, its present revision, and that it is closed
abbrev pub listed_data : Listed → Data
listed_data pad = list_data (string pad.name ∷ string (right_word pad.right) ∷ number_data pad.now
    ∷ closed_words pad.closed)

-- an author with a display name
abbrev pub person_data : Person → Data
person_data person =
    fields_data ((codes "author", string person.author) ∷ (codes "name", string person.name) ∷ [])

-- a reply of success with these fields
abbrev pub answer : List Field → Data
answer fields = fields_data ((codes "ok", boolean true) ∷ fields)

-- a pad's reply of success, which has its present revision too
abbrev pub pad_answer : ℕ → List Field → Data
pad_answer now fields = answer ((codes "now", number_data now) ∷ fields)

-- the name of an operation, if there is one
abbrev pub last_data : Option OpName → Data
last_data None = null
last_data (Some name) = op_name_data name

-- a pad's reply; that it has another name is never a server's reply
abbrev pub pad_data : PadReply → Data
pad_data pad.Elsewhere = answer []
pad_data (pad.Joined now visit) = pad_answer now ((codes "visit", number_data visit) ∷ [])
pad_data (pad.Rejoined now visit made last) =
    pad_answer now ((codes "last", last_data last) ∷ (codes "made", number_data made)
    ∷ (codes "visit", number_data visit) ∷ [])
pad_data (pad.Done now) = pad_answer now []
pad_data (pad.Made now name) = pad_answer now ((codes "name", op_name_data name) ∷ [])
pad_data (pad.Changed now name hidden) =
    pad_answer now ((codes "hidden", number_data hidden) ∷ (codes "name", op_name_data name) ∷ [])
pad_data (pad.Text now rev text) = pad_answer now ((codes "rev", number_data rev) ∷ (codes "text", text_data text) ∷ [])
pad_data (pad.Runs now rev runs) = pad_answer now ((codes "rev", number_data rev)
    ∷ (codes "runs", each_data run_data runs) ∷ [])
pad_data (pad.Comments now rev comments) =
    pad_answer now ((codes "comments", each_data shown_data comments) ∷ (codes "rev", number_data rev) ∷ [])
pad_data (pad.Changes now rev to pieces notes) =
    pad_answer now ((codes "changes", each_data piece_data pieces) ∷ (codes "notes", number_data notes)
    ∷ (codes "rev", number_data rev)
    ∷ (codes "to", number_data to) ∷ [])
pad_data (pad.Revs now cells length) = pad_answer now ((codes "cells", number_data cells)
    ∷ (codes "length", number_data length) ∷ [])
pad_data (pad.Entries now entries) = pad_answer now ((codes "entries", each_data entry_data entries) ∷ [])
pad_data (pad.Times now times) = pad_answer now ((codes "times", each_data number_data times) ∷ [])
pad_data (pad.RevsAt now revs) = pad_answer now ((codes "revs", each_data number_data revs) ∷ [])
pad_data (pad.Birth now author rev at) =
    pad_answer now ((codes "at", number_data at) ∷ (codes "author", author_data author)
    ∷ (codes "rev", number_data rev) ∷ [])
pad_data (pad.Who now who) = pad_answer now ((codes "who", each_data present_data who) ∷ [])
pad_data (pad.Rights now closed rights) =
    pad_answer now (closed_fields closed ++ (codes "rights", each_data grant_data rights) ∷ [])
pad_data (pad.Marks now marks) = pad_answer now ((codes "marks", each_data mark_data marks) ∷ [])
pad_data (pad.Guests now guests) = pad_answer now ((codes "guests", each_data guest_data guests) ∷ [])
pad_data (pad.Vector now seen) = pad_answer now ((codes "seen", seen_data seen) ∷ [])
pad_data (pad.Pushed now state released dropped) =
    pad_answer now ((codes "dropped", number_data dropped) ∷ (codes "released", number_data released)
    ∷ (codes "state", string (state_word state)) ∷ [])
pad_data (pad.Pulled now ops) = pad_answer now ((codes "ops", each_data op_data ops) ∷ [])

-- the version of a session, which is named only to peers of version 2
abbrev pub version_fields : Version → List Field
version_fields version.One = []
version_fields version.Two = (codes "version", number_data 2) ∷ []

-- a server's reply
abbrev pub reply_data : Reply → Data
reply_data (reply.Hello author) = answer ((codes "author", author_data author) ∷ [])
reply_data (reply.Peer replica version) = answer ((codes "replica", number_data replica) ∷ version_fields version)
reply_data (reply.Pad said) = pad_data said
reply_data (reply.Pads pads) = answer ((codes "pads", each_data listed_data pads) ∷ [])
reply_data (reply.People people) = answer ((codes "people", each_data person_data people) ∷ [])
reply_data reply.Ended = answer []

-- why a request is refused
abbrev pub refusal_data : Refusal → Data
refusal_data refusal =
    fields_data ((codes "code", number_data (code_of refusal)) ∷ (codes "error", string (name_of refusal))
    ∷ (codes "ok", boolean false) ∷ [])

-- a reply or a refusal
abbrev pub outcome_data : Result Reply Refusal → Data
outcome_data (Ok said) = reply_data said
outcome_data (Err refusal) = refusal_data refusal

-- the line of a reply or a refusal: its compact text, and a line feed
abbrev pub line_of : Result Reply Refusal → List ℕ
line_of outcome = compact_text (outcome_data outcome) ++ 10 ∷ []

-- a line represents a value: its text reads as the value and has no byte below 32, so the only line feed is the one at
-- its end
abbrev pub IsLineFor : Data → List ℕ → Type 0
IsLineFor d line = (text : List ℕ) × (line ≡ text ++ 10 ∷ [])
    × AllByRecursion (λ byte. 32 ≤ byte) text
    × (read text ≡ Some d)

-- bytes are the line of a value, and represent it
abbrev pub IsWritten : Data → List ℕ → Type 0
IsWritten d line = (line ≡ compact_text d ++ 10 ∷ []) × IsLineFor d line
