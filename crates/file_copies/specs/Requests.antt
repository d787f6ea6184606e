-- The lines that go between a main server and its standby.
use Rattle.std.specs.Prelude.{ℕ, List, [], ◌∷◌, ◌++◌, codes, bytes_eq, if◌then◌else◌, Bool, true, false, Option, Some, None}
use Rattle.std.specs.Prelude.{option_map, option_and_then, is_some, Result, Err}
use Rattle.serde_json.specs.Data.{Data, boolean, string}
use Rattle.serde_json.specs.Find.{as_bool, as_str, get}
use Rattle.serde_json.specs.Written.{compact_text}
use Rattle.pad_model.specs.declared.refusal.Refusal.{Refusal}
use Rattle.pad_model.specs.declared.refusal.Refusal.TheVariants.{NotJson}
use Rattle.wire_json.specs.Forms.{fields_data, number_data}
use Rattle.wire_json.specs.Lines.{or_no_request, value_of}
use Rattle.wire_json.specs.Reading.{field, name_in, number_in, of_three}
use Rattle.file_copies.specs.declared.request.StandbyRequest.{StandbyRequest}
use Rattle.file_copies.specs.declared.request.StandbyRequest.TheVariants as request
use Rattle.file_copies.specs.declared.answer.StandbyAnswer.{StandbyAnswer}
use Rattle.file_copies.specs.declared.answer.StandbyAnswer.TheVariants as answer

-- a value as a line
abbrev pub line_of : Data → List ℕ
line_of d = compact_text d ++ 10 ∷ []

-- how far is each copy?
abbrev pub copies_data : Data
copies_data = fields_data ((codes "do", string (codes "copies")) ∷ [])

-- so many bytes of a pad's file follow, which stand there from a place on
abbrev pub keep_data : List ℕ → ℕ → ℕ → Data
keep_data pad from bytes = fields_data ((codes "bytes", number_data bytes) ∷ (codes "do", string (codes "keep"))
    ∷ (codes "from", number_data from) ∷ (codes "pad", string pad) ∷ [])

-- let everything so far be on the disk; it belongs to a mark
abbrev pub sync_data : ℕ → Data
sync_data mark = fields_data ((codes "do", string (codes "sync")) ∷ (codes "mark", number_data mark) ∷ [])

-- serve the pads yourself, and take no copy any more
abbrev pub promote_data : Data
promote_data = fields_data ((codes "do", string (codes "promote")) ∷ [])

-- the written form of a request
abbrev pub request_data : StandbyRequest → Data
request_data request.Copies = copies_data
request_data (request.Keep pad from bytes) = keep_data pad from bytes
request_data (request.Sync mark) = sync_data mark
request_data request.Promote = promote_data

-- the request with a word, from its fields
abbrev pub request_of : List ℕ → Data → Option StandbyRequest
request_of word d =
    if bytes_eq word (codes "copies") then Some request.Copies
    else if bytes_eq word (codes "keep") then of_three request.Keep (field name_in (codes "pad") d)
    (field number_in (codes "from") d) (field number_in (codes "bytes") d)
    else if bytes_eq word (codes "sync") then option_map request.Sync (field number_in (codes "mark") d)
    else if bytes_eq word (codes "promote") then Some request.Promote
    else None

-- the meaning of a value as a request
abbrev pub request_in : Data → Option StandbyRequest
request_in d = option_and_then (λ word. request_of word d) (field as_str (codes "do") d)

-- a copy has so many bytes, and its last line has this sum
abbrev pub copy_data : List ℕ → ℕ → List ℕ → Data
copy_data pad bytes sum = fields_data ((codes "bytes", number_data bytes) ∷ (codes "pad", string pad)
    ∷ (codes "sum", string sum) ∷ [])

-- all copies have been told; or the standby is promoted
abbrev pub told_data : Data
told_data = fields_data ((codes "ok", boolean true) ∷ [])

-- everything up to a mark is on the disk
abbrev pub kept_data : ℕ → Data
kept_data mark = fields_data ((codes "mark", number_data mark) ∷ (codes "ok", boolean true) ∷ [])

-- the request is refused
abbrev pub refused_data : ℕ → List ℕ → Data
refused_data code name = fields_data ((codes "code", number_data code) ∷ (codes "error", string name)
    ∷ (codes "ok", boolean false) ∷ [])

-- the answer that a request was carried out, which has a mark if it answers one
abbrev pub done_in : Data → Option StandbyAnswer
done_in d = if is_some (get (codes "mark") d) then option_map answer.Kept (field number_in (codes "mark") d)
    else Some answer.Told

-- the answer that a request was carried out, or that it was refused
abbrev pub outcome_in : Bool → Data → Option StandbyAnswer
outcome_in true d = done_in d
outcome_in false d = option_map answer.Refused (field number_in (codes "code") d)

-- how far a copy is, from the fields of a value
abbrev pub copy_in : Data → Option StandbyAnswer
copy_in d = of_three answer.Copy (field name_in (codes "pad") d) (field number_in (codes "bytes") d)
    (field name_in (codes "sum") d)

-- whether a request was carried out
abbrev pub ok_in : Data → Option Bool
ok_in d = field as_bool (codes "ok") d

-- the meaning of a value as an answer
abbrev pub answer_in : Data → Option StandbyAnswer
answer_in d = if is_some (get (codes "pad") d) then copy_in d
    else option_and_then (λ ok. outcome_in ok d) (ok_in d)

-- what is meant by a value, or that it is nothing of the kind
abbrev pub meant : {A : Type 0} → (Data → Option A) → Option Data → Result A Refusal
meant form None = Err NotJson
meant form (Some d) = or_no_request (form d)

-- the request of a line: 101 if it is not JSON, 102 if it is no request
abbrev pub request_said : List ℕ → Result StandbyRequest Refusal
request_said line = meant request_in (value_of line)

-- the answer of a line: 101 if it is not JSON, 102 if it is no answer
abbrev pub answer_said : List ℕ → Result StandbyAnswer Refusal
answer_said line = meant answer_in (value_of line)
