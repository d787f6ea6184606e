-- How records are written and read. The time is written beside them. That of an operation or of a named revision is read
-- again; of the others it is not.
use Rattle.std.specs.Prelude.{◌≡◌, IsTrue, ℕ, List, [], ◌∷◌, ◌++◌, codes, bytes_eq, if◌then◌else◌, Bool, true, false, Option}
use Rattle.std.specs.Prelude.{Some, None, option_map, option_and_then, unwrap_or, min, ◌+◌, ◌-◌, ◌*◌, ◌/◌, ◌%◌, ◌^◌, ◌<◌}
use Rattle.std.specs.Str.{all_scalars}
use Rattle.serde_json.specs.Data.{Data, boolean, string}
use Rattle.serde_json.specs.Find.{as_str}
use Rattle.pad_model.specs.Checked.{is_checked}
use Rattle.rights.specs.declared.grantee.Grantee.TheVariants.{Author, Everyone}
use Rattle.rights.specs.declared.right.Right.{Right}
use Rattle.store_records.specs.declared.kept_record.Record.{Record}
use Rattle.store_records.specs.declared.kept_record.Record.TheVariants.{Named, Granted, Handed, Closed, Marked, Introduced, Visited}
use Rattle.store_records.specs.declared.kept_record.Record.TheVariants.{Delivered}
use Rattle.wire_json.specs.Forms.{Field, fields_data, number_data, text_data}
use Rattle.wire_json.specs.Laws.{IsSayable}
use Rattle.wire_json.specs.Operations.{op_data}
use Rattle.wire_json.specs.Reading.{field, number_in, of_three, of_two, text_in as characters_in, truth_in}
use Rattle.wire_json.specs.Requests.{op_in}
use Rattle.wire_json.specs.Words.{granted_by, right_word}

-- the word for a right that is granted, or for none
abbrev pub given_word : Option Right → List ℕ
given_word None = codes "none"
given_word (Some right) = right_word right

-- the fields of a record, except its time
abbrev pub record_fields : Record → List Field
record_fields (Named name owner true) = (codes "kind", string (codes "named")) ∷ (codes "name", string name)
    ∷ (codes "owner", string owner) ∷ (codes "visits", boolean true) ∷ []
record_fields (Named name owner false) = (codes "kind", string (codes "named")) ∷ (codes "name", string name)
    ∷ (codes "owner", string owner) ∷ []
record_fields (Granted (Author name) right) = (codes "author", string name) ∷ (codes "kind", string (codes "granted"))
    ∷ (codes "right", string (given_word right)) ∷ []
record_fields (Granted Everyone right) = (codes "kind", string (codes "everyone"))
    ∷ (codes "right", string (given_word right)) ∷ []
record_fields (Handed author) = (codes "kind", string (codes "handed")) ∷ (codes "owner", string author) ∷ []
record_fields (Closed true) = (codes "kind", string (codes "closed")) ∷ []
record_fields (Closed false) = (codes "kind", string (codes "reopened")) ∷ []
record_fields (Marked named) = (codes "author", string named.author) ∷ (codes "kind", string (codes "marked"))
    ∷ (codes "ms", number_data (named.at % 1000)) ∷ (codes "rev", number_data named.rev)
    ∷ (codes "text", text_data named.text) ∷ []
record_fields (Introduced guest) = (codes "author", string guest.author) ∷ (codes "display", text_data guest.display)
    ∷ (codes "kind", string (codes "introduced")) ∷ []
record_fields (Visited None) = (codes "kind", string (codes "visited")) ∷ []
record_fields (Visited (Some author)) = (codes "author", string author) ∷ (codes "kind", string (codes "visited")) ∷ []
record_fields (Delivered at visit op) = (codes "kind", string (codes "delivered"))
    ∷ (codes "ms", number_data (at % 1000)) ∷ (codes "op", op_data op) ∷ (codes "visit", number_data visit) ∷ []

-- the field of a record that is written together with an earlier line that is not yet synced
abbrev pub together_fields : Bool → List Field
together_fields true = (codes "together", boolean true) ∷ []
together_fields false = []

-- the seconds since 1970 that a record has: those of its operation, of when a revision was named, or of when it is written
abbrev pub seconds_of : ℕ → Record → ℕ
seconds_of now (Named name owner visits) = now
seconds_of now (Granted grantee right) = now
seconds_of now (Handed author) = now
seconds_of now (Closed closed) = now
seconds_of now (Marked named) = named.at / 1000
seconds_of now (Introduced guest) = now
seconds_of now (Visited author) = now
seconds_of now (Delivered at visit op) = at / 1000

-- a record with its time, in seconds since 1970, and whether it is written together with an earlier line
abbrev pub record_data : ℕ → Bool → Record → Data
record_data now together kept = fields_data
    ((codes "at", number_data (seconds_of now kept)) ∷ together_fields together ++ record_fields kept)

-- the time, the text and the operation of a record have values of their types, and the operation is within the limits
abbrev pub IsSayableRecord : Record → Type 0
IsSayableRecord (Named name owner visits) = Unit {0}
IsSayableRecord (Granted grantee right) = Unit {0}
IsSayableRecord (Handed author) = Unit {0}
IsSayableRecord (Closed closed) = Unit {0}
IsSayableRecord (Marked named) = (all_scalars named.text ≡ true) × (named.at < 2 ^ 64)
IsSayableRecord (Introduced guest) = all_scalars guest.display ≡ true
IsSayableRecord (Visited author) = Unit {0}
IsSayableRecord (Delivered at visit op) = IsTrue (is_checked op) × IsSayable op × (at < 2 ^ 64)

-- a text field of an object
abbrev pub text_in : List ℕ → Data → Option (List ℕ)
text_in key d = field as_str key d

-- a number field of an object, or 0
abbrev pub number_or_none : List ℕ → Data → ℕ
number_or_none key d = unwrap_or (field number_in key d) 0

-- whether a field of an object is true
abbrev pub says_true : List ℕ → Data → Bool
says_true key d = unwrap_or (field truth_in key d) false

-- the time of a record in milliseconds since 1970, from seconds and, in a file of this version, milliseconds
abbrev pub time_in : Data → ℕ
time_in d = min (min (number_or_none (codes "at") d * 1000) (2 ^ 64 - 1) + number_or_none (codes "ms") d)
    (2 ^ 64 - 1)

-- a revision that an author named at a time
abbrev pub marked_at : ℕ → List ℕ → ℕ → List ℕ → Record
marked_at at author rev text = Marked (record { rev = rev; author = author; at = at; text = text })

-- a guest that got a display name
abbrev pub introduced_as : List ℕ → List ℕ → Record
introduced_as author display = Introduced (record { author = author; display = display })

-- the record of a kind, from its fields
abbrev pub record_of : List ℕ → Data → Option Record
record_of kind d =
    if bytes_eq kind (codes "named") then of_two (λ name owner. Named name owner (says_true (codes "visits") d))
    (text_in (codes "name") d) (text_in (codes "owner") d)
    else if bytes_eq kind (codes "granted") then of_two (λ name right. Granted (Author name) right)
    (text_in (codes "author") d) (option_and_then granted_by (text_in (codes "right") d))
    else if bytes_eq kind (codes "everyone") then option_map (Granted Everyone)
    (option_and_then granted_by (text_in (codes "right") d))
    else if bytes_eq kind (codes "handed") then option_map Handed (text_in (codes "owner") d)
    else if bytes_eq kind (codes "closed") then Some (Closed true)
    else if bytes_eq kind (codes "reopened") then Some (Closed false)
    else if bytes_eq kind (codes "marked") then of_three (marked_at (time_in d)) (text_in (codes "author") d)
    (field number_in (codes "rev") d) (field characters_in (codes "text") d)
    else if bytes_eq kind (codes "introduced") then of_two introduced_as (text_in (codes "author") d)
    (field characters_in (codes "display") d)
    else if bytes_eq kind (codes "visited") then Some (Visited (text_in (codes "author") d))
    else if bytes_eq kind (codes "delivered") then option_map
    (Delivered (time_in d) (number_or_none (codes "visit") d)) (field op_in (codes "op") d)
    else None

-- the meaning of a value as a record
abbrev pub record_in : Data → Option Record
record_in d = option_and_then (λ kind. record_of kind d) (text_in (codes "kind") d)
