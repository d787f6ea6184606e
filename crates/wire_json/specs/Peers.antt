-- A server's requests to a peer, and how it reads the peer's answers.
use Rattle.std.specs.Prelude.{ℕ, Bool, true, false, if◌then◌else◌, ◌==◌, List, [], ◌∷◌, ◌++◌, codes, Option, None, Some}
use Rattle.std.specs.Prelude.{option_map, option_and_then}
use Rattle.serde_json.specs.Data.{Data, string}
use Rattle.serde_json.specs.Find.{get, as_bool}
use Rattle.pad_model.specs.declared.limits.TheConstants.{MAX_REPLICA}
use Rattle.pad_model.specs.declared.op.Op.{Op}
use Rattle.pad_model.specs.declared.seen.Counted.{Counted}
use Rattle.pad_model.specs.declared.who.Version.{Version}
use Rattle.pad_model.specs.declared.who.Version.TheVariants as version
use Rattle.pad_core.specs.declared.reply.Pushed.{Pushed}
use Rattle.wire_json.specs.Forms.{Field, fields_data, number_data, seen_data}
use Rattle.wire_json.specs.Lines.{value_of}
use Rattle.wire_json.specs.Operations.{op_data}
use Rattle.wire_json.specs.Reading.{of_two, of_four, field, list_in, number_in, name_in, within_in, seen_in}
use Rattle.wire_json.specs.Requests.{op_in}
use Rattle.wire_json.specs.Words.{state_of_word}
use Rattle.wire_json.specs.declared.peer_answer.Told.{Told}
use Rattle.wire_json.specs.declared.peer_answer.Told.TheVariants.{Said, Refused}

-- the request that logs a server in at a peer, in version 2
abbrev pub peer_request : ℕ → List ℕ → Data
peer_request own token = fields_data
    ((codes "do", string (codes "peer")) ∷ (codes "number", number_data own) ∷ (codes "token", string token)
    ∷ (codes "version", number_data 2) ∷ [])

-- the most operations of a batch, if one is asked for
abbrev pub batch_fields : Option ℕ → List Field
batch_fields None = []
batch_fields (Some n) = (codes "batch", number_data n) ∷ []

-- the request for the first operations of a pad that these counts lack, or for a batch of them
abbrev pub pull_request : List ℕ → List Counted → ℕ → Option ℕ → Data
pull_request pad seen most batch = fields_data (batch_fields batch
    ++ (codes "do", string (codes "pull")) ∷ (codes "max", number_data most) ∷ (codes "pad", string pad)
    ∷ (codes "seen", seen_data seen) ∷ [])

-- the request for the counts of a pad
abbrev pub vector_request : List ℕ → Data
vector_request pad = fields_data ((codes "do", string (codes "vector")) ∷ (codes "pad", string pad) ∷ [])

-- the request that pushes an operation of a pad
abbrev pub push_request : List ℕ → Op → Data
push_request pad op = fields_data ((codes "do", string (codes "push")) ∷ (codes "op", op_data op)
    ∷ (codes "pad", string pad) ∷ [])

-- a refusal has a number and a name
abbrev pub refused_in : Data → Option Bool
refused_in d = of_two (λ code name. false) (field number_in (codes "code") d) (field name_in (codes "error") d)

-- whether an answer gives what was asked for, or nothing if it is neither that nor a refusal
abbrev pub granted_in : Data → Option Bool
granted_in d = option_and_then (λ ok. if ok then Some true else refused_in d) (field as_bool (codes "ok") d)

-- what an answer says in a form, or its refusal
abbrev pub told_in : {A : Type 0} → (Data → Option A) → Data → Option (Told A)
told_in form d = option_and_then (λ granted. if granted then option_map Said (form d)
    else Some Refused) (granted_in d)

-- the same for a line
abbrev pub told : {A : Type 0} → (Data → Option A) → List ℕ → Option (Told A)
told form line = option_and_then (told_in form) (value_of line)

-- the version that an answer names: 2, or version 1 if it names none
abbrev pub answered_version : Option Data → Option Version
answered_version None = Some version.One
answered_version (Some d) = option_and_then (λ n. if n == 2 then Some version.Two else None)
    (number_in d)

-- the version of a peer, whose answer has its replica number too
abbrev pub peer_answer : Data → Option Version
peer_answer d = of_two (λ replica told. told) (field (within_in MAX_REPLICA) (codes "replica") d)
    (answered_version (get (codes "version") d))

-- the counts of a peer's pad
abbrev pub vector_answer : Data → Option (List Counted)
vector_answer d = of_two (λ now seen. seen) (field number_in (codes "now") d) (field seen_in (codes "seen") d)

-- the operations that a peer gives
abbrev pub pull_answer : Data → Option (List Op)
pull_answer d = of_two (λ now ops. ops) (field number_in (codes "now") d) (field (list_in op_in) (codes "ops") d)

-- what became of an operation at a peer
abbrev pub push_answer : Data → Option Pushed
push_answer d = of_four (λ now dropped released state. state)
    (field number_in (codes "now") d) (field number_in (codes "dropped") d) (field number_in (codes "released") d)
    (option_and_then state_of_word (field name_in (codes "state") d))
