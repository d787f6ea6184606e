-- The request of a line.
use Rattle.std.specs.Prelude.{ℕ, if◌then◌else◌, List, Option, Some, None, Result, Ok, Err}
use Rattle.std.specs.Str.{is_utf8}
use Rattle.serde_json.specs.Data.{Data}
use Rattle.serde_json.specs.Read.{read}
use Rattle.pad_model.specs.declared.refusal.Refusal.{Refusal}
use Rattle.pad_model.specs.declared.refusal.Refusal.TheVariants.{NotJson, NotRequest}
use Rattle.pad_core.specs.declared.request.Request.{Request}
use Rattle.wire_json.specs.Requests.{request_in}

-- the value of a line, if it is JSON in UTF-8
abbrev pub value_of : List ℕ → Option Data
value_of line = if is_utf8 line then read line else None

-- what is expected, or the refusal that the line is not a request
abbrev pub or_no_request : {A : Type 0} → Option A → Result A Refusal
or_no_request None = Err NotRequest
or_no_request (Some found) = Ok found

-- the request of a value
abbrev pub request_of : Option Data → Result Request Refusal
request_of None = Err NotJson
request_of (Some d) = or_no_request (request_in d)

-- the request of a line, or why there is none
abbrev pub request : List ℕ → Result Request Refusal
request line = request_of (value_of line)
