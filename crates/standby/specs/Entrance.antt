-- Who is let in by a standby, and what it carries out.
use Rattle.std.specs.Prelude.{ℕ, ◌==◌, if◌then◌else◌, Bool, false, not, Option, Some, None}
use Rattle.pad_model.specs.declared.refusal.Refusal.TheVariants.{BadToken}
use Rattle.file_copies.specs.declared.request.StandbyRequest.{StandbyRequest}
use Rattle.file_copies.specs.declared.request.StandbyRequest.TheVariants as request
use Rattle.standby.specs.declared.taking.StandbyRefusal.{StandbyRefusal}
use Rattle.standby.specs.declared.taking.StandbyRefusal.TheVariants as refusal

-- why somebody with a number is kept out, if anything: nobody is let in but the main server, with its token
abbrev pub kept_out : ℕ → ℕ → Bool → Option StandbyRefusal
kept_out main number has_token = if number == main then (if has_token then None else Some (refusal.Pads BadToken))
    else Some refusal.IsStandby

-- whether a request of a main server is carried out: none is, once the standby is promoted
abbrev pub is_taken : Bool → StandbyRequest → Bool
is_taken is_promoted request.Promote = false
is_taken is_promoted request.Copies = not is_promoted
is_taken is_promoted (request.Keep pad from bytes) = not is_promoted
is_taken is_promoted (request.Sync mark) = not is_promoted
