-- What new accounts change.
use Rattle.std.specs.Prelude.{◌≡◌, ℕ, Bool, true, false}
use Rattle.sessions.specs.Accounts.{Accounts}
use Rattle.pad_core.specs.declared.request.Request.{Request}
use Rattle.pad_core.specs.declared.request.Request.TheVariants.{Hello, Peer, People}
use Rattle.server_core.specs.Machine.{Server, server_step, with_accounts}
use Rattle.server_core.specs.declared.step.Moved.{Moved}
use Rattle.server_core.specs.declared.step.Step.{Step}
use Rattle.server_core.specs.declared.step.Step.TheVariants.{Ask}

-- whether a request logs in, or asks for display names
abbrev pub is_of_accounts : Request → Bool
is_of_accounts (Hello name token) = true
is_of_accounts (Peer number token version) = true
is_of_accounts (People authors) = true
is_of_accounts other = false

-- whether a step logs in, or asks for display names
abbrev pub looks_at_accounts : Step → Bool
looks_at_accounts (Ask request) = is_of_accounts request
looks_at_accounts other = false

-- whatever the accounts are, a step that neither logs in nor asks for display names has the same result and leaves the same server except for its
-- accounts
abbrev pub AccountsLaw : Type 0
AccountsLaw =
    (accounts : Accounts) → (at : ℕ) → (step : Step) → (s : Server) → looks_at_accounts step ≡ false →
    let done : Moved × Server = server_step at step s in
    server_step at step (with_accounts accounts s) ≡ (done.0, with_accounts accounts done.1)
