-- New accounts change only who may log in, and display names.
use Rattle.std.proofs.Common.{◌≡◌, ℕ, false, List, Option, None, Some, refl, ap}
use Rattle.std.specs.List.{slice_get}
use Rattle.sessions.specs.Accounts.{Accounts}
use Rattle.pad_core.specs.Machine.{Machine}
use Rattle.pad_core.specs.declared.request.Request.TheVariants.{Hello, Peer, Create, Pads, People, On}
use Rattle.server_core.specs.Actor.{Actor}
use Rattle.server_core.specs.LogIns.{AccountsLaw, looks_at_accounts}
use Rattle.server_core.specs.Machine.{Server, server_step, with_accounts, with_actor}
use Rattle.server_core.specs.Steps.{actor_step}
use Rattle.server_core.specs.declared.step.Step.{Step}
use Rattle.server_core.specs.declared.step.Step.TheVariants.{Ask, Move, Look, Relay, End}

-- an actor's step is the same under any accounts
same_step : (replica : ℕ) (one other : Accounts) (step : Step) (a : Actor) (cells : List Machine) → looks_at_accounts step ≡ false →
    actor_step replica one step a cells ≡ actor_step replica other step a cells
same_step replica one other (Ask (Hello name token)) a cells h = absurd (cc)
same_step replica one other (Ask (Peer number token version)) a cells h = absurd (cc)
same_step replica one other (Ask (Create name)) a cells h = refl
same_step replica one other (Ask Pads) a cells h = refl
same_step replica one other (Ask (People authors)) a cells h = absurd (cc)
same_step replica one other (Ask (On name act)) a cells h = refl
same_step replica one other Move a cells h = refl
same_step replica one other (Look cell) a cells h = refl
same_step replica one other (Relay number) a cells h = refl
same_step replica one other End a cells h = refl

by_actor : (accounts : Accounts) (at : ℕ) (step : Step) (s : Server) (o : Option Actor) → slice_get s.actors at ≡ o →
    looks_at_accounts step ≡ false → server_step at step (with_accounts accounts s)
    ≡ ((server_step at step s).0, with_accounts accounts (server_step at step s).1)
by_actor accounts at step s None e h = rw e refl
by_actor accounts at step s (Some a) e h = rw e
    (ap (with_actor at (with_accounts accounts s)) (same_step s.replica accounts s.accounts step a s.cells h))

-- a step that neither logs in nor asks for display names is the same under any accounts
pub others_go_on : AccountsLaw
others_go_on accounts at step s h = by_actor accounts at step s (slice_get s.actors at) refl h
