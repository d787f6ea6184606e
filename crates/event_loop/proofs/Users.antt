-- A request whose user a proxy names: who the session becomes, and what is answered.
use Rattle.std.proofs.Common.{◌≡◌, ◌⊎◌, inl, inr, ℕ, List, [], Option, None, Some, Result, Ok, Err, OnErr, OnOk, ap, ◌∙◌, sym, subst}
use Rattle.std.specs.Prelude.{IfOk}
use Rattle.std.specs.declared.alloc.AllocError.{AllocError}
use Rattle.pad_model.specs.declared.who.Who.{Who}
use Rattle.sessions.specs.Accounts.{Accounts}
use Rattle.sessions.specs.Session.{Session}
use Rattle.sessions.specs.declared.users.Stranger.{Stranger}
use Rattle.web_wire.specs.PageRequests.{Exchange, PutsUser}
use Rattle.web_wire.specs.declared.page_request.Next.{Next}
use Rattle.web_wire.specs.declared.page_request.Next.TheVariants as then
use Rattle.event_loop.specs.Answered.{Told, TurnedAway, closed}
use Rattle.event_loop.specs.Party.{Board, IsStopped}
use Rattle.event_loop.specs.Users.{IsStranger, IsUserLine, SignsIn, TellsUser}
use Rattle.event_loop.specs.declared.protocol.Protocol.{Protocol}
use Rattle.event_loop.specs.declared.protocol.Protocol.TheVariants as protocol

request_of : Protocol → Exchange
request_of protocol.Lines = record { input = []; output = []; user = None }
request_of (protocol.PageRequest exchange) = exchange
request_of (protocol.Upgrading exchange) = exchange
request_of (protocol.Socket socket) = record { input = []; output = []; user = None }
request_of protocol.Over = record { input = []; output = []; user = None }

-- a request is the one that the client speaks
pub same_request : (spoken : Protocol) (one other : Exchange) → spoken ≡ protocol.PageRequest one
    → spoken ≡ protocol.PageRequest other → one ≡ other
unfolding request_of
same_request spoken one other first second = ap request_of (sym first ∙ second)

-- the session of a handshake's user
pub signed_up : (accounts : Accounts) (exchange request : Exchange) (old : Board) (session : Session) → request ≡ exchange
    → SignsIn accounts request.user old.session.who session.who → session ≡ record old.session { who = session.who }
    → (x : Who) × SignsIn accounts exchange.user old.session.who x
    × (record old { protocol = protocol.Upgrading request; session = session }
    ≡ record old { protocol = protocol.Upgrading exchange; session = record old.session { who = x } })
signed_up accounts exchange request old session same signs only = (
  session.who,
  subst (λ (x : Exchange). SignsIn accounts x.user old.session.who session.who) same signs,
  ap (λ x. record old { protocol = protocol.Upgrading x; session = session }) same
      ∙ ap (λ s. record old { protocol = protocol.Upgrading exchange; session = s }) only,
)

-- a refusal is to be sent, and nothing more is read; or memory ran out, and the client is over
pub turned : (old mid new : Board) (told result : Result Next AllocError) (output : List ℕ) → mid ≡ old → result ≡ told
    → IfOk told (λ next. (next ≡ then.Close 403) ⊎ (next ≡ then.Close 500)) → OnOk told (new ≡ closed mid output)
    → OnErr told (IsStopped mid new) → TurnedAway result old new
turned old mid new told result output same is closes ok err =
    subst (λ r. TurnedAway r old new) (sym is) (subst (λ (b : Board). TurnedAway told b new) same (by told closes ok err))
  where
    by : (r : Result Next AllocError) → IfOk r (λ next. (next ≡ then.Close 403) ⊎ (next ≡ then.Close 500))
        → OnOk r (new ≡ closed mid output) → OnErr r (IsStopped mid new) → TurnedAway r mid new
    by (Ok (then.Close status)) closes ok err = (output, ok)
    by (Ok then.Read) closes ok err = elim closes [ inl is ↦ absurd (cc) | inr is ↦ absurd (cc) ]
    by (Ok then.Socket) closes ok err = elim closes [ inl is ↦ absurd (cc) | inr is ↦ absurd (cc) ]
    by (Ok then.User) closes ok err = elim closes [ inl is ↦ absurd (cc) | inr is ↦ absurd (cc) ]
    by (Err error) closes ok err = err

-- what is told of a user
module _ (accounts : Accounts) (replica : ℕ) (exchange : Exchange) where
  pub tells_line : (user : Option (List ℕ)) (line : List ℕ) → exchange.user ≡ user → IsUserLine accounts replica user line
      → (page : List ℕ) → PutsUser line exchange.output page ⊎ (page ≡ exchange.output)
      → TellsUser accounts replica exchange.user exchange.output page
  tells_line None line names is page puts =
      subst (λ u. TellsUser accounts replica u exchange.output page) (sym names)
      (subst (λ text. PutsUser text exchange.output page ⊎ (page ≡ exchange.output)) is puts)
  tells_line (Some user) line names (name, author, is) page puts =
      subst (λ u. TellsUser accounts replica u exchange.output page) (sym names)
      (elim puts [
        | inl put ↦ inl (name, author, subst (λ text. PutsUser text exchange.output page) is put)
        | inr same ↦ inr (inr same)
      ])

  module _ (old mid new : Board) (so : mid ≡ record old { protocol = protocol.Over }) where
    closed_as : (page : List ℕ) → new ≡ closed mid page → new ≡ closed old page
    closed_as page same = same ∙ ap (λ (b : Board). closed b page) so

    pub stopped_so : IsStopped mid new → IsStopped old new
    stopped_so stopped = (stopped.0, stopped.1 ∙ ap (λ (b : Board). b.written) so)

    pub told_stranger : (user : Option (List ℕ)) (why : Stranger) → exchange.user ≡ user
        → IsStranger accounts user why → (result : Result Next AllocError) → TurnedAway result mid new
        → Told accounts replica exchange result old new
    told_stranger None why names stranger result turned = elim stranger [ ]
    told_stranger (Some user) why names stranger (Ok (then.Close status)) (page, same) = (
      page,
      subst (λ u. TellsUser accounts replica u exchange.output page) (sym names) (inr (inl stranger.0)),
      closed_as page same,
    )
    told_stranger (Some user) why names stranger (Ok then.Read) turned = elim turned [ ]
    told_stranger (Some user) why names stranger (Ok then.Socket) turned = elim turned [ ]
    told_stranger (Some user) why names stranger (Ok then.User) turned = elim turned [ ]
    told_stranger (Some user) why names stranger (Err error) stopped = stopped_so stopped

    pub told_line : (after : Exchange) (text : List ℕ) (told : Result Next AllocError)
        → IfOk told (λ next. (next ≡ then.Close 200) ⊎ (next ≡ then.Close 500))
        → (told ≡ Ok (then.Close 200) → PutsUser text exchange.output after.output)
        → (told ≡ Ok (then.Close 500) → after ≡ exchange) → OnOk told (new ≡ closed mid after.output)
        → OnErr told (IsStopped mid new)
        → ((page : List ℕ) → PutsUser text exchange.output page ⊎ (page ≡ exchange.output)
        → TellsUser accounts replica exchange.user exchange.output page)
        → Told accounts replica exchange told old new
    told_line after text (Ok (then.Close status)) closes puts failed ok err tells = (
      after.output,
      tells after.output (elim closes [
        | inl is ↦ inl (puts (ap Ok is))
        | inr is ↦ inr (ap (λ (x : Exchange). x.output) (failed (ap Ok is)))
      ]),
      closed_as after.output ok,
    )
    told_line after text (Ok then.Read) closes puts failed ok err tells =
        elim closes [ inl is ↦ absurd (cc) | inr is ↦ absurd (cc) ]
    told_line after text (Ok then.Socket) closes puts failed ok err tells =
        elim closes [ inl is ↦ absurd (cc) | inr is ↦ absurd (cc) ]
    told_line after text (Ok then.User) closes puts failed ok err tells =
        elim closes [ inl is ↦ absurd (cc) | inr is ↦ absurd (cc) ]
    told_line after text (Err error) closes puts failed ok err tells = stopped_so err
