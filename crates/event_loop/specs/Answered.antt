-- What the answer to a request that may name a user makes of a client.
use Rattle.std.specs.Prelude.{◌≡◌, ℕ, List, Result, Ok, Err}
use Rattle.std.specs.declared.alloc.AllocError.{AllocError}
use Rattle.pad_model.specs.declared.who.Who.{Who}
use Rattle.sessions.specs.Accounts.{Accounts}
use Rattle.web_wire.specs.PageRequests.{Exchange}
use Rattle.web_wire.specs.declared.page_request.Next.{Next}
use Rattle.web_wire.specs.declared.page_request.Next.TheVariants.{Read, Close, Socket, User}
use Rattle.event_loop.specs.Party.{Board, IsStopped}
use Rattle.event_loop.specs.Users.{SignsIn, TellsUser}
use Rattle.event_loop.specs.declared.party.Stage.TheVariants.{Ends}
use Rattle.event_loop.specs.declared.protocol.Protocol.TheVariants as protocol

-- a client that is to be sent this response, and of which nothing more is read
abbrev pub closed : Board → List ℕ → Board
closed old page = record old { stage = Ends; protocol = protocol.Over; outbox = page }

-- a handshake was answered: the session is that of its user, or it was refused; or memory ran out, and the client is over
abbrev pub Upgraded : Accounts → Exchange → Result Next AllocError → Board → Board → Type 0
Upgraded accounts exchange (Ok Socket) old new =
    (who : Who) × SignsIn accounts exchange.user old.session.who who
    × (new ≡ record old {
      protocol = protocol.Upgrading exchange;
      session = record old.session { who = who };
    })
Upgraded accounts exchange (Ok (Close status)) old new = (page : List ℕ) × (new ≡ closed old page)
Upgraded accounts exchange (Ok Read) old new = ⊥
Upgraded accounts exchange (Ok User) old new = ⊥
Upgraded accounts exchange (Err error) old new = IsStopped old new

-- it was answered who the user of a request is; or memory ran out, and the client is over
abbrev pub Told : Accounts → ℕ → Exchange → Result Next AllocError → Board → Board → Type 0
Told accounts replica exchange (Ok (Close status)) old new =
    (page : List ℕ) × TellsUser accounts replica exchange.user exchange.output page × (new ≡ closed old page)
Told accounts replica exchange (Ok Read) old new = ⊥
Told accounts replica exchange (Ok Socket) old new = ⊥
Told accounts replica exchange (Ok User) old new = ⊥
Told accounts replica exchange (Err error) old new = IsStopped old new

-- a request was refused; or memory ran out, and the client is over
abbrev pub TurnedAway : Result Next AllocError → Board → Board → Type 0
TurnedAway (Ok (Close status)) old new = (page : List ℕ) × (new ≡ closed old page)
TurnedAway (Ok Read) old new = ⊥
TurnedAway (Ok Socket) old new = ⊥
TurnedAway (Ok User) old new = ⊥
TurnedAway (Err error) old new = IsStopped old new
