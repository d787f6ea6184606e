-- One client: what its socket still gives and what it got, what it speaks, its conversation and its session.
use Rattle.std.specs.Prelude.{◌≡◌, ◌≢◌, ◌⊎◌, ℕ, true, false, if◌then◌else◌, List, [], ◌∷◌, ◌++◌, Option, take, length, ◌-◌, Err}
use Rattle.std.specs.List.{list_any}
use Rattle.std.specs.Io.KnownBytes.{Appends, Consumes}
use Rattle.pad_model.specs.declared.refusal.Refusal.TheVariants.{Memory}
use Rattle.pad_model.specs.declared.who.Who.{Who}
use Rattle.pad_core.specs.declared.request.Request.{Request}
use Rattle.sessions.specs.Accounts.{Accounts}
use Rattle.sessions.specs.Session.{Session}
use Rattle.sessions.specs.declared.session.Room.{Room}
use Rattle.shared_pads.specs.declared.seat.Seat.{Seat}
use Rattle.web_wire.specs.Course.{farewell}
use Rattle.web_wire.specs.Messages.{is_feed, is_line, message_bytes, with_feed}
use Rattle.web_wire.specs.PageRequests.{AsksUser, Exchange, OpensSocket, ServesPage}
use Rattle.web_wire.specs.Socket.{Comes, Socket, fed, fresh}
use Rattle.web_wire.specs.declared.page.Page.{Page}
use Rattle.web_wire.specs.declared.page.UserHeader.{UserHeader}
use Rattle.websocket.specs.declared.protocol.frame.coding.CloseCode.TheVariants.{Away}
use Rattle.wire_json.specs.Replies.{line_of}
use Rattle.conversation.specs.PadTable.{RowAsked}
use Rattle.conversation.specs.Session.{Answer}
use Rattle.conversation.specs.Talk.{AnswersFirst, AnswersLast, Talk, TellsLong, heard, unwritten}
use Rattle.event_loop.specs.Users.{SignsIn, TellsUser}
use Rattle.event_loop.specs.declared.accept.TheConstants.{FULL_PAGE}
use Rattle.event_loop.specs.declared.party.Stage.{Stage}
use Rattle.event_loop.specs.declared.party.Stage.TheVariants.{Talks, Ends, Over}
use Rattle.event_loop.specs.declared.protocol.Protocol.{Protocol}
use Rattle.event_loop.specs.declared.protocol.Protocol.TheVariants as protocol

-- a client: how far it is, what it speaks, its session and its conversation, the bytes that a browser is still to be
-- sent, and the bytes that its socket still gives and those that it got, if they are known
pub record Board : Type 0 where
  pub stage : Stage
  pub protocol : Protocol
  pub session : Session
  pub talk : Talk
  pub outbox : List ℕ
  pub unread : Option (List ℕ)
  pub written : Option (List ℕ)

-- a session as a thread serves it: the server's number, its accounts and its cells, who the session belongs to and its
-- rooms, and the thread's seats
pub record Place : Type 0 where
  pub replica : ℕ
  pub accounts : Accounts
  pub cells : List ℕ
  pub who : Who
  pub rooms : List Room
  pub seats : List Seat

-- a request of a session is answered by the server's row, by the thread's seats
abbrev pub CallsPlace : Place → Request → Answer → Place → Type 0
CallsPlace old request answer new = RowAsked old.replica old.accounts old.cells old.who
    (record { rooms = old.rooms; seats = old.seats }) request answer new.who
    (record { rooms = new.rooms; seats = new.seats })

-- others used the seats, the accounts were replaced, or another thread serves the session: the session is unchanged
abbrev pub Apart : Place → Place → Type 0
Apart old new = (new.who ≡ old.who) × (new.rooms ≡ old.rooms)

-- a place serves a session
abbrev pub IsAt : Session → Place → Type 0
IsAt session place = (place.who ≡ session.who) × (place.rooms ≡ session.rooms)

-- bytes of the socket came to what the client speaks
abbrev pub ComesTo : Protocol → List ℕ → Board → Board → Type 0
ComesTo protocol.Lines bytes old new = new
    ≡ record old { unread = new.unread; talk = heard old.talk bytes }
ComesTo (protocol.PageRequest exchange) bytes old new = new ≡ record old {
  unread = new.unread;
  protocol = protocol.PageRequest (record exchange { input = exchange.input ++ bytes });
}
ComesTo (protocol.Upgrading exchange) bytes old new = ⊥
ComesTo (protocol.Socket socket) bytes old new = new
    ≡ record old { unread = new.unread; protocol = protocol.Socket (fed socket bytes) }
ComesTo protocol.Over bytes old new = ⊥

-- bytes of a socket were taken as a message, or as frames without one; frames that answer them are to be sent
abbrev pub Hears : Socket → Socket → List ℕ → Talk → Talk → Type 0
Hears old new put talk talked =
    (Comes [] put old new × (talked ≡ talk))
    ⊎ ((text : List ℕ) × (is_line text ≡ true) × Comes (text ∷ []) put old new
    × (talked ≡ heard talk (with_feed text)))

-- what a client is told once, after which nothing follows, when memory ran out
abbrev pub tale_of : Protocol → List ℕ
tale_of protocol.Lines = line_of (Err Memory)
tale_of (protocol.PageRequest exchange) = FULL_PAGE.now
tale_of (protocol.Upgrading exchange) = FULL_PAGE.now
tale_of (protocol.Socket socket) = message_bytes
    (take (length (line_of (Err Memory)) - 1) (line_of (Err Memory)))
tale_of protocol.Over = FULL_PAGE.now

-- what a socket is told when the server no longer serves it, unless it has ended
abbrev pub IsFarewell : Protocol → List ℕ → Type 0
IsFarewell (protocol.Socket socket) tale = tale
    ≡ (if socket.ended then [] else farewell socket.conn Away)
IsFarewell other tale = ⊥

-- what a client is told once
abbrev pub IsTale : Protocol → List ℕ → Type 0
IsTale spoken tale = (tale ≡ tale_of spoken) ⊎ IsFarewell spoken tale

-- a request over HTTP that is not answered yet, or whose answer opens a socket
abbrev pub IsRequest : Protocol → Type 0
IsRequest (protocol.PageRequest exchange) = Unit {0}
IsRequest (protocol.Upgrading exchange) = Unit {0}
IsRequest other = ⊥

-- while a request is not answered, nothing is to be sent
abbrev pub IsIdle : Protocol → List ℕ → Type 0
IsIdle (protocol.PageRequest exchange) bytes = bytes ≡ []
IsIdle (protocol.Upgrading exchange) bytes = bytes ≡ []
IsIdle other bytes = Unit {0}

-- the first replies went to the socket
abbrev pub PutsReplies : Board → Board → Type 0
PutsReplies old new = (out : List ℕ) × Appends old.written new.written out
    × (old.talk.replies ≡ out ++ new.talk.replies)
    × (new ≡ record old { written = new.written; talk = unwritten old.talk new.talk.replies })

-- the first of the bytes for a browser went to the socket
abbrev pub PutsOut : Board → Board → Type 0
PutsOut old new = (out : List ℕ) × Appends old.written new.written out
    × (old.outbox ≡ out ++ new.outbox)
    × (new ≡ record old { written = new.written; outbox = new.outbox })

-- replies went to a client of lines, or bytes to a browser
abbrev pub GoesOut : Protocol → Board → Board → Type 0
GoesOut protocol.Lines old new = PutsReplies old new
GoesOut other old new = PutsOut old new

-- a client was told this, as far as its socket took it, and nothing more is read or written
abbrev pub IsTold : List ℕ → Board → Board → Type 0
IsTold tale old new = (out rest : List ℕ) × Appends old.written new.written out × (tale ≡ out ++ rest)
    × (new.stage ≡ Over) × (new.unread ≡ old.unread)

-- nothing more is read or written
abbrev pub IsStopped : Board → Board → Type 0
IsStopped old new = (new.stage ≡ Over) × (new.written ≡ old.written)

-- a handshake from this address was answered, by which a page may open the socket, and from then on the session is that of
-- the author whom the accounts give for the user that the handshake names
pub record Upgrades (origins : List (List ℕ)) (users : Option UserHeader) (from : ℕ) (accounts : Accounts)
    (old new : Board) : Type 0 where
  pub exchange : Exchange
  pub after : Exchange
  pub was : old.protocol ≡ protocol.PageRequest exchange
  pub may : OpensSocket origins users from exchange after
  pub who : Who
  pub signs : SignsIn accounts after.user old.session.who who
  pub same : new ≡ record old {
    protocol = protocol.Upgrading after;
    session = record old.session { who = who };
  }

-- one step of a client
pub data Goes (old new : Board) : Type 0 where
  -- nothing happened
  stays : new ≡ old → Goes old new
  -- bytes came from the socket
  reads : old.stage ≡ Talks → (bytes : List ℕ) → Consumes old.unread new.unread bytes
      → ComesTo old.protocol bytes old new → Goes old new
  -- the first line was answered, at some place that serves the session
  answers : old.stage ≡ Talks → (before after : Place) → IsAt old.session before
      → IsAt new.session after → old.talk.cut ≡ false
      → AnswersFirst CallsPlace before old.talk after new.talk
      → new ≡ record old { session = new.session; talk = new.talk } → Goes old new
  -- the first line is too long, and the reply says so
  long : old.stage ≡ Talks → old.talk.cut ≡ false → TellsLong old.talk new.talk
      → new ≡ record old { talk = new.talk } → Goes old new
  -- no more bytes come, and the last line was answered
  last : old.stage ≡ Talks → (before after : Place) → IsAt old.session before
      → IsAt new.session after → old.talk.cut ≡ false
      → AnswersLast CallsPlace before old.talk after new.talk
      → new ≡ record old { stage = Ends; session = new.session; talk = new.talk } → Goes old new
  -- no more bytes come, and there is no last line
  ends : old.stage ≡ Talks → old.talk.cut ≡ false → old.talk.waiting ≡ []
      → new ≡ record old { stage = Ends } → Goes old new
  -- a message of a socket became a line
  hears : old.stage ≡ Talks → (socket next : Socket) → old.protocol ≡ protocol.Socket socket
      → (put : List ℕ) → Hears socket next put old.talk new.talk
      → new ≡ record old {
        protocol = protocol.Socket next;
        outbox = old.outbox ++ put;
        talk = new.talk;
      } → Goes old new
  -- the first reply became a message
  says : old.stage ≢ Over → (socket : Socket) → old.protocol ≡ protocol.Socket socket → (line : List ℕ)
      → list_any is_feed line ≡ false → old.talk.replies ≡ with_feed line ++ new.talk.replies
      → new ≡ record old {
        talk = unwritten old.talk new.talk.replies;
        outbox = old.outbox ++ message_bytes line;
      } → Goes old new
  -- bytes went to the socket
  writes : old.stage ≢ Over → GoesOut old.protocol old new → Goes old new
  -- a handshake was answered; a page may open the socket, and its user is the session's author
  upgrades : old.stage ≡ Talks → (origins : List (List ℕ)) (users : Option UserHeader) (from : ℕ)
      (accounts : Accounts) → Upgrades origins users from accounts old new → Goes old new
  -- the socket is open: the bytes behind the request are its first ones
  opens : old.stage ≡ Talks → (exchange : Exchange) → old.protocol ≡ protocol.Upgrading exchange
      → new ≡ record old {
        protocol = protocol.Socket (fresh exchange.input);
        outbox = exchange.output;
      } → Goes old new
  -- a request was answered, with a page only if it asks for this page, and nothing more is read
  closes : old.stage ≡ Talks → (pages : List Page) (users : Option UserHeader) (from : ℕ)
      (exchange after : Exchange) (status : ℕ) → old.protocol ≡ protocol.PageRequest exchange
      → (status ≡ 200 → ServesPage pages users from exchange after)
      → new ≡ record old { stage = Ends; protocol = protocol.Over; outbox = after.output }
      → Goes old new
  -- it was answered who the user of a request is, and nothing more is read
  tells_user : old.stage ≡ Talks → (users : Option UserHeader) (from : ℕ) (accounts : Accounts)
      (replica : ℕ) (exchange after : Exchange) → old.protocol ≡ protocol.PageRequest exchange
      → AsksUser users from exchange after → (page : List ℕ)
      → TellsUser accounts replica after.user after.output page
      → new ≡ record old { stage = Ends; protocol = protocol.Over; outbox = page } → Goes old new
  -- a request was refused because the server is full, or its user is no author, and nothing more is read
  refuses : old.stage ≡ Talks → IsRequest old.protocol → (page : List ℕ)
      → new ≡ record old { stage = Ends; protocol = protocol.Over; outbox = page }
      → Goes old new
  -- nothing is owed, and the client was told once why it is no longer served
  tells : old.stage ≢ Over → old.talk.replies ≡ [] → old.outbox ≡ [] → (tale : List ℕ)
      → IsTale old.protocol tale → IsTold tale old new → Goes old new
  -- nothing more is read or written
  stops : IsStopped old new → Goes old new
