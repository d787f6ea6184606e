-- What a client's socket gave and got, whatever a worker did with the client.
use Rattle.std.specs.Prelude.{◌≡◌, ◌≢◌, ◌⊎◌, ℕ, List, [], ◌∷◌, ◌++◌, None, Some, Option}
use Rattle.web_wire.specs.Messages.{message_bytes, with_feed}
use Rattle.web_wire.specs.PageRequests.{Exchange, OpensSocket}
use Rattle.web_wire.specs.Socket.{Socket, fresh}
use Rattle.web_wire.specs.declared.page.UserHeader.{UserHeader}
use Rattle.conversation.specs.Laws.{GaveAll, GaveOut, ServesApart}
use Rattle.conversation.specs.Talk.{Talk, silent}
use Rattle.event_loop.specs.Laws.{Course as BrowserCourse}
use Rattle.event_loop.specs.Party.{Apart, Board, CallsPlace, Goes, IsAt, Place}
use Rattle.event_loop.specs.Users.{SignsIn}
use Rattle.event_loop.specs.declared.party.Stage.TheVariants.{Talks, Over}
use Rattle.event_loop.specs.declared.protocol.Protocol.{Protocol}
use Rattle.event_loop.specs.declared.protocol.Protocol.TheVariants as protocol

-- a client after some of its steps
pub data Leads (begun : Board) : Board → Type 0 where
  begins : Leads begun begun
  goes : (now next : Board) → Leads begun now → Goes now next → Leads begun next

-- a client that has just connected and speaks this; its socket will give some bytes, and has got some
pub record Connects (spoken : Protocol) (gives got : List ℕ) (begun : Board) : Type 0 where
  pub stage : begun.stage ≡ Talks
  pub protocol : begun.protocol ≡ spoken
  pub talk : begun.talk ≡ silent
  pub outbox : begun.outbox ≡ []
  pub unread : begun.unread ≡ Some gives
  pub written : begun.written ≡ Some got

-- the bytes that came and those that were written are those of a session: what was written and is still owed are the
-- replies to the first of the lines that came, or to all of them
abbrev pub Answers : Place → List ℕ → List ℕ → Place → Talk → Type 0
Answers start bytes out place talk =
    GaveOut (ServesApart CallsPlace Apart) start bytes out place talk
    ⊎ GaveAll (ServesApart CallsPlace Apart) start bytes out place talk

-- what a client of lines gave and got: its socket lost the bytes that came, and got replies of its session behind what it
-- had; once it is over, perhaps more bytes, whatever they are
pub record IsServed (start : Place) (gives got : List ℕ) (now : Board) : Type 0 where
  pub bytes : List ℕ
  pub rest : List ℕ
  pub out : List ℕ
  pub tail : List ℕ
  pub place : Place
  pub talk : Talk
  pub answers : Answers start bytes out place talk
  pub came : gives ≡ bytes ++ rest
  pub written : now.written ≡ Some (got ++ (out ++ tail))
  pub going : now.stage ≢ Over → (tail ≡ []) × (talk ≡ now.talk) × (now.unread ≡ Some rest)

-- what is sent to a browser's socket: frames that answer frames, and replies
pub data Item : Type 0 where
  frames : List ℕ → Item
  reply : List ℕ → Item

-- the bytes of what is sent
abbrev pub bytes_of : List Item → List ℕ
bytes_of [] = []
bytes_of (frames put ∷ items) = put ++ bytes_of items
bytes_of (reply line ∷ items) = message_bytes line ++ bytes_of items

-- the frames among it that answer frames
abbrev pub frames_of : List Item → List ℕ
frames_of [] = []
frames_of (frames put ∷ items) = put ++ frames_of items
frames_of (reply line ∷ items) = frames_of items

-- the replies among it, as lines
abbrev pub replies_of : List Item → List ℕ
replies_of [] = []
replies_of (frames put ∷ items) = replies_of items
replies_of (reply line ∷ items) = with_feed line ++ replies_of items

-- a session begins at a place as at another, but with the author whom the accounts of the place give for the user that the
-- request of its socket names, if it names one
pub record BeginsAs (user : Option (List ℕ)) (start begun : Place) : Type 0 where
  pub rooms : begun.rooms ≡ start.rooms
  pub who : SignsIn begun.accounts user start.who begun.who

-- what a browser's socket gave and got: a request that may open a socket, and its response; then frames, whose messages
-- are the lines of a conversation, and whole frames of its replies and of answers to frames, in some order. What is not
-- written yet waits in the outbox. The conversation is that of the user whom the request names, or begins as it would
-- without one
pub record IsSocket (start : Place) (gives got : List ℕ) (now : Board) : Type 0 where
  pub origins : List (List ℕ)
  pub users : Option UserHeader
  pub from : ℕ
  pub request : Exchange
  pub after : Exchange
  pub may : OpensSocket origins users from request after
  pub begun : Place
  pub begins : BeginsAs after.user start begun
  pub later : List ℕ
  pub rest : List ℕ
  pub came : gives ≡ request.input ++ (later ++ rest)
  pub unread : now.unread ≡ Some rest
  pub socket : Socket
  pub speaks : now.protocol ≡ protocol.Socket socket
  pub texts : List (List ℕ)
  pub items : List Item
  pub place : Place
  pub course : BrowserCourse CallsPlace Apart begun (fresh after.input) later texts
      (frames_of items) (replies_of items) place socket now.talk
  pub sent : List ℕ
  pub written : now.written ≡ Some (got ++ sent)
  pub all : sent ++ now.outbox ≡ after.output ++ bytes_of items

-- whatever is done with a client of lines, and with others in between, its socket gave and got the course of a session
abbrev pub LinesTurnLaw : Type 0
LinesTurnLaw = (begun now : Board) (gives got : List ℕ) (start : Place)
    → Connects protocol.Lines gives got begun → IsAt begun.session start → Leads begun now
    → IsServed start gives got now

-- whatever is done with a browser, as long as it speaks by a socket and its messages are still answered, its socket gave
-- and got the course of a browser
abbrev pub SocketTurnLaw : Type 0
SocketTurnLaw = (begun now : Board) (gives got : List ℕ) (start : Place) (socket : Socket)
    → Connects (protocol.PageRequest (record { input = []; output = []; user = None })) gives got begun
    → IsAt begun.session start → Leads begun now → now.stage ≡ Talks
    → now.protocol ≡ protocol.Socket socket → IsSocket start gives got now
