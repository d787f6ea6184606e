-- A socket between two calls, and what a call takes of what is to come.
use Rattle.std.specs.Prelude.{◌≡◌, ℕ, Bool, true, false, if◌then◌else◌, List, [], ◌∷◌, ◌++◌, None, Some}
use Rattle.websocket.specs.Connection.{Connection}
use Rattle.websocket.specs.declared.protocol.config.Role.TheVariants.{Server}
use Rattle.websocket.specs.declared.protocol.state.WebSocketState.TheVariants.{Active}
use Rattle.web_wire.specs.declared.frames.TheConstants.{LONGEST_MESSAGE}
use Rattle.web_wire.specs.Course.{Course, closes, before, course_of}
use Rattle.web_wire.specs.Messages.{is_line, with_feed}

-- the state of the connection, the unused bytes, and whether the socket is closed
pub record Socket : Type 0 where
  pub conn : Connection
  pub waiting : List ℕ
  pub ended : Bool

-- a connection after its handshake, with the limits of a server of lines
abbrev pub opened : Connection
opened = record {
  role = Server;
  state = Active;
  config = record {
    max_message_size = Some LONGEST_MESSAGE;
    max_frame_size = Some LONGEST_MESSAGE;
    accept_unmasked_frames = false;
  };
  fragments = None;
}

-- a socket after its handshake, with the bytes that followed the request
abbrev pub fresh : List ℕ → Socket
fresh bytes = record { conn = opened; waiting = bytes; ended = false }

-- the socket after more bytes arrived
abbrev pub fed : Socket → List ℕ → Socket
fed socket bytes = record socket { waiting = socket.waiting ++ bytes }

-- what a socket leads to if these bytes still arrive
abbrev pub course : Socket → List ℕ → Course
course socket more = if socket.ended then closes []
    else course_of socket.conn (socket.waiting ++ more)

-- these lines and sent bytes are the first that the socket leads to, whatever bytes still arrive
abbrev pub Comes : List (List ℕ) → List ℕ → Socket → Socket → Type 0
Comes lines sent old new = (more : List ℕ) → course old more ≡ before lines sent (course new more)

-- these lines and some sent bytes are the first that the socket leads to, and the sent bytes were appended
abbrev pub GoesOn : List (List ℕ) → Socket → List ℕ → Socket → List ℕ → Type 0
GoesOn lines old output new put = (sent : List ℕ) × (put ≡ output ++ sent)
    × Comes lines sent old new

-- the first line was taken, and appended with its line feed
abbrev pub GivesLine : Socket → List ℕ → List ℕ → Socket → List ℕ → List ℕ → Type 0
GivesLine old given output new gives put =
    (line : List ℕ) × (is_line line ≡ true) × (gives ≡ given ++ with_feed line)
    × GoesOn (line ∷ []) old output new put
