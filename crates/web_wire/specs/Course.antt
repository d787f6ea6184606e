-- What the bytes of a socket lead to: its lines, what is sent in answer to its frames, and whether it is closed. Bytes
-- are read frame by frame, by websocket's `read_step`.
use Rattle.std.specs.Prelude.{ℕ, zero, suc, Bool, true, false, List, [], ◌∷◌, ◌++◌, length, drop, Some, Result, Ok, Err}
use Rattle.websocket.specs.Connection.{Connection, Effect, read_step, close_step, failed_connection}
use Rattle.websocket.specs.declared.error.Error.{Error}
use Rattle.websocket.specs.declared.error.Error.TheVariants as Failed
use Rattle.websocket.specs.declared.protocol.frame.codec.FrameStatus.{FrameStatus}
use Rattle.websocket.specs.declared.protocol.frame.codec.FrameStatus.TheVariants.{Partial, Complete}
use Rattle.websocket.specs.declared.protocol.frame.coding.CloseCode.{CloseCode}
use Rattle.websocket.specs.declared.protocol.frame.coding.CloseCode.TheVariants.{Size, Invalid, Protocol}
use Rattle.web_wire.specs.Messages.{heard_of, text_of, frame_bytes}
use Rattle.web_wire.specs.declared.heard.Heard.{Heard}
use Rattle.web_wire.specs.declared.heard.Heard.TheVariants.{Nothing, Line, Closed, Refused}

-- the lines of the messages, the bytes that are sent in answer to frames, and whether the socket is closed
pub record Course : Type 0 where
  pub lines : List (List ℕ)
  pub sent : List ℕ
  pub closed : Bool

-- the bytes lead to nothing yet
abbrev pub waits : Course
waits = record { lines = []; sent = []; closed = false }

-- the socket is closed after these bytes are sent
abbrev pub closes : List ℕ → Course
closes sent = record { lines = []; sent = sent; closed = true }

-- lines and sent bytes, followed by the rest
abbrev pub before : List (List ℕ) → List ℕ → Course → Course
before lines sent rest =
    record { lines = lines ++ rest.lines; sent = sent ++ rest.sent; closed = rest.closed }

-- the bytes that a step of the protocol sends
abbrev pub sent_by : Result Effect Error → List ℕ
sent_by (Ok effect) = frame_bytes effect.reply
sent_by (Err error) = []

-- the close frame with a code, if one may still be sent
abbrev pub farewell : Connection → CloseCode → List ℕ
farewell conn code = sent_by (close_step conn (Some (code, [])))

-- the code that answers a failed read
abbrev pub close_code : Error → CloseCode
close_code Failed.ConnectionClosed = Protocol
close_code Failed.AlreadyClosed = Protocol
close_code (Failed.Capacity cause) = Size
close_code (Failed.Protocol cause) = Protocol
close_code Failed.Utf8 = Invalid
close_code Failed.OutOfMemory = Protocol

-- what a frame leads to, followed by what those after it lead to
abbrev pub takes : Heard → Effect → Course → Course
takes Nothing effect rest = before [] (frame_bytes effect.reply) rest
takes Line effect rest = before (text_of effect.message ∷ []) (frame_bytes effect.reply) rest
takes Closed effect rest = closes (frame_bytes effect.reply)
takes (Refused code) effect rest = closes (frame_bytes effect.reply ++ farewell effect.next code)

-- what bytes lead to, by the result of the first read
abbrev pub course_after : (Connection → List ℕ → Course) → Connection → List ℕ
    → Result (FrameStatus (ℕ × Effect)) Error → Course
course_after others conn bytes (Err error) = closes
    (farewell (failed_connection conn) (close_code error))
course_after others conn bytes (Ok (Partial needed)) = waits
course_after others conn bytes (Ok (Complete p)) =
    takes (heard_of p.1.message) p.1 (others p.1.next (drop p.0 bytes))

-- what bytes lead to with at most this many reads
unfoldable pub course_times : ℕ → Connection → List ℕ → Course
course_times zero conn bytes = waits
course_times (suc count) conn bytes = course_after (course_times count) conn bytes
    (read_step conn bytes)

-- what bytes lead to: each frame has at least one byte, so as many reads as bytes are enough
abbrev pub course_of : Connection → List ℕ → Course
course_of conn bytes = course_times (suc (length bytes)) conn bytes
