-- Messages as lines: which line a message is, and the bytes of one that a server sends.
use Rattle.std.specs.Prelude.{ℕ, Bool, not, ◌&&◌, ◌==◌, nat_lt, if◌then◌else◌, List, [], ◌∷◌, ◌++◌, length, Option, None, Some}
use Rattle.std.specs.List.{list_any}
use Rattle.websocket.specs.Connection.{Outgoing, whole_header}
use Rattle.websocket.specs.Content.{Content, text, binary, ping, pong, close}
use Rattle.websocket.specs.Frame.{encode_frame}
use Rattle.websocket.specs.declared.protocol.frame.coding.CloseCode.TheVariants.{Policy, Unsupported}
use Rattle.websocket.specs.declared.protocol.frame.coding.Data.TheVariants.{Text}
use Rattle.websocket.specs.declared.protocol.frame.coding.OpCode.TheVariants.{Data}
use Rattle.web_wire.specs.declared.heard.Heard.{Heard}
use Rattle.web_wire.specs.declared.heard.Heard.TheVariants.{Nothing, Line, Closed, Refused}

-- whether a byte is a line feed
abbrev pub is_feed : ℕ → Bool
is_feed byte = byte == 10

-- whether a text is one line: it is not empty, and has no line feed
abbrev pub is_line : List ℕ → Bool
is_line bytes = nat_lt 0 (length bytes) && not (list_any is_feed bytes)

-- a line as it is given out
abbrev pub with_feed : List ℕ → List ℕ
with_feed line = line ++ 10 ∷ []

-- what a message means to a server of lines: a text that is one line is a line, and other texts and binary bytes are
-- refused
abbrev pub heard_of : Option Content → Heard
heard_of None = Nothing
heard_of (Some (text bytes)) = if is_line bytes then Line else Refused Policy
heard_of (Some (binary bytes)) = Refused Unsupported
heard_of (Some (ping bytes)) = Nothing
heard_of (Some (pong bytes)) = Nothing
heard_of (Some (close frame)) = Closed

-- the text of a message
abbrev pub text_of : Option Content → List ℕ
text_of None = []
text_of (Some (text bytes)) = bytes
text_of (Some (binary bytes)) = []
text_of (Some (ping bytes)) = []
text_of (Some (pong bytes)) = []
text_of (Some (close frame)) = []

-- the bytes of a frame that a server sends, if it sends one: unfragmented and unmasked
abbrev pub frame_bytes : Option Outgoing → List ℕ
frame_bytes None = []
frame_bytes (Some frame) = encode_frame (whole_header frame.opcode None) frame.payload

-- a line as a text message
abbrev pub message_bytes : List ℕ → List ℕ
message_bytes line = frame_bytes (Some (record { opcode = Data Text; payload = line }))
