-- What the frame at the front of the bytes leads to.
use Rattle.std.specs.Prelude.{◌≡◌, ◌≢◌, ◌⊎◌, ℕ, ◌≤◌, true, List, ◌++◌, length, drop, Result, Ok, Err}
use Rattle.websocket.specs.Connection.{Connection, Effect, read_step, failed_connection}
use Rattle.websocket.specs.declared.error.Error.{Error}
use Rattle.websocket.specs.declared.error.Error.TheVariants.{OutOfMemory}
use Rattle.websocket.specs.declared.protocol.frame.codec.FrameStatus.TheVariants.{Partial, Complete}
use Rattle.web_wire.specs.Messages.{heard_of, is_line, text_of, with_feed, frame_bytes}
use Rattle.web_wire.specs.declared.front.Front.{Front}
use Rattle.web_wire.specs.declared.front.Front.TheVariants.{Cut, Whole}
use Rattle.web_wire.specs.declared.heard.Heard.{Heard}
use Rattle.web_wire.specs.declared.heard.Heard.TheVariants.{Line}

-- a connection, the bytes that it is yet to read, and what is given out
pub record Desk : Type 0 where
  pub conn : Connection
  pub bytes : List ℕ
  pub line : List ℕ
  pub output : List ℕ

-- there is no complete frame, and nothing has changed
abbrev pub IsCut : Desk → Desk → Type 0
IsCut old new = ((needed : ℕ) × (read_step old.conn old.bytes ≡ Ok (Partial needed))) × (new ≡ old)

-- a frame of this many bytes was read: its answer was sent, and its line was given out if it is one
pub record IsWhole (count : ℕ) (heard : Heard) (old new : Desk) : Type 0 where
  pub effect : Effect
  pub read : read_step old.conn old.bytes ≡ Ok (Complete (count, effect))
  pub heard_is : heard ≡ heard_of effect.message
  pub next : new.conn ≡ effect.next
  pub inside : count ≤ length old.bytes
  pub rest : drop count new.bytes ≡ drop count old.bytes
  pub sent : new.output ≡ old.output ++ frame_bytes effect.reply
  pub line : heard ≡ Line → (is_line (text_of effect.message) ≡ true)
      × (new.line ≡ old.line ++ with_feed (text_of effect.message))
  pub other : heard ≢ Line → new.line ≡ old.line

-- the read failed as websocket says, and sent nothing; or memory ran out
pub record IsFailed (error : Error) (old new : Desk) : Type 0 where
  pub cause : (error ≡ OutOfMemory) ⊎ ((read_step old.conn old.bytes ≡ Err error)
      × (new.conn ≡ failed_connection old.conn) × (new.output ≡ old.output))
  pub line : new.line ≡ old.line

-- what the result of a read says
abbrev pub Reads : Result Front Error → Desk → Desk → Type 0
Reads (Ok Cut) old new = IsCut old new
Reads (Ok (Whole count heard)) old new = IsWhole count heard old new
Reads (Err error) old new = IsFailed error old new
