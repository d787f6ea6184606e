-- A read of websocket returns the frame at the front of the bytes.
use Rattle.std.proofs.Common.{◌≡◌, ℕ, List, ◌++◌, Result, Ok, Err, refl, sym, ap, ◌∙◌}
use Rattle.std.specs.Prelude.{◌≢◌, true, option_map}
use Rattle.websocket.specs.declared.error.Error.{Error}
use Rattle.websocket.specs.declared.protocol.config.Role.TheVariants.{Server}
use Rattle.websocket.specs.declared.protocol.context.Step.{Step}
use Rattle.websocket.specs.declared.protocol.frame.codec.FrameStatus.{FrameStatus}
use Rattle.websocket.specs.declared.protocol.frame.codec.FrameStatus.TheVariants.{Partial, Complete}
use Rattle.websocket.specs.Connection.{Connection, Effect, read_step}
use Rattle.websocket.specs.Content.{received_content}
use Rattle.websocket.specs.View.{Returns, ReadLeaves, KeepsRest}
use Rattle.web_wire.specs.Messages.{heard_of, is_line, text_of, with_feed}
use Rattle.web_wire.specs.Front.{Desk, IsWhole}
use Rattle.web_wire.specs.declared.heard.Heard.{Heard}
use Rattle.web_wire.specs.declared.heard.Heard.TheVariants.{Line}
use Rattle.web_wire.proofs.Roles.{read_keeps_role, sent_unmasked}

-- a read that succeeds keeps the role
pub role_left : (before after : Connection) (bytes old new : List ℕ) (read : Result (FrameStatus (ℕ × Effect)) Error)
    → read_step before bytes ≡ read → ReadLeaves read before after old new → before.role ≡ Server → after.role ≡ Server
role_left before after bytes old new (Err error) is leaves role = absurd leaves
role_left before after bytes old new (Ok (Partial needed)) is leaves role = ap (λ c. c.role) leaves.0 ∙ role
role_left before after bytes old new (Ok (Complete p)) is leaves role =
    ap (λ c. c.role) leaves.0 ∙ read_keeps_role before bytes p is ∙ role

pub whole_front : (old new : Desk) (step : Step) (heard : Heard) → old.conn.role ≡ Server
    → Returns (read_step old.conn old.bytes) new.bytes (Complete step)
    → ReadLeaves (read_step old.conn old.bytes) old.conn new.conn old.output new.output
    → KeepsRest (Complete step) old.bytes new.bytes
    → heard ≡ heard_of (option_map (received_content new.bytes) step.message)
    → (heard ≡ Line → new.line ≡ old.line ++ with_feed (text_of (option_map (received_content new.bytes) step.message)))
    → (heard ≡ Line → is_line (text_of (option_map (received_content new.bytes) step.message)) ≡ true)
    → (heard ≢ Line → new.line ≡ old.line)
    → IsWhole step.consumed heard old new
whole_front old new step heard role returns leaves keeps heard_is line one other =
    cases (read_step old.conn old.bytes) refl returns leaves
  where
    cases : (read : Result (FrameStatus (ℕ × Effect)) Error) → read_step old.conn old.bytes ≡ read
        → Returns read new.bytes (Complete step) → ReadLeaves read old.conn new.conn old.output new.output
        → IsWhole step.consumed heard old new
    cases (Err error) is back left = absurd back
    cases (Ok (Partial needed)) is back left = absurd (cc back)
    cases (Ok (Complete p)) is back left =
        let same : option_map (received_content new.bytes) step.message ≡ p.1.message = back.1.0 in
        record {
          effect = p.1;
          read = is ∙ ap (λ n. Ok (Complete (n, p.1))) (sym back.0);
          heard_is = heard_is ∙ ap heard_of same;
          next = left.0;
          inside = keeps.0;
          rest = keeps.1;
          sent =
              sent_unmasked new.conn.role p.1.reply old.output new.output
              (role_left old.conn new.conn old.bytes old.output new.output (Ok (Complete p)) is left role) left.1;
          line = λ l. (ap (λ m. is_line (text_of m)) (sym same) ∙ one l, line l ∙ ap (λ m. old.line ++ with_feed (text_of m)) same);
          other = other;
        }
