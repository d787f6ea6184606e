-- Reading a frame keeps the role of each side, so a server's frames have no mask.
use Rattle.std.proofs.Common.{◌≡◌, ℕ, Bool, true, false, List, ◌++◌, length, Option, None, Some, Result, Ok, Err, refl, sym, ap, subst, ◌∙◌, append-nil, arith}
use Rattle.websocket.specs.declared.error.Error.{Error}
use Rattle.std.specs.Prelude.{[], is_some}
use Rattle.websocket.specs.declared.protocol.config.Role.{Role}
use Rattle.websocket.specs.declared.protocol.config.Role.TheVariants.{Server}
use Rattle.websocket.specs.declared.protocol.incomplete.MessageType.{MessageType}
use Rattle.websocket.specs.declared.protocol.incomplete.MessageType.TheVariants as Kind
use Rattle.websocket.specs.declared.protocol.frame.coding.CloseCode.{CloseCode}
use Rattle.websocket.specs.declared.protocol.frame.coding.OpCode.{OpCode}
use Rattle.websocket.specs.declared.protocol.frame.coding.OpCode.TheVariants as Op
use Rattle.websocket.specs.declared.protocol.frame.coding.Data.{Data}
use Rattle.websocket.specs.declared.protocol.frame.coding.Data.TheVariants.{Continue, Text, Binary}
use Rattle.websocket.specs.declared.protocol.frame.coding.Control.{Control}
use Rattle.websocket.specs.declared.protocol.frame.coding.Control.TheVariants.{Close, Ping, Pong}
use Rattle.websocket.specs.declared.protocol.frame.codec.FrameStatus.TheVariants.{Complete}
use Rattle.websocket.specs.declared.protocol.state.WebSocketState.{WebSocketState}
use Rattle.websocket.specs.Frame.{check_size, after_check, Checked, encode_frame}
use Rattle.websocket.specs.View.{Leaves}
use Rattle.websocket.specs.Content.{Content}
use Rattle.websocket.specs.Connection.{Connection, Effect, Outgoing, Sends, can_write, has_allowed_code, decode_close, on_close, on_short_control, on_control, complete_message, check_so_far, deliver, on_message_bytes, on_data_after, on_data, check_header, on_opcode, on_frame, read_step, whole_header, close_step, close_to, closing_state, check_close}
use Rattle.websocket.proofs.StreamLemmas.{after_check_passed, TookFrame_from_read}
use Rattle.web_wire.specs.Messages.{frame_bytes}
use Rattle.web_wire.specs.Course.{farewell, sent_by}

-- the effect keeps the role
abbrev Keeps : Connection → Result Effect Error → Type 0
Keeps conn result = (effect : Effect) → result ≡ Ok effect → effect.next.role ≡ conn.role

ok_is : {A : Type 0} {a b : A} → ◌≡◌ {A = Result A Error} (Ok a) (Ok b) → b ≡ a
ok_is e = cc e

same_role : {role : Role} {a b : Effect} → ◌≡◌ {A = Result Effect Error} (Ok a) (Ok b) → a.next.role ≡ role
    → b.next.role ≡ role
same_role {role} is has = subst (λ (e : Effect). e.next.role ≡ role) (sym (ok_is is)) has

checked : (conn : Connection) (check : Checked Error) (result : Result Effect Error) → Keeps conn result
    → Keeps conn (after_check check result)
checked conn check result keeps effect is = keeps effect (after_check_passed check result effect is)

close_keeps : (conn : Connection) (payload : List ℕ) (read : Result (Option (CloseCode × List ℕ)) Error)
    → Keeps conn (on_close conn payload read)
close_keeps conn payload (Err error) effect is = absurd (cc is)
close_keeps conn payload (Ok frame) effect is = cases (can_write conn.state) (has_allowed_code frame) refl refl
  where
    cases : (active allowed : Bool) → can_write conn.state ≡ active → has_allowed_code frame ≡ allowed
        → effect.next.role ≡ conn.role
    cases false allowed a b = rw (ok_is is, a) refl
    cases true true a b = rw (ok_is is, a, b) refl
    cases true false a b = rw (ok_is is, a, b) refl

short_keeps : (conn : Connection) (control : Control) (payload : List ℕ) → Keeps conn (on_short_control conn control payload)
short_keeps conn Close payload effect is = close_keeps conn payload (decode_close payload) effect is
short_keeps conn Pong payload effect is = rw (ok_is is) refl
short_keeps conn Ping payload effect is = rw (ok_is is) refl

control_keeps : (conn : Connection) (control : Control) (final : Bool) (payload : List ℕ)
    → Keeps conn (on_control conn control final payload)
unfolding on_control
control_keeps conn control final payload effect is = grind (arith, short_keeps conn control payload effect)

deliver_keeps : (conn : Connection) (content : Result Content Error) → Keeps conn (deliver conn content)
deliver_keeps conn (Err error) effect is = absurd (cc is)
deliver_keeps conn (Ok content) effect is = rw (ok_is is) refl

bytes_keep : (conn : Connection) (kind : MessageType) (final : Bool) (bytes : List ℕ)
    → Keeps conn (on_message_bytes conn kind final bytes)
unfolding on_message_bytes
bytes_keep conn kind true bytes =
    checked conn (check_size (length bytes) conn.config.max_message_size) _ (deliver_keeps conn (complete_message kind bytes))
bytes_keep conn kind false bytes =
    checked conn (check_size (length bytes) conn.config.max_message_size) _
    (checked conn (check_so_far kind bytes) _ (λ effect is. same_role is refl))

data_keeps : (conn : Connection) (parts : Option (MessageType × List ℕ)) (kind : Data) (final : Bool) (payload : List ℕ)
    → Keeps conn (on_data_after conn parts kind final payload)
data_keeps conn None Continue final payload effect is = absurd (cc is)
data_keeps conn None Text final payload effect is = bytes_keep conn Kind.Text final payload effect is
data_keeps conn None Binary final payload effect is = bytes_keep conn Kind.Binary final payload effect is
data_keeps conn (Some p) Continue final payload effect is = bytes_keep conn p.0 final (p.1 ++ payload) effect is
data_keeps conn (Some p) Text final payload effect is = absurd (cc is)
data_keeps conn (Some p) Binary final payload effect is = absurd (cc is)

opcode_keeps : (conn : Connection) (op : OpCode) (final : Bool) (payload : List ℕ)
    → Keeps conn (on_opcode conn op final payload)
unfolding on_data
opcode_keeps conn (Op.Control control) final payload = control_keeps conn control final payload
opcode_keeps conn (Op.Data kind) final payload = data_keeps conn conn.fragments kind final payload

pub read_keeps_role : (conn : Connection) (bytes : List ℕ) (p : ℕ × Effect) → read_step conn bytes ≡ Ok (Complete p)
    → p.1.next.role ≡ conn.role
unfolding on_frame
read_keeps_role conn bytes p is =
    let took = TookFrame_from_read conn bytes p is in
    checked conn (check_header conn took.header) _
    (opcode_keeps conn took.header.opcode took.header.is_final took.payload) p.1 took.does

-- a server's frame has no mask
pub sent_unmasked : (role : Role) (reply : Option Outgoing) (old new : List ℕ) → role ≡ Server
    → Sends role reply old new → new ≡ old ++ frame_bytes reply
sent_unmasked role None old new is sends = sends ∙ sym (append-nil old)
sent_unmasked role (Some frame) old new is sends = unmasked sends.0 (rw is at sends.1.0) sends.2
  where
    unmasked : (mask : Option (List ℕ)) → is_some mask ≡ false
        → new ≡ old ++ encode_frame (whole_header frame.opcode mask) frame.payload
        → new ≡ old ++ encode_frame (whole_header frame.opcode None) frame.payload
    unmasked None none put = put
    unmasked (Some key) none put = absurd (cc none)

-- a step that sends a close frame keeps the role
closing_keeps : (conn : Connection) (frame : Option (CloseCode × List ℕ)) (state : Option WebSocketState)
    → Keeps conn (close_to conn frame state)
closing_keeps conn frame None effect is = rw (ok_is is) refl
closing_keeps conn frame (Some state) effect is =
    checked conn (check_close frame) _ (λ e done. same_role done refl) effect is

-- a close sends the close frame
pub farewell_sent : (conn new : Connection) (code : CloseCode) (old put : List ℕ) → conn.role ≡ Server
    → Leaves (close_step conn (Some (code, []))) new old put → put ≡ old ++ farewell conn code
farewell_sent conn new code old put is ok =
    closed (close_step conn (Some (code, []))) (closing_keeps conn (Some (code, [])) (closing_state conn.state)) ok
  where
    closed : (step : Result Effect Error) → Keeps conn step → Leaves step new old put → put ≡ old ++ sent_by step
    closed (Err e) keeps leaves = absurd leaves
    closed (Ok effect) keeps leaves =
        sent_unmasked new.role effect.reply old put (ap (λ c. c.role) leaves.0 ∙ keeps effect refl ∙ is) leaves.1
