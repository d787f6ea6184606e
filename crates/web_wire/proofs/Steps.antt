-- What a socket leads to, by the frame at the front of its bytes.
use Rattle.std.proofs.Common.{◌≡◌, ℕ, ◌<◌, true, false, List, [], ◌∷◌, ◌++◌, length, drop, Result, Ok, Err, refl, sym, ap, subst, ◌∙◌, inl, inr, cond, append_assoc}
use Rattle.std.proofs.lemmas.List.{append-nil}
use Rattle.std.specs.Prelude.{◌≢◌, OnErr}
use Rattle.websocket.specs.Connection.{Connection}
use Rattle.websocket.specs.declared.error.Error.{Error}
use Rattle.websocket.specs.declared.error.Error.TheVariants.{OutOfMemory}
use Rattle.websocket.specs.declared.protocol.frame.coding.CloseCode.{CloseCode}
use Rattle.web_wire.specs.Messages.{text_of, frame_bytes, with_feed}
use Rattle.web_wire.specs.Course.{waits, closes, before, farewell, close_code, takes, course_of}
use Rattle.web_wire.specs.Socket.{Socket, course, GoesOn, GivesLine}
use Rattle.web_wire.specs.Front.{Desk, IsCut, IsWhole, IsFailed}
use Rattle.web_wire.specs.declared.heard.Heard.{Heard}
use Rattle.web_wire.specs.declared.heard.Heard.TheVariants.{Nothing, Line, Closed, Refused}
use Rattle.web_wire.proofs.Courses.{frame_first, failed_first, none_first, frame_shorter}

-- a socket with what was given out so far
abbrev pub desk : Socket → List ℕ → List ℕ → Desk
desk socket line output = record { conn = socket.conn; bytes = socket.waiting; line = line; output = output }

-- a socket that is not closed leads to what its bytes lead to
open_course : (old : Socket) (more : List ℕ) → old.ended ≡ false → course old more ≡ course_of old.conn (old.waiting ++ more)
open_course old more is = ap (λ ended. cond ended (closes []) (course_of old.conn (old.waiting ++ more))) is

-- after the last frame a socket is closed
last_sent : (new : Socket) (sent more : List ℕ) → new.ended ≡ true → closes sent ≡ before [] sent (course new more)
last_sent new sent more is =
    sym (ap (λ ended. before [] sent (cond ended (closes []) (course_of new.conn (new.waiting ++ more)))) is
    ∙ ap closes (append-nil sent))

whole_first : (old : Socket) (count : ℕ) (heard : Heard) (line output : List ℕ) (after : Desk) → old.ended ≡ false
    → (whole : IsWhole count heard (desk old line output) after) → (more : List ℕ)
    → course old more ≡ takes heard whole.effect (course_of after.conn (drop count after.bytes ++ more))
whole_first old count heard line output after is whole more =
    open_course old more is
    ∙ frame_first old.conn old.waiting (count, whole.effect) whole.read more
    ∙ ap (λ h. takes h whole.effect (course_of whole.effect.next (drop count old.waiting ++ more))) (sym whole.heard_is)
    ∙ ap (λ c. takes heard whole.effect (course_of c (drop count old.waiting ++ more))) (sym whole.next)
    ∙ ap (λ b. takes heard whole.effect (course_of after.conn (b ++ more))) (sym whole.rest)

-- the socket after a frame
abbrev behind : Socket → Connection → List ℕ → Socket
behind old conn rest = record { conn = conn; waiting = rest; ended = old.ended }

pub goes_quiet : (old : Socket) (count : ℕ) (heard : Heard) (given gives output room put bytes : List ℕ) (conn : Connection)
    → old.ended ≡ false → room ≡ output → heard ≡ Nothing
    → IsWhole count heard (desk old given room) (record { conn = conn; bytes = bytes; line = gives; output = put })
    → GoesOn [] old output (behind old conn (drop count bytes)) put × (length (drop count bytes) < length old.waiting)
goes_quiet old count heard given gives output room put bytes conn is same nothing whole =
    ((frame_bytes whole.effect.reply, whole.sent ∙ ap (λ o. o ++ frame_bytes whole.effect.reply) same, comes), shorter)
  where
    comes : (more : List ℕ) → course old more
        ≡ before [] (frame_bytes whole.effect.reply) (course (behind old conn (drop count bytes)) more)
    comes more =
        whole_first old count heard given room _ is whole more
        ∙ ap (λ h. takes h whole.effect (course_of conn (drop count bytes ++ more))) nothing
        ∙ ap (before [] (frame_bytes whole.effect.reply)) (sym (open_course (behind old conn (drop count bytes)) more is))

    shorter : length (drop count bytes) < length old.waiting
    shorter =
        subst (λ b. length b < length old.waiting) (sym whole.rest)
        (frame_shorter old.conn old.waiting (count, whole.effect) whole.read)

pub goes_line : (old : Socket) (count : ℕ) (heard : Heard) (given shelf gives output room put bytes : List ℕ) (conn : Connection)
    → old.ended ≡ false → shelf ≡ given → room ≡ output → heard ≡ Line
    → IsWhole count heard (desk old shelf room) (record { conn = conn; bytes = bytes; line = gives; output = put })
    → GivesLine old given output (behind old conn (drop count bytes)) gives put
goes_line old count heard given shelf gives output room put bytes conn is found same line whole = (
  text_of whole.effect.message,
  (whole.line line).0,
  (whole.line line).1 ∙ ap (λ g. g ++ with_feed (text_of whole.effect.message)) found,
  (frame_bytes whole.effect.reply, whole.sent ∙ ap (λ o. o ++ frame_bytes whole.effect.reply) same, comes),
)
  where
    comes : (more : List ℕ) → course old more
        ≡ before (text_of whole.effect.message ∷ []) (frame_bytes whole.effect.reply) (course (behind old conn (drop count bytes)) more)
    comes more =
        whole_first old count heard shelf room _ is whole more
        ∙ ap (λ h. takes h whole.effect (course_of conn (drop count bytes ++ more))) line
        ∙ ap (before (text_of whole.effect.message ∷ []) (frame_bytes whole.effect.reply))
        (sym (open_course (behind old conn (drop count bytes)) more is))

pub goes_closed : (old new : Socket) (count : ℕ) (heard : Heard) (given output room : List ℕ) (after : Desk)
    → old.ended ≡ false → room ≡ output → heard ≡ Closed → new.ended ≡ true → IsWhole count heard (desk old given room) after
    → GoesOn [] old output new after.output
goes_closed old new count heard given output room after is same closed ended whole = (
  frame_bytes whole.effect.reply,
  whole.sent ∙ ap (λ o. o ++ frame_bytes whole.effect.reply) same,
  λ more.
      whole_first old count heard given room after is whole more
      ∙ ap (λ h. takes h whole.effect (course_of after.conn (drop count after.bytes ++ more))) closed
      ∙ last_sent new (frame_bytes whole.effect.reply) more ended,
)

pub goes_refused : (old new : Socket) (count : ℕ) (heard : Heard) (code : CloseCode) (given output room put : List ℕ) (after : Desk)
    → old.ended ≡ false → room ≡ output → heard ≡ Refused code → new.ended ≡ true
    → IsWhole count heard (desk old given room) after → put ≡ after.output ++ farewell after.conn code
    → GoesOn [] old output new put
goes_refused old new count heard code given output room put after is same refused ended whole told =
    let reply = frame_bytes whole.effect.reply in (
      reply ++ farewell after.conn code,
      told ∙ ap (λ o. o ++ farewell after.conn code) (whole.sent ∙ ap (λ o. o ++ reply) same)
          ∙ append_assoc output reply (farewell after.conn code),
      λ more. whole_first old count heard given room after is whole more
          ∙ ap (λ h. takes h whole.effect (course_of after.conn (drop count after.bytes ++ more))) refused
          ∙ ap (λ c. closes (reply ++ farewell c code)) (sym whole.next)
          ∙ last_sent new (reply ++ farewell after.conn code) more ended,
    )

pub goes_failed : (old new : Socket) (error : Error) (given output room put : List ℕ) (after : Desk)
    → old.ended ≡ false → room ≡ output → new.ended ≡ true → error ≢ OutOfMemory → IsFailed error (desk old given room) after
    → put ≡ after.output ++ farewell after.conn (close_code error) → GoesOn [] old output new put
goes_failed old new error given output room put after is same ended memory failed told =
    elim failed.cause [
      | inl out ↦ absurd (memory out)
      | inr cause ↦ (
        farewell after.conn (close_code error),
        told ∙ ap (λ o. o ++ farewell after.conn (close_code error)) (cause.2 ∙ same),
        λ more. open_course old more is ∙ failed_first old.conn old.waiting error cause.0 more
            ∙ ap (λ c. closes (farewell c (close_code error))) (sym cause.1)
            ∙ last_sent new (farewell after.conn (close_code error)) more ended,
      )
    ]

pub goes_cut : (old : Socket) (given output room : List ℕ) (after : Desk) → old.ended ≡ false → room ≡ output
    → IsCut (desk old given room) after
    → GoesOn [] old output (record { conn = after.conn; waiting = after.bytes; ended = old.ended }) after.output
    × (course (record { conn = after.conn; waiting = after.bytes; ended = old.ended }) [] ≡ waits)
goes_cut old given output room after is same cut =
    subst (λ d. GoesOn [] old output (record { conn = d.conn; waiting = d.bytes; ended = old.ended }) d.output
    × (course (record { conn = d.conn; waiting = d.bytes; ended = old.ended }) [] ≡ waits)) (sym cut.1) (
      ([], same ∙ sym (append-nil output), λ more. refl),
      open_course old [] is ∙ ap (course_of old.conn) (append-nil old.waiting) ∙ none_first old.conn old.waiting cut.0.0 cut.0.1,
    )

-- two successive calls that go on
pub goes_on_both : (lines : List (List ℕ)) (first second third : Socket) (one two three : List ℕ)
    → GoesOn [] first one second two → GoesOn lines second two third three → GoesOn lines first one third three
goes_on_both lines first second third one two three a b = (
  a.0 ++ b.0,
  b.1 ∙ ap (λ o. o ++ b.0) a.1 ∙ append_assoc one a.0 b.0,
  λ more.
      a.2 more ∙ ap (before [] a.0) (b.2 more)
      ∙ ap (λ s. record { lines = lines ++ (course third more).lines; sent = s; closed = (course third more).closed })
      (sym (append_assoc a.0 b.0 (course third more).sent)),
)

-- what holds for both holds for an error
pub on_error : {A E : Type 0} (result : Result A E) (P : Type 0) → P → OnErr result P
on_error (Ok done) P holds = tt
on_error (Err error) P holds = holds
