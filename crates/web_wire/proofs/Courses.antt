-- Bytes lead to what their first frame leads to, followed by what the rest leads to, whatever follows.
use Rattle.std.proofs.Common.{◌≡◌, ℕ, zero, suc, ◌<◌, List, ◌++◌, length, drop, Result, Ok, Err, refl, ap, ◌∙◌, arith, append_assoc, length-drop}
use Rattle.std.proofs.lemmas.List.{drop-append-le}
use Rattle.websocket.specs.Connection.{Connection, Effect, read_step, failed_connection}
use Rattle.websocket.specs.declared.error.Error.{Error}
use Rattle.websocket.specs.declared.protocol.frame.codec.FrameStatus.{FrameStatus}
use Rattle.websocket.specs.declared.protocol.frame.codec.FrameStatus.TheVariants.{Partial, Complete}
use Rattle.websocket.proofs.StreamLemmas.{read_step-append, TookFrame_from_read}
use Rattle.web_wire.specs.Messages.{heard_of}
use Rattle.web_wire.specs.Course.{Course, waits, closes, before, farewell, close_code, takes, course_after, course_times, course_of}

-- lines before lines that come before a rest
pub before-before : (lines next : List (List ℕ)) (sent put : List ℕ) (rest : Course)
    → before lines sent (before next put rest) ≡ before (lines ++ next) (sent ++ put) rest
before-before lines next sent put rest =
    rw (append_assoc lines next rest.lines, append_assoc sent put rest.sent) refl

-- two continuations that agree on fewer bytes agree after a read
after_same : (f g : Connection → List ℕ → Course) (conn : Connection) (bytes : List ℕ)
    (read : Result (FrameStatus (ℕ × Effect)) Error) → read_step conn bytes ≡ read
    → ((next : Connection) (rest : List ℕ) → length rest < length bytes → f next rest ≡ g next rest)
    → course_after f conn bytes read ≡ course_after g conn bytes read
after_same f g conn bytes (Err error) is same = refl
after_same f g conn bytes (Ok (Partial needed)) is same = refl
after_same f g conn bytes (Ok (Complete p)) is same =
    let took = TookFrame_from_read conn bytes p is in
    ap (takes (heard_of p.1.message) p.1) (same p.1.next (drop p.0 bytes)
    (omega (arith, length-drop p.0 bytes, took.not_empty, took.inside)))

-- more reads than there are bytes are enough
times_enough : (n m : ℕ) (conn : Connection) (bytes : List ℕ) → length bytes < n → length bytes < m
    → course_times n conn bytes ≡ course_times m conn bytes
unfolding course_times
times_enough zero m conn bytes hn hm = absurd (omega arith)
times_enough (suc n) zero conn bytes hn hm = absurd (omega arith)
times_enough (suc n) (suc m) conn bytes hn hm =
    after_same (course_times n) (course_times m) conn bytes _ refl
    (λ next rest h. times_enough n m next rest (omega arith) (omega arith))

-- what bytes lead to, by their first read
first_read : (conn : Connection) (bytes : List ℕ)
    → course_of conn bytes ≡ course_after course_of conn bytes (read_step conn bytes)
unfolding course_times
first_read conn bytes =
    after_same (course_times (length bytes)) course_of conn bytes _ refl
    (λ next rest h. times_enough (length bytes) (suc (length rest)) next rest h (omega arith))

-- a frame at the front was read, whatever follows
pub frame_first : (conn : Connection) (bytes : List ℕ) (p : ℕ × Effect) → read_step conn bytes ≡ Ok (Complete p)
    → (more : List ℕ) → course_of conn (bytes ++ more)
    ≡ takes (heard_of p.1.message) p.1 (course_of p.1.next (drop p.0 bytes ++ more))
frame_first conn bytes p is more =
    let took = TookFrame_from_read conn bytes p is in
    first_read conn (bytes ++ more)
    ∙ ap (course_after course_of conn (bytes ++ more)) (read_step-append conn bytes more (λ k. cc (is, k.1)) ∙ is)
    ∙ ap (λ rest. takes (heard_of p.1.message) p.1 (course_of p.1.next rest)) (drop-append-le p.0 bytes more took.inside)

-- a read of the front failed, whatever follows
pub failed_first : (conn : Connection) (bytes : List ℕ) (error : Error) → read_step conn bytes ≡ Err error
    → (more : List ℕ) → course_of conn (bytes ++ more) ≡ closes (farewell (failed_connection conn) (close_code error))
failed_first conn bytes error is more =
    first_read conn (bytes ++ more)
    ∙ ap (course_after course_of conn (bytes ++ more)) (read_step-append conn bytes more (λ k. cc (is, k.1)) ∙ is)

-- there is no complete frame
pub none_first : (conn : Connection) (bytes : List ℕ) (needed : ℕ) → read_step conn bytes ≡ Ok (Partial needed)
    → course_of conn bytes ≡ waits
none_first conn bytes needed is = first_read conn bytes ∙ ap (course_after course_of conn bytes) is

-- a read takes at least one byte
pub frame_shorter : (conn : Connection) (bytes : List ℕ) (p : ℕ × Effect) → read_step conn bytes ≡ Ok (Complete p)
    → length (drop p.0 bytes) < length bytes
frame_shorter conn bytes p is =
    let took = TookFrame_from_read conn bytes p is in
    omega (arith, length-drop p.0 bytes, took.not_empty, took.inside)
