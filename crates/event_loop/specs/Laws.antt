-- What a browser's conversation gives out, whatever pieces the bytes of its socket arrive in.
use Rattle.std.specs.Prelude.{◌≡◌, ⊤, ℕ, true, false, if◌then◌else◌, List, [], ◌∷◌, ◌++◌, take, drop}
use Rattle.pad_core.specs.declared.request.Request.{Request}
use Rattle.wire_lines.specs.Lines.{without_return}
use Rattle.wire_lines.specs.Served.{is_long, lines}
use Rattle.web_wire.specs.Course.{before}
use Rattle.web_wire.specs.Messages.{is_line, with_feed}
use Rattle.web_wire.specs.Socket.{Comes, Socket, course, fed}
use Rattle.conversation.specs.Laws.{GaveOut}
use Rattle.conversation.specs.Session.{Answer}
use Rattle.conversation.specs.Talk.{AnswersFirst, Talk, TellsLong, heard, silent, unwritten}

-- the texts of messages, each followed by a line feed
abbrev pub joined : List (List ℕ) → List ℕ
joined [] = []
joined (text ∷ texts) = with_feed text ++ joined texts

-- each text is a line
abbrev pub AreLines : List (List ℕ) → Type 0
AreLines [] = ⊤
AreLines (text ∷ texts) = (is_line text ≡ true) × AreLines texts

-- the lines of messages, up to the first that is too long: each text without one carriage return at its end
abbrev pub spoken : List (List ℕ) → List (List ℕ)
spoken [] = []
spoken (text ∷ texts) = if is_long text then [] else without_return text ∷ spoken texts

-- the course of a browser, with its steps in any order: all bytes that its socket received, the texts of the messages
-- that its conversation was given, the frames that answered frames, and the replies that were given out
pub data Course {P : Type 0} (calls : P → Request → Answer → P → Type 0) (others : P → P → Type 0)
    (old : P)
    (start : Socket) : List ℕ → List (List ℕ) → List ℕ → List ℕ → P → Socket → Talk → Type 0 where
  begins : Course calls others old start [] [] [] [] old start silent
  came : (all : List ℕ) (texts : List (List ℕ)) (sent out : List ℕ) (now : P) (socket : Socket)
      (talk : Talk)
      (bytes : List ℕ) → Course calls others old start all texts sent out now socket talk
      → Course calls others old start (all ++ bytes) texts sent out now (fed socket bytes) talk
  quiet : (all : List ℕ) (texts : List (List ℕ)) (sent out : List ℕ) (now : P)
      (socket next : Socket) (talk : Talk)
      (put : List ℕ) → Course calls others old start all texts sent out now socket talk
      → Comes [] put socket next
      → Course calls others old start all texts (sent ++ put) out now next talk
  spoke : (all : List ℕ) (texts : List (List ℕ)) (sent out : List ℕ) (now : P)
      (socket next : Socket) (talk : Talk)
      (text put : List ℕ) → Course calls others old start all texts sent out now socket talk
      → is_line text ≡ true → Comes (text ∷ []) put socket next
      → Course calls others old start all (texts ++ text ∷ []) (sent ++ put) out now next
      (heard talk (with_feed text))
  answered : (all : List ℕ) (texts : List (List ℕ)) (sent out : List ℕ) (now new : P)
      (socket : Socket)
      (talk talked : Talk) → Course calls others old start all texts sent out now socket talk
      → talk.cut ≡ false → AnswersFirst calls now talk new talked
      → Course calls others old start all texts sent out new socket talked
  was_long : (all : List ℕ) (texts : List (List ℕ)) (sent out : List ℕ) (now : P) (socket : Socket)
      (talk talked : Talk) → Course calls others old start all texts sent out now socket talk
      → talk.cut ≡ false → TellsLong talk talked
      → Course calls others old start all texts sent out now socket talked
  said : (all : List ℕ) (texts : List (List ℕ)) (sent out : List ℕ) (now : P) (socket : Socket)
      (talk : Talk)
      (count : ℕ) → Course calls others old start all texts sent out now socket talk
      → Course calls others old start all texts sent (out ++ take count talk.replies) now socket
      (unwritten talk (drop count talk.replies))
  passed : (all : List ℕ) (texts : List (List ℕ)) (sent out : List ℕ) (now new : P)
      (socket : Socket) (talk : Talk)
      → Course calls others old start all texts sent out now socket talk → others now new
      → Course calls others old start all texts sent out new socket talk

-- after any course, the messages are the first that all bytes lead to, and the waiting bytes lead to the others; the
-- conversation gives out the session text of the messages' lines
abbrev pub BrowserLaw : {P : Type 0} → (P → Request → Answer → P → Type 0) → (P → P → Type 0)
    → (P → List (List ℕ) → List Answer → P → Type 0) → Type 0
BrowserLaw {P} calls others serves = (old now : P) (start socket : Socket) (all : List ℕ)
    (texts : List (List ℕ))
    (sent out : List ℕ) (talk : Talk) → Course calls others old start all texts sent out now socket
    talk
    → ((more : List ℕ) → course start (all ++ more) ≡ before texts sent (course socket more))
    × GaveOut serves old (joined texts) out now talk × (lines (joined texts) ≡ spoken texts)
