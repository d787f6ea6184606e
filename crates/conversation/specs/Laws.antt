-- What a conversation outputs, however its bytes are split and whenever its lines are answered.
use Rattle.std.specs.Prelude.{◌≡◌, ◌⊎◌, ℕ, Bool, true, false, if◌then◌else◌, List, [], ◌∷◌, ◌++◌, take, drop, Err}
use Rattle.pad_model.specs.declared.refusal.Refusal.TheVariants.{TooLong}
use Rattle.pad_core.specs.declared.request.Request.{Request}
use Rattle.wire_lines.specs.Served.{lines, is_cut}
use Rattle.conversation.specs.Delivered.{IsCount}
use Rattle.conversation.specs.Session.{Answer, Serves, texts}
use Rattle.conversation.specs.Talk.{Talk, AnswersFirst, AnswersLast, TellsLong, heard, silent, unwritten}

-- the course of a conversation, with the bytes that arrived and those that were written: in any order, pieces of bytes
-- arrived, first lines were answered, one was too long, replies were written, and others used the pads
pub data Course {P : Type 0} (calls : P → Request → Answer → P → Type 0) (others : P → P → Type 0)
    (old : P) :
    List ℕ → List ℕ → P → Talk → Type 0 where
  begins : Course calls others old [] [] old silent
  came : (bytes out more : List ℕ) (now : P) (talk : Talk)
      → Course calls others old bytes out now talk →
      Course calls others old (bytes ++ more) out now (heard talk more)
  answered : (bytes out : List ℕ) (now new : P) (talk talked : Talk)
      → Course calls others old bytes out now talk →
      talk.cut ≡ false → AnswersFirst calls now talk new talked
      → Course calls others old bytes out new talked
  was_long : (bytes out : List ℕ) (now : P) (talk talked : Talk)
      → Course calls others old bytes out now talk →
      talk.cut ≡ false → TellsLong talk talked → Course calls others old bytes out now talked
  written : (bytes out : List ℕ) (now : P) (talk : Talk) (count : ℕ)
      → Course calls others old bytes out now talk →
      Course calls others old bytes (out ++ take count talk.replies) now
      (unwritten talk (drop count talk.replies))
  passed : (bytes out : List ℕ) (now new : P) (talk : Talk)
      → Course calls others old bytes out now talk →
      others now new → Course calls others old bytes out new talk

-- lines were answered one after another, and between them others used the pads
pub data ServesApart {P : Type 0} (calls : P → Request → Answer → P → Type 0)
    (others : P → P → Type 0) (old : P) :
    List (List ℕ) → List Answer → P → Type 0 where
  nothing : ServesApart calls others old [] [] old
  line : (asked : List (List ℕ)) (answers more : List Answer) (now new : P) (text : List ℕ) →
      ServesApart calls others old asked answers now → Serves calls now (text ∷ []) more new →
      ServesApart calls others old (asked ++ text ∷ []) (answers ++ more) new
  between : (asked : List (List ℕ)) (answers : List Answer) (now new : P) →
      ServesApart calls others old asked answers now → others now new
      → ServesApart calls others old asked answers new

-- these are the first lines of the bytes, and the lines of the rest follow, whatever bytes arrive later
abbrev pub Follows : List ℕ → List (List ℕ) → List ℕ → Type 0
Follows bytes asked rest = (more : List ℕ) → (lines (bytes ++ more) ≡ asked ++ lines (rest ++ more))
    × (is_cut (bytes ++ more) ≡ is_cut (rest ++ more))

-- the answer that a line is too long, if one was
abbrev pub long_told : Bool → List Answer
long_told cut = if cut then Err TooLong ∷ [] else []

-- the bytes start with a line that is too long, whatever bytes arrive later
abbrev pub IsLong : List ℕ → Type 0
IsLong bytes = (more : List ℕ) → (lines (bytes ++ more) ≡ []) × (is_cut (bytes ++ more) ≡ true)

module _ {P : Type 0} (serves : P → List (List ℕ) → List Answer → P → Type 0) where
  -- what was written and what is pending are the replies to the first lines of the bytes, and then that the next line
  -- is too long, if it is
  abbrev pub GaveOut : P → List ℕ → List ℕ → P → Talk → Type 0
  GaveOut old bytes out now talk =
      (asked : List (List ℕ)) × (answers : List Answer) × serves old asked answers now
      × Follows bytes asked talk.waiting
      × (talk.cut ≡ true → IsLong talk.waiting)
      × IsCount talk.served (answers ++ long_told talk.cut)
      × (out ++ talk.replies ≡ texts (answers ++ long_told talk.cut))

  -- what was written and what is pending are the replies to all lines of the bytes
  abbrev pub GaveAll : P → List ℕ → List ℕ → P → Talk → Type 0
  GaveAll old bytes out now talk =
      (answers : List Answer) × serves old (lines bytes) answers now × (is_cut bytes ≡ false)
      × IsCount talk.served answers × (out ++ talk.replies ≡ texts answers)

module _ {P : Type 0} (calls : P → Request → Answer → P → Type 0) (others : P → P → Type 0)
    (serves : P → List (List ℕ) → List Answer → P → Type 0) where
  -- whatever its course, a conversation outputs the replies of its session to the first lines of its bytes
  abbrev pub CourseLaw : Type 0
  CourseLaw = (old now : P) (bytes out : List ℕ) (talk : Talk)
      → Course calls others old bytes out now talk →
      GaveOut serves old bytes out now talk

  -- a conversation outputs the replies to all lines of its bytes once the last line was answered or no bytes remain,
  -- unless a line was too long
  abbrev pub LastLaw : Type 0
  LastLaw = (old now new : P) (bytes out : List ℕ) (talk talked : Talk)
      → Course calls others old bytes out now talk →
      talk.cut ≡ false →
      (AnswersLast calls now talk new talked
      ⊎ ((talk.waiting ≡ []) × (talked ≡ talk) × (new ≡ now))) →
      GaveAll serves old bytes out new talked
