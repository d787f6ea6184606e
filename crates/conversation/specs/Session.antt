-- What a session answers to its lines, and what is written.
use Rattle.std.specs.Prelude.{◌≡◌, ◌⊎◌, ℕ, if◌then◌else◌, List, [], ◌∷◌, ◌++◌, take, flat_map, Option, None, Some}
use Rattle.std.specs.Prelude.{Result, Ok, Err}
use Rattle.std.specs.Io.KnownBytes.{Appends}
use Rattle.pad_model.specs.declared.refusal.Refusal.{Refusal}
use Rattle.pad_model.specs.declared.refusal.Refusal.TheVariants.{Memory, TooLong}
use Rattle.pad_core.specs.declared.reply.Reply.{Reply}
use Rattle.pad_core.specs.declared.request.Request.{Request}
use Rattle.wire_json.specs.Lines.{request}
use Rattle.wire_json.specs.Replies.{line_of}
use Rattle.wire_lines.specs.Served.{lines, is_cut}

-- an answer: a reply or a refusal
abbrev pub Answer : Type 0
Answer = Result Reply Refusal

-- the lines that are written for answers
abbrev pub texts : List Answer → List ℕ
texts answers = flat_map line_of answers

-- what is written for an answer: the answer itself, or out of memory in its place
abbrev pub IsTold : Answer → Answer → Type 0
IsTold answer told = (told ≡ answer) ⊎ (told ≡ Err Memory)

module _ {P : Type 0} (calls : P → Request → Answer → P → Type 0) where
  -- a line that is not a request is refused, and a request is answered by a call
  abbrev pub Answers : P → Result Request Refusal → Answer → P → Type 0
  Answers old (Err refusal) answer new = (answer ≡ Err refusal) × (new ≡ old)
  Answers old (Ok asked) answer new = calls old asked answer new

  -- a line is answered, or there is no memory to read it as a request
  abbrev pub Hears : P → Result Request Refusal → Answer → P → Type 0
  Hears old asked answer new = Answers old asked answer new ⊎ ((answer ≡ Err Memory) × (new ≡ old))

  -- a line is answered, and the answer is sent, or out of memory in its place
  abbrev pub TellsLine : P → Result Request Refusal → Answer → P → Type 0
  TellsLine old asked told new = (answer : Answer) × Hears old asked answer new × IsTold answer told

  -- the lines are answered one after another; an empty line has no answer
  abbrev pub Serves : P → List (List ℕ) → List Answer → P → Type 0
  Serves old [] [] new = new ≡ old
  Serves old [] (answer ∷ answers) new = ⊥
  Serves old ([] ∷ lines) answers new = Serves old lines answers new
  Serves old ((byte ∷ line) ∷ lines) [] new = ⊥
  Serves old ((byte ∷ line) ∷ lines) (answer ∷ answers) new =
      (mid : P) × TellsLine old (request (byte ∷ line)) answer mid × Serves mid lines answers new

  -- the first lines, however many, were answered, and a prefix of the answers was written
  abbrev pub ServesSome : P → List (List ℕ) → Option (List ℕ) → Option (List ℕ) → P → Type 0
  ServesSome old lines before after new =
      (asked more : List (List ℕ)) × (answers : List Answer) × (count : ℕ) × (lines ≡ asked ++ more)
      × Serves old asked answers new
      × Appends before after (take count (texts answers))

-- the answer that a line is too long, if one ends the lines of the bytes
abbrev pub cut_answers : List ℕ → List Answer
cut_answers bytes = if is_cut bytes then Err TooLong ∷ [] else []

-- if the bytes are known, the lines that were answered are all of their lines, followed by the answer that a line is
-- too long if one is
abbrev pub IsWhole : Option (List ℕ) → List (List ℕ) → List Answer → Type 0
IsWhole None asked tail = (tail ≡ []) ⊎ (tail ≡ Err TooLong ∷ [])
IsWhole (Some bytes) asked tail = (asked ≡ lines bytes) × (tail ≡ cut_answers bytes)

-- the answer that there is no memory for a line
abbrev pub no_memory : List Answer
no_memory = Err Memory ∷ []

-- if the bytes are known, the lines that were answered are the first of their lines; after them there may have been no
-- memory for a line
abbrev pub IsFront : Option (List ℕ) → List (List ℕ) → List Answer → Type 0
IsFront None asked tail = (tail ≡ []) ⊎ (tail ≡ Err TooLong ∷ []) ⊎ (tail ≡ no_memory)
IsFront (Some bytes) asked tail =
    (more : List (List ℕ)) × (lines bytes ≡ asked ++ more)
    × ((tail ≡ []) ⊎ ((more ≡ []) × (tail ≡ cut_answers bytes))
    ⊎ (tail ≡ no_memory))

-- if the bytes are known, the lines that were answered are those before some remaining bytes
abbrev pub IsBefore : Option (List ℕ) → List (List ℕ) → Option (List ℕ) → Type 0
IsBefore None asked rest = Unit {0}
IsBefore (Some bytes) asked None = ⊥
IsBefore (Some bytes) asked (Some rest) = (lines bytes ≡ asked ++ lines rest)
    × (is_cut bytes ≡ is_cut rest)
