-- A connection without its devices: what arrived, what was answered, and what is to be written.
use Rattle.std.specs.Prelude.{◌≡◌, ◌≤◌, ℕ, ◌+◌, Bool, false, true, List, [], ◌∷◌, ◌++◌, length, Option, Some, Err, Vec}
use Rattle.std.specs.Prelude.{vec_len, vec_capacity, if◌then◌else◌}
use Rattle.std.specs.Io.KnownBytes.{prepend_known}
use Rattle.std.specs.declared.alloc.Global.{Global}
use Rattle.pad_model.specs.declared.refusal.Refusal.TheVariants.{Memory, TooLong}
use Rattle.pad_core.specs.declared.request.Request.{Request}
use Rattle.wire_json.specs.Replies.{line_of}
use Rattle.wire_lines.specs.Buffer.{Finds, Shows, ShowsBefore}
use Rattle.wire_lines.specs.declared.buffer.FoundLine.TheVariants.{Text, TooLong as Long}
use Rattle.conversation.specs.Delivered.{Tells, counted, delivered_of}
use Rattle.conversation.specs.Session.{Answer, IsTold, Serves, texts}
use Rattle.conversation.specs.declared.served.Served.{Served}

-- the bytes that arrived and are not answered yet, the replies that are not written yet, the counts of lines and
-- operations, and whether a line was too long, after which nothing is answered
pub record Talk : Type 0 where
  pub waiting : List ℕ
  pub replies : List ℕ
  pub served : Served
  pub cut : Bool

-- a conversation in which nothing has arrived
abbrev pub silent : Talk
silent = record {
  waiting = [];
  replies = [];
  served = record { lines = 0; delivered = 0 };
  cut = false;
}

-- the conversation with these bytes waiting for an answer
abbrev pub waits : Talk → List ℕ → Talk
waits talk bytes = record {
  waiting = bytes;
  replies = talk.replies;
  served = talk.served;
  cut = talk.cut;
}

-- the conversation after more bytes arrived
abbrev pub heard : Talk → List ℕ → Talk
heard talk bytes = waits talk (talk.waiting ++ bytes)

-- the conversation with these replies still to be written
abbrev pub unwritten : Talk → List ℕ → Talk
unwritten talk replies =
    record { waiting = talk.waiting; replies = replies; served = talk.served; cut = talk.cut }

-- the answers were appended to the replies, and counted
abbrev pub Says : Talk → Option ℕ → List Answer → Talk → Type 0
Says old told answers new = (new.replies ≡ old.replies ++ texts answers)
    × (new.served ≡ counted old.served told)

-- the first waiting line is too long, whatever bytes follow it, and the reply says so
abbrev pub TellsLong : Talk → Talk → Type 0
TellsLong old new = (line : List ℕ) × ShowsBefore Long old.waiting line new.waiting
    × Says old (Some 0) (Err TooLong ∷ []) new × (new.cut ≡ true)

-- the bytes yet to be answered, if they are known: those that wait, and then those of the source unless it has ended
abbrev pub ahead : Talk → Bool → Option (List ℕ) → Option (List ℕ)
ahead talk ended remaining = prepend_known talk.waiting (if ended then Some [] else remaining)

-- there is room for either of the fixed replies: out of memory, and line too long
abbrev pub HasRoom : Vec ℕ Global → Type 0
HasRoom replies = (vec_len replies + length (line_of (Err Memory)) ≤ vec_capacity replies)
    × (vec_len replies + length (line_of (Err TooLong)) ≤ vec_capacity replies)

-- an answer, or out of memory in its place, was appended to the replies, and reports this many operations
abbrev pub PutsAnswer : Answer → ℕ → List ℕ → List ℕ → Type 0
PutsAnswer answer count before after = (told : Answer) × IsTold answer told
    × (count ≡ delivered_of told)
    × (after ≡ before ++ line_of told)

module _ {P : Type 0} (calls : P → Request → Answer → P → Type 0) where
  -- a line was answered, and the answer was appended to the replies
  abbrev pub TellsOne : P → List ℕ → Option ℕ → List ℕ → List ℕ → P → Type 0
  TellsOne old line told before after new =
      (answers : List Answer) × Serves calls old (line ∷ []) answers new × Tells told answers
      × (after ≡ before ++ texts answers)

  -- a line was answered, and the answer was appended to the replies and counted; an empty line has none
  abbrev pub AnswersLine : P → List ℕ → Talk → P → Talk → Type 0
  AnswersLine old line talk new talked =
      (told : Option ℕ) × (answers : List Answer) × Serves calls old (line ∷ []) answers new
      × Tells told answers
      × Says talk told answers talked × (talked.cut ≡ talk.cut)

  -- the first waiting line was answered, whatever bytes follow it
  abbrev pub AnswersFirst : P → Talk → P → Talk → Type 0
  AnswersFirst old talk new talked =
      (line : List ℕ) × ShowsBefore Text talk.waiting line talked.waiting
      × AnswersLine old line talk new talked

  -- all waiting bytes were answered as the last line
  abbrev pub AnswersLast : P → Talk → P → Talk → Type 0
  AnswersLast old talk new talked =
      (line : List ℕ) × Shows Text talk.waiting line [] × (talked.waiting ≡ [])
      × AnswersLine old line talk new talked

  -- the next line was answered: the first line of the bytes yet to be answered
  abbrev pub AnswersNext : Bool → P → Talk → P → Talk → Type 0
  AnswersNext ended old talk new talked =
      (line : List ℕ)
      × ((remaining : Option (List ℕ)) → Finds Text (ahead talk ended remaining) line
      (ahead talked ended remaining))
      × AnswersLine old line talk new talked
