-- One line, and several lines one after another.
use Rattle.std.proofs.Common.{◌≡◌, ℕ, false, eqb, List, [], ◌∷◌, ◌++◌, length, take, Option, Some, Result, Ok, Err}
use Rattle.std.proofs.Common.{refl, sym, ap, ◌∙◌, subst, append-nil, append_assoc}
use Rattle.std.specs.Result.{OnErr}
use Rattle.std.specs.Io.KnownBytes.{Appends}
use Rattle.pad_core.specs.declared.request.Request.{Request}
use Rattle.wire_json.specs.Lines.{request}
use Rattle.wire_json.specs.Replies.{line_of}
use Rattle.conversation.specs.Session.{Answer, Hears, TellsLine, Serves, ServesSome, texts}
use Rattle.conversation.specs.Connection.{ServesOne, WritesAnswer, WritesPart}

-- what holds in any case holds for an error
pub of_error : {X E : Type 0} (r : Result X E) (Q : Type 0) → Q → OnErr r Q
of_error (Ok x) Q q = tt
of_error (Err e) Q q = q

-- the text of one answer
pub text_of_one : (answer : Answer) → texts (answer ∷ []) ≡ line_of answer
text_of_one answer = append-nil (line_of answer)

module _ {P : Type 0} (calls : P → Request → Answer → P → Type 0) where
  -- a line that is not empty has an answer
  pub one_answered : (old new : P) (line : List ℕ) (told : Answer) → eqb (length line) 0 ≡ false →
      TellsLine calls old (request line) told new
      → Serves calls old (line ∷ []) (told ∷ []) new
  one_answered old new [] told some answered = cc
  one_answered old new (byte ∷ line) told some answered = (new, answered, refl)

  pub one_written : (old new : P) (line : List ℕ) (answer : Answer) (count : ℕ) (before after : Option (List ℕ)) →
      eqb (length line) 0 ≡ false → Hears calls old (request line) answer new
      → WritesAnswer answer count before after → ServesOne calls old line (Some count) before after new
  one_written old new line answer count before after some heard (told, is, tells, wrote) = (
    told ∷ [],
    one_answered old new line told some (answer, heard, is),
    (told, refl, tells),
    subst (Appends before after) (sym (text_of_one told)) wrote,
  )

  -- the answer was written in part
  pub part_written : (old new : P) (line : List ℕ) (answer : Answer) (before after : Option (List ℕ)) →
      eqb (length line) 0 ≡ false → Hears calls old (request line) answer new
      → WritesPart answer before after → ServesSome calls old (line ∷ []) before after new
  part_written old new line answer before after some heard (told, count, is, wrote) = (
    line ∷ [],
    [],
    told ∷ [],
    count,
    refl,
    one_answered old new line told some (answer, heard, is),
    subst (λ text. Appends before after (take count text)) (sym (text_of_one told)) wrote,
  )

  -- lines that are answered, and then more
  pub serves_then : (old mid new : P) (first more : List (List ℕ)) (answers others : List Answer) →
      Serves calls old first answers mid → Serves calls mid more others new
      → Serves calls old (first ++ more) (answers ++ others) new
  serves_then old mid new [] more [] others served then = subst (λ p. Serves calls p more others new) served then
  serves_then old mid new [] more (answer ∷ answers) others served then = absurd served
  serves_then old mid new ([] ∷ first) more answers others served then =
      serves_then old mid new first more answers others served then
  serves_then old mid new ((byte ∷ line) ∷ first) more [] others served then = absurd served
  serves_then old mid new ((byte ∷ line) ∷ first) more (answer ∷ answers) others served then =
      (served.0, served.1, serves_then served.0 mid new first more answers others served.2 then)

-- the text of more answers
pub texts-append : (answers others : List Answer) → texts (answers ++ others) ≡ texts answers ++ texts others
texts-append [] others = refl
texts-append (answer ∷ answers) others = ap (λ t. line_of answer ++ t) (texts-append answers others)
    ∙ sym (append_assoc (line_of answer) (texts answers) (texts others))
