-- Bytes that arrive in pieces: the lines answered so far, whatever bytes follow them.
use Rattle.std.proofs.Common.{◌≡◌, ℕ, Bool, true, false, List, [], ◌++◌, length, Option, None, Some}
use Rattle.std.proofs.Common.{◌≤◌, drop, sym, subst, ap, ◌∙◌, append-nil}
use Rattle.std.proofs.lemmas.List.{drop-append-le}
use Rattle.std.specs.Io.KnownBytes.{prepend_known}
use Rattle.pad_core.specs.declared.request.Request.{Request}
use Rattle.wire_lines.specs.Buffer.{Finds, Shows, ShowsBefore}
use Rattle.wire_lines.specs.declared.buffer.FoundLine.{FoundLine}
use Rattle.wire_lines.specs.declared.buffer.FoundLine.TheVariants.{Text}
use Rattle.conversation.specs.Session.{Answer}
use Rattle.conversation.specs.Talk.{Talk, AnswersLast, AnswersNext}

-- what is shown whatever follows is shown before the bytes yet to arrive
pub finds_before : (what : FoundLine) (waiting line rest : List ℕ) (remaining : Option (List ℕ)) →
    ShowsBefore what waiting line rest → Finds what (prepend_known waiting remaining) line (prepend_known rest remaining)
finds_before what waiting line rest None shows = tt
finds_before what waiting line rest (Some more) shows = shows more

-- the last line is the next one, once the input has ended
module _ {P : Type 0} (calls : P → Request → Answer → P → Type 0) where
  last_alone : (old new : P) (talk talked : Talk) → AnswersLast calls old talk new talked →
      AnswersNext calls true old talk new talked
  last_alone old new talk talked last = (
    last.0,
    (λ remaining. subst (λ (bytes : List ℕ). Shows Text bytes last.0 (talked.waiting ++ [])) (sym (append-nil talk.waiting))
        (subst (λ (rest : List ℕ). Shows Text talk.waiting last.0 rest) (sym (append-nil talked.waiting ∙ last.2)) last.1)),
    last.3,
  )

  pub last_is_next : (ended : Bool) (old at new : P) (talk after talked : Talk) → ended ≡ true → after ≡ talk → at ≡ old →
      AnswersLast calls at after new talked → AnswersNext calls ended old talk new talked
  last_is_next true old at new talk after talked is same still last =
      subst (λ (p : P). AnswersNext calls true p talk new talked) still
      (subst (λ (t : Talk). AnswersNext calls true at t new talked) same (last_alone at new after talked last))
  last_is_next false old at new talk after talked is same still last = absurd (cc)

-- a text appended to others, of which some were written
pub put_behind : (items new line before text : List ℕ) (sent : ℕ) → new ≡ items ++ line → sent ≤ length items
    → drop sent items ≡ before → line ≡ text → drop sent new ≡ before ++ text
put_behind items new line before text sent is le rest same =
    ap (drop sent) is ∙ drop-append-le sent items line le ∙ ap (λ l. l ++ line) rest ∙ ap (λ l. before ++ l) same
