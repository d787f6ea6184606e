-- Seats that serve a session other than the thread's own.
use Rattle.std.proofs.Common.{◌≡◌, inl, inr, ℕ, Bool, true, false, List, [], ◌∷◌, Result, Ok, Err, refl, ap, ◌∙◌}
use Rattle.std.specs.Result.{OnErr}
use Rattle.pad_model.specs.declared.refusal.Refusal.{Refusal}
use Rattle.pad_core.specs.declared.request.Request.{Request}
use Rattle.sessions.specs.Session.{Session}
use Rattle.wire_json.specs.Lines.{request}
use Rattle.wire_lines.specs.declared.fault.Fault.{Fault}
use Rattle.conversation.specs.ThreadSession.{CallsRow, lent}
use Rattle.conversation.specs.Session.{Answer, Hears, Serves}
use Rattle.conversation.specs.Talk.{Talk, AnswersFirst, AnswersLast}
use Rattle.conversation.specs.declared.conversation.LineOutcome.{LineOutcome}
use Rattle.conversation.specs.declared.conversation.LineOutcome.TheVariants as turn
use Rattle.conversation.specs.declared.shared.Shared.{Shared}

module _ {S R G : Type 0} where
  -- a session that was swapped out is put back
  pub lent_back : (pads self : Shared S R G) (own session : Session) → self ≡ lent pads own →
      session ≡ pads.session → lent self session ≡ pads
  lent_back pads self own session is same = ap (λ s. lent s session) is ∙ ap (λ x. lent pads x) same

  hears_row : (old new : Shared S R G) (asked : Result Request Refusal) (answer : Answer) →
      Hears CallsRow old asked answer new → new.row ≡ old.row
  hears_row old new (Ok asked) answer (inl called) = called.0
  hears_row old new (Err refusal) answer (inl (is, same)) = ap (λ (s : Shared S R G). s.row) same
  hears_row old new (Ok asked) answer (inr (is, same)) = ap (λ (s : Shared S R G). s.row) same
  hears_row old new (Err refusal) answer (inr (is, same)) = ap (λ (s : Shared S R G). s.row) same

  -- a line leaves the row unchanged
  serves_row : (old new : Shared S R G) (line : List ℕ) (answers : List Answer) →
      Serves CallsRow old (line ∷ []) answers new → new.row ≡ old.row
  serves_row old new [] [] served = ap (λ (s : Shared S R G). s.row) served
  serves_row old new [] (answer ∷ answers) served = absurd served
  serves_row old new (byte ∷ line) [] served = absurd served
  serves_row old new (byte ∷ line) (told ∷ []) (mid, (answer, hears, is), same) =
      ap (λ (s : Shared S R G). s.row) same ∙ hears_row old mid (request (byte ∷ line)) answer hears
  serves_row old new (byte ∷ line) (told ∷ other ∷ answers) (mid, tells, none) = absurd none

  -- a turn leaves the row unchanged
  pub turn_row : (old new : Shared S R G) (talk talked : Talk) (result : Result LineOutcome Fault) (L W F : Type 0) →
      (result ≡ Ok turn.Answered → AnswersFirst CallsRow old talk new talked) →
      (result ≡ Ok turn.Cut → L × (new ≡ old)) →
      (result ≡ Ok turn.Waits → (talked ≡ talk) × (new ≡ old) × W) →
      (result ≡ Ok turn.Full → (talked ≡ talk) × (new ≡ old) × F) →
      OnErr result ((talked ≡ talk) × (new ≡ old)) → new.row ≡ old.row
  turn_row old new talk talked (Ok turn.Answered) L W F answered long waits full err =
      let (line, shows, (told, answers, serves, tells, says, cut)) = answered refl in serves_row old new line answers serves
  turn_row old new talk talked (Ok turn.Waits) L W F answered long waits full err =
      ap (λ (s : Shared S R G). s.row) (waits refl).1
  turn_row old new talk talked (Ok turn.Full) L W F answered long waits full err =
      ap (λ (s : Shared S R G). s.row) (full refl).1
  turn_row old new talk talked (Ok turn.Cut) L W F answered long waits full err =
      ap (λ (s : Shared S R G). s.row) (long refl).1
  turn_row old new talk talked (Err fault) L W F answered long waits full err = ap (λ (s : Shared S R G). s.row) err.1

  pub last_row : (old new : Shared S R G) (talk talked : Talk) (result : Result Bool Fault) (N : Type 0) →
      (result ≡ Ok true → AnswersLast CallsRow old talk new talked) →
      (result ≡ Ok false → (talked ≡ talk) × N × (new ≡ old)) →
      OnErr result ((talked ≡ talk) × (new ≡ old)) → new.row ≡ old.row
  last_row old new talk talked (Ok true) N last none err =
      let (line, shows, ends, (told, answers, serves, tells, says, cut)) = last refl in serves_row old new line answers serves
  last_row old new talk talked (Ok false) N last none err = ap (λ (s : Shared S R G). s.row) (none refl).2
  last_row old new talk talked (Err fault) N last none err = ap (λ (s : Shared S R G). s.row) err.1
