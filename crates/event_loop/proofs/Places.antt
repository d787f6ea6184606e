-- A thread's seats and row as the place where a session is served.
use Rattle.std.proofs.Common.{◌≡◌, inl, inr, ℕ, List, [], ◌∷◌, Result, Ok, Err, refl, ap}
use Rattle.pad_model.specs.declared.refusal.Refusal.{Refusal}
use Rattle.pad_core.specs.declared.request.Request.{Request}
use Rattle.sessions.specs.Session.{Session}
use Rattle.conversation.specs.Seating.{cells_in}
use Rattle.conversation.specs.Session.{Answer, Answers, Hears, Serves}
use Rattle.conversation.specs.Talk.{AnswersFirst, AnswersLast, Talk}
use Rattle.conversation.specs.ThreadSession.{CallsRow, lent}
use Rattle.conversation.specs.declared.shared.Shared.{Shared}
use Rattle.event_loop.specs.Party.{CallsPlace, IsAt, Place}
use Rattle.wire_json.specs.Lines.{request}

-- what answers in one world answers in another
module _ {P Q : Type 0} (calls : P → Request → Answer → P → Type 0) (asks : Q → Request → Answer → Q → Type 0)
    (to : P → Q)
    (each : (old new : P) (asked : Request) (answer : Answer) → calls old asked answer new → asks (to old) asked answer (to new)) where
  answers_there : (asked : Result Request Refusal) (answer : Answer) (old new : P) → Answers calls old asked answer new
      → Answers asks (to old) asked answer (to new)
  answers_there (Err refusal) answer old new (is, same) = (is, ap to same)
  answers_there (Ok asked) answer old new called = each old new asked answer called

  hears_there : (asked : Result Request Refusal) (answer : Answer) (old new : P) → Hears calls old asked answer new
      → Hears asks (to old) asked answer (to new)
  hears_there asked answer old new (inl answers) = inl (answers_there asked answer old new answers)
  hears_there asked answer old new (inr (is, same)) = inr (is, ap to same)

  serves_there : (lines : List (List ℕ)) (answers : List Answer) (old new : P) → Serves calls old lines answers new
      → Serves asks (to old) lines answers (to new)
  serves_there [] [] old new same = ap to same
  serves_there [] (answer ∷ answers) old new serves = elim serves [ ]
  serves_there ([] ∷ lines) answers old new serves = serves_there lines answers old new serves
  serves_there ((byte ∷ line) ∷ lines) [] old new serves = elim serves [ ]
  serves_there ((byte ∷ line) ∷ lines) (told ∷ answers) old new (mid, (answer, hears, is), serves) =
      (to mid, (answer, hears_there (request (byte ∷ line)) answer old mid hears, is), serves_there lines answers mid new serves)

  pub first_there : (old new : P) (talk talked : Talk) → AnswersFirst calls old talk new talked
      → AnswersFirst asks (to old) talk (to new) talked
  first_there old new talk talked (line, shows, (told, answers, serves, tells, says, cut)) =
      (line, shows, (told, answers, serves_there (line ∷ []) answers old new serves, tells, says, cut))

  pub last_there : (old new : P) (talk talked : Talk) → AnswersLast calls old talk new talked
      → AnswersLast asks (to old) talk (to new) talked
  last_there old new talk talked (line, shows, none, (told, answers, serves, tells, says, cut)) =
      (line, shows, none, (told, answers, serves_there (line ∷ []) answers old new serves, tells, says, cut))

module _ {S R G : Type 0} where
  -- a session that a thread serves
  abbrev pub place_of : Shared S R G → Place
  place_of shared = record {
    replica = shared.row.now.replica;
    accounts = shared.row.now.accounts.now;
    cells = cells_in shared.row.now.cells.now;
    who = shared.session.who;
    rooms = shared.session.rooms;
    seats = shared.seats.items;
  }

  called_there : (old new : Shared S R G) (asked : Request) (answer : Answer) → CallsRow old asked answer new
      → CallsPlace (place_of old) asked answer (place_of new)
  called_there old new asked answer called = called.1

  pub first_at : (old new : Shared S R G) (talk talked : Talk) → AnswersFirst CallsRow old talk new talked
      → AnswersFirst CallsPlace (place_of old) talk (place_of new) talked
  first_at = first_there CallsRow CallsPlace place_of called_there

  pub last_at : (old new : Shared S R G) (talk talked : Talk) → AnswersLast CallsRow old talk new talked
      → AnswersLast CallsPlace (place_of old) talk (place_of new) talked
  last_at = last_there CallsRow CallsPlace place_of called_there
