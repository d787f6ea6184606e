-- A scan of a row, cell by cell.
use Rattle.std.proofs.Common.{◌≡◌, inl, ℕ, suc, ◌+◌, ◌-◌, ◌≤◌, List, Option, None, Result, Ok, sym}
use Rattle.std.proofs.Common.{◌∙◌, subst, arith}
use Rattle.pad_model.specs.declared.refusal.Refusal.{Refusal}
use Rattle.pad_model.specs.declared.who.Who.{Who}
use Rattle.pad_core.specs.declared.reply.Reply.{Reply}
use Rattle.pad_core.specs.declared.request.Request.{Request}
use Rattle.conversation.specs.PadTable.{Passes, Scans, Searches, Seated, Seeks, VisitsAt, of_cell}

-- the cell at a place answers
pub found : (cells : List ℕ) (cell place : ℕ) (who now : Who) (request : Request) (old mid new : Seated)
    (told : Result (Option Reply) Refusal) (answer : Result Reply Refusal) → cell ≤ place →
    (now ≡ who) × Passes cells who request cell (place - cell) old mid → VisitsAt cells now request place mid told new →
    told ≡ of_cell answer → Scans cells cell who request old answer new
found cells cell place who now request old mid new told answer low (same, passed) visits is =
    let at : place ≡ cell + (place - cell) = omega arith in (
      place - cell,
      mid,
      passed,
      inl (subst (λ n. VisitsAt cells who request n mid (of_cell answer) new) at
          (subst (λ t. VisitsAt cells who request place mid t new) is
          (subst (λ w. VisitsAt cells w request place mid told new) same visits))),
    )

-- one more cell has another name
pub passes_on : (cells : List ℕ) (cell place : ℕ) (who now then : Who) (request : Request) (old mid new : Seated)
    (told : Result (Option Reply) Refusal) → cell ≤ place →
    (now ≡ who) × Passes cells who request cell (place - cell) old mid → then ≡ now →
    VisitsAt cells now request place mid told new → told ≡ Ok None → (then ≡ who)
    × Passes cells who request cell (place + 1 - cell) old new
passes_on cells cell place who now then request old mid new told low (same, passed) stays visits is =
    let at : place ≡ cell + (place - cell) = omega arith in
    let next : suc (place - cell) ≡ place + 1 - cell = omega arith in (
      stays ∙ same,
      subst (λ n. Passes cells who request cell n old new) next (
        mid,
        passed,
        subst (λ n. VisitsAt cells who request n mid (Ok None) new) at
            (subst (λ t. VisitsAt cells who request place mid t new) is
            (subst (λ w. VisitsAt cells w request place mid told new) same visits)),
      ),
    )

-- a search that is not refused at once
pub searched : (r : Option Refusal) (cells : List ℕ) (name : List ℕ) (who then : Who) (request : Request) (old new : Seated)
    (answer : Result Reply Refusal) → r ≡ None → then ≡ who → Seeks cells name who request old answer new →
    Searches r cells name who request old answer new × (then ≡ who)
searched r cells name who then request old new answer is same seeks =
    (subst (λ r. Searches r cells name who request old answer new) (sym is) seeks, same)
