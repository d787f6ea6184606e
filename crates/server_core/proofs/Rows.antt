-- A row of cells, and what a request does at one of them.
use Rattle.std.proofs.Common.{◌≡◌, ◌⊎◌, inl, inr, ℕ, zero, suc, ◌+◌, ◌<◌, List, [], ◌∷◌, ◌++◌, Option, Some, None}
use Rattle.std.proofs.Common.{Result, Err, length, refl, ap, ◌∙◌}
use native.Mathlib.Numerals.{unary_clauses}
use Rattle.std.specs.List.{repeat, slice_set, slice_index_or}
use Rattle.std.proofs.lemmas.List.{set-get_or}
use Rattle.std.proofs.lemmas.Option.{slice_get-get_or}
use Rattle.pad_model.specs.declared.refusal.Refusal.{Refusal}
use Rattle.pad_model.specs.declared.who.Who.{Who}
use Rattle.sessions.specs.declared.session.Room.{Room}
use Rattle.pad_core.specs.Machine.{Machine}
use Rattle.pad_core.specs.declared.reply.Reply.{Reply}
use Rattle.pad_core.specs.declared.request.Request.{Request}
use Rattle.server_core.specs.AtCell.{request_at, row_answer}
use Rattle.server_core.specs.Served.{IsGranted, IsGrantedAt, RowVisited, TakesRoom, Visited}

repeat-suc : {A : Type 0} (n : ℕ) (x : A) → repeat n (x ∷ []) ++ x ∷ [] ≡ repeat (suc n) (x ∷ [])
repeat-suc zero x = refl
repeat-suc (suc n) x = ap (λ r. x ∷ r) (repeat-suc n x)

-- adding one more of the same at the end is adding it in front
pub repeat-more : {A : Type 0} (n : ℕ) (x : A) → repeat n (x ∷ []) ++ x ∷ [] ≡ repeat (n + 1) (x ∷ [])
repeat-more n x = simp unary_clauses (repeat-suc n x)

-- there are as many as were asked for
pub length-repeat : {A : Type 0} (n : ℕ) (x : A) → length (repeat n (x ∷ [])) ≡ n
length-repeat zero x = refl
length-repeat (suc n) x = ap suc (length-repeat n x)

-- what a request does at a cell, it does in the row
pub row_visited : (who : Who) (request : Request) (cell : ℕ) (rooms : List Room) (cells : List Machine) (d : Machine)
    (answer : Result (Option Reply) Refusal) (new : List Room) (after : Machine) →
    cell < length cells → Visited who request rooms (slice_index_or cells cell d)
    (request_at who request cell rooms (slice_index_or cells cell d)) answer new after →
    RowVisited who request cell rooms cells (row_answer who request cell rooms cells) answer new
    (slice_set cells cell after)
row_visited who request cell rooms cells d answer new after low (inl v) =
    inl (rw (slice_get-get_or cells cell d low) (ap (λ x. (x.0, x.1, slice_set cells cell x.2)) v))
row_visited who request cell rooms cells d answer new after low (inr (a, same, inl (kept, why))) =
    inr (a, same, inl (ap (λ m. slice_set cells cell m) kept ∙ set-get_or cells cell d, granted_at why))
  where
    granted_at : TakesRoom request ⊎ IsGranted request (slice_index_or cells cell d)
        (request_at who request cell rooms (slice_index_or cells cell d)).0 →
        TakesRoom request ⊎ IsGrantedAt request cell cells (row_answer who request cell rooms cells).0
    granted_at (inl takes) = inl takes
    granted_at (inr granted) = inr (
      slice_index_or cells cell d,
      slice_get-get_or cells cell d low,
      rw (slice_get-get_or cells cell d low) granted,
    )
row_visited who request cell rooms cells d answer new after low (inr (a, same, inr (name, act, on, cut))) =
    inr (a, same, inr (name, act, slice_index_or cells cell d, after, on, slice_get-get_or cells cell d low, cut, refl))
