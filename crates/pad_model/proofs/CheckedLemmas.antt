-- What the check of an operation computes, and what `==` says of operations.
use Rattle.std.proofs.Common.{◌≡◌, ℕ, ◌+◌, ◌≤◌, false, List, [], ◌∷◌, min, fold, sum_by, refl, sym, ap, ◌∙◌, rules}
use Rattle.std.proofs.Common.{arith}
use Rattle.std.specs.Bool.{Decides}
use Rattle.std.proofs.lemmas.Bool.{false≢true}
use Rattle.std.proofs.lemmas.Bool.Decides.{Decides-like}
use Rattle.std.proofs.lemmas.List.Sums.{sum_by-cons}
use Rattle.std.proofs.lemmas.Slice.Eq.{slice_eq-Decides}
use Rattle.pad_model.specs.declared.op.Op.{Op}
use Rattle.pad_model.specs.declared.op.Part.{Part}
use Rattle.pad_model.specs.declared.op.Part.TheVariants.{Insert, Delete, Comment, Resolve}
use Rattle.pad_model.specs.declared.op.Run.{Run}
use Rattle.pad_model.specs.declared.op.Span.{Span}
use Rattle.pad_model.specs.contracts.op.OpPartialEq.TheImpl as ops
use Rattle.pad_model.specs.contracts.op.PartPartialEq.TheImpl as parts
use Rattle.pad_model.specs.contracts.op.RunPartialEq.TheImpl as runs
use Rattle.pad_model.specs.contracts.op.SpanPartialEq.TheImpl as spans
use Rattle.pad_model.proofs.SeenLemmas.{seen_decides}

-- a sum whose steps stop at a bound
stopped : {A : Type 0} (f : A → ℕ) (most : ℕ) (xs : List A) (from : ℕ) → from ≤ most →
    fold (λ total x. min (total + f x) most) from xs ≡ min (from + sum_by f xs) most
stopped f most [] from le = omega arith
stopped f most (x ∷ xs) from le =
    stopped f most xs (min (from + f x) most) (omega arith) ∙ step (f x) (sum_by f xs) ∙ ap (λ n. min (from + n) most)
    (sym (sum_by-cons f x xs))
  where
    step : (n rest : ℕ) → min (min (from + n) most + rest) most ≡ min (from + (n + rest)) most
    step n rest = omega arith

-- a sum whose terms stop at the bound too is the same
stopped_terms : {A : Type 0} (f : A → ℕ) (most : ℕ) (xs : List A) (from : ℕ) →
    fold (λ total x. min (total + min (f x) most) most) from xs ≡ fold (λ total x. min (total + f x) most) from xs
stopped_terms {A} f most [] from = refl
stopped_terms {A} f most (x ∷ xs) from =
    stopped_terms f most xs (min (from + min (f x) most) most)
    ∙ ap (λ n. fold (λ total (y : A). min (total + f y) most) n xs) (step (f x))
  where
    step : (n : ℕ) → min (from + min n most) most ≡ min (from + n) most
    step n = omega arith

-- such a sum is the sum, up to the bound
pub fold_total : {A : Type 0} (f : A → ℕ) (most : ℕ) (xs : List A) → fold (λ total x. min (total + f x) most) 0 xs
    ≡ min (sum_by f xs) most
fold_total f most xs = stopped f most xs 0 (omega arith) ∙ ap (λ n. min n most) (omega arith)

pub fold_bounded : {A : Type 0} (f : A → ℕ) (most : ℕ) (xs : List A) →
    fold (λ total x. min (total + min (f x) most) most) 0 xs ≡ min (sum_by f xs) most
fold_bounded f most xs = stopped_terms f most xs 0 ∙ fold_total f most xs

run_decides : (a b : Run) → Decides (runs.eq-value.it a b) (a ≡ b)
run_decides a b = search rules

span_decides : (a b : Span) → Decides (spans.eq-value.it a b) (a ≡ b)
span_decides a b = search rules

-- parts of two kinds are never equal
unlike : {P : Type 0} → (P → ⊥) → Decides false P
unlike apart = ((λ e. absurd (false≢true e)), (λ p. absurd (apart p)))

-- what `==` says of two parts, and of two operations, is whether they are equal
pub part_decides : (a b : Part) → Decides (parts.eq-value.it a b) (a ≡ b)
part_decides (Insert a) (Insert b) = Decides-like _ (λ e. ap Insert e) (λ e. cc) (run_decides a b)
part_decides (Insert a) (Delete b) = unlike (λ e. cc)
part_decides (Insert a) (Comment b1 b2 b3) = unlike (λ e. cc)
part_decides (Insert a) (Resolve b) = unlike (λ e. cc)
part_decides (Delete a) (Insert b) = unlike (λ e. cc)
part_decides (Delete a) (Delete b) = Decides-like _ (λ e. ap Delete e) (λ e. cc)
    (slice_eq-Decides span_decides a b _ refl)
part_decides (Delete a) (Comment b1 b2 b3) = unlike (λ e. cc)
part_decides (Delete a) (Resolve b) = unlike (λ e. cc)
part_decides (Comment a1 a2 a3) (Insert b) = unlike (λ e. cc)
part_decides (Comment a1 a2 a3) (Delete b) = unlike (λ e. cc)
part_decides (Comment a1 a2 a3) (Comment b1 b2 b3) = search rules
part_decides (Comment a1 a2 a3) (Resolve b) = unlike (λ e. cc)
part_decides (Resolve a) (Insert b) = unlike (λ e. cc)
part_decides (Resolve a) (Delete b) = unlike (λ e. cc)
part_decides (Resolve a) (Comment b1 b2 b3) = unlike (λ e. cc)
part_decides (Resolve a) (Resolve b) = search rules

pub op_decides : (a b : Op) → Decides (ops.eq-value.it a b) (a ≡ b)
op_decides a b = let h = slice_eq-Decides part_decides a.parts b.parts _ refl in search (rules, h, seen_decides)
