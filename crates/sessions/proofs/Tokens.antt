-- Texts that do not differ at any place.
use Rattle.std.proofs.Common.{◌≡◌, ℕ, zero, suc, ◌+◌, ◌<◌, Bool, true, false, ◌&&◌, List, [], ◌∷◌, length, cond}
use Rattle.std.proofs.Common.{take, get_or, refl, ap, ◌∙◌, arith, eqb, bytes_eq}
use Rattle.std.proofs.lemmas.Bool.{ne_eqb}
use Rattle.sessions.specs.Tokens.{differences}

-- the differences so far, and one more place
pub differences_more : (a b : List ℕ) (i : ℕ) → i < length a → i < length b → differences (take (i + 1) a) (take (i + 1) b)
    ≡ differences (take i a) (take i b) + cond (eqb (get_or a i 0) (get_or b i 0)) 0 1
differences_more [] b i la lb = absurd (omega arith)
differences_more (x ∷ a) [] i la lb = absurd (omega arith)
differences_more (x ∷ a) (y ∷ b) zero la lb = omega arith
differences_more (x ∷ a) (y ∷ b) (suc i) la lb =
    let e : suc i + 1 ≡ suc (i + 1) = omega arith in
    rw e (omega (arith, differences_more a b i (omega arith) (omega arith)))

-- texts of the same length are equal exactly if they differ at no place
pub none_differs : (a b : List ℕ) → length a ≡ length b → eqb (differences a b) 0 ≡ bytes_eq a b
none_differs [] [] e = refl
none_differs [] (y ∷ b) e = absurd (omega (arith, e))
none_differs (x ∷ a) [] e = absurd (omega (arith, e))
none_differs (x ∷ a) (y ∷ b) e = by_first (none_differs a b (omega (arith, e))) (eqb x y)
  where
    by_first : eqb (differences a b) 0 ≡ bytes_eq a b → (same : Bool)
        → eqb (cond same 0 1 + differences a b) 0 ≡ (same && bytes_eq a b)
    by_first rest true = let same : 0 + differences a b ≡ differences a b = omega arith in ap (λ n. eqb n 0) same ∙ rest
    by_first rest false = ne_eqb (1 + differences a b) 0 (λ e. omega (arith, e))
