-- Records that agree one by one.
use Rattle.std.proofs.Common.{◌≡◌, ℕ, suc, ◌+◌, ◌<◌, Bool, true, false, cond, List, [], ◌∷◌, ◌++◌, length, take}
use Rattle.std.proofs.Common.{drop, get_or, slice_get, Option, Some, None, refl, sym, ap, ◌∙◌, subst, arith, drop-cons}
use Rattle.std.proofs.Common.{append_assoc}
use Rattle.std.proofs.Math.Seq.{take-suc}
use Rattle.std.proofs.lemmas.List.{take-append-drop, length-take-le}
use Rattle.std.proofs.lemmas.Option.{slice_get_read}
use Rattle.pad_model.specs.declared.op.Op.{Op}
use Rattle.pad_core.specs.Audit.{agrees, first_fault, IsRead}
use Rattle.pad_core.specs.declared.recorded.Recorded.{Recorded}

some_none : (n : ℕ) → (let o : Option ℕ = Some n in o) ≡ None → ⊥
some_none n q = cc

-- after records that agree, the rest is checked with them before it
behind : (log : List Op) (before xs ys : List Recorded) → first_fault log before xs ≡ None →
    first_fault log before (xs ++ ys) ≡ first_fault log (before ++ xs) ys
behind log before [] ys none = ap (λ (b : List Recorded). first_fault log b ys) (sym (append-empty before))
  where
    append-empty : (l : List Recorded) → l ++ [] ≡ l
    append-empty [] = refl
    append-empty (y ∷ l) = ap (λ (r : List Recorded). y ∷ r) (append-empty l)
behind log before (x ∷ xs) ys none = at (behind log (before ++ x ∷ []) xs ys) (agrees log before x) refl
  where
    at : (first_fault log (before ++ x ∷ []) xs ≡ None → first_fault log (before ++ x ∷ []) (xs ++ ys)
        ≡ first_fault log ((before ++ x ∷ []) ++ xs) ys) →
        (b : Bool) → agrees log before x ≡ b → first_fault log before ((x ∷ xs) ++ ys)
        ≡ first_fault log (before ++ x ∷ xs) ys
    at rest true e =
        rw e (rest (subst (λ b. cond b (first_fault log (before ++ x ∷ []) xs) (Some (length before)) ≡ None) e none)
        ∙ ap (λ (b : List Recorded). first_fault log b ys) (append_assoc before (x ∷ []) xs))
    at rest false e = absurd (some_none (length before)
        (subst (λ b. cond b (first_fault log (before ++ x ∷ []) xs) (Some (length before)) ≡ None) e none))

-- records that agree, one that does not, and the rest
cut : (xs : List Recorded) (i : ℕ) (x : Recorded) → i < length xs → x ≡ get_or xs i x → xs ≡ take i xs ++ x
    ∷ drop (suc i) xs
cut xs i x low is = sym (take-append-drop i xs) ∙ ap (λ (ys : List Recorded). take i xs ++ ys)
    (drop-cons xs i x low ∙ ap (λ y. y ∷ drop (suc i) xs) (sym is))

-- the first record that does not agree
pub fault_found : (log : List Op) (xs : List Recorded) (i : ℕ) (x : Recorded) (b : Bool) →
    first_fault log [] (take i xs) ≡ None → i < length xs → x ≡ get_or xs i x → b ≡ agrees log (take i xs) x →
    b ≡ false →
    first_fault log [] xs ≡ Some i
fault_found log xs i x b none low is told fails =
    let e : agrees log (take i xs) x ≡ false = sym told ∙ fails in
    ap (first_fault log []) (cut xs i x low is) ∙ behind log [] (take i xs) (x ∷ drop (suc i) xs) none
    ∙ rw e (ap (λ (n : ℕ). Some n) (length-take-le i xs (omega arith)))

-- one more record agrees
pub one_agrees : (log : List Op) (xs : List Recorded) (i : ℕ) (x : Recorded) (b : Bool) → first_fault log [] (take i xs)
    ≡ None → i < length xs → x ≡ get_or xs i x → b ≡ agrees log (take i xs) x → b ≡ true →
    first_fault log [] (take (i + 1) xs) ≡ None
one_agrees log xs i x b none low is told holds =
    let e : agrees log (take i xs) x ≡ true = sym told ∙ holds in
    let next : i + 1 ≡ suc i = omega arith in
    ap (λ (n : ℕ). first_fault log [] (take n xs)) next ∙ ap (first_fault log [])
    (take-suc xs i x low ∙ ap (λ y. take i xs ++ y ∷ []) (sym is))
    ∙ behind log [] (take i xs) (x ∷ []) none ∙ rw e refl

-- there was no memory for a text
pub unread : (log : List Op) (xs : List Recorded) (i : ℕ) (x : Recorded) → i < length xs → x ≡ get_or xs i x →
    IsRead log (Some x) → IsRead log (slice_get xs i)
unread log xs i x low is read = subst (IsRead log) (sym (slice_get_read xs (length xs) i x refl low is)) read
