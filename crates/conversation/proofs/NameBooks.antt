-- Names that are learned, and the place of one of them.
use Rattle.std.proofs.Common.{◌≡◌, ℕ, suc, ◌+◌, ◌≤◌, Bool, true, false, cond, List, [], ◌∷◌, ◌++◌, length, not}
use Rattle.std.proofs.Common.{Option, Some, None, refl, sym, ap, ◌∙◌, subst, arith}
use Rattle.std.specs.Prelude.{nat_lt}
use Rattle.std.specs.List.{position, position_or_len}
use Rattle.std.proofs.lemmas.List.Sums.{prefix_len-le-length}
use Rattle.std.proofs.lemmas.Bool.{ltb-false}
use Rattle.shared_pads.specs.LockedPad.{IsNamed}
use Rattle.conversation.specs.Names.{AreNames}

-- the name of the next cell after those of the cells before it
pub names_push : (cell : ℕ) (names : List (List ℕ)) (name : List ℕ) → AreNames cell names →
    IsNamed (cell + length names) name → AreNames cell (names ++ name ∷ [])
names_push cell [] name h one =
    let at : cell + 0 ≡ cell = omega arith in (subst (λ n. IsNamed n name) at one, tt)
names_push cell (x ∷ names) name h one =
    let at : cell + suc (length names) ≡ cell + 1 + length names = omega arith in
    (h.0, names_push (cell + 1) names name h.1 (subst (λ n. IsNamed n name) at one))

-- the names after one was inserted, if it is that of the next cell
pub names_kept : (names : List (List ℕ)) (name : List ℕ) (cell : ℕ) (known : Bool) → AreNames 0 names →
    IsNamed cell name → cell ≡ length names → AreNames 0 (cond known names (names ++ name ∷ []))
names_kept names name cell true h one at = h
names_kept names name cell false h one at =
    let next : cell ≡ 0 + length names = omega arith in
    names_push 0 names name h (subst (λ n. IsNamed n name) next one)

none_in : (b : Bool) (n : ℕ) → (let o : Option ℕ = cond b (Some n) None in o) ≡ None → b ≡ false
none_in true n e = absurd (cc)
none_in false n e = refl

-- a name that is not known has its place after all names
pub place_missing : {X : Type 0} (p : X → Bool) (xs : List X) → position p xs ≡ None → length xs ≡ position_or_len p xs
place_missing p xs e =
    let past = ltb-false (position_or_len p xs) (length xs)
    (none_in (nat_lt (position_or_len p xs) (length xs)) (position_or_len p xs) e) in
    let within = prefix_len-le-length (λ x. not (p x)) xs in
    omega arith
