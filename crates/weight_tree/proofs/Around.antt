-- Reads and edits of a list l ++ x ∷ r on either side of x.
use Rattle.std.proofs.Common.{◌≡◌, ℕ, zero, suc, ◌+◌, ◌-◌, ◌<◌, ◌≤◌, List, [], ◌∷◌, ◌++◌, length, take, sum_by}
use Rattle.std.proofs.Common.{slice_get, Some, refl, ap, sym, ◌∙◌, arith, length-append}
use Rattle.std.specs.Prelude.{insert}
use Rattle.std.specs.List.{remove}
use Rattle.std.proofs.Math.ListN.{set}
use Rattle.std.proofs.lemmas.List.Edits.{insert-append_right, remove-append_left, remove-append_right}
use Rattle.std.proofs.Math.Seq.{take-append-add, set-append_seam}
use Rattle.std.proofs.lemmas.List.{length-set, set-append_left, set-append_right}
use Rattle.std.proofs.lemmas.List.Sums.{sum_by-append, sum_by-cons}

module _ {X : Type 0} where
  pub length_around : (l : List X) (x : X) (r : List X) → length (l ++ x ∷ r) ≡ length l + length r + 1
  length_around l x r = omega (arith, length-append l (x ∷ r))

  pub sum_around : (f : X → ℕ) (l : List X) (x : X) (r : List X) → sum_by f (l ++ x ∷ r) ≡ sum_by f l + f x + sum_by f r
  sum_around f l x r = omega (arith, sum_by-append f l (x ∷ r), sum_by-cons f x r)

  pub take_after : (l : List X) (x : X) (r : List X) (i j : ℕ) → i ≡ length l + suc j → take i (l ++ x ∷ r) ≡ l ++ x
      ∷ take j r
  take_after l x r i j e = rw e (take-append-add l (x ∷ r) (suc j))

  pub take_right : (l : List X) (x : X) (r : List X) (i : ℕ) → length l < i → take i (l ++ x ∷ r) ≡ l ++ x
      ∷ take (i - length l - 1) r
  take_right l x r i h = take_after l x r i (i - length l - 1) (omega arith)

  pub insert_after : (l : List X) (x : X) (r : List X) (i j : ℕ) (y : X) → i ≡ length l + suc j →
      insert (l ++ x ∷ r) i y ≡ l ++ x ∷ insert r j y
  insert_after l x r i j y e =
      let past : length l ≤ i = omega arith in
      let gap : i - length l ≡ suc j = omega arith in
      insert-append_right l (x ∷ r) (length l) i y refl past ∙ ap (λ k. l ++ insert (x ∷ r) k y) gap

  pub insert_right : (l : List X) (x : X) (r : List X) (i : ℕ) (y : X) → length l < i → insert (l ++ x ∷ r) i y ≡ l ++ x
      ∷ insert r (i - length l - 1) y
  insert_right l x r i y h = insert_after l x r i (i - length l - 1) y (omega arith)

  pub set_after : (l : List X) (x : X) (r : List X) (i j : ℕ) (y : X) → i ≡ length l + suc j → set (l ++ x ∷ r) i y ≡ l
      ++ x ∷ set r j y
  set_after l x r i j y e =
      let past : length l ≤ i = omega arith in
      let gap : i - length l ≡ suc j = omega arith in
      set-append_right l (x ∷ r) (length l) i y refl past ∙ ap (λ k. l ++ set (x ∷ r) k y) gap

  pub set_left : (l : List X) (x : X) (r : List X) (i : ℕ) (y : X) → i < length l → set (l ++ x ∷ r) i y ≡ set l i y
      ++ x ∷ r
  set_left l x r i y h = set-append_left l (x ∷ r) i y h

  pub set_here : (l : List X) (x : X) (r : List X) (i : ℕ) (y : X) → i ≡ length l → set (l ++ x ∷ r) i y ≡ l ++ y ∷ r
  set_here l x r i y e = rw e (set-append_seam l x r y)

  pub set_right : (l : List X) (x : X) (r : List X) (i : ℕ) (y : X) → length l < i → set (l ++ x ∷ r) i y ≡ l ++ x
      ∷ set r (i - length l - 1) y
  set_right l x r i y h = set_after l x r i (i - length l - 1) y (omega arith)

  -- ---- one item less
  pub remove_left : (l : List X) (x : X) (r : List X) (i : ℕ) → i < length l → remove (l ++ x ∷ r) i ≡ remove l i ++ x
      ∷ r
  remove_left l x r i h = remove-append_left l (x ∷ r) i h

  pub remove_here : (l : List X) (x : X) (r : List X) (i : ℕ) → i ≡ length l → remove (l ++ x ∷ r) i ≡ l ++ r
  remove_here l x r i e =
      let past : length l ≤ i = omega arith in
      let gap : i - length l ≡ zero = omega arith in
      remove-append_right l (x ∷ r) (length l) i refl past ∙ ap (λ k. l ++ remove (x ∷ r) k) gap

  pub remove_right : (l : List X) (x : X) (r : List X) (i j : ℕ) → i ≡ length l + suc j → remove (l ++ x ∷ r) i ≡ l ++ x
      ∷ remove r j
  remove_right l x r i j e =
      let past : length l ≤ i = omega arith in
      let gap : i - length l ≡ suc j = omega arith in
      remove-append_right l (x ∷ r) (length l) i refl past ∙ ap (λ k. l ++ remove (x ∷ r) k) gap

  pub sum_removed : (f : X → ℕ) (xs : List X) (i : ℕ) (x : X) → slice_get xs i ≡ Some x → sum_by f (remove xs i) + f x
      ≡ sum_by f xs
  sum_removed f [] i x e = absurd (cc)
  sum_removed f (y ∷ ys) zero x e = let same : y ≡ x = cc in rw (sum_by-cons f y ys, same) (omega arith)
  sum_removed f (y ∷ ys) (suc i) x e =
      let rest = sum_removed f ys i x e in
      rw (sum_by-cons f y ys, sum_by-cons f y (remove ys i)) (omega (arith, rest))

  pub first_back : (xs : List X) (x : X) → slice_get xs 0 ≡ Some x → x ∷ remove xs 0 ≡ xs
  first_back [] x e = absurd (cc)
  first_back (y ∷ ys) x e = let same : y ≡ x = cc in ap (λ z. z ∷ ys) (sym same)

  pub get_left : (l : List X) (x : X) (r : List X) (i : ℕ) (y : X) → slice_get l i ≡ Some y → slice_get (l ++ x ∷ r) i
      ≡ Some y
  get_left [] x r i y e = absurd (cc)
  get_left (z ∷ l) x r zero y e = e
  get_left (z ∷ l) x r (suc i) y e = get_left l x r i y e

  pub get_here : (l : List X) (x : X) (r : List X) (i : ℕ) → i ≡ length l → slice_get (l ++ x ∷ r) i ≡ Some x
  get_here [] x r zero e = refl
  get_here [] x r (suc i) e = absurd (omega arith)
  get_here (z ∷ l) x r zero e = absurd (omega arith)
  get_here (z ∷ l) x r (suc i) e = get_here l x r i (omega arith)

  pub get_right : (l : List X) (x : X) (r : List X) (i j : ℕ) (y : X) → i ≡ length l + suc j → slice_get r j ≡ Some y →
      slice_get (l ++ x ∷ r) i ≡ Some y
  get_right [] x r zero j y e is = absurd (omega arith)
  get_right [] x r (suc i) j y e is = let same : i ≡ j = omega arith in ap (slice_get r) same ∙ is
  get_right (z ∷ l) x r zero j y e is = absurd (omega arith)
  get_right (z ∷ l) x r (suc i) j y e is = get_right l x r i j y (omega arith) is

-- the parts of a list before and after a place, and their sums
pub ruleset parts = (take_right, sum_around, length_around)

-- a list with one item replaced, and its sum
pub ruleset edits = (set_left, set_here, set_right, sum_around, length_around, sum_by-append, length-append, length-set)
