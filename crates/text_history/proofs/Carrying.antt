-- The effect of a slide on the character at a place, and on the number of characters.
use Rattle.std.proofs.Common.{◌≡◌, ℕ, zero, suc, ◌+◌, ◌-◌, ◌≤◌, ◌<◌, true, false, cond, List, [], ◌∷◌, ◌++◌, length}
use Rattle.std.proofs.Common.{Some, slice_get, refl, sym, ap, ◌∙◌, arith, length-append}
use Rattle.pad_model.specs.Character.{next}
use Rattle.pad_model.specs.Operation.{stamps_from}
use Rattle.pad_model.specs.Stamp.{Stamp}
use Rattle.pad_model.specs.declared.limits.TheConstants.{MAX_CHARACTERS}
use Rattle.text_history.specs.Slide.{Slide}
use Rattle.text_history.specs.Slides.{Moves}

-- the stamp this many places after a first one
abbrev pub so_far_behind : Stamp → ℕ → Stamp
so_far_behind first i = record first { counter = first.counter + i }

pub get_front : {A : Type 0} (xs ys : List A) (i : ℕ) → i < length xs → slice_get (xs ++ ys) i ≡ slice_get xs i
get_front [] ys i h = absurd (omega arith)
get_front (x ∷ xs) ys zero h = refl
get_front (x ∷ xs) ys (suc i) h = get_front xs ys i (omega arith)

pub get_back : {A : Type 0} (xs ys : List A) (i j : ℕ) → i ≡ length xs + j → slice_get (xs ++ ys) i ≡ slice_get ys j
get_back [] ys i j e = ap (slice_get ys) (let same : i ≡ j = omega (arith, e) in same)
get_back (x ∷ xs) ys zero j e = absurd (omega arith)
get_back (x ∷ xs) ys (suc i) j e = get_back xs ys i j (omega arith)

pub length-stamps : (first : Stamp) (n : ℕ) → length (stamps_from first n) ≡ n
length-stamps first zero = refl
length-stamps first (suc n) = ap suc (length-stamps (next first) n)

pub get_stamp : (first : Stamp) (n i : ℕ) → i < n → slice_get (stamps_from first n) i ≡ Some (so_far_behind first i)
get_stamp first zero i h = absurd (omega arith)
get_stamp first (suc n) zero h = ap (λ c. Some (let it : Stamp = record first { counter = c } in it))
    (let same : first.counter ≡ first.counter + 0 = omega arith in same)
get_stamp first (suc n) (suc i) h =
    get_stamp (next first) n i (omega arith)
    ∙ ap (λ c. Some (let it : Stamp = record first { counter = c } in it)) (let same : first.counter + 1 + i
    ≡ first.counter + suc i = omega arith in same)

module _ (s : Slide) (old new : List Stamp) (moves : Moves s old new) where
  shown_before : s.shows ≡ true → old ≡ moves.front ++ moves.back
  shown_before e = moves.before ∙ ap (λ b. moves.front ++ cond b moves.back (stamps_from s.first s.len ++ moves.back)) e

  shown_after : s.shows ≡ true → new ≡ moves.front ++ (stamps_from s.first s.len ++ moves.back)
  shown_after e = moves.after ∙ ap (λ b. moves.front ++ cond b (stamps_from s.first s.len ++ moves.back) moves.back) e

  hidden_before : s.shows ≡ false → old ≡ moves.front ++ (stamps_from s.first s.len ++ moves.back)
  hidden_before e = moves.before ∙ ap (λ b. moves.front ++ cond b moves.back (stamps_from s.first s.len ++ moves.back))
      e

  hidden_after : s.shows ≡ false → new ≡ moves.front ++ moves.back
  hidden_after e = moves.after ∙ ap (λ b. moves.front ++ cond b (stamps_from s.first s.len ++ moves.back) moves.back) e

  -- the number of characters without the stretch, and with it
  without : (xs : List Stamp) → xs ≡ moves.front ++ moves.back → length xs ≡ s.at + length moves.back
  without xs e =
      let place = moves.place in
      ap length e ∙ length-append moves.front moves.back ∙ ap (λ n. n + length moves.back) place

  with : (xs : List Stamp) → xs ≡ moves.front ++ (stamps_from s.first s.len ++ moves.back) → length xs ≡ s.at
      + (s.len + length moves.back)
  with xs e =
      let place = moves.place in
      let size = length-stamps s.first s.len in
      let all = ap length e ∙ length-append moves.front (stamps_from s.first s.len ++ moves.back) in
      let tail = length-append (stamps_from s.first s.len) moves.back in
      omega arith

  pub shown_len : s.shows ≡ true → (length new ≡ length old + s.len) × (s.at ≤ length old)
      × (length new ≤ MAX_CHARACTERS)
  shown_len e =
      let before = without old (shown_before e) in
      let after = with new (shown_after e) in
      let small = moves.small in
      (omega arith, omega arith, omega arith)

  pub hidden_len : s.shows ≡ false → (length old ≡ length new + s.len) × (s.at + s.len ≤ length old)
      × (length old ≤ MAX_CHARACTERS)
  hidden_len e =
      let before = with old (hidden_before e) in
      let after = without new (hidden_after e) in
      let small = moves.small in
      (omega arith, omega arith, omega arith)

  -- a character before the stretch stays where it is
  pub stays : (i : ℕ) → i < s.at → slice_get new i ≡ slice_get old i
  stays i h =
      let place = moves.place in
      ap (λ l. slice_get l i) moves.after
      ∙ get_front moves.front (cond s.shows (stamps_from s.first s.len ++ moves.back) moves.back) i (omega arith)
      ∙ sym (get_front moves.front (cond s.shows moves.back (stamps_from s.first s.len ++ moves.back)) i (omega arith))
      ∙ sym (ap (λ l. slice_get l i) moves.before)

  -- a character after the stretch, without the stretch and with it
  behind : (i : ℕ) → s.at ≤ i → slice_get (moves.front ++ (stamps_from s.first s.len ++ moves.back)) (i + s.len)
      ≡ slice_get (moves.front ++ moves.back) i
  behind i h =
      let place = moves.place in
      let size = length-stamps s.first s.len in
      get_back moves.front (stamps_from s.first s.len ++ moves.back) (i + s.len) (i - s.at + s.len) (omega arith)
      ∙ get_back (stamps_from s.first s.len) moves.back (i - s.at + s.len) (i - s.at) (omega arith)
      ∙ sym (get_back moves.front moves.back i (i - s.at) (omega arith))

  -- a shown stretch moves what follows it
  pub moved_on : s.shows ≡ true → (i : ℕ) → s.at ≤ i → slice_get new (i + s.len) ≡ slice_get old i
  moved_on e i h = ap (λ l. slice_get l (i + s.len)) (shown_after e) ∙ behind i h
      ∙ sym (ap (λ l. slice_get l i) (shown_before e))

  -- a hidden stretch moves what follows it
  pub moved_back : s.shows ≡ false → (i : ℕ) → s.at + s.len ≤ i → slice_get new (i - s.len) ≡ slice_get old i
  moved_back e i h =
      ap (λ l. slice_get l (i - s.len)) (hidden_after e) ∙ sym (behind (i - s.len) (omega arith))
      ∙ ap (slice_get (moves.front ++ (stamps_from s.first s.len ++ moves.back)))
      (let same : i - s.len + s.len ≡ i = omega arith in same)
      ∙ sym (ap (λ l. slice_get l i) (hidden_before e))

  -- a character of a hidden stretch
  pub gone : s.shows ≡ false → (i : ℕ) → s.at ≤ i → i < s.at + s.len → slice_get old i
      ≡ Some (so_far_behind s.first (i - s.at))
  gone e i h l =
      let place = moves.place in
      let size = length-stamps s.first s.len in
      ap (λ l. slice_get l i) (hidden_before e)
      ∙ get_back moves.front (stamps_from s.first s.len ++ moves.back) i (i - s.at) (omega arith)
      ∙ get_front (stamps_from s.first s.len) moves.back (i - s.at) (omega arith)
      ∙ get_stamp s.first s.len (i - s.at) (omega arith)
