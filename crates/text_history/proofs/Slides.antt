-- The effect of one more slide on slides that lead, that are sorted, and that are since a revision.
use Rattle.std.proofs.Common.{◌≡◌, ℕ, zero, suc, ◌+◌, ◌≤◌, ◌<◌, true, false, nat_le, List, [], ◌∷◌, ◌++◌, length, drop}
use Rattle.std.proofs.Common.{get_or, drop-cons, refl, sym, ap, ◌∙◌, subst, arith}
use Rattle.std.specs.List.{AllByRecursion, prefix_len}
use Rattle.std.proofs.lemmas.Bool.Decides.{nat_tests}
use Rattle.pad_model.specs.Stamp.{Stamp}
use Rattle.pad_model.proofs.Newer.{split}
use Rattle.text_history.specs.Slide.{Slide}
use Rattle.text_history.specs.Slides.{Moves, Leads, IsSorted, since}

-- slides that lead to a moment lead on by a slide from there
pub leads-then : (slides : List Slide) (s : Slide) (old mid new : List Stamp) → Leads slides old mid → Moves s mid new →
    Leads (slides ++ s ∷ []) old new
leads-then [] s old mid new leads moves = (new, rw leads moves, refl)
leads-then (x ∷ slides) s old mid new leads moves =
    (leads.0, leads.1, leads-then slides s leads.0 mid new leads.2 moves)

-- a slide of the revision or before is skipped
pub since-passed : (rev : ℕ) (s : Slide) (slides : List Slide) → s.rev ≤ rev → since rev (s ∷ slides) ≡ since rev slides
since-passed rev s slides low =
    let test : nat_le s.rev rev ≡ true = grind (arith, nat_tests) in
    let more : 1 + prefix_len (λ (t : Slide). nat_le t.rev rev) slides
    ≡ suc (prefix_len (λ (t : Slide). nat_le t.rev rev) slides) = omega arith in
    rw (test, more) refl

-- all slides from the first later one on are there
pub since-here : (rev : ℕ) (s : Slide) (slides : List Slide) → rev < s.rev → since rev (s ∷ slides) ≡ s ∷ slides
since-here rev s slides high =
    let test : nat_le s.rev rev ≡ false = grind (arith, nat_tests) in
    rw test refl

-- a later slide is among those since the revision
pub since-later : (rev : ℕ) (slides : List Slide) (s : Slide) → rev < s.rev → since rev (slides ++ s ∷ [])
    ≡ since rev slides ++ s ∷ []
since-later rev [] s high = since-here rev s [] high
since-later rev (x ∷ slides) s high =
    split (nat_le x.rev rev)
    (λ e. let low : x.rev ≤ rev = grind (arith, nat_tests) in since-passed rev x (slides ++ s ∷ []) low
    ∙ since-later rev slides s high ∙ ap (λ l. l ++ s ∷ []) (sym (since-passed rev x slides low)))
    (λ e. let up : rev < x.rev = grind (arith, nat_tests) in since-here rev x (slides ++ s ∷ []) up
    ∙ ap (λ l. l ++ s ∷ []) (sym (since-here rev x slides up)))

-- no slide is since a revision that is before none of them
pub since-none : (rev : ℕ) (slides : List Slide) → AllByRecursion (λ s. s.rev ≤ rev) slides → since rev slides ≡ []
since-none rev [] all = refl
since-none rev (x ∷ slides) all = since-passed rev x slides all.0 ∙ since-none rev slides all.1

-- slides stay sorted with one more that is before none of them
pub sorted-then : (low : ℕ) (slides : List Slide) (s : Slide) → low ≤ s.rev → IsSorted low slides →
    AllByRecursion (λ t. t.rev ≤ s.rev) slides → IsSorted low (slides ++ s ∷ [])
sorted-then low [] s h sorted all = (h, tt)
sorted-then low (x ∷ slides) s h sorted all = (sorted.0, sorted-then x.rev slides s all.0 sorted.1 all.1)

-- slides lead on from any of them
pub leads-from : (i : ℕ) (slides : List Slide) (old new : List Stamp) → Leads slides old new → (mid : List Stamp)
    × Leads (drop i slides) mid new
leads-from zero slides old new leads = (old, leads)
leads-from (suc i) [] old new leads = (new, refl)
leads-from (suc i) (s ∷ slides) old new leads = leads-from i slides leads.0 new leads.2

-- the slide at a place is the first of those that lead from there
pub leads-next : (slides : List Slide) (i j : ℕ) (s : Slide) (mid new : List Stamp) → i < length slides →
    s ≡ get_or slides i s → j ≡ suc i → Leads (drop i slides) mid new
    → (next : List Stamp) × Moves s mid next × Leads (drop j slides) next new
leads-next slides i j s mid new h is e leads =
    let all = subst (λ l. Leads l mid new) (drop-cons slides i s h) leads in
    (all.0, subst (λ t. Moves t mid all.0) (sym is) all.1, subst (λ k. Leads (drop k slides) all.0 new) (sym e) all.2)

-- no revision of sorted slides is below the one at which they start
above : (low : ℕ) (slides : List Slide) (j : ℕ) (d : Slide) → IsSorted low slides → j < length slides →
    low ≤ (get_or slides j d).rev
above low [] j d sorted l = absurd (omega arith)
above low (s ∷ slides) zero d sorted l = sorted.0
above low (s ∷ slides) (suc j) d sorted l = let rest = above s.rev slides j d sorted.1 (omega arith) in let first =
    sorted.0 in omega arith

-- the revisions of sorted slides never fall
pub rises : (low : ℕ) (slides : List Slide) → IsSorted low slides → (i j : ℕ) (d : Slide) → i ≤ j → j < length slides →
    (get_or slides i d).rev ≤ (get_or slides j d).rev
rises low [] sorted i j d h l = absurd (omega arith)
rises low (s ∷ slides) sorted zero zero d h l = omega arith
rises low (s ∷ slides) sorted zero (suc j) d h l = above s.rev slides j d sorted.1 (omega arith)
rises low (s ∷ slides) sorted (suc i) zero d h l = absurd (omega arith)
rises low (s ∷ slides) sorted (suc i) (suc j) d h l = rises s.rev slides sorted.1 i j d (omega arith) (omega arith)

-- one more slide is counted, from the last one back
pub counts_next : (slides : List Slide) (i j : ℕ) (s : Slide) (count many : ℕ) → j < length slides →
    s ≡ get_or slides j s → i ≡ suc j → ((mid new : List Stamp) → Leads (drop i slides) mid new → length new ≡ many →
    count ≡ length mid)
    → (mid new : List Stamp) → Leads (drop j slides) mid new → length new ≡ many → (next : List Stamp)
    × Moves s mid next × (count ≡ length next)
counts_next slides i j s count many h is e so_far mid new leads size =
    let step = leads-next slides j i s mid new h is e leads in
    (step.0, step.1, so_far step.0 new step.2 size)
