-- A copy whose log is put back is what it was.
use Rattle.std.proofs.Common.{◌≡◌, ℕ, List, [], ◌∷◌, ◌++◌, length, take, refl, sym, ap, ◌∙◌, append-nil, append_assoc}
use Rattle.std.proofs.Math.Seq.{take-append_seam}
use Rattle.file_copies.specs.Laws.{HasTaken, Stretch, completed}

-- what is in front of the place of a stretch stays
kept : (copy left : List ℕ) (at : ℕ) → at ≡ length copy → take at (copy ++ left) ≡ copy
kept copy left at there = ap (λ (n : ℕ). take n (copy ++ left)) there ∙ take-append_seam copy left

-- a copy that nothing was left behind is what it was
pub completed_copy : (copy after : List ℕ) (log : List Stretch) → HasTaken copy log after → completed copy log ≡ after
completed_copy copy after [] is = sym is
completed_copy copy after (stretch ∷ log) (there, more) =
    ap (λ (c : List ℕ). completed (take stretch.from c ++ stretch.lines) log) (sym (append-nil copy))
    ∙ (ap (λ (c : List ℕ). completed (c ++ stretch.lines) log) (kept copy [] stretch.from there)
    ∙ completed_copy (copy ++ stretch.lines) after log more)

-- whatever was left behind a copy, it is what it was
pub completed_left : (synced left after : List ℕ) (first : Stretch) (log : List Stretch) →
    HasTaken synced (first ∷ log) after → completed (synced ++ left) (first ∷ log) ≡ after
completed_left synced left after first log (there, more) =
    ap (λ (c : List ℕ). completed (c ++ first.lines) log) (kept synced left first.from there)
    ∙ completed_copy (synced ++ first.lines) after log more

-- what a copy had is in front of what it has after a log
taken_front : (copy after : List ℕ) (log : List Stretch) → HasTaken copy log after → (rest : List ℕ) × (after ≡ copy ++ rest)
taken_front copy after [] is = ([], is ∙ sym (append-nil copy))
taken_front copy after (stretch ∷ log) (there, more) = at (taken_front (copy ++ stretch.lines) after log more)
  where
    at : ((rest : List ℕ) × (after ≡ (copy ++ stretch.lines) ++ rest)) → (rest : List ℕ) × (after ≡ copy ++ rest)
    at (rest, is) = (stretch.lines ++ rest, is ∙ append_assoc copy stretch.lines rest)

-- whatever is put back, what was synced is still there
pub completed_part : (synced left after : List ℕ) (log : List Stretch) → HasTaken synced log after →
    (rest : List ℕ) × (completed (synced ++ left) log ≡ synced ++ rest)
completed_part synced left after [] taken = (left, refl)
completed_part synced left after (first ∷ log) taken = at (taken_front synced after (first ∷ log) taken)
  where
    at : ((rest : List ℕ) × (after ≡ synced ++ rest)) →
        (rest : List ℕ) × (completed (synced ++ left) (first ∷ log) ≡ synced ++ rest)
    at (rest, is) = (rest, completed_left synced left after first log taken ∙ is)
