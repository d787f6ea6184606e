-- Runs cut at a place are the characters before it and those from it on.
use Rattle.std.proofs.Common.{◌≡◌, ℕ, zero, suc, ◌+◌, ◌-◌, ◌≤◌, List, [], ◌∷◌, ◌++◌, length, take, drop, refl, sym, ap}
use Rattle.std.proofs.Common.{ap₂, ◌∙◌, add_assoc, zero-add, arith, length-append, append-nil}
use Rattle.std.proofs.Math.ListN.{replicate}
use Rattle.std.proofs.Math.Seq.{take-append-add, drop-append-add}
use Rattle.std.proofs.lemmas.List.{take-append-le, drop-append-le, take-replicate, drop-replicate, length-replicate}
use Rattle.std.proofs.lemmas.List.Sums.{sum_by-cons}
use Rattle.authorship.specs.StoredRuns.{characters, places, StartsApart, IsProper}
use Rattle.authorship.specs.Cut.{first_part, without_part, IsInside}
use Rattle.authorship.specs.declared.stored_run.StoredRun.{StoredRun}

pub characters-cons : (run : StoredRun) (runs : List StoredRun) → characters (run ∷ runs) ≡ run.len + characters runs
characters-cons run runs = sum_by-cons (λ (r : StoredRun). r.len) run runs

pub length-places : (runs : List StoredRun) → length (places runs) ≡ characters runs
length-places [] = refl
length-places (run ∷ runs) =
    length-append (replicate run.len run.author) (places runs) ∙ ap₂ (λ a b. a + b)
    (length-replicate run.len run.author) (length-places runs)
    ∙ sym (characters-cons run runs)

take-nil : (n : ℕ) → let none : List ℕ = [] in take n none ≡ none
take-nil zero = refl
take-nil (suc n) = refl

drop-nil : (n : ℕ) → let none : List ℕ = [] in drop n none ≡ none
drop-nil zero = refl
drop-nil (suc n) = refl

-- a whole run and more, taken from the front of runs
pub take_past : (run : StoredRun) (rest : List ℕ) (n o : ℕ) →
    take ((run.len + n) + o) (replicate run.len run.author ++ rest) ≡ replicate run.len run.author ++ take (n + o) rest
take_past run rest n o =
    let front = replicate run.len run.author in
    ap (λ k. take k (front ++ rest)) (add_assoc run.len n o ∙ ap (λ k. k + (n + o))
    (sym (length-replicate run.len run.author)))
    ∙ take-append-add front rest (n + o)

pub drop_past : (run : StoredRun) (rest : List ℕ) (n o : ℕ) →
    drop ((run.len + n) + o) (replicate run.len run.author ++ rest) ≡ drop (n + o) rest
drop_past run rest n o =
    let front = replicate run.len run.author in
    ap (λ k. drop k (front ++ rest)) (add_assoc run.len n o ∙ ap (λ k. k + (n + o))
    (sym (length-replicate run.len run.author)))
    ∙ drop-append-add front rest (n + o)

-- less than a run, taken from the front of runs
pub take_part : (run : StoredRun) (rest : List ℕ) (o : ℕ) → o ≤ run.len → take o (replicate run.len run.author ++ rest)
    ≡ replicate o run.author
take_part run rest o h =
    take-append-le o (replicate run.len run.author) rest (omega (arith, length-replicate run.len run.author))
    ∙ take-replicate o run.len run.author h

pub drop_part : (run : StoredRun) (rest : List ℕ) (o : ℕ) → o ≤ run.len → drop o (replicate run.len run.author ++ rest)
    ≡ replicate (run.len - o) run.author ++ rest
drop_part run rest o h =
    drop-append-le o (replicate run.len run.author) rest (omega (arith, length-replicate run.len run.author))
    ∙ ap (λ l. l ++ rest) (drop-replicate o run.len run.author)

-- what comes before a place
pub places-front : (runs : List StoredRun) (i o : ℕ) → IsInside (drop i runs) o
    → places (take i runs ++ first_part (drop i runs) o) ≡ take (characters (take i runs) + o) (places runs)
places-front [] zero o h = sym (take-nil (0 + o))
places-front [] (suc i) o h = sym (take-nil (0 + o))
places-front (run ∷ runs) zero zero h = refl
places-front (run ∷ runs) zero (suc o) h =
    append-nil (replicate (suc o) run.author) ∙ sym (ap (λ n. take n (replicate run.len run.author ++ places runs))
    (zero-add (suc o)) ∙ take_part run (places runs) (suc o) (omega arith))
places-front (run ∷ runs) (suc i) o h =
    ap (λ l. replicate run.len run.author ++ l) (places-front runs i o h)
    ∙ sym (ap (λ n. take (n + o) (replicate run.len run.author ++ places runs)) (characters-cons run (take i runs))
    ∙ take_past run (places runs) (characters (take i runs)) o)

-- what comes from a place on
pub places-back : (runs : List StoredRun) (i o : ℕ) → IsInside (drop i runs) o
    → places (without_part (drop i runs) o) ≡ drop (characters (take i runs) + o) (places runs)
places-back [] zero o h = sym (drop-nil (0 + o))
places-back [] (suc i) o h = sym (drop-nil (0 + o))
places-back (run ∷ runs) zero o h =
    sym (ap (λ n. drop n (replicate run.len run.author ++ places runs)) (zero-add o)
    ∙ drop_part run (places runs) o (omega arith))
places-back (run ∷ runs) (suc i) o h =
    places-back runs i o h
    ∙ sym (ap (λ n. drop (n + o) (replicate run.len run.author ++ places runs)) (characters-cons run (take i runs))
    ∙ drop_past run (places runs) (characters (take i runs)) o)

starts-front : (author : ℕ) (runs : List StoredRun) (i o : ℕ) → StartsApart author runs →
    StartsApart author (take i runs ++ first_part (drop i runs) o)
starts-front author [] zero o h = tt
starts-front author [] (suc i) o h = tt
starts-front author (run ∷ runs) zero zero h = tt
starts-front author (run ∷ runs) zero (suc o) h = h
starts-front author (run ∷ runs) (suc i) o h = h

pub proper-front : (runs : List StoredRun) (i o : ℕ) → IsProper runs →
    IsProper (take i runs ++ first_part (drop i runs) o)
proper-front [] zero o h = tt
proper-front [] (suc i) o h = tt
proper-front (run ∷ runs) zero zero h = tt
proper-front (run ∷ runs) zero (suc o) h = (omega arith, tt, tt)
proper-front (run ∷ runs) (suc i) o h = (h.0, starts-front run.author runs i o h.1, proper-front runs i o h.2)

pub proper-back : (runs : List StoredRun) (i o : ℕ) → IsProper runs → IsInside (drop i runs) o →
    IsProper (without_part (drop i runs) o)
proper-back [] zero o h inside = tt
proper-back [] (suc i) o h inside = tt
proper-back (run ∷ runs) zero o h inside = (omega arith, h.1, h.2)
proper-back (run ∷ runs) (suc i) o h inside = proper-back runs i o h.2 inside
