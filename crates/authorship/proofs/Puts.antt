-- Runs with characters put in.
use Rattle.std.proofs.Common.{◌≡◌, ◌≢◌, ℕ, zero, suc, ◌+◌, ◌-◌, ◌≤◌, ◌<◌, List, [], ◌∷◌, ◌++◌, length, take, drop, set}
use Rattle.std.proofs.Common.{refl, sym, ap, ap₂, ◌∙◌, subst, zero-add, arith, append_assoc, append-nil, slice_get, Some, IsSomeAnd}
use Rattle.std.specs.List.{insert}
use Rattle.std.proofs.Math.ListN.{replicate}
use Rattle.std.proofs.lemmas.List.{replicate-append-replicate}
use Rattle.std.proofs.lemmas.List.Concat.{flat_map-append}
use Rattle.weight_tree.proofs.CallerLemmas.{sum_replaced}
use Rattle.weight_tree.specs.Find.{FallsIn}
use Rattle.authorship.specs.StoredRuns.{characters, places, StartsApart, EndsApart, IsProper}
use Rattle.authorship.specs.Cut.{first_part, without_part, front, back, position, run_at, IsInside, IsPlace, IsApart}
use Rattle.authorship.specs.Cut.{Touches}
use Rattle.authorship.specs.declared.stored_run.StoredRun.{StoredRun}
use Rattle.authorship.specs.declared.stored_run.RunPlace.{RunPlace}
use Rattle.authorship.proofs.At.{read}
use Rattle.authorship.proofs.Cuts.{characters-cons, take_past, drop_past, take_part, drop_part, places-front}
use Rattle.authorship.proofs.Cuts.{places-back, proper-front, proper-back}

-- how many characters there are when a run is replaced by another
pub characters-set : (runs : List StoredRun) (i : ℕ) (run new : StoredRun) → slice_get runs i ≡ Some run →
    characters (set runs i new) + run.len ≡ characters runs + new.len
characters-set runs i run new is = sum_replaced (λ (r : StoredRun). r.len) runs i run new is

pub one_fits : (runs : List StoredRun) (i : ℕ) (run : StoredRun) → slice_get runs i ≡ Some run → run.len ≤ characters runs
one_fits runs i run is =
    let none : StoredRun = record run { len = 0 } in
    omega (arith, characters-set runs i run none is)

-- how many characters there are when a run is put in
pub characters-insert : (runs : List StoredRun) (i : ℕ) (run : StoredRun) → characters (insert runs i run) ≡ characters runs
    + run.len
characters-insert [] zero run = omega (arith, characters-cons run [])
characters-insert [] (suc i) run = omega (arith, characters-cons run [])
characters-insert (r ∷ runs) zero run =
    omega (arith, characters-cons run (r ∷ runs))
characters-insert (r ∷ runs) (suc i) run =
    omega (arith, characters-cons r (insert runs i run), characters-cons r runs, characters-insert runs i run)

-- a run that comes and becomes another
pub set-insert : (runs : List StoredRun) (i : ℕ) (run new : StoredRun) → i ≤ length runs → set (insert runs i run) i new
    ≡ insert runs i new
set-insert [] zero run new h = refl
set-insert [] (suc i) run new h = absurd (omega arith)
set-insert (r ∷ runs) zero run new h = refl
set-insert (r ∷ runs) (suc i) run new h = ap (λ l. r ∷ l) (set-insert runs i run new (omega arith))

-- a run cut in two, and another one between its parts
pub put_between : (runs : List StoredRun) (i j o : ℕ) (whole run : StoredRun) → slice_get runs i ≡ Some whole → j ≡ suc i →
    0 < o
    → insert (insert (set runs i (record whole { len = o })) j (record whole { len = whole.len - o })) j run
    ≡ (take i runs ++ first_part (drop i runs) o) ++ run ∷ without_part (drop i runs) o
put_between runs i j o whole run is next some =
    rw next (between runs i o whole run is some)
  where
    between : (runs : List StoredRun) (i o : ℕ) (whole run : StoredRun) → slice_get runs i ≡ Some whole → 0 < o
        → insert (insert (set runs i (record whole { len = o })) (suc i) (record whole { len = whole.len - o })) (suc i) run
        ≡ (take i runs ++ first_part (drop i runs) o) ++ run ∷ without_part (drop i runs) o
    between [] i o whole run is some = absurd (cc)
    between (r ∷ runs) zero zero whole run is some = absurd (omega arith)
    between (r ∷ runs) zero (suc o) whole run is some =
        let same : r ≡ whole = cc in
        rw same refl
    between (r ∷ runs) (suc i) o whole run is some = ap (λ l. r ∷ l) (between runs i o whole run is some)

-- no more runs than characters
pub few_runs : (runs : List StoredRun) → IsProper runs → length runs ≤ characters runs
few_runs [] p = omega arith
few_runs (run ∷ runs) p = omega (arith, characters-cons run runs, few_runs runs p.2, p.0)

-- there are fewer runs than characters if a place is inside a run
pub fewer_runs : (runs : List StoredRun) (i o : ℕ) → IsProper runs → IsInside (drop i runs) o → 0 < o → length runs
    < characters runs
fewer_runs [] zero o p inside some = absurd (omega arith)
fewer_runs [] (suc i) o p inside some = absurd (omega arith)
fewer_runs (run ∷ runs) zero o p inside some = omega (arith, characters-cons run runs, few_runs runs p.2, inside)
fewer_runs (run ∷ runs) (suc i) o p inside some =
    omega (arith, characters-cons run runs, fewer_runs runs i o p.2 inside some, p.0)

pub places-append : (xs ys : List StoredRun) → places (xs ++ ys) ≡ places xs ++ places ys
places-append xs ys = flat_map-append (λ (run : StoredRun). replicate run.len run.author) xs ys

-- more characters in a run, seen from a place in it or at either end of it
places-longer : (run : StoredRun) (rest : List ℕ) (o n : ℕ) → o ≤ run.len →
    replicate (run.len + n) run.author ++ rest
    ≡ take o (replicate run.len run.author ++ rest) ++ replicate n run.author
    ++ drop o (replicate run.len run.author ++ rest)
places-longer run rest o n h =
    let a = run.author in
    let whole : replicate (o + n) a ++ replicate (run.len - o) a ≡ replicate (run.len + n) a =
    replicate-append-replicate (o + n) (run.len - o) a ∙ ap (λ k. replicate k a) (omega arith)
    in
    sym
    (ap₂ (λ l r. l ++ replicate n a ++ r) (take_part run rest o h) (drop_part run rest o h)
    ∙ ap (λ l. l ++ (replicate (run.len - o) a ++ rest)) (replicate-append-replicate o n a)
    ∙ sym (append_assoc (replicate (o + n) a) (replicate (run.len - o) a) rest)
    ∙ ap (λ l. l ++ rest) whole)

pub places-set : (runs : List StoredRun) (i o n : ℕ) → i < length runs → o ≤ (run_at runs i).len →
    places (set runs i (record (run_at runs i) { len = (run_at runs i).len + n }))
    ≡ take (characters (take i runs) + o) (places runs) ++ replicate n (run_at runs i).author
    ++ drop (characters (take i runs) + o) (places runs)
places-set [] i o n within h = absurd (omega arith)
places-set (run ∷ runs) zero o n within h =
    rw zero-add (places-longer run (places runs) o n h)
places-set (run ∷ runs) (suc i) o n within h =
    let front = replicate run.len run.author in
    let mid = replicate n (run_at runs i).author in
    let k = characters (take i runs) in
    rw characters-cons (rw (take_past run (places runs) k o, drop_past run (places runs) k o)
    (ap (λ l. front ++ l) (places-set runs i o n (omega arith) h)
    ∙ sym (append_assoc front (take (k + o) (places runs) ++ mid) (drop (k + o) (places runs)))
    ∙ ap (λ l. l ++ drop (k + o) (places runs)) (sym (append_assoc front (take (k + o) (places runs)) mid))))

starts-set : (author : ℕ) (runs : List StoredRun) (i n : ℕ) → StartsApart author runs →
    StartsApart author (set runs i (record (run_at runs i) { len = n }))
starts-set author [] i n h = tt
starts-set author (run ∷ runs) zero n h = h
starts-set author (run ∷ runs) (suc i) n h = h

-- runs after one gets another length
pub proper-set : (runs : List StoredRun) (i n : ℕ) → 1 ≤ n → IsProper runs →
    IsProper (set runs i (record (run_at runs i) { len = n }))
proper-set [] i n some h = tt
proper-set (run ∷ runs) zero n some h = (some, h.1, h.2)
proper-set (run ∷ runs) (suc i) n some h = (h.0, starts-set run.author runs i n h.1, proper-set runs i n some h.2)

-- runs before and after a run of another author
pub proper-between : (xs : List StoredRun) (run : StoredRun) (ys : List StoredRun) → IsProper xs → IsProper ys →
    EndsApart xs run.author → StartsApart run.author ys → 1 ≤ run.len
    → IsProper (xs ++ run ∷ ys)
proper-between [] run ys p q ends starts some = (some, starts, q)
proper-between (x ∷ []) run ys p q ends starts some = (p.0, ends, (some, starts, q))
proper-between (x ∷ y ∷ xs) run ys p q ends starts some =
    (p.0, p.1, proper-between (y ∷ xs) run ys p.2 q ends starts some)

-- what comes before a place that is apart from an author ends with another one's run
ends-apart : (runs : List StoredRun) (i o author : ℕ) → i ≤ length runs → IsInside (drop i runs) o →
    (i < length runs → (run_at runs i).author ≢ author)
    → ((j : ℕ) → i ≡ suc j → o ≡ 0 → (run_at runs j).author ≢ author) →
    EndsApart (take i runs ++ first_part (drop i runs) o) author
ends-apart [] zero o author le inside here before = tt
ends-apart [] (suc i) o author le inside here before = tt
ends-apart (run ∷ runs) zero zero author le inside here before = tt
ends-apart (run ∷ runs) zero (suc o) author le inside here before = here (omega arith)
ends-apart (run ∷ []) (suc zero) o author le inside here before = before zero refl inside
ends-apart (run ∷ []) (suc (suc i)) o author le inside here before = absurd (omega arith)
ends-apart (run ∷ next ∷ runs) (suc zero) zero author le inside here before = before zero refl refl
ends-apart (run ∷ next ∷ runs) (suc zero) (suc o) author le inside here before = here (omega arith)
ends-apart (run ∷ next ∷ runs) (suc (suc i)) o author le inside here before =
    ends-apart (next ∷ runs) (suc i) o author (omega arith) inside (λ h. here (omega arith))
    (λ j e none. before (suc j) (ap suc e) none)

-- what comes from such a place on begins with another one's run
starts-apart : (runs : List StoredRun) (i o author : ℕ) → (i < length runs → (run_at runs i).author ≢ author) →
    StartsApart author (without_part (drop i runs) o)
starts-apart [] zero o author here = tt
starts-apart [] (suc i) o author here = tt
starts-apart (run ∷ runs) zero o author here = λ e. here (omega arith) (sym e)
starts-apart (run ∷ runs) (suc i) o author here = starts-apart runs i o author (λ h. here (omega arith))

-- a run put in at a place that is apart from its author
pub proper-put : (runs : List StoredRun) (place : RunPlace) (run : StoredRun) → IsPlace runs place →
    IsApart runs place run.author → IsProper runs → 1 ≤ run.len
    → IsProper (front runs place ++ run ∷ back runs place)
proper-put runs place run at apart p some =
    proper-between (front runs place) run (back runs place) (proper-front runs place.index place.offset p)
    (proper-back runs place.index place.offset p at.inside)
    (ends-apart runs place.index place.offset run.author at.within at.inside apart.here
    (λ j e none. let before : place.index - 1 ≡ j = omega arith in
    subst (λ k. (run_at runs k).author ≢ run.author) before (apart.before none (omega arith))))
    (starts-apart runs place.index place.offset run.author apart.here) some

pub places-put : (runs : List StoredRun) (place : RunPlace) (run : StoredRun) → IsPlace runs place →
    places (front runs place ++ run ∷ back runs place)
    ≡ take (position runs place) (places runs) ++ replicate run.len run.author ++ drop (position runs place)
    (places runs)
places-put runs place run at =
    places-append (front runs place) (run ∷ back runs place)
    ∙ ap₂ (λ l r. l ++ (replicate run.len run.author ++ r)) (places-front runs place.index place.offset at.inside)
    (places-back runs place.index place.offset at.inside)
    ∙ sym (append_assoc (take (position runs place) (places runs)) (replicate run.len run.author)
    (drop (position runs place) (places runs)))

-- lengthening a run that a place is in or at either end of
pub places-touched : (runs : List StoredRun) (place : RunPlace) (author index n : ℕ) → Touches runs place author index →
    places (set runs index (record (run_at runs index) { len = (run_at runs index).len + n }))
    ≡ take (position runs place) (places runs) ++ replicate n author ++ drop (position runs place) (places runs)
places-touched runs place author index n at =
    let start = characters (take index runs) in
    let o = position runs place - start in
    let sum : start + o ≡ position runs place = omega (arith, at.starts) in
    places-set runs index o n at.within (omega (arith, at.ends))
    ∙ ap₂ (λ k a. take k (places runs) ++ replicate n a ++ drop k (places runs)) sum at.same

-- the run made longer in which the character before a place is
pub places-read : (runs : List StoredRun) (pos i o n author : ℕ) (run : StoredRun) → FallsIn (λ (r : StoredRun). r.len) runs
    (pos - 1) i o → 0 < pos → slice_get runs i ≡ Some run → run.author ≡ author
    → places (set runs i (record run { len = run.len + n }))
    ≡ take pos (places runs) ++ replicate n author ++ drop pos (places runs)
places-read runs pos i o n author run falls some is same =
    let there = read runs i run is in
    let inside : o < run.len = subst (λ x. IsSomeAnd x (λ (r : StoredRun). o < r.len)) is falls.within in
    let len = ap (λ (r : StoredRun). r.len) there.1 in
    let place : characters (take i runs) + (o + 1) ≡ pos = omega (arith, falls.before) in
    ap (λ (r : StoredRun). places (set runs i (record r { len = r.len + n }))) (sym there.1)
    ∙ places-set runs i (o + 1) n there.0 (omega (arith, inside, len))
    ∙ ap₂ (λ k a. take k (places runs) ++ replicate n a ++ drop k (places runs)) place
    (ap (λ (r : StoredRun). r.author) there.1 ∙ same)

pub proper-read : (runs : List StoredRun) (i n : ℕ) (run : StoredRun) → slice_get runs i ≡ Some run → 0 < n → IsProper runs
    → IsProper (set runs i (record run { len = run.len + n }))
proper-read runs i n run is some p =
    subst (λ (r : StoredRun). IsProper (set runs i (record r { len = r.len + n }))) (read runs i run is).1
    (proper-set runs i ((run_at runs i).len + n) (omega arith) p)

first_part-none : (runs : List StoredRun) → first_part runs 0 ≡ []
first_part-none [] = refl
first_part-none (run ∷ runs) = refl

without_part-none : (runs : List StoredRun) → without_part runs 0 ≡ runs
without_part-none [] = refl
without_part-none (run ∷ runs) = let same : run.len - 0 ≡ run.len = omega arith in
    ap (λ (n : ℕ). record run { len = n } ∷ runs) same

-- a run put in between two others is at its place
pub put-seam : (runs new : List StoredRun) (place : RunPlace) (run : StoredRun) → new ≡ insert runs place.index run →
    place.offset ≡ 0
    → new ≡ front runs place ++ run ∷ back runs place
put-seam runs new place run is seam =
    is ∙ rw (seam, first_part-none, without_part-none)
    (ap (λ l. l ++ run ∷ drop place.index runs) (sym (append-nil (take place.index runs))))
