-- Runs with characters taken out, and runs joined at a seam.
use Rattle.std.proofs.Common.{◌≡◌, ◌≢◌, ℕ, zero, suc, ◌+◌, ◌-◌, ◌≤◌, ◌<◌, List, [], ◌∷◌, ◌++◌, length, take, drop, set}
use Rattle.std.proofs.Common.{Some, slice_get, refl, sym, ap, ap₂, ◌∙◌, subst, zero-add, arith, length-append, length-take}
use Rattle.std.proofs.Common.{length-drop, append_assoc, inl, inr}
use Rattle.std.specs.List.{remove}
use Rattle.std.proofs.Math.ListN.{replicate}
use Rattle.std.proofs.Math.Seq.{take-append_seam, drop-append_seam}
use Rattle.std.proofs.lemmas.List.{replicate-append-replicate, take-take}
use Rattle.std.proofs.lemmas.Bool.{cases_lt}
use Rattle.std.proofs.lemmas.List.Sums.{sum_by_more, sum_by-take-le}
use Rattle.authorship.specs.StoredRuns.{characters, places, StartsApart, IsProper}
use Rattle.authorship.specs.Cut.{front, back, position, run_at, joined, IsInside, IsPlace}
use Rattle.authorship.specs.declared.stored_run.StoredRun.{StoredRun}
use Rattle.authorship.specs.declared.stored_run.RunPlace.{RunPlace}
use Rattle.authorship.proofs.Cuts.{characters-cons, length-places, take_past, drop_past, take_part, drop_part}
use Rattle.authorship.proofs.Cuts.{places-front, places-back, proper-front, proper-back}
use Rattle.authorship.proofs.At.{read}
use Rattle.authorship.proofs.Puts.{places-append}

-- proper runs before and after a seam between two authors are proper
pub proper-apart : (runs : List StoredRun) (seam : ℕ) → IsProper (take seam runs) → IsProper (drop seam runs)
    → ((j : ℕ) → seam ≡ suc j → seam < length runs → (run_at runs j).author ≢ (run_at runs seam).author) → IsProper runs
proper-apart [] seam p q apart = tt
proper-apart (run ∷ runs) zero p q apart = q
proper-apart (run ∷ []) (suc seam) p q apart = (p.0, tt, tt)
proper-apart (run ∷ next ∷ runs) (suc zero) p q apart = (p.0, apart zero refl (omega arith), q)
proper-apart (run ∷ next ∷ runs) (suc (suc seam)) p q apart =
    (p.0, p.1, proper-apart (next ∷ runs) (suc seam) p.2 q (λ j e h. apart (suc j) (ap suc e) (omega arith)))

-- runs taken out from the end, one after the other
pub remove_last : (xs ys : List StoredRun) (left k : ℕ) → left ≡ suc k → left ≤ length xs →
    remove (take left xs ++ ys) k ≡ take k xs ++ ys
remove_last [] ys left k next h = absurd (omega arith)
remove_last (x ∷ xs) ys zero k next h = absurd (omega arith)
remove_last (x ∷ xs) ys (suc left) zero next h = let none : left ≡ 0 = omega arith in rw none refl
remove_last (x ∷ xs) ys (suc left) (suc k) next h =
    ap (λ l. x ∷ l) (remove_last xs ys left k (omega arith) (omega arith))

-- a run less
pub characters-remove : (runs : List StoredRun) (i : ℕ) (run : StoredRun) → slice_get runs i ≡ Some run →
    characters (remove runs i) + run.len ≡ characters runs
characters-remove [] i run is = absurd (cc)
characters-remove (r ∷ runs) zero run is =
    let same : r ≡ run = cc in
    omega (arith, characters-cons r runs, ap (λ (x : StoredRun). x.len) same)
characters-remove (r ∷ runs) (suc i) run is =
    omega (arith, characters-cons r (remove runs i), characters-cons r runs, characters-remove runs i run is)

-- what comes before the run that was taken out
pub get_before : (runs : List StoredRun) (i j : ℕ) → j ≡ suc i → slice_get (remove runs j) i ≡ slice_get runs i
get_before runs i j next = rw next (before runs i)
  where
    before : (runs : List StoredRun) (i : ℕ) → slice_get (remove runs (suc i)) i ≡ slice_get runs i
    before [] zero = refl
    before [] (suc i) = refl
    before (r ∷ runs) zero = refl
    before (r ∷ runs) (suc i) = before runs i

-- two neighbours made one, the second by being taken out
pub merged : (runs new : List StoredRun) (left j : ℕ) (run right : StoredRun) → j ≡ suc left → slice_get runs j
    ≡ Some right → slice_get runs left ≡ Some run
    → new ≡ set (remove runs j) left (record run { len = run.len + right.len }) → new ≡ joined runs left
merged runs new left j run right next second first is =
    let one = (read runs left run first).1 in
    let two = ap (run_at runs) (sym next) ∙ (read runs j right second).1 in
    is ∙ ap₂ (λ (x y : StoredRun). set (remove runs j) left (record x { len = x.len + y.len })) (sym one) (sym two)
    ∙ ap (λ k. set (remove runs k) left (record (run_at runs left) { len = (run_at runs left).len + (run_at runs (suc left)).len }))
    next

pub places-joined : (runs : List StoredRun) (j : ℕ) → suc j < length runs → (run_at runs j).author
    ≡ (run_at runs (suc j)).author → places (joined runs j) ≡ places runs
places-joined [] j h same = absurd (omega arith)
places-joined (run ∷ []) j h same = absurd (omega arith)
places-joined (run ∷ next ∷ runs) zero h same =
    rw (← same)
    (ap (λ l. l ++ places runs) (sym (replicate-append-replicate run.len next.len run.author))
    ∙ append_assoc (replicate run.len run.author) (replicate next.len run.author) (places runs))
places-joined (run ∷ next ∷ runs) (suc j) h same = ap (λ l. replicate run.len run.author ++ l)
    (places-joined (next ∷ runs) j (omega arith) same)

pub proper-joined : (runs : List StoredRun) (j : ℕ) → suc j < length runs → (run_at runs j).author
    ≡ (run_at runs (suc j)).author
    → IsProper (take (suc j) runs) → IsProper (drop (suc j) runs) → IsProper (joined runs j)
proper-joined [] j h same p q = absurd (omega arith)
proper-joined (run ∷ []) j h same p q = absurd (omega arith)
proper-joined (run ∷ next ∷ runs) zero h same p q = (
  omega (arith, p.0),
  subst (λ a. StartsApart a runs) (sym same) q.1,
  q.2,
)
proper-joined (run ∷ next ∷ runs) (suc zero) h same p q =
    (p.0, p.1, proper-joined (next ∷ runs) zero (omega arith) same p.2 q)
proper-joined (run ∷ next ∷ runs) (suc (suc j)) h same p q =
    (p.0, p.1, proper-joined (next ∷ runs) (suc j) (omega arith) same p.2 q)

-- the two runs next to a seam made one
pub joined-seam : (runs new : List StoredRun) (seam : ℕ) (left right : StoredRun) → 0 < seam → seam < length runs →
    slice_get runs (seam - 1) ≡ Some left → slice_get runs seam ≡ Some right
    → left.author ≡ right.author → new ≡ joined runs (seam - 1) → IsProper (take seam runs) →
    IsProper (drop seam runs) → (places new ≡ places runs) × IsProper new
joined-seam runs new zero left right some h first second same is p q = absurd (omega arith)
joined-seam runs new (suc j) left right some h first second same is p q =
    let back : suc j - 1 ≡ j = omega arith in
    let is_joined : new ≡ joined runs j = is ∙ ap (joined runs) back in
    let left_is = (read runs j left (ap (slice_get runs) (sym back) ∙ first)).1 in
    let right_is = (read runs (suc j) right second).1 in
    let one : (run_at runs j).author ≡ (run_at runs (suc j)).author = ap (λ (r : StoredRun). r.author) left_is
    ∙ same ∙ sym (ap (λ (r : StoredRun). r.author) right_is) in
    (ap places is_joined ∙ places-joined runs j h one, subst IsProper (sym is_joined) (proper-joined runs j h one p q))

-- fewer characters in a run, seen from a place in it
places-less : (run : StoredRun) (rest : List ℕ) (o n : ℕ) → o + n ≤ run.len →
    replicate (run.len - n) run.author ++ rest
    ≡ take o (replicate run.len run.author ++ rest) ++ drop (o + n) (replicate run.len run.author ++ rest)
places-less run rest o n h =
    let a = run.author in
    let whole : replicate o a ++ replicate (run.len - (o + n)) a ≡ replicate (run.len - n) a =
    replicate-append-replicate o (run.len - (o + n)) a ∙ ap (λ k. replicate k a) (omega arith)
    in
    sym
    (ap₂ (λ l r. l ++ r) (take_part run rest o (omega arith)) (drop_part run rest (o + n) h)
    ∙ sym (append_assoc (replicate o a) (replicate (run.len - (o + n)) a) rest)
    ∙ ap (λ l. l ++ rest) whole)

pub places-shorter : (runs : List StoredRun) (i o n : ℕ) → i < length runs → o + n ≤ (run_at runs i).len →
    places (set runs i (record (run_at runs i) { len = (run_at runs i).len - n }))
    ≡ take (characters (take i runs) + o) (places runs) ++ drop (characters (take i runs) + (o + n)) (places runs)
places-shorter [] i o n within h = absurd (omega arith)
places-shorter (run ∷ runs) zero o n within h = rw (zero-add o, zero-add (o + n)) (places-less run (places runs) o n h)
places-shorter (run ∷ runs) (suc i) o n within h =
    let front = replicate run.len run.author in
    let k = characters (take i runs) in
    rw characters-cons (rw (take_past run (places runs) k o, drop_past run (places runs) k (o + n))
    (ap (λ l. front ++ l) (places-shorter runs i o n (omega arith) h)
    ∙ sym (append_assoc front (take (k + o) (places runs)) (drop (k + (o + n)) (places runs)))))

-- a place in a run is before its end
pub before_end : (runs : List StoredRun) (i o : ℕ) → i < length runs → IsInside (drop i runs) o → o < (run_at runs i).len
before_end [] i o h inside = absurd (omega arith)
before_end (run ∷ runs) zero o h inside = inside
before_end (run ∷ runs) (suc i) o h inside = before_end runs i o (omega arith) inside

-- more runs have no fewer characters
more_runs : (runs : List StoredRun) (i j : ℕ) → i ≤ j → characters (take i runs) ≤ characters (take j runs)
more_runs runs i j h = subst (λ l. characters l ≤ characters (take j runs)) (take-take i j runs h)
    (sum_by-take-le (λ (r : StoredRun). r.len) (take j runs) i)

-- a later place is not in an earlier run
pub in_order : (runs : List StoredRun) (first last : RunPlace) → IsPlace runs first → IsPlace runs last → position runs first
    ≤ position runs last → first.index ≤ last.index
in_order runs first last p q le =
    elim (cases_lt last.index first.index) [
      | inl h ↦
          let end = before_end runs last.index last.offset (omega (arith, p.within)) q.inside in
          let run = sum_by_more (λ (r : StoredRun). r.len) runs last.index (record { author = 0; len = 0 })
          (omega (arith, p.within)) in
          let passed = more_runs runs (last.index + 1) first.index (omega arith) in
          absurd (omega arith)
      | inr h ↦ h
    ]

-- a place after some characters of a run is in that run
some_inside : (runs : List StoredRun) (i o : ℕ) → IsInside (drop i runs) o → 1 ≤ o → (i < length runs)
    × (o < (run_at runs i).len)
some_inside [] zero o inside some = absurd (omega arith)
some_inside [] (suc i) o inside some = absurd (omega arith)
some_inside (run ∷ runs) zero o inside some = (omega arith, inside)
some_inside (run ∷ runs) (suc i) o inside some = let rest = some_inside runs i o inside some in
    (omega (arith, rest.0), rest.1)

-- a stretch inside one run, taken out of it
pub places-cut : (runs : List StoredRun) (first last : RunPlace) (pos n : ℕ) → IsPlace runs first → IsPlace runs last →
    first.index ≡ last.index
    → position runs first ≡ pos → position runs last ≡ pos + n → 1 ≤ n →
    (places (set runs first.index (record (run_at runs first.index) { len = (run_at runs first.index).len - n }))
    ≡ take pos (places runs) ++ drop (pos + n) (places runs))
    × (1 ≤ (run_at runs first.index).len - n) × (n ≤ (run_at runs first.index).len) × (first.index < length runs)
places-cut runs first last pos n p q same from to some =
    let start = characters (take first.index runs) in
    let starts : characters (take last.index runs) ≡ start = ap (λ i. characters (take i runs)) (sym same) in
    let end : last.offset ≡ first.offset + n = omega (arith, from, to) in
    let inside = some_inside runs first.index last.offset (subst (λ i. IsInside (drop i runs) last.offset)
    (sym same) q.inside) (omega arith) in
    let to_end : start + (first.offset + n) ≡ pos + n = omega (arith, from) in (
      places-shorter runs first.index first.offset n inside.0 (omega (arith, inside.1))
          ∙ ap₂ (λ i j. take i (places runs) ++ drop j (places runs)) from to_end,
      omega (arith, inside.1),
      omega (arith, inside.1),
      inside.0,
    )

-- what is left of runs between two places
pub places-rest : (runs : List StoredRun) (first last : RunPlace) (pos end : ℕ) → IsPlace runs first → IsPlace runs last →
    position runs first ≡ pos → position runs last ≡ end →
    places (front runs first ++ back runs last) ≡ take pos (places runs) ++ drop end (places runs)
places-rest runs first last pos end p q from to =
    places-append (front runs first) (back runs last)
    ∙ ap₂ (λ l r. l ++ r)
    (places-front runs first.index first.offset p.inside ∙ ap (λ k. take k (places runs)) from)
    (places-back runs last.index last.offset q.inside ∙ ap (λ k. drop k (places runs)) to)

pub fewer : (runs : List StoredRun) (first last : RunPlace) → IsPlace runs first → IsPlace runs last → position runs first
    ≤ position runs last
    → characters (front runs first ++ back runs last) ≤ characters runs
fewer runs first last p q le =
    let left = take (position runs first) (places runs) in
    let right = drop (position runs last) (places runs) in
    let count : characters (front runs first ++ back runs last) ≡ length left + length right =
    sym (length-places (front runs first ++ back runs last))
    ∙ ap length (places-rest runs first last (position runs first) (position runs last) p q refl refl)
    ∙ length-append left right
    in
    omega (
      arith,
      count,
      length-take (position runs first) (places runs),
      length-drop (position runs last)
          (places runs),
      length-places runs,
    )

pub proper-left : (runs : List StoredRun) (first last : RunPlace) → IsProper runs →
    IsProper (take (length (front runs first)) (front runs first ++ back runs last))
proper-left runs first last p =
    subst IsProper (sym (take-append_seam (front runs first) (back runs last)))
    (proper-front runs first.index first.offset p)

pub proper-right : (runs : List StoredRun) (first last : RunPlace) → IsPlace runs last → IsProper runs →
    IsProper (drop (length (front runs first)) (front runs first ++ back runs last))
proper-right runs first last q p =
    subst IsProper (sym (drop-append_seam (front runs first) (back runs last)))
    (proper-back runs last.index last.offset p q.inside)
