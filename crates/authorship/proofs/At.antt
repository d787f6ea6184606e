-- The author at a place, and runs that are read at an index.
use Rattle.std.proofs.Common.{◌≡◌, ℕ, zero, suc, ◌+◌, ◌<◌, List, [], ◌∷◌, ◌++◌, length, take, drop}
use Rattle.std.proofs.Common.{Some, IsSomeAnd, slice_get, refl, sym, ap, ◌∙◌, subst, zero-add}
use Rattle.std.proofs.Common.{add_assoc, arith}
use Rattle.std.proofs.Math.ListN.{replicate}
use Rattle.std.proofs.lemmas.List.Sums.{sum_by_more}
use Rattle.std.proofs.lemmas.Option.{slice_get_within, get_or_from_slice_get}
use Rattle.weight_tree.specs.Find.{FallsIn}
use Rattle.authorship.specs.StoredRuns.{characters, places}
use Rattle.authorship.specs.Cut.{run_at, position, IsInside, IsPlace, Touches}
use Rattle.authorship.specs.declared.stored_run.StoredRun.{StoredRun}
use Rattle.authorship.specs.declared.stored_run.RunPlace.{RunPlace}
use Rattle.authorship.proofs.Cuts.{characters-cons}

-- a run that was read at an index is the one there
pub read : (runs : List StoredRun) (i : ℕ) (run : StoredRun) → slice_get runs i ≡ Some run → (i < length runs)
    × (run_at runs i ≡ run)
read runs i run is =
    (slice_get_within runs i run is, get_or_from_slice_get runs i run (record { author = 0; len = 0 }) is)

falls_inside : (runs : List StoredRun) (i o : ℕ) → IsSomeAnd (slice_get runs i) (λ run. o < run.len) → (i < length runs)
    × IsInside (drop i runs) o
falls_inside [] i o h = absurd h
falls_inside (run ∷ runs) zero o h = (omega arith, h)
falls_inside (run ∷ runs) (suc i) o h = let rest = falls_inside runs i o h in (omega (arith, rest.0), rest.1)

-- the run that a number falls in is its place
pub place_found : (runs : List StoredRun) (pos index offset : ℕ) → FallsIn (λ (run : StoredRun). run.len) runs pos index offset
    → (let place : RunPlace = record { index = index; offset = offset } in IsPlace runs place)
place_found runs pos index offset falls =
    let there = falls_inside runs index offset falls.within in
    record { within = omega (arith, there.0); inside = there.1 }

-- a place in a run is before its end
pub read_inside : (runs : List StoredRun) (i o : ℕ) (run : StoredRun) → IsInside (drop i runs) o → slice_get runs i
    ≡ Some run → o < run.len
read_inside [] i o run inside is = absurd (cc)
read_inside (r ∷ runs) zero o run inside is =
    let same : r ≡ run = cc in
    subst (λ (x : StoredRun). o < x.len) same inside
read_inside (r ∷ runs) (suc i) o run inside is = read_inside runs i o run inside is

-- a run of an author that a place is in
pub touch_here : (runs : List StoredRun) (place : RunPlace) (run : StoredRun) (author : ℕ) → IsPlace runs place →
    slice_get runs place.index ≡ Some run → run.author ≡ author → Touches runs place author place.index
touch_here runs place run author at is same =
    let there = read runs place.index run is in
    let inside = read_inside runs place.index place.offset run at.inside is in
    let len = ap (λ (r : StoredRun). r.len) there.1 in record {
      within = there.0;
      same = ap (λ (r : StoredRun). r.author) there.1 ∙ same;
      starts = omega arith;
      ends = omega (arith, inside, len);
    }

-- a run of an author that a place follows
pub touch_before : (runs : List StoredRun) (place : RunPlace) (j : ℕ) (run : StoredRun) (author : ℕ) → place.offset ≡ 0 →
    place.index ≡ j + 1 → slice_get runs j ≡ Some run → run.author ≡ author → Touches runs place author j
touch_before runs place j run author none next is same =
    let there = read runs j run is in
    let more = sum_by_more (λ (r : StoredRun). r.len) runs j (record { author = 0; len = 0 }) there.0 in
    let before = ap (λ k. characters (take k runs)) next in record {
      within = there.0;
      same = ap (λ (r : StoredRun). r.author) there.1 ∙ same;
      starts = omega (arith, more, before);
      ends = omega (arith, more, before, none);
    }

get_front : (n o author : ℕ) (rest : List ℕ) → o < n → slice_get (replicate n author ++ rest) o ≡ Some author
get_front zero o author rest h = absurd (omega arith)
get_front (suc n) zero author rest h = refl
get_front (suc n) (suc o) author rest h = get_front n o author rest (omega arith)

get_past : (n k author : ℕ) (rest : List ℕ) → slice_get (replicate n author ++ rest) (n + k) ≡ slice_get rest k
get_past zero k author rest = ap (slice_get rest) (zero-add k)
get_past (suc n) k author rest =
    let next : suc n + k ≡ suc (n + k) = omega arith in
    ap (slice_get (author ∷ replicate n author ++ rest)) next ∙ get_past n k author rest

-- a place that is not the end is in a run, whose author is the character's
at_inside : (runs : List StoredRun) (i o : ℕ) → IsInside (drop i runs) o → characters (take i runs) + o
    < characters runs
    → (i < length runs) × (slice_get (places runs) (characters (take i runs) + o) ≡ Some (run_at runs i).author)
at_inside [] zero o inside h = absurd (omega arith)
at_inside [] (suc i) o inside h = absurd (omega arith)
at_inside (run ∷ runs) zero o inside h = (
  omega arith,
  ap (slice_get (replicate run.len run.author ++ places runs)) (zero-add o)
      ∙ get_front run.len o run.author (places runs) inside,
)
at_inside (run ∷ runs) (suc i) o inside h =
    let k = characters (take i runs) in
    let passed : characters (run ∷ take i runs) + o ≡ run.len + (k + o) =
    ap (λ n. n + o) (characters-cons run (take i runs)) ∙ add_assoc run.len k o in
    let rest = at_inside runs i o inside (omega (arith, characters-cons run runs, passed)) in (
      omega (arith, rest.0),
      ap (slice_get (replicate run.len run.author ++ places runs)) passed
          ∙ get_past run.len (k + o) run.author (places runs) ∙ rest.1,
    )

-- the run at a place that is not the end is there, and its author is the character's
pub at_place : (runs : List StoredRun) (place : RunPlace) (pos : ℕ) → IsPlace runs place → position runs place ≡ pos → pos
    < characters runs → (place.index < length runs)
    × (slice_get (places runs) pos ≡ Some (run_at runs place.index).author)
at_place runs place pos at is h =
    let there = at_inside runs place.index place.offset at.inside (omega (arith, is)) in
    (there.0, ap (slice_get (places runs)) (sym is) ∙ there.1)
