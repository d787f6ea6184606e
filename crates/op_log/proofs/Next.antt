-- The next operation that is missing, found origin by origin.
use Rattle.std.proofs.Common.{◌≡◌, ℕ, zero, suc, ◌+◌, ◌<◌, Bool, true, false, ◌&&◌, ◌||◌, List, [], ◌∷◌, ◌++◌}
use Rattle.std.proofs.Common.{length, get_or, take, map, Option, Some, None, option_map, filter}
use Rattle.std.proofs.Common.{refl, sym, ap, ◌∙◌, arith, ltb, leb, le-leb, slice_get}
use Rattle.std.specs.List.{AllByRecursion, find, list_any}
use Rattle.std.proofs.lemmas.Bool.{eqb-true, and_right, lt-leb}
use Rattle.std.proofs.lemmas.List.{map_more}
use Rattle.std.proofs.lemmas.List.Folds.{list_any-append}
use Rattle.std.proofs.lemmas.Option.{slice_get-get_or}
use Rattle.pad_model.specs.declared.op.Op.{Op}
use Rattle.pad_model.specs.declared.seen.Counted.{Counted}
use Rattle.pad_model.specs.Seen.{count_in}
use Rattle.pad_model.proofs.Each.{each-imply}
use Rattle.op_log.specs.declared.track.Mark.{Mark}
use Rattle.op_log.specs.declared.track.Track.{Track}
use Rattle.op_log.specs.Log.{is_of, is_missing}
use Rattle.op_log.specs.Track.{marks_of, is_above}
use Rattle.op_log.specs.Index.{Kept, IsIndex, kept, has_origin, first_place, earlier, is_missing_in}
use Rattle.op_log.proofs.Kept.{track_fits}
use Rattle.op_log.proofs.Places.{first_marked, first_place_agree, first_place_same, earlier_of_both, picked}
use Rattle.op_log.proofs.Places.{picked_all, picked_none, picked_some}

first_never : (f : ℕ → Op → Bool) (p : ℕ) (ops : List Op) → ((k : ℕ) (op : Op) → f k op ≡ false) → first_place f p ops
    ≡ None
first_never f p [] never = refl
first_never f p (op ∷ ops) never = rw (never p op) (first_never f (p + 1) ops never)

-- among the origins of these
abbrev pub is_next : List Counted → ℕ → List Kept → ℕ → Op → Bool
is_next seen from ks place op = (leb from place && is_missing seen op) && list_any (has_origin op.name.origin) ks

pub next_none : (seen : List Counted) (from : ℕ) (ops : List Op) → first_place (is_next seen from []) 0 ops ≡ None
next_none seen from ops = first_never (is_next seen from []) 0 ops
    (λ k op. and_right (leb from k && is_missing seen op) false refl)

pub next_more : (seen : List Counted) (from : ℕ) (ops : List Op) (ks : List Kept) (k : Kept) →
    k.marks ≡ marks_of k.origin ops
    → earlier (first_place (is_next seen from ks) 0 ops)
    (option_map (λ (m : Mark). m.place) (find (is_above from (count_in seen k.origin)) k.marks))
    ≡ first_place (is_next seen from (ks ++ k ∷ [])) 0 ops
next_more seen from ops ks k fits =
    ap (λ ms. earlier (first_place (is_next seen from ks) 0 ops)
    (option_map (λ (m : Mark). m.place) (find (is_above from (count_in seen k.origin)) ms))) fits
    ∙ ap (earlier (first_place (is_next seen from ks) 0 ops))
    (first_marked (λ place number. leb from place && ltb (count_in seen k.origin) number) k.origin 0 ops)
    ∙ earlier_of_both (is_next seen from ks)
    (λ place op. is_of k.origin op && (leb from place && ltb (count_in seen k.origin) op.name.number)) 0 ops
    ∙ first_place_same _ (is_next seen from (ks ++ k ∷ [])) 0 ops
    (λ p op. step p op (is_of k.origin op) refl ∙ ap (λ b. (leb from p && is_missing seen op) && b)
    (sym (list_any-append (has_origin op.name.origin) ks (k ∷ []))))
  where
    among : (b a : Bool) → (b && a || b) ≡ (b && (a || true))
    among true true = refl
    among true false = refl
    among false true = refl
    among false false = refl

    beside : (b a : Bool) → (b && a || false) ≡ (b && (a || false))
    beside true true = refl
    beside true false = refl
    beside false true = refl
    beside false false = refl

    step : (p : ℕ) (op : Op) (own : Bool) → is_of k.origin op ≡ own
        → (is_next seen from ks p op || (is_of k.origin op
        && (leb from p && ltb (count_in seen k.origin) op.name.number)))
        ≡ ((leb from p && is_missing seen op)
        && (list_any (has_origin op.name.origin) ks || (is_of k.origin op || false)))
    step p op true e = rw (e, ← eqb-true op.name.origin k.origin e)
        (among (leb from p && is_missing seen op) (list_any (has_origin op.name.origin) ks))
    step p op false e = rw e (beside (leb from p && is_missing seen op) (list_any (has_origin op.name.origin) ks))

pub next_all : (seen : List Counted) (from : ℕ) (ops : List Op) (ks : List Kept) →
    AllByRecursion (λ op. list_any (has_origin op.name.origin) ks ≡ true) ops
    → first_place (is_next seen from ks) 0 ops ≡ first_place (λ place op. leb from place && is_missing seen op) 0 ops
next_all seen from ops ks known =
    first_place_agree (is_next seen from ks) (λ place op. leb from place && is_missing seen op) 0 ops
    (each-imply (λ op. list_any (has_origin op.name.origin) ks ≡ true) (λ op. (k : ℕ) → is_next seen from ks k op
    ≡ (leb from k && is_missing seen op))
    (λ op there k. rw there (and_true (leb from k && is_missing seen op))) ops known)
  where
    and_true : (b : Bool) → (b && true) ≡ b
    and_true true = refl
    and_true false = refl

-- ---- the same, of tracks
pub next_step : (seen : List Counted) (from : ℕ) (ops : List Op) (ts : List Track) (i : ℕ) (t : Track)
    (marks : List Mark) (count : ℕ) (next place : Option ℕ) → i < length ts → t ≡ get_or ts i t →
    IsIndex (map kept ts) ops
    → marks ≡ t.marks.items → count ≡ count_in seen t.origin →
    next ≡ first_place (is_next seen from (map kept (take i ts))) 0 ops → place ≡ option_map (λ (m : Mark). m.place)
    (find (is_above from count) marks)
    → earlier next place ≡ first_place (is_next seen from (map kept (take (i + 1) ts))) 0 ops
next_step seen from ops ts i t marks count next place lt read index lent counted before found =
    ap (λ o. earlier o place) before ∙ ap (earlier (first_place (is_next seen from (map kept (take i ts))) 0 ops))
    (found ∙ at_track marks count lent counted)
    ∙ next_more seen from ops (map kept (take i ts)) (kept t) (track_fits ts i t ops lt read index).0
    ∙ ap (λ (ks : List Kept). first_place (is_next seen from ks) 0 ops)
    (ap (λ (x : Track). map kept (take i ts) ++ kept x ∷ []) read ∙ sym (map_more kept ts i t lt))
  where
    at_track : (marks : List Mark) (count : ℕ) → marks ≡ t.marks.items → count ≡ count_in seen t.origin
        → option_map (λ (m : Mark). m.place) (find (is_above from count) marks) ≡ option_map (λ (m : Mark). m.place)
        (find (is_above from (count_in seen t.origin)) t.marks.items)
    at_track marks count e f = rw (e, f) refl

-- ---- the operations that are missing, one after the other
pub found_within : (f : Op → Bool) (from k : ℕ) (ops : List Op) → first_place (λ place op. leb from place && f op) 0 ops
    ≡ Some k → k < length ops
found_within f from k ops e =
    let pick = picked_some f from 0 k ops e in
    let place = pick.place in
    let within = pick.within in
    omega arith

pub found_first : (f : Op → Bool) (from k : ℕ) (ops : List Op) (d : Op) →
    first_place (λ place op. leb from place && f op) 0 ops ≡ Some k → picked f from 0 ops ≡ get_or ops k d
    ∷ picked f (k + 1) 0 ops
found_first f from k ops d e =
    let pick = picked_some f from 0 k ops e in
    let place = pick.place in
    let same : pick.at ≡ k = omega arith in
    pick.first d ∙ ap (λ (at : ℕ). get_or ops at d ∷ picked f (k + 1) 0 ops) same

-- a place that passes where none before it can is the first
first_here : (f : ℕ → Op → Bool) (start : ℕ) (ops : List Op) (i : ℕ) (op : Op) → slice_get ops i ≡ Some op →
    f (start + i) op ≡ true → ((k : ℕ) (o : Op) → k < start + i → f k o ≡ false) →
    first_place f start ops ≡ Some (start + i)
first_here f start [] i op there passes before = absurd (cc)
first_here f start (o ∷ ops) zero op there passes before =
    let same : o ≡ op = cc in
    let here : f start o ≡ true = ap (f start) same ∙ ap (λ n. f n op) (let m : start ≡ start + 0 = omega arith in m)
    ∙ passes in
    rw here (ap Some (let m : start ≡ start + 0 = omega arith in m))
first_here f start (o ∷ ops) (suc i) op there passes before =
    let moved : start + suc i ≡ start + 1 + i = omega arith in
    rw (before start o (omega arith))
    (first_here f (start + 1) ops i op there (ap (λ n. f n op) (sym moved) ∙ passes)
    (λ k p less. before k p (omega arith)) ∙ ap Some (sym moved))

-- an operation that is missing at the place where the search begins is the next
pub next_here : (seen : List Counted) (from : ℕ) (ops : List Op) (found : Option Op) → found ≡ slice_get ops from →
    is_missing_in seen found ≡ true → Some from ≡ first_place (λ place op. leb from place && is_missing seen op) 0 ops
next_here seen from ops None is missing = absurd (cc)
next_here seen from ops (Some op) is missing =
    sym (first_here (λ place op. leb from place && is_missing seen op) 0 ops from op (sym is)
    (rw (le-leb from (0 + from) (omega arith)) missing) (λ k o less. rw (lt-leb from k (omega arith)) refl)
    ∙ ap Some (let m : 0 + from ≡ from = omega arith in m))

-- the operation that is found first is the first of those that pass
pub first_found : (f : Op → Bool) (k : ℕ) (ops : List Op) → first_place (λ place op. leb 0 place && f op) 0 ops
    ≡ Some k → slice_get ops k ≡ slice_get (filter f ops) 0
first_found f k [] e = absurd (cc)
first_found f k (o ∷ ops) e =
    let all = o ∷ ops in
    slice_get-get_or all k o (found_within f 0 k all e)
    ∙ sym (ap (λ (xs : List Op). slice_get xs 0) (sym (picked_all f 0 0 all (omega arith)) ∙ found_first f 0 k all o e))

-- and where none is found none passes
pub none_found : (f : Op → Bool) (ops : List Op) → first_place (λ place op. leb 0 place && f op) 0 ops ≡ None →
    slice_get (filter f ops) 0 ≡ None
none_found f ops e = ap (λ (xs : List Op). slice_get xs 0) (sym (picked_all f 0 0 ops (omega arith))
    ∙ picked_none f 0 0 ops e)
