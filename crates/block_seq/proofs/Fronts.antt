-- Runs of authors and spans of stamps, taken off from the front.
use Rattle.std.proofs.Common.{◌≡◌, ℕ, suc, ◌+◌, ◌==◌, Bool, true, false, ◌&&◌, cond, List, [], ◌∷◌, ◌++◌, ◌<◌, ◌≤◌, ◌-◌}
use Rattle.std.proofs.Common.{length, length-drop, take, map, get_or, append_assoc, drop, drop-cons, refl, sym, ap, ap₂}
use Rattle.std.proofs.Common.{◌∙◌, subst, arith}
use Rattle.std.proofs.lemmas.List.{drop-drop, drop-map, take_all}
use Rattle.std.proofs.lemmas.Slice.Eq.{bytes_eq-Decides}
use Rattle.std.specs.List.{prefix_len}
use Rattle.pad_model.specs.Stamp.{Stamp, same_stamp}
use Rattle.pad_model.specs.Character.{next}
use Rattle.pad_model.specs.Visible.{same_author, join_run, runs, join_span, spans}
use Rattle.pad_model.specs.declared.who.Author.{Author}
use Rattle.pad_model.specs.declared.who.AuthorRun.{AuthorRun}
use Rattle.pad_model.specs.declared.op.Span.{Span}
use Rattle.block_seq.specs.KeptParts.{following}
use Rattle.pad_model.proofs.Newer.{split}

-- the first span of stamps is the first one with those that follow on it
pub spans-front : (s : Stamp) (stamps : List Stamp) →
    spans (s ∷ stamps) ≡ (let first : Span = record { first = s; len = following s stamps + 1 } in first)
    ∷ spans (drop (following s stamps) stamps)
spans-front s [] = refl
spans-front s (t ∷ stamps) =
    ap (join_span s) (spans-front t stamps)
    ∙ split (same_stamp (next s) t)
    (λ e. rw e (ap (λ n. (let run : Span = record { first = s; len = n } in run)
    ∷ spans (drop (following t stamps) stamps)) (let m : following t stamps + 1 + 1 ≡ suc (following t stamps) + 1 =
    omega arith in m)))
    (λ e. rw e (ap (λ l. (let one : Span = record { first = s; len = 1 } in one) ∷ l) (sym (spans-front t stamps))))

pub same_author-true : (a b : Author) → same_author a b ≡ true → a ≡ b
same_author-true a b h =
    let both = Rattle.std.proofs.lemmas.Bool.and_parts _ _ h in
    ap₂ (λ name origin. let it : Author = record { name = name; origin = origin } in it)
    ((bytes_eq-Decides a.name b.name).0 both.0) (Rattle.std.proofs.Common.eqb-true a.origin b.origin both.1)

same_run : (a b : Author) (authors : List Author) → a ≡ b →
    (let run : AuthorRun = record { author = b; len = prefix_len (same_author b) authors + 1 + 1 } in run)
    ∷ runs (drop (prefix_len (same_author b) authors) authors)
    ≡ (let run : AuthorRun = record { author = a; len = suc (prefix_len (same_author a) authors) + 1 } in run)
    ∷ runs (drop (prefix_len (same_author a) authors) authors)
same_run a b authors e =
    rw e (ap (λ n. (let run : AuthorRun = record { author = b; len = n } in run)
    ∷ runs (drop (prefix_len (same_author b) authors) authors)) (let m : prefix_len (same_author b) authors + 1 + 1
    ≡ suc (prefix_len (same_author b) authors) + 1 = omega arith in m))

-- the first run of authors is the first one with those in front that are the same
pub runs-front : (a : Author) (authors : List Author) →
    runs (a ∷ authors) ≡ (let first : AuthorRun = record { author = a; len = prefix_len (same_author a) authors + 1 } in
    first) ∷ runs (drop (prefix_len (same_author a) authors) authors)
runs-front a [] = refl
runs-front a (b ∷ authors) =
    ap (join_run a) (runs-front b authors)
    ∙ split (same_author a b)
    (λ e. rw (e, Rattle.std.proofs.Common.one-add) (same_run a b authors (same_author-true a b e)))
    (λ e. rw e (ap (λ l. (let one : AuthorRun = record { author = a; len = 1 } in one) ∷ l)
    (sym (runs-front b authors))))

prefix_len-map : {A B : Type 0} (f : A → B) (t : B → Bool) (xs : List A) → prefix_len t (map f xs)
    ≡ prefix_len (λ x. t (f x)) xs
prefix_len-map f t [] = refl
prefix_len-map f t (x ∷ xs) = ap (λ n. cond (t (f x)) (1 + n) 0) (prefix_len-map f t xs)

-- what is left from a place on is the item there and the rest
pub drop-item : {A : Type 0} (xs : List A) (i : ℕ) (x : A) → i < length xs → x ≡ get_or xs i x → drop i xs ≡ x
    ∷ drop (i + 1) xs
drop-item xs i x h e = drop-cons xs i x h ∙ ap₂ (λ y n. y ∷ drop n xs) (sym e) (let m : suc i ≡ i + 1 = omega arith in
    m)

drop_further : {A : Type 0} (xs : List A) (i n : ℕ) → drop n (drop (i + 1) xs) ≡ drop (i + (n + 1)) xs
drop_further xs i n = drop-drop n (i + 1) xs ∙ ap (λ k. drop k xs) (let m : i + 1 + n ≡ i + (n + 1) = omega arith in m)

-- a slice from a place on is all that is left
pub rest_all : {A : Type 0} (xs : List A) (n : ℕ) → take (length xs - n) (drop n xs) ≡ drop n xs
rest_all xs n = take_all (length xs - n) (drop n xs) (omega (arith, length-drop n xs))

-- what is taken off was there
pub within : {A : Type 0} (i n : ℕ) (xs : List A) → i < length xs →
    n ≤ length (take (length xs - (i + 1)) (drop (i + 1) xs)) → i + (n + 1) ≤ length xs
within i n xs h e =
    let all : n ≤ length (drop (i + 1) xs) = subst (λ l. n ≤ length l) (rest_all xs (i + 1)) e in
    omega (arith, length-drop (i + 1) xs)

-- one more run is taken off
pub runs-step : {A : Type 0} (f : A → Author) (xs : List A) (i : ℕ) (x : A) (more : ℕ) (out : List AuthorRun) →
    i < length xs → x ≡ get_or xs i x → more ≡ prefix_len (λ y. same_author (f x) (f y)) (drop (i + 1) xs) →
    (out ++ (let run : AuthorRun = record { author = f x; len = more + 1 } in run) ∷ [])
    ++ runs (map f (drop (i + (more + 1)) xs)) ≡ out ++ runs (map f (drop i xs))
runs-step f xs i x more out h is e =
    let rest = drop (i + 1) xs in
    let many : prefix_len (same_author (f x)) (map f rest) ≡ more = prefix_len-map f (same_author (f x)) rest ∙ sym e in
    append_assoc out ((let run : AuthorRun = record { author = f x; len = more + 1 } in run) ∷ [])
    (runs (map f (drop (i + (more + 1)) xs)))
    ∙ ap (λ l. out ++ l)
    (sym (ap (λ l. runs (map f l)) (drop-item xs i x h is) ∙ runs-front (f x) (map f rest)
    ∙ ap₂ (λ n l. (let run : AuthorRun = record { author = f x; len = n + 1 } in run) ∷ runs l) many
    (ap (λ n. drop n (map f rest)) many ∙ drop-map f more rest ∙ ap (map f) (drop_further xs i more))))

-- one more span is taken off
pub spans-step : (xs : List Stamp) (i : ℕ) (s : Stamp) (more : ℕ) (out : List Span) → i < length xs →
    s ≡ get_or xs i s → more ≡ following s (drop (i + 1) xs) →
    (out ++ (let span : Span = record { first = s; len = more + 1 } in span) ∷ []) ++ spans (drop (i + (more + 1)) xs)
    ≡ out ++ spans (drop i xs)
spans-step xs i s more out h is e =
    append_assoc out ((let span : Span = record { first = s; len = more + 1 } in span) ∷ [])
    (spans (drop (i + (more + 1)) xs))
    ∙ ap (λ l. out ++ l)
    (sym (ap spans (drop-item xs i s h is) ∙ spans-front s (drop (i + 1) xs)
    ∙ ap₂ (λ n l. (let span : Span = record { first = s; len = n + 1 } in span) ∷ spans l) (sym e)
    (ap (λ n. drop n (drop (i + 1) xs)) (sym e) ∙ drop_further xs i more)))
