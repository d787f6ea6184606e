-- A run joins the order as one block, at the place of its first item.
use Rattle.std.proofs.Common.{◌≡◌, ℕ, ◌+◌, ◌<◌, true, false, List, [], ◌∷◌, ◌++◌, Option, Some, None, refl, sym, ap}
use Rattle.std.proofs.Common.{◌∙◌, subst, append_assoc, append-nil, arith}
use Rattle.std.proofs.lemmas.Bool.{both_ways, false≢true, or_parts, or_left}
use Rattle.std.proofs.lemmas.List.Folds.{list_any-append}
use Rattle.std.proofs.lemmas.List.Sorted.{IsPermutation-sym, IsPermutation-to_front, list_any-IsPermutation}
use Rattle.std.specs.List.{AllByRecursion}
use Rattle.pad_model.specs.Stamp.{Stamp, newer, same_stamp}
use Rattle.pad_model.specs.Character.{Character, next, run_characters}
use Rattle.pad_model.specs.Legal.{has_stamp, has_parent, counter_of, IsTree, MayJoin, RunMayJoin, IsRun}
use Rattle.pad_model.specs.Order.{order}
use Rattle.pad_model.specs.Scan.{scan_from, scan_behind, put, put_right_behind}
use Rattle.pad_model.proofs.Newer.{split, newer_of_counter, newer-trans, newer-asym, same_stamp-true, same_stamp-refl}
use Rattle.pad_model.proofs.Newer.{same_stamp-sym}
use Rattle.pad_model.proofs.Each.{each-append, each-imply, each-permutation, each_fails, none_found}
use Rattle.pad_model.proofs.Rising.{distinct-permutation, IsDistinct-from_parts}
use Rattle.pad_model.proofs.Members.{order-permutation, order-push}

pub has_parent-append : {A : Type 0} (at : A → Character) (xs ys : List A) (p : Option Stamp) → has_parent at xs p
    ≡ true → has_parent at (xs ++ ys) p ≡ true
has_parent-append at xs ys None h = refl
has_parent-append at xs ys (Some p) h = list_any-append (λ x. same_stamp (at x).stamp p) xs ys ∙ or_left _ _ h

-- a tree that an item joins is a tree
pub IsTree-push : {A : Type 0} (at : A → Character) (s : List A) (c : A) → IsTree at s → MayJoin at s c →
    IsTree at (s ++ c ∷ [])
IsTree-push at s c t j = record {
  distinct = distinct-permutation at (c ∷ s) (s ++ c ∷ [])
      (IsPermutation-sym (s ++ c ∷ []) (c ∷ s) (IsPermutation-to_front s c))
      (IsDistinct-from_parts at c s (each-imply (λ y. same_stamp (at y).stamp (at c).stamp ≡ false)
      (λ y. same_stamp (at c).stamp (at y).stamp ≡ false) (λ y e. same_stamp-sym (at c).stamp (at y).stamp ∙ e) s
      (each_fails (λ x. same_stamp (at x).stamp (at c).stamp) s j.fresh)) t.distinct);
  rooted = each-append (λ x. has_parent at (s ++ c ∷ []) (at x).parent ≡ true) s (c ∷ [])
      (each-imply (λ x. has_parent at s (at x).parent ≡ true) (λ x. has_parent at (s ++ c ∷ []) (at x).parent ≡ true)
      (λ x h. has_parent-append at s (c ∷ []) (at x).parent h) s t.rooted)
      (has_parent-append at s (c ∷ []) (at c).parent j.rooted, tt);
  later = each-append (λ x. counter_of (at x).parent < (at x).stamp.counter) s (c ∷ []) t.later (j.later, tt);
}

pub put_nothing : {A : Type 0} (at : A → Character) (p : Option Stamp) (first : Stamp) (xs : List A) →
    put at p first [] xs ≡ xs
put_nothing at None first [] = refl
put_nothing at None first (x ∷ xs) = split (newer (at x).stamp first)
    (λ e. rw e (ap (λ l. x ∷ l) (put_nothing at None first xs))) (λ e. rw e refl)
put_nothing at (Some p) first [] = refl
put_nothing at (Some p) first (x ∷ xs) = split (same_stamp (at x).stamp p)
    (λ e. rw e (ap (λ l. x ∷ l) (put_nothing at None first xs)))
    (λ e. rw e (ap (λ l. x ∷ l) (put_nothing at (Some p) first xs)))

-- what a scan does not pass, a scan with a newer stamp does not pass
still_old : (x first second : Stamp) → newer second first ≡ true → newer x first ≡ false → newer x second ≡ false
still_old x first second n o = split (newer x second) (λ e. absurd (both_ways _ o (newer-trans x second first e n)))
    (λ e. e)

scan_from-extend : {A : Type 0} (at : A → Character) (c : A) (second : Stamp) (rest xs : List A) →
    newer second (at c).stamp ≡ true → has_stamp at xs (at c).stamp ≡ false →
    scan_behind at (at c).stamp second rest (scan_from at (at c).stamp (c ∷ []) xs)
    ≡ scan_from at (at c).stamp (c ∷ rest) xs
scan_from-extend at c second rest [] n f = rw (same_stamp-refl (at c).stamp) refl
scan_from-extend at c second rest (x ∷ xs) n f =
    let parts = or_parts (same_stamp (at x).stamp (at c).stamp) (has_stamp at xs (at c).stamp) f in
    split (newer (at x).stamp (at c).stamp)
    (λ e. rw (e, parts.0) (ap (λ l. x ∷ l) (scan_from-extend at c second rest xs n parts.1)))
    (λ e. rw (e, same_stamp-refl (at c).stamp, still_old (at x).stamp (at c).stamp second n e) refl)

-- the rest of a run goes directly after its first item
pub put-extend : {A : Type 0} (at : A → Character) (p : Option Stamp) (c : A) (second : Stamp) (rest xs : List A) →
    newer second (at c).stamp ≡ true → has_stamp at xs (at c).stamp ≡ false → has_parent at xs p ≡ true →
    put at (Some (at c).stamp) second rest (put at p (at c).stamp (c ∷ []) xs) ≡ put at p (at c).stamp (c ∷ rest) xs
put-extend at None c second rest xs n f h = scan_from-extend at c second rest xs n f
put-extend at (Some p) c second rest [] n f h = absurd (false≢true h)
put-extend at (Some p) c second rest (x ∷ xs) n f h =
    let parts = or_parts (same_stamp (at x).stamp (at c).stamp) (has_stamp at xs (at c).stamp) f in
    split (same_stamp (at x).stamp p)
    (λ e. rw (e, parts.0) (ap (λ l. x ∷ l) (scan_from-extend at c second rest xs n parts.1)))
    (λ e. rw (e, parts.0) (ap (λ l. x ∷ l) (put-extend at (Some p) c second rest xs n parts.1 (rw e at h))))

-- the stamps of a run that may join are new
pub run_fresh : {A : Type 0} (at : A → Character) (s : List A) (first : Stamp) →
    AllByRecursion (λ x. (at x).stamp.replica ≡ first.replica → (at x).stamp.counter < first.counter) s →
    has_stamp at s first ≡ false
run_fresh at s first h =
    none_found (λ x. same_stamp (at x).stamp first) s
    (each-imply (λ x. (at x).stamp.replica ≡ first.replica → (at x).stamp.counter < first.counter)
    (λ x. same_stamp (at x).stamp first ≡ false)
    (λ x k. split (same_stamp (at x).stamp first)
    (λ e. let same = same_stamp-true (at x).stamp first e in
    let less : (at x).stamp.counter < first.counter = k (ap (λ s. s.replica) same) in
    let equal : (at x).stamp.counter ≡ first.counter = ap (λ s. s.counter) same in
    absurd (omega arith)) (λ e. e)) s h)

-- what an item of a run leaves for the rest of it
pub RunMayJoin-rest : {A : Type 0} (at : A → Character) (s : List A) (c : A) (first : Stamp) (p : Option Stamp) →
    (at c).stamp ≡ first → RunMayJoin at s first p → RunMayJoin at (s ++ c ∷ []) (next first) (Some first)
RunMayJoin-rest at s c first p is j = record {
  above = each-append (λ x. (at x).stamp.replica ≡ first.replica → (at x).stamp.counter < first.counter + 1) s (c ∷ [])
      (each-imply (λ x. (at x).stamp.replica ≡ first.replica → (at x).stamp.counter < first.counter)
      (λ x. (at x).stamp.replica ≡ first.replica → (at x).stamp.counter < first.counter + 1)
      (λ x k e. let less : (at x).stamp.counter < first.counter = k e in omega arith) s j.above)
      ((λ e. rw is (omega arith)), tt);
  rooted = list_any-append (λ x. same_stamp (at x).stamp first) s (c ∷ []) ∙ Rattle.std.proofs.lemmas.Bool.or_right _ _
      (or_left (same_stamp (at c).stamp first) false (rw is (same_stamp-refl first)));
  later = omega arith;
}

pub MayJoin-first : {A : Type 0} (at : A → Character) (s : List A) (c : A) (first : Stamp) (p : Option Stamp) →
    (at c).stamp ≡ first → (at c).parent ≡ p → RunMayJoin at s first p → MayJoin at s c
MayJoin-first at s c first p is under j =
    record { fresh = rw is (run_fresh at s first j.above); rooted = rw under j.rooted; later = rw (is, under) j.later }

-- a tree that a run joins is a tree
pub IsTree-run : {A : Type 0} (at : A → Character) (s : List A) (first : Stamp) (p : Option Stamp) (block : List A) →
    IsTree at s → RunMayJoin at s first p → IsRun at first p block → IsTree at (s ++ block)
IsTree-run at s first p [] t j r = rw append-nil t
IsTree-run at s first p (c ∷ rest) t j r =
    subst (IsTree at) (append_assoc s (c ∷ []) rest)
    (IsTree-run at (s ++ c ∷ []) (next first) (Some first) rest
    (IsTree-push at s c t (MayJoin-first at s c first p r.0 r.1 j)) (RunMayJoin-rest at s c first p r.0 j) r.2)

pub order-run : {A : Type 0} (at : A → Character) (s : List A) (first : Stamp) (p : Option Stamp) (block : List A) →
    IsTree at s → RunMayJoin at s first p → IsRun at first p block →
    order at (s ++ block) ≡ put at p first block (order at s)
order-run at s first p [] t j r = ap (order at) (append-nil s) ∙ sym (put_nothing at p first (order at s))
order-run at s first p (c ∷ rest) t j r =
    let joins = MayJoin-first at s c first p r.0 r.1 j in
    let all = order-permutation at s t in
    let fresh : has_stamp at (order at s) (at c).stamp ≡ false =
    sym (list_any-IsPermutation (λ x. same_stamp (at x).stamp (at c).stamp) s (order at s) all) ∙ joins.fresh in
    let there : has_parent at (order at s) (at c).parent ≡ true =
    sym (Rattle.pad_model.proofs.Members.has_parent-permutation at s (order at s) (at c).parent all) ∙ joins.rooted in
    let second : newer (next first) (at c).stamp ≡ true = rw r.0 (newer_of_counter (next first) first (omega arith)) in
    ap (order at) (sym (append_assoc s (c ∷ []) rest))
    ∙ order-run at (s ++ c ∷ []) (next first) (Some first) rest (IsTree-push at s c t joins)
    (RunMayJoin-rest at s c first p r.0 j) r.2
    ∙ ap (λ o. put at (Some first) (next first) rest o) (order-push at s c t joins)
    ∙ ap (λ f. put at (Some f) (next first) rest (put at (at c).parent (at c).stamp (c ∷ []) (order at s))) (sym r.0)
    ∙ put-extend at (at c).parent c (next first) rest (order at s) second fresh there
    ∙ ap (λ q. put at q (at c).stamp (c ∷ rest) (order at s)) r.1
    ∙ ap (λ f. put at p f (c ∷ rest) (order at s)) r.0

pub IsRun-run_characters : (first : Stamp) (p : Option Stamp) (text : List ℕ) (author : _) →
    IsRun (λ c. c) first p (run_characters first p text author)
IsRun-run_characters first p [] author = tt
IsRun-run_characters first p (c ∷ text) author =
    (refl, refl, IsRun-run_characters (next first) (Some first) text author)

scan_from-newest : {A : Type 0} (at : A → Character) (first : Stamp) (block xs : List A) →
    AllByRecursion (λ x. newer first (at x).stamp ≡ true) xs → scan_from at first block xs ≡ block ++ xs
scan_from-newest at first block [] h = sym (append-nil block)
scan_from-newest at first block (x ∷ xs) h = rw (newer-asym first (at x).stamp h.0) refl

-- a block newer than all goes directly after its parent
pub put-newest : {A : Type 0} (at : A → Character) (p : Option Stamp) (first : Stamp) (block xs : List A) →
    AllByRecursion (λ x. newer first (at x).stamp ≡ true) xs → put at p first block xs ≡ put_right_behind at p block xs
put-newest at None first block xs h = scan_from-newest at first block xs h
put-newest at (Some p) first block [] h = refl
put-newest at (Some p) first block (x ∷ xs) h =
    split (same_stamp (at x).stamp p)
    (λ e. rw e (ap (λ l. x ∷ l) (scan_from-newest at first block xs h.1)))
    (λ e. rw e (ap (λ l. x ∷ l) (put-newest at (Some p) first block xs h.1)))

pub order-newest : {A : Type 0} (at : A → Character) (s : List A) (first : Stamp) (p : Option Stamp) (block : List A) →
    IsTree at s → RunMayJoin at s first p → IsRun at first p block →
    AllByRecursion (λ x. newer first (at x).stamp ≡ true) s →
    order at (s ++ block) ≡ put_right_behind at p block (order at s)
order-newest at s first p block t j r h =
    order-run at s first p block t j r ∙ put-newest at p first block (order at s)
    (each-permutation (λ x. newer first (at x).stamp ≡ true) s (order at s) (order-permutation at s t) h)
