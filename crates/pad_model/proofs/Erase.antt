-- Cells stay in order when some of them die.
use Rattle.std.proofs.Common.{◌≡◌, inl, inr, ℕ, zero, suc, ◌+◌, ◌<◌, ◌≤◌, Bool, true, false, ◌&&◌, ◌||◌, cond, is_none}
use Rattle.std.proofs.Common.{eqb, leb, ltb, List, [], ◌∷◌, ◌++◌, Option, Some, None, refl, sym, ap, ap₂, ◌∙◌, subst}
use Rattle.std.proofs.Common.{map, fold, flat_map, arith, le-leb, le-ltb, lt-ltb, eq-eqb, ne_eqb, leb-true}
use Rattle.std.proofs.lemmas.Bool.{lt-leb, cases_order}
use Rattle.std.proofs.lemmas.List.Concat.{flat_map-append}
use Rattle.std.proofs.lemmas.List.Folds.{list_any-append}
use Rattle.std.specs.List.{IsDistinct, list_any, list_all}
use Rattle.pad_model.specs.Stamp.{Stamp, newer, same_stamp}
use Rattle.pad_model.specs.Character.{Character, next}
use Rattle.pad_model.specs.Cell.{Cell, character_of, is_hidden_by, erased_at, without_spans, IsInOrder}
use Rattle.pad_model.specs.Legal.{has_parent, same_item, counter_of, IsTree}
use Rattle.pad_model.specs.Order.{same_parent, put_rising, rising, walk_rising, order}
use Rattle.pad_model.specs.Operation.{stamps_from, span_stamps}
use Rattle.pad_model.specs.Visible.{is_erased}
use Rattle.pad_model.specs.declared.op.Span.{Span}
use Rattle.pad_model.proofs.Newer.{split}
use Rattle.pad_model.proofs.Each.{each-imply}
use Rattle.pad_model.proofs.Maps.{order-map, each-map, has_parent-map, IsTree-of_map}
use Rattle.pad_model.proofs.Rising.{IsDistinct-nil, IsDistinct-parts, IsDistinct-from_parts}

put_rising-same : {A : Type 0} (at to : A → Character) → ((x : A) → at x ≡ to x) → (c : A) (xs : List A) →
    put_rising at c xs ≡ put_rising to c xs
put_rising-same at to h c [] = refl
put_rising-same at to h c (x ∷ xs) = ap₂ (λ (b : Bool) l. cond b (c ∷ x ∷ xs) (x ∷ l))
    (ap₂ (λ a b. newer a.stamp b.stamp) (h x) (h c)) (put_rising-same at to h c xs)

rising_onto-same : {A : Type 0} (at to : A → Character) → ((x : A) → at x ≡ to x) → (acc s : List A) →
    fold (λ sorted c. put_rising at c sorted) acc s ≡ fold (λ sorted c. put_rising to c sorted) acc s
rising_onto-same at to h acc [] = refl
rising_onto-same at to h acc (c ∷ s) = rising_onto-same at to h (put_rising at c acc) s
    ∙ ap (λ a. fold (λ sorted c. put_rising to c sorted) a s) (put_rising-same at to h c acc)

walk_rising-same : {A : Type 0} (at to : A → Character) → ((x : A) → at x ≡ to x) → (u : List A) (q : Option Stamp) →
    walk_rising at u q ≡ walk_rising to u q
walk_rising-same at to h [] q = refl
walk_rising-same at to h (x ∷ later) q =
    ap (λ p. cond (same_parent p q) (walk_rising at later q ++ x ∷ walk_rising at later (Some (at x).stamp))
    (walk_rising at later q)) (ap (λ c. c.parent) (h x))
    ∙ ap (λ l. cond (same_parent (to x).parent q) (l ++ x ∷ walk_rising at later (Some (at x).stamp)) l)
    (walk_rising-same at to h later q)
    ∙ ap (λ l. cond (same_parent (to x).parent q) (walk_rising to later q ++ x ∷ l) (walk_rising to later q))
    (walk_rising-same at to h later (Some (at x).stamp) ∙ ap (λ c. walk_rising to later (Some c.stamp)) (h x))

-- items that carry the same characters have one order
pub order-same : {A : Type 0} (at to : A → Character) → ((x : A) → at x ≡ to x) → (s : List A) → order at s ≡ order to s
order-same at to h s = ap (λ u. walk_rising at u None) (rising_onto-same at to h [] s)
    ∙ walk_rising-same at to h (rising to s) None

IsDistinct-map : {A B : Type 0} (f : A → B) (at : B → Character) (xs : List A) →
    IsDistinct (same_item (λ x. at (f x))) xs → IsDistinct (same_item at) (map f xs)
IsDistinct-map f at [] d = IsDistinct-nil at
IsDistinct-map f at (x ∷ xs) d =
    let parts = IsDistinct-parts (λ x. at (f x)) x xs d in
    IsDistinct-from_parts at (f x) (map f xs)
    (each-map f (λ y. same_stamp (at (f x)).stamp (at y).stamp ≡ false) xs parts.0) (IsDistinct-map f at xs parts.1)

-- items whose images form a tree are mapped to one
pub IsTree-map : {A B : Type 0} (f : A → B) (at : B → Character) (xs : List A) → IsTree (λ x. at (f x)) xs →
    IsTree at (map f xs)
IsTree-map f at xs t = record {
  distinct = IsDistinct-map f at xs t.distinct;
  rooted = each-map f (λ y. has_parent at (map f xs) (at y).parent ≡ true) xs
      (each-imply (λ x. has_parent (λ x. at (f x)) xs (at (f x)).parent ≡ true)
      (λ x. has_parent at (map f xs) (at (f x)).parent ≡ true) (λ x h. has_parent-map f at xs (at (f x)).parent
      ∙ h) xs t.rooted);
  later = each-map f (λ y. counter_of (at y).parent < (at y).stamp.counter) xs t.later;
}

same_characters : {A : Type 0} (at to : A → Character) → ((x : A) → at x ≡ to x) → (xs : List A) → map at xs ≡ map to xs
same_characters at to h [] = refl
same_characters at to h (x ∷ xs) = ap₂ (λ (c : Character) l. c ∷ l) (h x) (same_characters at to h xs)

-- items that carry the same characters are a tree together
pub IsTree-same : {A : Type 0} (at to : A → Character) → ((x : A) → at x ≡ to x) → (xs : List A) → IsTree at xs →
    IsTree to xs
IsTree-same at to h xs t = IsTree-of_map to (λ c. c) xs (subst (IsTree (λ c. c)) (same_characters at to h xs)
    (IsTree-map at (λ c. c) xs t))

-- cells in order stay so if each keeps its character
pub IsInOrder-map : (f : Cell → Cell) → ((c : Cell) → character_of (f c) ≡ character_of c) → (cells : List Cell) →
    IsInOrder cells → IsInOrder (map f cells)
IsInOrder-map f h cells o = record {
  tree = IsTree-map f character_of cells (IsTree-same character_of (λ c. character_of (f c))
      (λ c. sym (h c)) cells o.tree);
  is = order-map f character_of cells ∙ ap (map f) (order-same (λ c. character_of (f c)) character_of h cells ∙ o.is);
}

pub erased_at-character : (rev : ℕ) (spans : List Span) (c : Cell) → character_of (erased_at rev spans c)
    ≡ character_of c
erased_at-character rev spans c = split (is_hidden_by spans c) (λ e. rw e refl) (λ e. rw e refl)

-- a deletion keeps the cells in order
pub IsInOrder-without : (rev : ℕ) (spans : List Span) (cells : List Cell) → IsInOrder cells →
    IsInOrder (without_spans rev spans cells)
IsInOrder-without rev spans cells o = IsInOrder-map (erased_at rev spans) (erased_at-character rev spans) cells o

-- whether a stamp is one of n that follow each other
abbrev pub in_span : Stamp → ℕ → Stamp → Bool
in_span first n s = eqb first.replica s.replica && (leb first.counter s.counter && ltb s.counter (first.counter + n))

between_none : (a c : ℕ) → (leb a c && ltb c (a + 0)) ≡ false
between_none a c = split (leb a c) (λ e. let l : a ≤ c = leb-true a c e in rw (e, le-ltb c (a + 0) (omega arith)) refl)
    (λ e. rw e refl)

-- a number is the first of a stretch, or in the rest of it
between_more : (a c n : ℕ) → (eqb a c || (leb (a + 1) c && ltb c (a + 1 + n))) ≡ (leb a c && ltb c (a + suc n))
between_more a c n =
    elim (cases_order a c) [
      | inl same ↦ rw (eq-eqb a c same, le-leb a c (omega arith), lt-ltb c (a + suc n) (omega arith)) refl
      | inr (inl less) ↦ rw (ne_eqb a c (omega arith), le-leb (a + 1) c (omega arith), le-leb a c (omega arith))
          (ap (ltb c) (let e : a + 1 + n ≡ a + suc n = omega arith in e))
      | inr (inr more) ↦ rw (ne_eqb a c (omega arith), lt-leb (a + 1) c (omega arith), lt-leb a c more) refl
    ]

one_more : (r : Bool) (same rest all : Bool) → (same || rest) ≡ all → ((same && r) || (r && rest)) ≡ (r && all)
one_more true true rest all e = e
one_more true false rest all e = e
one_more false true rest all e = refl
one_more false false rest all e = refl

-- the stamps of a span are a stretch of counters of one replica
pub is_erased-stamps_from : (first : Stamp) (n : ℕ) (s : Stamp) → is_erased (stamps_from first n) s ≡ in_span first n s
is_erased-stamps_from first zero s = sym (ap (λ b. eqb first.replica s.replica && b)
    (between_none first.counter s.counter) ∙ and_false (eqb first.replica s.replica))
  where
    and_false : (b : Bool) → (b && false) ≡ false
    and_false true = refl
    and_false false = refl
is_erased-stamps_from first (suc n) s =
    ap (λ b. same_stamp first s || b) (is_erased-stamps_from (next first) n s)
    ∙ one_more (eqb first.replica s.replica) (eqb first.counter s.counter) (leb (first.counter + 1) s.counter
    && ltb s.counter (first.counter + 1 + n)) (leb first.counter s.counter && ltb s.counter (first.counter + suc n))
    (between_more first.counter s.counter n)

-- a stamp of some spans is one of a span's
pub is_erased-spans : (spans : List Span) (s : Stamp) → is_erased (flat_map span_stamps spans) s
    ≡ list_any (λ span. in_span span.first span.len s) spans
is_erased-spans [] s = refl
is_erased-spans (span ∷ spans) s =
    list_any-append (λ e. same_stamp e s) (span_stamps span) (flat_map span_stamps spans)
    ∙ ap₂ (λ a b. a || b) (is_erased-stamps_from span.first span.len s) (is_erased-spans spans s)

-- all stamps of some spans are there if those of each span are
pub has_spans-each : (t : Stamp → Bool) (spans : List Span) → list_all t (flat_map span_stamps spans)
    ≡ list_all (λ span. list_all t (span_stamps span)) spans
has_spans-each t [] = refl
has_spans-each t (span ∷ spans) = Rattle.std.proofs.lemmas.List.Folds.list_all-append t (span_stamps span)
    (flat_map span_stamps spans) ∙ ap (λ b. list_all t (span_stamps span) && b) (has_spans-each t spans)

-- what two lists of spans name together
pub named_by_both : (xs ys : List Span) (s : Stamp) → is_erased (flat_map span_stamps (xs ++ ys)) s
    ≡ (is_erased (flat_map span_stamps xs) s || is_erased (flat_map span_stamps ys) s)
named_by_both xs ys s = ap (λ l. is_erased l s) (flat_map-append span_stamps xs ys)
    ∙ list_any-append (λ e. same_stamp e s) (flat_map span_stamps xs) (flat_map span_stamps ys)

-- what dies of one of two deletions dies once
pub dies_once : (a b : Bool) (rev : ℕ) (d : Option ℕ) → cond (b && is_none (cond (a && is_none d) (Some rev) d))
    (Some rev) (cond (a && is_none d) (Some rev) d) ≡ cond ((a || b) && is_none d) (Some rev) d
dies_once true true rev None = refl
dies_once true true rev (Some d) = refl
dies_once true false rev None = refl
dies_once true false rev (Some d) = refl
dies_once false true rev None = refl
dies_once false true rev (Some d) = refl
dies_once false false rev None = refl
dies_once false false rev (Some d) = refl

pub erased_at-died : (rev : ℕ) (spans : List Span) (c : Cell) → erased_at rev spans c
    ≡ record c { died = cond (is_hidden_by spans c) (Some rev) c.died }
erased_at-died rev spans c = split (is_hidden_by spans c) (λ e. rw e refl) (λ e. rw e refl)

erased_twice : (rev : ℕ) (xs ys : List Span) (c : Cell) → erased_at rev ys (erased_at rev xs c)
    ≡ erased_at rev (xs ++ ys) c
erased_twice rev xs ys c =
    ap (erased_at rev ys) (erased_at-died rev xs c)
    ∙ erased_at-died rev ys (record c { died = cond (is_hidden_by xs c) (Some rev) c.died })
    ∙ ap (λ d. let it : Cell = record c { died = d } in it)
    (dies_once (is_erased (flat_map span_stamps xs) c.stamp) (is_erased (flat_map span_stamps ys) c.stamp) rev c.died
    ∙ ap (λ b. cond (b && is_none c.died) (Some rev) c.died) (sym (named_by_both xs ys c.stamp)))
    ∙ sym (erased_at-died rev (xs ++ ys) c)

-- a second deletion of the same revision adds its spans to those of the first
pub without_twice : (rev : ℕ) (xs ys : List Span) (cells : List Cell) →
    without_spans rev ys (without_spans rev xs cells) ≡ without_spans rev (xs ++ ys) cells
without_twice rev xs ys [] = refl
without_twice rev xs ys (c ∷ cells) = ap₂ (λ (x : Cell) l. x ∷ l) (erased_twice rev xs ys c)
    (without_twice rev xs ys cells)

pub without_none : (rev : ℕ) (cells : List Cell) → without_spans rev [] cells ≡ cells
without_none rev [] = refl
without_none rev (c ∷ cells) = ap (λ l. c ∷ l) (without_none rev cells)

-- deaths change no place
pub without-order : (rev : ℕ) (spans : List Span) (cells : List Cell) →
    without_spans rev spans (order character_of cells) ≡ order character_of (without_spans rev spans cells)
without-order rev spans cells =
    ap (map (erased_at rev spans)) (sym (order-same (λ c. character_of (erased_at rev spans c)) character_of
    (erased_at-character rev spans) cells)) ∙ sym (order-map (erased_at rev spans) character_of cells)
