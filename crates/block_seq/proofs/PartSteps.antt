-- The deletions of an operation's parts, marked part by part.
use Rattle.std.proofs.Common.{◌≡◌, ℕ, ◌+◌, ◌<◌, ◌≤◌, Bool, true, false, ◌&&◌, ◌||◌, cond, List, [], ◌∷◌, ◌++◌, length}
use Rattle.std.proofs.Common.{Option, Some, None, refl, sym, ap, ap₂, ◌∙◌, map, take, get_or, flat_map, count_by}
use Rattle.std.proofs.Common.{is_none, arith, append-nil}
use Rattle.std.proofs.lemmas.List.{take_more}
use Rattle.std.proofs.lemmas.List.Concat.{flat_map-append}
use Rattle.pad_model.specs.Checked.{part_size}
use Rattle.pad_model.specs.Operation.{span_stamps}
use Rattle.pad_model.specs.Parts.{part_spans, spans_in}
use Rattle.pad_model.specs.Visible.{is_erased}
use Rattle.pad_model.specs.declared.op.Part.{Part}
use Rattle.pad_model.specs.declared.op.Part.TheVariants.{Insert, Delete, Comment, Resolve}
use Rattle.pad_model.specs.declared.op.Span.{Span}
use Rattle.pad_model.proofs.Erase.{named_by_both, dies_once}
use Rattle.pad_model.proofs.Newer.{split}
use Rattle.block_seq.specs.declared.place.PlainCell.{PlainCell}
use Rattle.block_seq.specs.KeptParts.{inserted_size}
use Rattle.block_seq.specs.Plain.{is_hidden_by, erased_at}

-- a cell after a deletion, by its death alone
erased_at-died : (rev : ℕ) (spans : List Span) (c : PlainCell) → erased_at rev spans c
    ≡ record c { died = cond (is_hidden_by spans c) (Some rev) c.died }
erased_at-died rev spans c = split (is_hidden_by spans c) (λ e. rw e refl) (λ e. rw e refl)

counts_once : (a b : Bool) (rev : ℕ) (d : Option ℕ) → cond (a && is_none d) 1 0
    + cond (b && is_none (cond (a && is_none d) (Some rev) d)) 1 0 ≡ cond ((a || b) && is_none d) 1 0
counts_once true true rev None = refl
counts_once true true rev (Some d) = refl
counts_once true false rev None = refl
counts_once true false rev (Some d) = refl
counts_once false true rev None = refl
counts_once false true rev (Some d) = refl
counts_once false false rev None = refl
counts_once false false rev (Some d) = refl

-- a second deletion of the same revision adds its spans to those of the first
erased_twice : (rev : ℕ) (xs ys : List Span) (c : PlainCell) → erased_at rev ys (erased_at rev xs c)
    ≡ erased_at rev (xs ++ ys) c
erased_twice rev xs ys c =
    ap (erased_at rev ys) (erased_at-died rev xs c)
    ∙ erased_at-died rev ys (record c { died = cond (is_hidden_by xs c) (Some rev) c.died })
    ∙ ap (λ d. let it : PlainCell = record c { died = d } in it)
    (dies_once (is_erased (flat_map span_stamps xs) c.stamp) (is_erased (flat_map span_stamps ys) c.stamp) rev c.died
    ∙ ap (λ b. cond (b && is_none c.died) (Some rev) c.died) (sym (named_by_both xs ys c.stamp)))
    ∙ sym (erased_at-died rev (xs ++ ys) c)

all_erased_twice : (rev : ℕ) (xs ys : List Span) (cells : List PlainCell) →
    map (erased_at rev ys) (map (erased_at rev xs) cells) ≡ map (erased_at rev (xs ++ ys)) cells
all_erased_twice rev xs ys [] = refl
all_erased_twice rev xs ys (c ∷ cells) = ap₂ (λ (x : PlainCell) l. x ∷ l) (erased_twice rev xs ys c)
    (all_erased_twice rev xs ys cells)

counted_twice : (rev : ℕ) (xs ys : List Span) (c : PlainCell) → cond (is_hidden_by xs c) 1 0
    + cond (is_hidden_by ys (erased_at rev xs c)) 1 0 ≡ cond (is_hidden_by (xs ++ ys) c) 1 0
counted_twice rev xs ys c =
    ap (λ (x : PlainCell). cond (is_hidden_by xs c) 1 0 + cond (is_hidden_by ys x) 1 0) (erased_at-died rev xs c)
    ∙ counts_once (is_erased (flat_map span_stamps xs) c.stamp) (is_erased (flat_map span_stamps ys) c.stamp) rev c.died
    ∙ ap (λ b. cond (b && is_none c.died) 1 0) (sym (named_by_both xs ys c.stamp))

count_by-cons : {A : Type 0} (t : A → Bool) (x : A) (xs : List A) → count_by t (x ∷ xs) ≡ cond (t x) 1 0 + count_by t xs
count_by-cons t x xs = Rattle.std.proofs.lemmas.List.Sums.sum_by-cons (λ x. cond (t x) 1 0) x xs

all_counted_twice : (rev : ℕ) (xs ys : List Span) (cells : List PlainCell) → count_by (is_hidden_by xs) cells
    + count_by (is_hidden_by ys) (map (erased_at rev xs) cells) ≡ count_by (is_hidden_by (xs ++ ys)) cells
all_counted_twice rev xs ys [] = refl
all_counted_twice rev xs ys (c ∷ cells) =
    let more = all_counted_twice rev xs ys cells in
    let here = counted_twice rev xs ys c in
    ap₂ (λ m n. m + n) (count_by-cons (is_hidden_by xs) c cells) (count_by-cons (is_hidden_by ys) (erased_at rev xs c)
    (map (erased_at rev xs) cells))
    ∙ (let e : cond (is_hidden_by xs c) 1 0 + count_by (is_hidden_by xs) cells
    + (cond (is_hidden_by ys (erased_at rev xs c)) 1 0 + count_by (is_hidden_by ys) (map (erased_at rev xs) cells))
    ≡ cond (is_hidden_by (xs ++ ys) c) 1 0 + count_by (is_hidden_by (xs ++ ys)) cells = omega (arith, more, here) in e)
    ∙ sym (count_by-cons (is_hidden_by (xs ++ ys)) c cells)

-- a deletion of nothing
pub erased_none : (rev : ℕ) (cells : List PlainCell) → map (erased_at rev []) cells ≡ cells
erased_none rev [] = refl
erased_none rev (c ∷ cells) = ap (λ l. c ∷ l) (erased_none rev cells)

pub counted_none : (cells : List PlainCell) → 0 ≡ count_by (is_hidden_by []) cells
counted_none [] = refl
counted_none (c ∷ cells) = ap (λ n. 0 + n) (counted_none cells) ∙ sym (count_by-cons (is_hidden_by []) c cells)

pub counted_none_of : (spans : List Span) (cells : List PlainCell) → spans ≡ [] →
    0 ≡ count_by (is_hidden_by spans) cells
counted_none_of spans cells e = rw e (counted_none cells)

pub erased_none_of : (rev : ℕ) (spans : List Span) (cells : List PlainCell) → spans ≡ [] →
    cells ≡ map (erased_at rev spans) cells
erased_none_of rev spans cells e = rw e (sym (erased_none rev cells))

-- a part that is no deletion erases nothing
pub no_spans : (part : Part) → ((spans : List Span) → part ≡ Delete spans → ⊥) → part_spans part ≡ []
no_spans (Insert run) h = refl
no_spans (Delete spans) h = absurd (h spans refl)
no_spans (Comment first last text) h = refl
no_spans (Resolve comment) h = refl

-- the spans of one more part
spans_more : (parts : List Part) (i : ℕ) (part : Part) → i < length parts → part ≡ get_or parts i part →
    spans_in (take (i + 1) parts) ≡ spans_in (take i parts) ++ part_spans part
spans_more parts i part h e =
    ap spans_in (take_more parts i part h ∙ ap (λ p. take i parts ++ p ∷ []) (sym e))
    ∙ flat_map-append part_spans (take i parts) (part ∷ [])
    ∙ ap (λ l. spans_in (take i parts) ++ l) (append-nil (part_spans part))

-- the cells marked for one more part
pub marked_more : (rev : ℕ) (parts : List Part) (i : ℕ) (part : Part) (initial cells : List PlainCell) →
    i < length parts → part ≡ get_or parts i part → cells ≡ map (erased_at rev (spans_in (take i parts))) initial →
    map (erased_at rev (part_spans part)) cells ≡ map (erased_at rev (spans_in (take (i + 1) parts))) initial
marked_more rev parts i part initial cells h e is =
    ap (map (erased_at rev (part_spans part))) is ∙ all_erased_twice rev (spans_in (take i parts))
    (part_spans part) initial ∙ ap (λ l. map (erased_at rev l) initial) (sym (spans_more parts i part h e))

-- and counted for one more part
pub counted_more : (rev : ℕ) (parts : List Part) (i : ℕ) (part : Part) (initial cells : List PlainCell) →
    i < length parts → part ≡ get_or parts i part → cells ≡ map (erased_at rev (spans_in (take i parts))) initial →
    count_by (is_hidden_by (spans_in (take i parts))) initial + count_by (is_hidden_by (part_spans part)) cells
    ≡ count_by (is_hidden_by (spans_in (take (i + 1) parts))) initial
counted_more rev parts i part initial cells h e is =
    ap (λ l. count_by (is_hidden_by (spans_in (take i parts))) initial + count_by (is_hidden_by (part_spans part)) l) is
    ∙ all_counted_twice rev (spans_in (take i parts)) (part_spans part) initial
    ∙ ap (λ l. count_by (is_hidden_by l) initial) (sym (spans_more parts i part h e))

-- what a part inserts is at most its size
pub inserted-le-size : (part : Part) → inserted_size part ≤ part_size part
inserted-le-size (Insert run) = omega arith
inserted-le-size (Delete spans) = omega arith
inserted-le-size (Comment first last text) = omega arith
inserted-le-size (Resolve comment) = omega arith
