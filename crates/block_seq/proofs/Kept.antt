-- The kept cells of a run.
use Rattle.std.proofs.Common.{◌≡◌, ◌⊎◌, inl, inr, ℕ, zero, suc, ◌+◌, ◌<◌, Bool, true, false, cond, ◌&&◌}
use Rattle.std.proofs.Common.{flat_map, Ok, Err, count_by, List, [], ◌∷◌, ◌++◌, length, take, drop}
use Rattle.std.proofs.Common.{Option, Some, None, refl, sym, ap, ap₂, ◌∙◌, subst, arith}
use Rattle.std.proofs.Common.{length-append, filter, map, slice_get, option_map, IsPermutation}
use Rattle.std.proofs.lemmas.List.{length-map, get_or_append_left, drop-map, take-map}
use Rattle.pad_model.specs.Stamp.{Stamp}
use Rattle.pad_model.specs.Character.{next}
use Rattle.block_seq.specs.declared.place.PlainCell.{PlainCell}
use Rattle.pad_model.specs.Character.{run_characters}
use Rattle.pad_model.specs.Cell.{Cell, character_of, cells_at, cell_stamp_at, text_at, shown_at, born_at, with_run}
use Rattle.pad_model.specs.Cell.{IsInOrder}
use Rattle.pad_model.specs.Log.{run_may_join}
use Rattle.pad_model.specs.Scan.{put}
use Rattle.pad_model.specs.declared.who.Author.{Author}
use Rattle.pad_model.specs.declared.op.Run.{Run}
use Rattle.pad_model.proofs.Each.{each-append, each-imply, each-permutation}
use Rattle.pad_model.proofs.Maps.{filter-map, IsTree-of_map, list_any-map, map-map, put-map, run_may_join-map}
use Rattle.pad_model.proofs.Places.{spliced, place_in, put-spliced}
use Rattle.pad_model.proofs.Rising.{IsDistinct-nil}
use Rattle.pad_model.proofs.Scan.{put-permutation}
use Rattle.pad_model.proofs.Cells.{with_run-put, IsInOrder-with_run}
use Rattle.std.specs.List.{IsDistinct, list_all}
use Rattle.pad_model.specs.Stamp.{same_stamp}
use Rattle.pad_model.specs.Legal.{has_stamp, same_item}
use Rattle.pad_model.specs.Log.{has_spans}
use Rattle.pad_model.specs.Operation.{span_stamps}
use Rattle.pad_model.specs.declared.refusal.Refusal.TheVariants.{PeerFault}
use Rattle.pad_model.specs.Cell.{is_hidden_by, without_spans, delete_spans}
use Rattle.pad_model.specs.declared.op.Span.{Span}
use Rattle.pad_model.proofs.Newer.{split}
use Rattle.pad_model.proofs.Erase.{IsInOrder-without}
use Rattle.block_seq.specs.Plain.{is_hidden_by as kept_hidden, erased_at as kept_erased}
use Rattle.block_seq.specs.Plain.{author_at, cell_of, cells_of, kept_character, AreKnown, IsPlain, is_shown, kept_run}

-- the cells that are visible stand for the kept ones that are
pub cells_at-cells_of : (authors : List Author) (rev : ℕ) (cells : List PlainCell) →
    cells_at rev (cells_of authors cells) ≡ cells_of authors (filter (is_shown rev) cells)
cells_at-cells_of authors rev cells = filter-map (cell_of authors) (shown_at rev) cells

pub length-cells_at : (authors : List Author) (rev : ℕ) (cells : List PlainCell) →
    length (cells_at rev (cells_of authors cells)) ≡ length (filter (is_shown rev) cells)
length-cells_at authors rev cells = rw cells_at-cells_of (simp length-map)

slice_get-map : {A B : Type 0} (f : A → B) (xs : List A) (i : ℕ) → slice_get (map f xs) i
    ≡ option_map f (slice_get xs i)
slice_get-map f [] i = refl
slice_get-map f (x ∷ xs) zero = refl
slice_get-map f (x ∷ xs) (suc i) = slice_get-map f xs i

option_map-map : {A B C : Type 0} (f : A → B) (g : B → C) (o : Option A) → option_map g (option_map f o)
    ≡ option_map (λ x. g (f x)) o
option_map-map f g None = refl
option_map-map f g (Some x) = refl

pub cell_stamp_at-cells_of : (authors : List Author) (rev : ℕ) (cells : List PlainCell) (i : ℕ) →
    cell_stamp_at rev (cells_of authors cells) i ≡ option_map (λ c. c.stamp) (slice_get (filter (is_shown rev) cells) i)
cell_stamp_at-cells_of authors rev cells i =
    rw (cells_at-cells_of, slice_get-map) (option_map-map (cell_of authors) (λ c. c.stamp)
    (slice_get (filter (is_shown rev) cells) i))

pub cell-cells_of : (authors : List Author) (rev : ℕ) (cells : List PlainCell) (i : ℕ) →
    slice_get (cells_at rev (cells_of authors cells)) i
    ≡ option_map (cell_of authors) (slice_get (filter (is_shown rev) cells) i)
cell-cells_of authors rev cells i =
    ap (λ l. slice_get l i) (cells_at-cells_of authors rev cells)
    ∙ slice_get-map (cell_of authors) (filter (is_shown rev) cells) i

-- the author of a cell that is visible is known
known-first : (authors : List Author) (x : PlainCell) (xs : List PlainCell) (i : ℕ) (c : PlainCell) →
    x.author < length authors → ((j : ℕ) → slice_get xs j ≡ Some c → c.author < length authors)
    → slice_get (x ∷ xs) i ≡ Some c → c.author < length authors
known-first authors x xs zero c h rest e =
    let same : x ≡ c = cc in subst (λ (y : PlainCell). y.author < length authors) same h
known-first authors x xs (suc i) c h rest e = rest i e

pub known-shown : (authors : List Author) (rev : ℕ) (cells : List PlainCell) (i : ℕ) (c : PlainCell) →
    AreKnown authors cells → slice_get (filter (is_shown rev) cells) i ≡ Some c → c.author < length authors
known-shown authors rev [] i c known e = absurd (cc)
known-shown authors rev (x ∷ cells) i c known e = split (is_shown rev x)
    (λ shown. known-first authors x (filter (is_shown rev) cells) i c known.0
    (λ j f. known-shown authors rev cells j c known.1 f) (rw shown at e))
    (λ hidden. known-shown authors rev cells i c known.1 (rw hidden at e))

pub text_at-cells_of : (authors : List Author) (rev : ℕ) (cells : List PlainCell) → text_at rev (cells_of authors cells)
    ≡ map (λ c. c.character) (filter (is_shown rev) cells)
text_at-cells_of authors rev cells = rw (cells_at-cells_of)
    (map-map (cell_of authors) (λ c. c.character) (filter (is_shown rev) cells))

-- the authors of the cells that are visible
pub authors_at-cells_of : (authors : List Author) (rev : ℕ) (cells : List PlainCell) (now : List Cell) →
    cells_of authors cells ≡ now → map (λ c. author_at authors c.author) (filter (is_shown rev) cells)
    ≡ map (λ c. c.author) (cells_at rev now)
authors_at-cells_of authors rev cells now is =
    sym (map-map (cell_of authors) (λ c. c.author) (filter (is_shown rev) cells)) ∙ ap (map (λ c. c.author))
    (sym (cells_at-cells_of authors rev cells) ∙ ap (cells_at rev) is)

-- the stamps of some cells that are visible
pub stamps_at-cells_of : (authors : List Author) (rev at len : ℕ) (cells : List PlainCell) (now : List Cell) →
    cells_of authors cells ≡ now →
    map (λ c. c.stamp) (take len (drop at (filter (is_shown rev) cells))) ≡ map (λ c. c.stamp)
    (take len (drop at (cells_at rev now)))
stamps_at-cells_of authors rev at len cells now is =
    sym (map-map (cell_of authors) (λ c. c.stamp) (take len (drop at (filter (is_shown rev) cells))))
    ∙ ap (map (λ c. c.stamp))
    (sym (take-map (cell_of authors) len (drop at (filter (is_shown rev) cells)))
    ∙ ap (take len) (sym (drop-map (cell_of authors) at (filter (is_shown rev) cells))
    ∙ ap (drop at) (sym (cells_at-cells_of authors rev cells) ∙ ap (cells_at rev) is)))

-- one more author changes no cell
pub cells_of-push : (authors : List Author) (a : Author) (cells : List PlainCell) → AreKnown authors cells →
    cells_of (authors ++ a ∷ []) cells ≡ cells_of authors cells
cells_of-push authors a [] k = refl
cells_of-push authors a (c ∷ cells) k =
    ap₂ (λ (x : Cell) xs. x ∷ xs)
    (ap (λ who. let it : Cell = record { stamp = c.stamp; parent = c.parent; character = c.character; author = who; born = c.born; died = c.died } in it) (get_or_append_left authors (a ∷ []) (record { name = []; origin = 0 }) c.author k.0))
    (cells_of-push authors a cells k.1)

pub AreKnown-push : (authors : List Author) (a : Author) (cells : List PlainCell) → AreKnown authors cells →
    AreKnown (authors ++ a ∷ []) cells
AreKnown-push authors a cells k = each-imply (λ c. c.author < length authors)
    (λ c. c.author < length (authors ++ a ∷ [])) (λ c h. omega (arith, length-append authors (a ∷ []))) cells k

-- the kept cells of a run stand for its new cells
pub cells_of-kept_run : (authors : List Author) (first : Stamp) (p : Option Stamp) (text : List ℕ) (i rev : ℕ) →
    cells_of authors (kept_run first p text i rev) ≡ map (born_at rev)
    (run_characters first p text (author_at authors i))
cells_of-kept_run authors first p [] i rev = refl
cells_of-kept_run authors first p (c ∷ text) i rev =
    ap (λ l. (let it : Cell = record { stamp = first; parent = p; character = c; author = author_at authors i; born = rev; died = None } in it) ∷ l) (cells_of-kept_run authors (next first) (Some first) text i rev)

AreKnown-kept_run : (authors : List Author) (first : Stamp) (p : Option Stamp) (text : List ℕ) (i rev : ℕ) →
    i < length authors → AreKnown authors (kept_run first p text i rev)
AreKnown-kept_run authors first p [] i rev h = tt
AreKnown-kept_run authors first p (c ∷ text) i rev h =
    (h, AreKnown-kept_run authors (next first) (Some first) text i rev h)

-- a run spliced at its place among the kept cells is the run at its place in the preorder
pub inserted : (authors : List Author) (cells : List PlainCell) (run : Run) (i rev : ℕ) → IsPlain authors cells →
    i < length authors → run_may_join kept_character cells run.first run.after ≡ true →
    IsPlain authors (spliced (place_in kept_character run.after run.first cells)
    (kept_run run.first run.after run.text i rev) cells)
    × (cells_of authors (spliced (place_in kept_character run.after run.first cells)
    (kept_run run.first run.after run.text i rev) cells) ≡ with_run rev run (author_at authors i)
    (cells_of authors cells))
inserted authors cells run i rev p h joins =
    let block = kept_run run.first run.after run.text i rev in
    let new = spliced (place_in kept_character run.after run.first cells) block cells in
    let may : run_may_join character_of (cells_of authors cells) run.first run.after ≡ true =
    run_may_join-map (cell_of authors) character_of cells run.first run.after ∙ joins in
    let is : cells_of authors new ≡ with_run rev run (author_at authors i) (cells_of authors cells) =
    ap (cells_of authors) (sym (put-spliced kept_character run.after run.first block cells))
    ∙ sym (put-map (cell_of authors) character_of run.after run.first block cells)
    ∙ ap (λ b. put character_of run.after run.first b (cells_of authors cells))
    (cells_of-kept_run authors run.first run.after run.text i rev)
    ∙ sym (with_run-put rev run (author_at authors i) (cells_of authors cells) p.order may)
    in (
      record {
        known = each-permutation (λ c. c.author < length authors) (block ++ cells) new
            (subst (IsPermutation (block ++ cells)) (put-spliced kept_character run.after run.first block cells)
            (put-permutation kept_character run.after run.first block cells))
            (each-append (λ c. c.author < length authors) block cells
            (AreKnown-kept_run authors run.first run.after run.text i rev h) p.known);
        order = subst IsInOrder (sym is) (IsInOrder-with_run rev run (author_at authors i)
            (cells_of authors cells) p.order may);
      },
      is,
    )

-- a run may join the cells where it may join the kept ones
pub may_join_view : (authors : List Author) (cells : List PlainCell) (now : List Cell) (first : Stamp)
    (p : Option Stamp) (b : Bool) → cells_of authors cells ≡ now → run_may_join kept_character cells first p ≡ b →
    run_may_join character_of now first p ≡ b
may_join_view authors cells now first p b is e = ap (λ l. run_may_join character_of l first p) (sym is)
    ∙ run_may_join-map (cell_of authors) character_of cells first p ∙ e

pub length-cells_of : (authors : List Author) (cells : List PlainCell) (now : List Cell) → cells_of authors cells
    ≡ now → length now ≡ length cells
length-cells_of authors cells now is = ap length (sym is) ∙ simp length-map

-- a list of authors that grows changes no cell
pub grown : (old new : List Author) (a : Author) (cells : List PlainCell) → IsPlain old cells → (new ≡ old)
    ⊎ (new ≡ old ++ a ∷ []) → IsPlain new cells × (cells_of new cells ≡ cells_of old cells)
grown old new a cells p (inl e) = rw e (p, refl)
grown old new a cells p (inr e) =
    rw e
    (record { known = AreKnown-push old a cells p.known; order = subst IsInOrder (sym (cells_of-push old a cells p.known)) p.order }, cells_of-push old a cells p.known)

pub nothing_kept : {authors : List Author} {cells : List PlainCell} → cells ≡ [] → IsPlain authors cells
nothing_kept {authors} {cells} e = rw e (record
    { known = tt; order = record { tree = record { distinct = IsDistinct-nil character_of; rooted = tt; later = tt }; is = refl } })

-- what an insertion leaves, step by step
pub insert_joined : (old new : List Author) (a : Author) (cells after : List PlainCell) (now : List Cell) (run : Run)
    (i rev : ℕ) →
    IsPlain old cells → cells_of old cells ≡ now → (new ≡ old) ⊎ (new ≡ old ++ a ∷ []) → (i < length new)
    × (author_at new i ≡ a) → run_may_join kept_character cells run.first run.after ≡ true →
    after ≡ spliced (place_in kept_character run.after run.first cells) (kept_run run.first run.after run.text i rev)
    cells →
    IsPlain new after × (cells_of new after ≡ with_run rev run a now)
insert_joined old new a cells after now run i rev p is more here may spliced_so =
    let wide = grown old new a cells p more in
    let done = inserted new cells run i rev wide.0 here.0 may in (
      subst (IsPlain new) (sym spliced_so) done.0,
      ap (cells_of new) spliced_so ∙ done.1 ∙ ap (λ who. with_run rev run who (cells_of new cells)) here.1
          ∙ ap (with_run rev run a) (wide.1 ∙ is),
    )

-- whether a stamp is among what the kept cells stand for
pub has_view : (authors : List Author) (cells kept : List PlainCell) (now : List Cell) (s : Stamp) (b : Bool) →
    cells_of authors cells ≡ now → kept ≡ cells → b ≡ has_stamp kept_character kept s → has_stamp character_of now s ≡ b
has_view authors cells kept now s b is same e =
    ap (λ l. has_stamp character_of l s) (sym is) ∙ list_any-map (cell_of authors) (λ x. same_stamp x.stamp s) cells
    ∙ ap (λ l. has_stamp kept_character l s) (sym same) ∙ sym e

-- a test that failed, and one that passed
pub unless_has : {A : Type 0} (b t : Bool) (x : Option A) → t ≡ b → b ≡ false → None ≡ cond t x None
unless_has b t x e f = rw (e, f) refl

pub where_has : {A : Type 0} (b t : Bool) (x y : A) → t ≡ b → b ≡ true → x ≡ y → Some x ≡ cond t (Some y) None
where_has b t x y e f h = rw (e, f) (ap Some h)

-- a deletion of kept cells is one of what they stand for
pub cells_of-erased : (authors : List Author) (rev : ℕ) (spans : List Span) (cells : List PlainCell) →
    cells_of authors (map (kept_erased rev spans) cells) ≡ without_spans rev spans (cells_of authors cells)
cells_of-erased authors rev spans [] = refl
cells_of-erased authors rev spans (c ∷ cells) =
    ap₂ (λ (x : Cell) l. x ∷ l)
    (split (kept_hidden spans c) (λ e. rw e refl) (λ e. rw e refl))
    (cells_of-erased authors rev spans cells)

pub AreKnown-erased : (authors : List Author) (rev : ℕ) (spans : List Span) (cells : List PlainCell) →
    AreKnown authors cells → AreKnown authors (map (kept_erased rev spans) cells)
AreKnown-erased authors rev spans [] k = tt
AreKnown-erased authors rev spans (c ∷ cells) k =
    (split (kept_hidden spans c) (λ e. rw e k.0) (λ e. rw e k.0), AreKnown-erased authors rev spans cells k.1)

pub IsPlain-erased : (authors : List Author) (rev : ℕ) (spans : List Span) (cells new : List PlainCell) →
    IsPlain authors cells → new ≡ map (kept_erased rev spans) cells → IsPlain authors new
IsPlain-erased authors rev spans cells new p e =
    rw e (record {
      known = AreKnown-erased authors rev spans cells p.known;
      order = subst IsInOrder (sym (cells_of-erased authors rev spans cells))
          (IsInOrder-without rev spans (cells_of authors cells) p.order);
    })

-- how many are hidden, of the kept cells or of what they stand for
pub hidden-cells_of : (authors : List Author) (spans : List Span) (cells : List PlainCell) →
    count_by (is_hidden_by spans) (cells_of authors cells) ≡ count_by (kept_hidden spans) cells
hidden-cells_of authors spans cells = Rattle.std.proofs.lemmas.List.Folds.fold-map
    (λ a x. a + cond (is_hidden_by spans x) 1 0) (cell_of authors) 0 cells

-- two stamps that are there, or not both
pub unless_both : {A : Type 0} (b s t : Bool) (x : Option A) → s ≡ true → t ≡ b → b ≡ false →
    None ≡ cond (s && t) x None
unless_both b s t x e f g = rw (e, f, g) refl

pub unless_first : {A : Type 0} (b s t : Bool) (x : Option A) → s ≡ b → b ≡ false → None ≡ cond (s && t) x None
unless_first b s t x e g = rw (e, g) refl

pub where_both : {A : Type 0} (s t : Bool) (x y : A) → s ≡ true → t ≡ true → x ≡ y →
    Some x ≡ cond (s && t) (Some y) None
where_both s t x y e f h = rw (e, f) (ap Some h)

-- no two kept cells have one stamp
pub distinct_kept : (authors : List Author) (cells kept : List PlainCell) → IsPlain authors cells → kept ≡ cells →
    IsDistinct (same_item kept_character) kept
distinct_kept authors cells kept p same = subst (IsDistinct (same_item kept_character)) (sym same)
    (IsTree-of_map (cell_of authors) character_of cells p.order.tree).distinct

-- whether the stamps of spans are among what the kept cells stand for
pub has_spans-view : (authors : List Author) (cells kept : List PlainCell) (now : List Cell) (spans : List Span)
    (b : Bool) → cells_of authors cells ≡ now → kept ≡ cells → b ≡ has_spans kept_character kept spans →
    has_spans character_of now spans ≡ b
has_spans-view authors cells kept now spans b is same e =
    ap (λ l. has_spans character_of l spans) (sym is) ∙ stamps_same (flat_map span_stamps spans)
    ∙ ap (λ l. has_spans kept_character l spans) (sym same) ∙ sym e
  where
    stamps_same : (stamps : List Stamp) → list_all (λ s. has_stamp character_of (cells_of authors cells) s) stamps
        ≡ list_all (λ s. has_stamp kept_character cells s) stamps
    stamps_same [] = refl
    stamps_same (s ∷ stamps) = ap₂ (λ a b. a && b) (list_any-map (cell_of authors) (λ x. same_stamp x.stamp s) cells)
        (stamps_same stamps)

-- what a deletion answers, case by case
pub delete-fault : (rev : ℕ) (spans : List Span) (now : List Cell) → has_spans character_of now spans ≡ false →
    delete_spans rev spans now ≡ (Err PeerFault, now)
delete-fault rev spans now e = rw e refl

pub delete-done : (rev : ℕ) (spans : List Span) (authors : List Author) (cells new : List PlainCell) (now : List Cell)
    (hidden : ℕ) → cells_of authors cells ≡ now → has_spans character_of now spans ≡ true →
    new ≡ map (kept_erased rev spans) cells → hidden ≡ count_by (kept_hidden spans) cells →
    delete_spans rev spans now ≡ (Ok hidden, cells_of authors new)
delete-done rev spans authors cells new now hidden is e n h =
    rw e (ap₂ (λ k l. (Ok k, l))
    (ap (count_by (is_hidden_by spans)) (sym is) ∙ hidden-cells_of authors spans cells ∙ sym h)
    (ap (without_spans rev spans) (sym is) ∙ sym (cells_of-erased authors rev spans cells) ∙ ap (cells_of authors)
    (sym n)))
