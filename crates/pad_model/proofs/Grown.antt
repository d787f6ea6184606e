-- The cells of a log that one more operation ends.
use Rattle.std.proofs.Common.{◌≡◌, ℕ, suc, ◌+◌, inl, inr, true, false, ◌&&◌, cond, List, [], ◌∷◌, ◌++◌, length, Some}
use Rattle.std.proofs.Common.{None, refl, sym, ap, ap₂, ◌∙◌, subst, map, flat_map, is_none, IsPermutation, arith}
use Rattle.std.proofs.Common.{append-nil}
use Rattle.std.proofs.lemmas.Bool.{and_parts, both_ways, or_cases}
use Rattle.std.proofs.lemmas.List.{map-append}
use Rattle.std.proofs.lemmas.List.Concat.{flat_map-append}
use Rattle.std.proofs.lemmas.List.Folds.{list_any-append}
use Rattle.std.proofs.lemmas.List.Sorted.{IsPermutation-append_left}
use Rattle.std.specs.List.{AllByRecursion, IsDistinct}
use Rattle.pad_model.specs.Stamp.{Stamp, same_stamp}
use Rattle.pad_model.specs.Character.{Character}
use Rattle.pad_model.specs.Cell.{Cell, born_at, character_of, erased_at, without_spans}
use Rattle.pad_model.specs.Checked.{is_checked}
use Rattle.pad_model.specs.History.{births, death_in, dated, cells_of, IsHistory}
use Rattle.pad_model.specs.Laws.{itself}
use Rattle.pad_model.specs.Legal.{has_stamp, same_item, IsTree}
use Rattle.pad_model.specs.Log.{is_valid}
use Rattle.pad_model.specs.Operation.{author_of, inserted_by, erased_by, part_erases, span_stamps, characters_in}
use Rattle.pad_model.specs.Order.{order}
use Rattle.pad_model.specs.Parts.{spans_in, with_parts}
use Rattle.pad_model.specs.Visible.{is_erased}
use Rattle.pad_model.specs.declared.op.Part.{Part}
use Rattle.pad_model.specs.declared.op.Part.TheVariants.{Insert, Delete, Comment, Resolve}
use Rattle.pad_model.specs.declared.op.Op.{Op}
use Rattle.pad_model.proofs.Newer.{split}
use Rattle.pad_model.proofs.Each.{each-both, each-imply, each-right}
use Rattle.pad_model.proofs.Erase.{erased_at-died, without-order}
use Rattle.pad_model.proofs.Growth.{IsTree-history, tree_grows}
use Rattle.pad_model.proofs.History.{dated-characters}
use Rattle.pad_model.proofs.Maps.{IsTree-of_map}
use Rattle.pad_model.proofs.Members.{order-permutation}
use Rattle.pad_model.proofs.Pushed.{order-permuted, births-append, death_none, parts_erase, erased-inserted}
use Rattle.pad_model.proofs.Rising.{IsDistinct-parts}

-- the stamps of the parts' spans are those that the parts erase
pub spans-erases : (parts : List Part) → flat_map span_stamps (spans_in parts) ≡ flat_map part_erases parts
spans-erases [] = refl
spans-erases (Insert run ∷ parts) = spans-erases parts
spans-erases (Delete spans ∷ parts) = flat_map-append span_stamps spans (spans_in parts)
    ∙ ap (λ l. flat_map span_stamps spans ++ l) (spans-erases parts)
spans-erases (Comment first last text ∷ parts) = spans-erases parts
spans-erases (Resolve comment ∷ parts) = spans-erases parts

-- one more operation gives a death to cells that had none
death_in-more : (rev : ℕ) (log : List Op) (op : Op) (s : Stamp) → death_in rev (log ++ op ∷ []) s
    ≡ cond (is_erased (erased_by op) s && is_none (death_in rev log s)) (Some (rev + length log)) (death_in rev log s)
death_in-more rev [] op s = split (is_erased (erased_by op) s)
    (λ e. rw e (ap Some (let m : rev ≡ rev + 0 = omega arith in m))) (λ e. rw e refl)
death_in-more rev (one ∷ log) op s =
    split (is_erased (erased_by one) s)
    (λ e. rw e (split (is_erased (erased_by op) s) (λ f. rw f refl) (λ f. rw f refl)))
    (λ e. rw e (death_in-more (suc rev) log op s
    ∙ ap (λ n. cond (is_erased (erased_by op) s && is_none (death_in (suc rev) log s)) (Some n)
    (death_in (suc rev) log s)) (let m : suc rev + length log ≡ rev + suc (length log) = omega arith in m)))

dated-more : (log : List Op) (op : Op) (c : Cell) → dated (log ++ op ∷ []) c ≡ erased_at (length log + 1)
    (spans_in op.parts) (dated log c)
dated-more log op c =
    ap (λ d. let it : Cell = record c { died = d } in it)
    (death_in-more 1 log op c.stamp
    ∙ ap₂ (λ (n : ℕ) stamps. cond (is_erased stamps c.stamp && is_none (death_in 1 log c.stamp)) (Some n)
    (death_in 1 log c.stamp)) (let m : 1 + length log ≡ length log + 1 = omega arith in m)
    (sym (spans-erases op.parts)))
    ∙ sym (erased_at-died (length log + 1) (spans_in op.parts) (dated log c))

all_dated-more : (log : List Op) (op : Op) (cells : List Cell) → map (dated (log ++ op ∷ [])) cells
    ≡ without_spans (length log + 1) (spans_in op.parts) (map (dated log) cells)
all_dated-more log op [] = refl
all_dated-more log op (c ∷ cells) = ap₂ (λ (x : Cell) l. x ∷ l) (dated-more log op c) (all_dated-more log op cells)

-- in a list without repeats, a later item is not among the earlier ones
behind_fresh : {A : Type 0} (at : A → Character) (xs ys : List A) → IsDistinct (same_item at) (xs ++ ys) →
    AllByRecursion (λ y. has_stamp at xs (at y).stamp ≡ false) ys
behind_fresh at [] ys d = each_none ys
  where
    each_none : {A : Type 0} (ys : List A) → AllByRecursion (λ (y : A). false ≡ false) ys
    each_none [] = tt
    each_none (y ∷ ys) = (refl, each_none ys)
behind_fresh at (x ∷ xs) ys d =
    let parts = IsDistinct-parts at x (xs ++ ys) d in
    each-both (λ y. same_stamp (at x).stamp (at y).stamp ≡ false) (λ y. has_stamp at xs (at y).stamp ≡ false)
    (λ y. has_stamp at (x ∷ xs) (at y).stamp ≡ false)
    (λ y e f. rw (e, f) refl) ys (each-right (λ y. same_stamp (at x).stamp (at y).stamp ≡ false) xs ys parts.0)
    (behind_fresh at xs ys parts.1)

-- what an operation inserts is not erased by it, nor before it
born_alive : (log : List Op) (op : Op) (c : Character) → IsHistory log → is_valid op log ≡ true →
    has_stamp itself (characters_in log).inserted c.stamp ≡ false → death_in 1 (log ++ op ∷ []) c.stamp ≡ None
born_alive log op c h valid fresh =
    death_none 1 (log ++ op ∷ []) c.stamp
    (split (is_erased (characters_in (log ++ op ∷ [])).erased c.stamp)
    (λ e. absurd (both_ways _ fresh
    (elim (or_cases _ _ (sym (list_any-append (λ x. same_stamp x c.stamp) (flat_map erased_by log)
    (flat_map erased_by (op ∷ []))) ∙ subst (λ l. is_erased l c.stamp ≡ true) (flat_map-append erased_by log (op ∷ []))
    e)) [
      | inl old ↦ erased-inserted log c.stamp h old
      | inr new ↦ parts_erase op.parts log c.stamp (and_parts _ _ valid).0 (subst (λ l. is_erased l c.stamp ≡ true)
          (append-nil (erased_by op)) new)
    ])))
    (λ e. e))

undated : (log : List Op) (rev : ℕ) (cs : List Character) → AllByRecursion (λ c. death_in 1 log c.stamp ≡ None) cs →
    map (dated log) (map (born_at rev) cs) ≡ map (born_at rev) cs
undated log rev [] h = refl
undated log rev (c ∷ cs) h =
    ap₂ (λ (x : Cell) l. x ∷ l)
    (ap (λ d. let it : Cell = record { stamp = c.stamp; parent = c.parent; character = c.character; author = c.author; born = rev; died = d } in it) h.0)
    (undated log rev cs h.1)

-- one more operation makes its parts among the cells
pub cells_of-push : (log : List Op) (op : Op) → IsHistory log → is_checked op ≡ true → is_valid op log ≡ true →
    cells_of (log ++ op ∷ []) ≡ with_parts (length log + 1) op.parts (author_of op) (cells_of log)
cells_of-push log op h checked valid =
    let rev = length log + 1 in
    let old = map (dated log) (births 1 log) in
    let marked = without_spans rev (spans_in op.parts) old in
    let new = map (born_at rev) (inserted_by op) in
    let tree = IsTree-history log h in
    let more = tree_grows log op checked valid tree in
    let wide : (characters_in (log ++ op ∷ [])).inserted ≡ (characters_in log).inserted ++ inserted_by op =
    flat_map-append inserted_by log (op ∷ []) ∙ ap (λ l. (characters_in log).inserted ++ l)
    (append-nil (inserted_by op)) in
    let fresh = behind_fresh itself (characters_in log).inserted (inserted_by op)
    (subst (IsTree itself) wide more).distinct in
    let made : map (dated (log ++ op ∷ [])) (births 1 (log ++ op ∷ [])) ≡ marked ++ new =
    ap (map (dated (log ++ op ∷ []))) (births-append 1 log (op ∷ []) ∙ ap (λ l. births 1 log ++ l)
    (append-nil (map (born_at (1 + length log)) (inserted_by op)) ∙ ap (λ n. map (born_at n) (inserted_by op))
    (let m : 1 + length log ≡ rev = omega arith in m)))
    ∙ map-append (dated (log ++ op ∷ [])) (births 1 log) new
    ∙ ap₂ (λ a b. a ++ b) (all_dated-more log op (births 1 log))
    (undated (log ++ op ∷ []) rev (inserted_by op)
    (each-imply (λ c. has_stamp itself (characters_in log).inserted c.stamp ≡ false)
    (λ c. death_in 1 (log ++ op ∷ []) c.stamp ≡ None) (λ c f. born_alive log op c h valid f) (inserted_by op) fresh))
    in
    let grown : IsTree character_of (marked ++ new) =
    subst (IsTree character_of) made (IsTree-of_map character_of itself
    (map (dated (log ++ op ∷ [])) (births 1 (log ++ op ∷ [])))
    (subst (IsTree itself) (sym (dated-characters (log ++ op ∷ []))) more)) in
    let old_tree = IsTree-of_map character_of itself old (subst (IsTree itself) (sym (dated-characters log)) tree) in
    let walked : order character_of marked ≡ without_spans rev (spans_in op.parts) (cells_of log) =
    sym (without-order rev (spans_in op.parts) old) in
    ap (order character_of) made
    ∙ order-permuted character_of (marked ++ new) (without_spans rev (spans_in op.parts) (cells_of log) ++ new)
    (subst (λ l. IsPermutation (marked ++ new) (l ++ new)) walked
    (IsPermutation-append_left new marked (order character_of marked)
    (order-permutation character_of marked (marked_tree rev op old old_tree)))) grown
  where
    marked_tree : (rev : ℕ) (op : Op) (old : List Cell) → IsTree character_of old →
        IsTree character_of (without_spans rev (spans_in op.parts) old)
    marked_tree rev op old t = Rattle.pad_model.proofs.Erase.IsTree-map (erased_at rev (spans_in op.parts)) character_of
        old (Rattle.pad_model.proofs.Erase.IsTree-same character_of
        (λ c. character_of (erased_at rev (spans_in op.parts) c))
        (λ c. sym (Rattle.pad_model.proofs.Erase.erased_at-character rev (spans_in op.parts) c)) old t)
