-- The cells of a log that one more insertion ends.
use Rattle.std.proofs.Common.{◌≡◌, ℕ, zero, suc, ◌+◌, ◌<◌, ◌≤◌, ◌⊎◌, inl, inr, Bool, true, false, not, ◌&&◌, ◌||◌, cond}
use Rattle.std.proofs.Common.{List, [], ◌∷◌, ◌++◌, length, Option, Some, None, refl, sym, ap, ◌∙◌, subst, map}
use Rattle.std.proofs.Common.{flat_map, IsPermutation, arith, append-nil, append_assoc}
use Rattle.std.proofs.lemmas.Bool.{and_parts, or_cases, false≢true}
use Rattle.std.proofs.lemmas.List.Concat.{flat_map-append}
use Rattle.std.proofs.lemmas.List.Folds.{list_any-append}
use Rattle.std.proofs.lemmas.List.Sorted.{IsPermutation-sym}
use Rattle.std.specs.List.{AllByRecursion, list_all}
use Rattle.pad_model.specs.Stamp.{Stamp, same_stamp}
use Rattle.pad_model.specs.Character.{Character}
use Rattle.pad_model.specs.Cell.{Cell, born_at, character_of, IsBy}
use Rattle.pad_model.specs.History.{births, death_in, dated, cells_of, IsHistory, Continues}
use Rattle.pad_model.specs.Laws.{itself}
use Rattle.pad_model.specs.Legal.{has_stamp, IsTree}
use Rattle.pad_model.specs.Log.{part_is_valid}
use Rattle.pad_model.specs.Operation.{inserted_by, erased_by, part_erases, span_stamps, characters_in}
use Rattle.pad_model.specs.Order.{order}
use Rattle.pad_model.specs.Visible.{is_erased}
use Rattle.pad_model.specs.declared.op.Part.{Part}
use Rattle.pad_model.specs.declared.op.Part.TheVariants.{Insert, Delete, Comment, Resolve}
use Rattle.pad_model.specs.declared.op.Op.{Op}
use Rattle.pad_model.proofs.Newer.{split, same_stamp-true}
use Rattle.pad_model.proofs.Each.{each-append, each-imply, each-permutation}
use Rattle.pad_model.proofs.Growth.{IsTree-history}
use Rattle.pad_model.proofs.History.{dated-characters}
use Rattle.pad_model.proofs.Maps.{each-map, IsTree-of_map}
use Rattle.pad_model.proofs.Members.{order-permutation}
use Rattle.pad_model.proofs.Rising.{distinct-permutation}
use Rattle.pad_model.proofs.Sets.{Has-permutation, set_law}

-- the same items have one order, in whatever sequence they are listed
pub order-permuted : {A : Type 0} (at : A → Character) (xs ys : List A) → IsPermutation xs ys → IsTree at xs →
    order at xs ≡ order at ys
order-permuted at xs ys p t =
    set_law at xs ys t.distinct (distinct-permutation at xs ys p t.distinct) (λ c h. Has-permutation xs ys c p h)
    (λ c h. Has-permutation ys xs c (IsPermutation-sym xs ys p) h)

pub births-append : (rev : ℕ) (xs ys : List Op) → births rev (xs ++ ys) ≡ births rev xs ++ births (rev + length xs) ys
births-append rev [] ys = rw Rattle.std.proofs.Common.add-zero refl
births-append rev (op ∷ xs) ys =
    ap (λ l. map (born_at rev) (inserted_by op) ++ l)
    (births-append (suc rev) xs ys ∙ ap (λ n. births (suc rev) xs ++ births n ys) (let e : suc rev + length xs ≡ rev
    + suc (length xs) = omega arith in e))
    ∙ sym (append_assoc (map (born_at rev) (inserted_by op)) (births (suc rev) xs) (births (rev + suc (length xs)) ys))

-- what is not erased has no death
pub death_none : (rev : ℕ) (log : List Op) (s : Stamp) → is_erased (flat_map erased_by log) s ≡ false →
    death_in rev log s ≡ None
death_none rev [] s h = refl
death_none rev (op ∷ log) s h =
    let parts = Rattle.std.proofs.lemmas.Bool.or_parts (is_erased (erased_by op) s)
    (is_erased (flat_map erased_by log) s)
    (sym (list_any-append (λ x. same_stamp x s) (erased_by op) (flat_map erased_by log)) ∙ h) in
    rw parts.0 (death_none (suc rev) log s parts.1)

-- a stamp that is among some that are there
pub stamps_there : {A : Type 0} (at : A → Character) (stamps : List Stamp) (items : List A) (s : Stamp) →
    list_all (λ z. has_stamp at items z) stamps ≡ true → is_erased stamps s ≡ true → has_stamp at items s ≡ true
stamps_there at [] items s h e = absurd (false≢true e)
stamps_there at (z ∷ stamps) items s h e =
    let all = and_parts _ _ h in
    split (same_stamp z s) (λ same. subst (λ w. has_stamp at items w ≡ true) (same_stamp-true z s same) all.0)
    (λ other. stamps_there at stamps items s all.1 (rw other at e))

pub parts_erase : (parts : List Part) (log : List Op) (s : Stamp) → list_all (λ part. part_is_valid part log) parts
    ≡ true → is_erased (flat_map part_erases parts) s ≡ true → has_stamp itself (characters_in log).inserted s ≡ true
parts_erase [] log s h e = absurd (false≢true e)
parts_erase (Insert run ∷ parts) log s h e = parts_erase parts log s (and_parts _ _ h).1 e
parts_erase (Delete spans ∷ parts) log s h e =
    let all = and_parts _ _ h in
    elim (or_cases _ _ (sym (list_any-append (λ x. same_stamp x s) (flat_map span_stamps spans)
    (flat_map part_erases parts)) ∙ e)) [
      | inl here ↦ stamps_there itself (flat_map span_stamps spans) (characters_in log).inserted s all.0 here
      | inr later ↦ parts_erase parts log s all.1 later
    ]
parts_erase (Comment first last text ∷ parts) log s h e = parts_erase parts log s (and_parts _ _ h).1 e
parts_erase (Resolve comment ∷ parts) log s h e = parts_erase parts log s (and_parts _ _ h).1 e

-- only what is inserted is erased
erased_there : (before more : List Op) (s : Stamp) → (is_erased (characters_in before).erased s ≡ true →
    has_stamp itself (characters_in before).inserted s ≡ true) → Continues before more →
    is_erased (characters_in (before ++ more)).erased s ≡ true →
    has_stamp itself (characters_in (before ++ more)).inserted s ≡ true
erased_there before [] s k c e = rw append-nil (k (rw append-nil at e))
erased_there before (op ∷ more) s k c e =
    subst (λ l. has_stamp itself (characters_in l).inserted s ≡ true) (append_assoc before (op ∷ []) more)
    (erased_there (before ++ op ∷ []) more s
    (λ f.
    let wide = flat_map-append inserted_by before (op ∷ []) in
    let there : has_stamp itself (characters_in before).inserted s ≡ true =
    elim (or_cases _ _ (sym (list_any-append (λ x. same_stamp x s) (flat_map erased_by before)
    (flat_map erased_by (op ∷ []))) ∙ subst (λ l. is_erased l s ≡ true) (flat_map-append erased_by before (op ∷ [])) f)) [
      | inl old ↦ k old
      | inr new ↦ parts_erase op.parts before s (and_parts _ _ c.1).0 (subst (λ l. is_erased l s ≡ true)
          (append-nil (erased_by op)) new)
    ]
    in
    subst (λ l. has_stamp itself l s ≡ true) (sym wide)
    (list_any-append (λ x. same_stamp x.stamp s) (characters_in before).inserted (flat_map inserted_by (op ∷ []))
    ∙ Rattle.std.proofs.lemmas.Bool.or_left _ _ there))
    c.2 (subst (λ l. is_erased (characters_in l).erased s ≡ true) (sym (append_assoc before (op ∷ []) more)) e))

pub erased-inserted : (log : List Op) (s : Stamp) → IsHistory log → is_erased (characters_in log).erased s ≡ true →
    has_stamp itself (characters_in log).inserted s ≡ true
erased-inserted log s h e = erased_there [] log s (λ f. absurd (false≢true f)) h e

born_before : (rev : ℕ) (cs : List Character) (most : ℕ) → rev < most → AllByRecursion (λ (c : Cell). c.born < most)
    (map (born_at rev) cs)
born_before rev [] most h = tt
born_before rev (c ∷ cs) most h = (h, born_before rev cs most h)

births_before : (rev : ℕ) (log : List Op) (most : ℕ) → rev + length log ≤ most →
    AllByRecursion (λ (c : Cell). c.born < most) (births rev log)
births_before rev [] most h = tt
births_before rev (op ∷ log) most h = each-append (λ (c : Cell). c.born < most) (map (born_at rev) (inserted_by op))
    (births (suc rev) log) (born_before rev (inserted_by op) most (omega arith))
    (births_before (suc rev) log most (omega arith))

death_before : (rev : ℕ) (log : List Op) (s : Stamp) (died most : ℕ) → rev + length log ≤ most → death_in rev log s
    ≡ Some died → died < most
death_before rev [] s died most h e = absurd (cc)
death_before rev (op ∷ log) s died most h e =
    split (is_erased (erased_by op) s)
    (λ f. let same : rev ≡ died = (let g : Some rev ≡ Some died = rw f at e in cc) in omega arith)
    (λ f. death_before (suc rev) log s died most (omega arith) (rw f at e))

-- no birth and no death of a log is later than its last operation
pub IsBy-cells_of : (log : List Op) (rev : ℕ) → IsHistory log → length log ≤ rev →
    AllByRecursion (IsBy rev) (cells_of log)
IsBy-cells_of log rev h l =
    let old = map (dated log) (births 1 log) in
    each-permutation (IsBy rev) old (cells_of log)
    (order-permutation character_of old (IsTree-of_map character_of itself old
    (subst (IsTree itself) (sym (dated-characters log)) (IsTree-history log h))))
    (each-map (dated log) (IsBy rev) (births 1 log)
    (each-imply (λ (c : Cell). c.born < suc rev) (λ c. IsBy rev (dated log c))
    (λ c b. (omega arith, λ died e. let d = death_before 1 log c.stamp died (suc rev) (omega arith) e in omega arith))
    (births 1 log) (births_before 1 log (suc rev) (omega arith))))
