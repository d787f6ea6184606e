-- What the kept cells of a log show.
use Rattle.std.proofs.Common.{◌≡◌, ℕ, Bool, true, false, not, ◌||◌, List, [], ◌∷◌, length, Option, Some, None, refl}
use Rattle.std.proofs.Common.{sym, ap, ap₂, ◌∙◌, filter, take, take_all, arith}
use Rattle.std.proofs.lemmas.List.Sorted.{list_any-IsPermutation}
use Rattle.pad_model.specs.Cell.{Cell, cells_at, cell_stamp_at, character_of, runs_at, shown_at, spans_at, text_at}
use Rattle.pad_model.specs.Cell.{through_at}
use Rattle.pad_model.specs.Character.{Character}
use Rattle.pad_model.specs.History.{IsHistory, cells_of}
use Rattle.pad_model.specs.Laws.{itself}
use Rattle.pad_model.specs.Legal.{has_stamp}
use Rattle.pad_model.specs.Operation.{characters_in}
use Rattle.pad_model.specs.Order.{order}
use Rattle.pad_model.specs.Stamp.{Stamp, same_stamp}
use Rattle.pad_model.specs.Visible.{is_erased, runs_of, shown_through, spans_of, stamp_at, text_of, visible}
use Rattle.pad_model.specs.Visible.{visible_through}
use Rattle.pad_model.specs.declared.op.Op.{Op}
use Rattle.pad_model.proofs.Edited.{has_stamp-cells_of}
use Rattle.pad_model.proofs.Growth.{IsTree-history, IsHistory-take}
use Rattle.pad_model.proofs.History.{cell_stamp_at-cells_of, length-cells_at, text_at-cells_of}
use Rattle.pad_model.proofs.Members.{order-permutation}
use Rattle.pad_model.proofs.Newer.{split}
use Rattle.pad_model.proofs.Shown.{runs_at-cells_of, spans_at-cells_of, through_at-cells_of}
use Rattle.pad_core.specs.Counts.{characters_at}

-- how many kept cells a revision shows
pub length-kept : (log : List Op) (cells : List Cell) (rev : ℕ) → IsHistory log → cells ≡ cells_of log →
    length (cells_at rev cells) ≡ length (visible (characters_at rev log))
length-kept log cells rev h kept =
    ap (λ l. length (cells_at rev l)) kept ∙ length-cells_at log rev (IsTree-history log h)
    (IsTree-history (take rev log) (IsHistory-take log rev h))

-- the stamp that a revision shows at a place
pub stamp-kept : (log : List Op) (cells : List Cell) (rev place : ℕ) → IsHistory log → cells ≡ cells_of log →
    cell_stamp_at rev cells place ≡ stamp_at (characters_at rev log) place
stamp-kept log cells rev place h kept =
    ap (λ l. cell_stamp_at rev l place) kept ∙ cell_stamp_at-cells_of log rev place (IsTree-history log h)
    (IsTree-history (take rev log) (IsHistory-take log rev h))

-- the text of a revision
pub text-kept : (log : List Op) (cells : List Cell) (rev : ℕ) → IsHistory log → cells ≡ cells_of log → text_at rev cells
    ≡ text_of (characters_at rev log)
text-kept log cells rev h kept =
    ap (text_at rev) kept ∙ text_at-cells_of log rev (IsTree-history log h)
    (IsTree-history (take rev log) (IsHistory-take log rev h))

-- its author runs
pub runs-kept : (log : List Op) (cells : List Cell) (rev : ℕ) → IsHistory log → cells ≡ cells_of log → runs_at rev cells
    ≡ runs_of (characters_at rev log)
runs-kept log cells rev h kept = ap (runs_at rev) kept ∙ runs_at-cells_of log rev h

-- the spans of a stretch of it
pub spans-kept : (log : List Op) (cells : List Cell) (rev at len : ℕ) → IsHistory log → cells ≡ cells_of log →
    spans_at rev cells at len ≡ spans_of (characters_at rev log) at len
spans-kept log cells rev at len h kept = ap (λ l. spans_at rev l at len) kept ∙ spans_at-cells_of log rev at len h

-- a stamp that is missing counts all that is shown
through_all : {A : Type 0} (at : A → Character) (shown : A → Bool) (xs : List A) (a : Stamp) → has_stamp at xs a
    ≡ false → shown_through at shown xs a ≡ length (filter shown xs)
through_all at shown [] a missing = refl
through_all at shown (x ∷ xs) a missing =
    split (same_stamp (at x).stamp a)
    (λ e. absurd (Rattle.std.proofs.lemmas.Bool.false≢true (sym missing ∙ ap (λ b. b || has_stamp at xs a) e)))
    (λ e.
    let rest = through_all at shown xs a (sym (ap (λ b. b || has_stamp at xs a) e) ∙ missing) in
    split (shown x) (λ s. rw (e, s) (omega (arith, rest))) (λ s. rw (e, s) (omega (arith, rest))))

-- if the present cells have a stamp, as many are up to it as the text says
pub through-found : (log : List Op) (cells : List Cell) (now place : ℕ) (a : Stamp) → IsHistory log →
    cells ≡ cells_of log → now ≡ length log → through_at now cells a ≡ Some place →
    place ≡ visible_through (characters_in log) a
through-found log cells now place a h kept at found =
    let here : through_at (length log) (cells_of log) a ≡ Some place = ap₂ (λ n l. through_at n l a) (sym at) (sym kept)
    ∙ found in
    let all : take (length log) log ≡ log = take_all (length log) log (omega arith) in
    split (has_stamp character_of (cells_of log) a)
    (λ e.
    let there : has_stamp itself (characters_in (take (length log) log)).inserted a ≡ true =
    ap (λ l. has_stamp itself (characters_in l).inserted a) all ∙ sym (has_stamp-cells_of log a (IsTree-history log h))
    ∙ e in
    same_some place (visible_through (characters_in log) a) (sym here ∙ through_at-cells_of log (length log) a h there
    ∙ ap (λ l. Some (visible_through (characters_in l) a)) all))
    (λ e. absurd (none_some place (sym (rw e refl) ∙ here)))
  where
    same_some : (n k : ℕ) → Some n ≡ Some k → n ≡ k
    same_some n k q = cc

    none_some : (n : ℕ) → (let none : Option ℕ = None in none) ≡ Some n → ⊥
    none_some n q = cc

-- where they do not have it, all that is visible counts
pub through-missing : (log : List Op) (cells : List Cell) (now : ℕ) (a : Stamp) → IsHistory log → cells ≡ cells_of log →
    now ≡ length log → through_at now cells a ≡ None → length (cells_at now cells)
    ≡ visible_through (characters_in log) a
through-missing log cells now a h kept at missing =
    let tree = IsTree-history log h in
    let set = characters_in log in
    let gone : has_stamp character_of cells a ≡ false = not_there now cells a missing in
    let absent : has_stamp itself (order itself set.inserted) a ≡ false =
    sym (list_any-IsPermutation (λ c. same_stamp (itself c).stamp a) set.inserted (order itself set.inserted)
    (order-permutation itself set.inserted tree))
    ∙ sym (has_stamp-cells_of log a tree) ∙ ap (λ l. has_stamp character_of l a) (sym kept) ∙ gone in
    length-kept log cells now h kept ∙ ap (λ l. length (visible (characters_in l))) (take_all now log (omega arith))
    ∙ sym (through_all itself (λ c. not (is_erased set.erased c.stamp)) (order itself set.inserted) a absent)
  where
    some_none : (n : ℕ) → (let some : Option ℕ = Some n in some) ≡ None → ⊥
    some_none n q = cc

    not_there : (now : ℕ) (cells : List Cell) (a : Stamp) → through_at now cells a ≡ None →
        has_stamp character_of cells a ≡ false
    not_there now cells a missing =
        split (has_stamp character_of cells a)
        (λ e.
        let there : through_at now cells a ≡ Some (shown_through character_of (shown_at now) cells a) = rw e refl in
        absurd (some_none (shown_through character_of (shown_at now) cells a) (sym there ∙ missing)))
        (λ e. e)
