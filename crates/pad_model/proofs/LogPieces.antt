-- A text patched with the changes since a revision of a log.
use Rattle.std.proofs.Common.{◌≡◌, ℕ, zero, suc, ◌+◌, ◌≤◌, ◌<◌, true, false, List, [], ◌∷◌, ◌++◌, length, ◌&&◌, nat_le}
use Rattle.std.proofs.Common.{take, drop, map, filter, refl, sym, ap, ap₂, ◌∙◌, arith, is_none, Option, Some, None}
use Rattle.std.specs.List.{AllByRecursion}
use Rattle.std.proofs.Common.{le-leb, le-ltb, subst}
use Rattle.std.proofs.Math.Seq.{take-length}
use Rattle.pad_model.specs.Cell.{IsBy}
use Rattle.pad_model.specs.Laws.{itself}
use Rattle.pad_model.specs.Legal.{IsTree}
use Rattle.pad_model.proofs.Pushed.{IsBy-cells_of}
use Rattle.pad_model.specs.Cell.{Cell, cells_at, character_of, born_at}
use Rattle.pad_model.specs.Pieces.{patched, changes, insertions, written, written_in}
use Rattle.pad_model.specs.Character.{Character}
use Rattle.pad_model.specs.History.{IsHistory, births, cells_of, dated}
use Rattle.pad_model.specs.Operation.{characters_in, inserted_by}
use Rattle.pad_model.specs.Stamp.{Stamp}
use Rattle.pad_model.specs.Visible.{runs, runs_of, text_of, visible, is_erased}
use Rattle.pad_model.specs.declared.op.Op.{Op}
use Rattle.pad_model.proofs.Newer.{split}
use Rattle.pad_model.proofs.Maps.{map-map, each-map, IsTree-of_map}
use Rattle.pad_model.proofs.Members.{order-permutation}
use Rattle.pad_model.proofs.Each.{each-append, each-imply, each-permutation}
use Rattle.pad_model.proofs.History.{cells_at-visible, dated-characters, filter-same}
use Rattle.pad_model.proofs.Growth.{IsTree-history, IsHistory-take}
use Rattle.pad_model.proofs.Pieces.{patched-changes, first-changes}

pub patched-log : (log : List Op) → IsHistory log → (k n : ℕ) →
    patched (changes k n (cells_of log)) (map written (visible (characters_in (take k log))))
    ≡ map written (visible (characters_in (take n log)))
patched-log log h k n =
    let shown : (m : ℕ) → map written (visible (characters_in (take m log))) ≡ written_in (cells_at m (cells_of log)) =
    (λ m. ap (map written) (sym (cells_at-visible log m (IsTree-history log h)
    (IsTree-history _ (IsHistory-take log m h)))) ∙ map-map character_of written (cells_at m (cells_of log))) in
    ap (patched (changes k n (cells_of log))) (shown k)
    ∙ patched-changes k n (cells_of log)
    ∙ sym (shown n)

born_after : (low rev : ℕ) (cs : List Character) → low < rev → AllByRecursion (λ (c : Cell). low < c.born)
    (map (born_at rev) cs)
born_after low rev [] h = tt
born_after low rev (c ∷ cs) h = (h, born_after low rev cs h)

births_after : (low rev : ℕ) (log : List Op) → low < rev → AllByRecursion (λ (c : Cell). low < c.born) (births rev log)
births_after low rev [] h = tt
births_after low rev (op ∷ log) h = each-append (λ (c : Cell). low < c.born) (map (born_at rev) (inserted_by op))
    (births (suc rev) log) (born_after low rev (inserted_by op) h) (births_after low (suc rev) log (omega arith))

cells_after : (log : List Op) → IsHistory log → AllByRecursion (λ (c : Cell). 0 < c.born) (cells_of log)
cells_after log h =
    let old = map (dated log) (births 1 log) in
    each-permutation (λ (c : Cell). 0 < c.born) old (cells_of log)
    (order-permutation character_of old (IsTree-of_map character_of itself old
    (subst (IsTree itself) (sym (dated-characters log)) (IsTree-history log h))))
    (each-map (dated log) (λ (c : Cell). 0 < c.born) (births 1 log) (births_after 0 1 log (omega arith)))

pub first-log : (log : List Op) → IsHistory log → (n : ℕ) → changes 0 n (cells_of log)
    ≡ insertions (runs_of (characters_in (take n log))) (text_of (characters_in (take n log)))
first-log log h n =
    let same = cells_at-visible log n (IsTree-history log h) (IsTree-history _ (IsHistory-take log n h)) in
    first-changes 0 n (cells_of log) (cells_after log h)
    ∙ ap₂ (λ l m. insertions (runs l) m)
    (sym (map-map character_of (λ c. c.author) (cells_at n (cells_of log))) ∙ ap (map (λ c. c.author)) same)
    (sym (map-map character_of (λ c. c.character) (cells_at n (cells_of log))) ∙ ap (map (λ c. c.character)) same)
