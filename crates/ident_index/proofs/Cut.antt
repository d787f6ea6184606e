-- A block that is cut in two: the right part is added first, then the left part is shortened.
use Rattle.std.proofs.Common.{◌≡◌, ℕ, ◌+◌, ◌<◌, Bool, cond, true, false, List, Option, Some, refl, sym, ap, ◌∙◌, arith}
use Rattle.std.specs.Option.{unwrap_or}
use Rattle.std.specs.Ordering.{eq_by_cmp}
use Rattle.std.specs.Map.{lookup}
use Rattle.std.specs.BTreeMap.{is_at}
use Rattle.std.specs.FinMap.{get, insert, get-insert, same_map}
use Rattle.pad_model.specs.Stamp.{Stamp}
use Rattle.ident_index.specs.Index.{Index, stamp_cmp, stamp_behind}
use Rattle.ident_index.specs.View.{index_of}
use Rattle.ident_index.specs.declared.place.BlockEntry.{BlockEntry}
use Rattle.ident_index.specs.declared.index.Key.{Key}
use Rattle.ident_index.proofs.Order.{stamp_cmp_total, stamp_cmp-IsAntisymmetric, apart_stamps, same_from_tied}
use Rattle.ident_index.proofs.Kept.{key_cmp, key_of, get-kept, Updated, kept_insert}
use Rattle.ident_index.proofs.Sound.{get_beside}

in_turn : (a b : Bool) (x y z : Option BlockEntry) → (a ≡ true → b ≡ true → ⊥) → cond a x (cond b y z)
    ≡ cond b y (cond a x z)
in_turn true true x y z apart = absurd (apart refl refl)
in_turn true false x y z apart = refl
in_turn false b x y z apart = refl

-- entries at two stamps are put in either order
insert_swap : (m : Index) (j k : Stamp) (a b : BlockEntry) → (k ≡ j → ⊥) → insert (insert m j a) k b
    ≡ insert (insert m k b) j a
insert_swap m j k a b differ =
    same_map stamp_cmp_total stamp_cmp-IsAntisymmetric _ _
    (λ q.
    get-insert stamp_cmp_total (insert m j a) k b q ∙ ap (cond (eq_by_cmp stamp_cmp q k) (Some b))
    (get-insert stamp_cmp_total m j a q)
    ∙ in_turn _ _ _ _ _ (λ x y. differ (sym (same_from_tied q k x) ∙ same_from_tied q j y))
    ∙ sym (get-insert stamp_cmp_total (insert m k b) j a q ∙ ap (cond (eq_by_cmp stamp_cmp q j) (Some a))
    (get-insert stamp_cmp_total m k b q)))

first_differs : (first : Stamp) (offset : ℕ) → 0 < offset → first ≡ stamp_behind first offset → ⊥
first_differs first offset inside same = let counters : first.counter ≡ first.counter + offset =
    ap (λ (s : Stamp). s.counter) same in omega arith

-- with the right part added, the block is still found under its first stamp
pub still_there : (es : List (Key × BlockEntry)) (m : Index) (first : Stamp) (offset : ℕ) (whole right : BlockEntry) →
    0 < offset → get m first ≡ Some whole
    → index_of es ≡ insert m (stamp_behind first offset) right → lookup (is_at (key_cmp (key_of first))) es ≡ Some whole
still_there es m first offset whole right inside is entered =
    sym (get-kept es _ first entered) ∙ get_beside m (stamp_behind first offset) right first
    (apart_stamps _ _ (first_differs first offset inside)) ∙ is

-- and once the left part is shortened, the block is cut
pub cut_kept : (es fs : List (Key × BlockEntry)) (m : Index) (first : Stamp) (offset : ℕ) (whole right left : BlockEntry) →
    0 < offset
    → index_of es ≡ insert m (stamp_behind first offset) right → Updated es fs first (Some left) →
    left ≡ record whole { len = offset }
    → index_of fs ≡ insert (insert m first (record whole { len = offset })) (stamp_behind first offset) right
cut_kept es fs m first offset whole right left inside entered shortened is =
    kept_insert es fs _ first left entered shortened ∙ insert_swap m (stamp_behind first offset) first right left
    (first_differs first offset inside)
    ∙ ap (λ (e : BlockEntry). insert (insert m first e) (stamp_behind first offset) right) is

pub same_entry : (a b : BlockEntry) → Some a ≡ Some b → a ≡ b
same_entry a b e = ap (λ (o : Option BlockEntry). unwrap_or o a) e
