-- A block that is cut in two, in the row of blocks and in the index.
use Rattle.std.proofs.Common.{◌≡◌, ℕ, zero, suc, ◌+◌, ◌-◌, ◌≤◌, ◌<◌, ◌^◌, inl, inr, List, [], ◌∷◌, length, Option, Some}
use Rattle.std.proofs.Common.{None, refl, sym, ap, ◌∙◌, subst, arith, slice_get, slice_set, sum_by}
use Rattle.std.specs.FinMap.{get, get-insert, get-remove}
use Rattle.std.specs.FinMap as map
use Rattle.std.specs.List.{insert, remove}
use Rattle.std.specs.Option.{IsSomeAnd}
use Rattle.std.proofs.Math.ListN.{length-set}
use Rattle.pad_model.specs.Stamp.{Stamp}
use Rattle.pad_model.specs.declared.limits.TheConstants.{MAX_CHARACTERS}
use Rattle.ident_index.specs.Index.{Index, stamp_behind, Covers, Holds, IsSound, IsNew}
use Rattle.ident_index.specs.declared.place.BlockEntry.{BlockEntry}
use Rattle.ident_index.proofs.CallerLemmas.{covers_itself, get-from_new}
use Rattle.ident_index.proofs.Order.{stamp_cmp_total, apart_stamps}
use Rattle.ident_index.proofs.Sound.{holds_insert, not_tied}
use Rattle.weight_tree.proofs.CallerLemmas.{sum_replaced, sum_replaced_le}
use Rattle.blocks.specs.declared.block.Block.{Block}
use Rattle.blocks.specs.declared.block.TheConstants.{LAST_LABEL}
use Rattle.blocks.specs.Blocks.{entry, entry_of, weight_of, IsSized, IsListed, IsKept, IsEdge, KeepsEdges, below, above}
use Rattle.blocks.specs.Blocks.{left_part, right_part, without_labels, unlabelled}
use Rattle.blocks.specs.Cells.{SameCells}
use Rattle.blocks.proofs.Cells.{cells-cut, within_cut}
use Rattle.blocks.proofs.Entries.{entry_here, entry_set, listed_set, listed_insert, listed_removed, each_get}
use Rattle.blocks.proofs.Entries.{weights_small, weight-le-len, len_small, count_small}
use Rattle.blocks.proofs.Labels.{Rises-insert, Rises-removed, Rises-set, below-get, above-set, get-set}

-- the block of an `IsSomeAnd`
pub some_block : (o : Option Block) (P : Block → Type 0) → IsSomeAnd o P → (b : Block) × (o ≡ Some b) × P b
some_block None P h = absurd h
some_block (Some b) P h = (b, refl, h)

-- what a block holds, by the index
pub holds_here : (m : Index) (bs : List Block) (i : ℕ) (b : Block) (s : Stamp) → IsListed m bs → slice_get bs i
    ≡ Some b → Covers b.first b.len s → Holds m b.first s
holds_here m bs i b s k e covers = subst (λ o. IsSomeAnd o (λ (x : BlockEntry). Covers b.first x.len s))
    (sym (k.index b.first ∙ entry_here bs i b k.apart e)) covers

-- each block of the index is in the row
pub what_holds : (m : Index) (bs : List Block) (first s : Stamp) → IsListed m bs → Holds m first s →
    (i : ℕ) × (b : Block) × (slice_get bs i ≡ Some b) × Covers b.first b.len s × (b.first ≡ first)
what_holds m bs first s k held =
    let some = Rattle.ident_index.proofs.Sound.some_entry (get m first) (λ e. Covers first e.len s) held in
    let found = Rattle.blocks.proofs.Entries.found_block bs first some.0 (sym (k.index first) ∙ some.1) in
    let len : some.0.len ≡ found.1.len = sym (ap (λ (e : BlockEntry). e.len) found.4) in (
      found.0,
      found.1,
      found.2,
      subst (λ (f : Stamp). Covers f found.1.len s) (sym found.3)
          (subst (λ n. Covers first n s) len some.2),
      found.3,
    )

-- the edges of an index in which a block is cut
module _ (m n : Index) (k : Stamp) (e left right : BlockEntry) (offset : ℕ) (sound : IsSound m) (is : get m k ≡ Some e)
    (lo : 0 < offset) (hi : offset < e.len)
    (left_len : left.len ≡ offset) (right_len : right.len ≡ e.len - offset)
    (cut : n ≡ map.insert (map.insert m k left) (stamp_behind k offset) right) where
  whole : (s : Stamp) → Covers k e.len s → Holds m k s
  whole s covers = subst (λ o. IsSomeAnd o (λ (x : BlockEntry). Covers k x.len s)) (sym is) covers

  pub edges_cut : KeepsEdges m n
  edges_cut s edge first held =
      elim (holds_insert (map.insert m k left) (stamp_behind k offset) right first s
      (subst (λ (x : Index). Holds x first s) cut held)) [
        | inl here ↦
            let covers = here.1 in
            let same = edge k (whole s (covers.0, omega arith, omega arith)) in
            let counters : k.counter ≡ s.counter = ap (λ (x : Stamp). x.counter) same in
            absurd (omega arith)
        | inr beside ↦ elim (holds_insert m k left first s beside.1) [
          | inl here ↦
              let covers = here.1 in
              here.0 ∙ edge k (whole s (covers.0, omega arith, omega arith))
          | inr there ↦ edge first there.1
        ]
      ]

  pub edge_cut : IsEdge n (stamp_behind k offset)
  edge_cut first held =
      let s = stamp_behind k offset in
      elim (holds_insert (map.insert m k left) s right first s (subst (λ (x : Index). Holds x first s) cut held)) [
        | inl here ↦ here.0
        | inr beside ↦ elim (holds_insert m k left first s beside.1) [
          | inl here ↦ let covers = here.1 in absurd (omega arith)
          | inr there ↦ absurd (not_tied first k
              (sound.apart s first k there.1 (whole s (refl, omega arith, omega arith))) there.0)
        ]
      ]

-- no block begins inside another
no_start : (m : Index) (k : Stamp) (e : BlockEntry) (offset : ℕ) → IsSound m → get m k ≡ Some e → 0 < offset →
    offset < e.len → get m (stamp_behind k offset) ≡ None
no_start m k e offset sound is lo hi =
    let s = stamp_behind k offset in
    let held : Holds m k s = subst (λ o. IsSomeAnd o (λ (x : BlockEntry). Covers k x.len s)) (sym is)
    (refl, omega arith, omega arith) in
    covers_itself m s (get m s) refl (sound.blocks s) (λ h. let same : k.counter + offset
    ≡ k.counter = ap (λ (x : Stamp). x.counter) (sound.apart s s k h held) in omega arith)

-- what a cut leaves
pub record IsCutBlock (m n : Index) (bs after : List Block) (s : Stamp) : Type 0 where
  pub kept : IsKept n after
  pub cells : SameCells bs after
  pub edges : KeepsEdges m n
  pub edge : IsEdge n s

pub cut_leaves : (m n : Index) (bs : List Block) (i j : ℕ) (b : Block) (offset label : ℕ) → IsSound m → IsKept m bs →
    slice_get bs i ≡ Some b → j ≡ suc i → i < length bs → 0 < offset → offset < b.len
    → below 0 bs j < label → label < above bs j LAST_LABEL →
    n ≡ map.insert (map.insert m b.first (entry (left_part b offset))) (stamp_behind b.first offset)
    (entry (right_part b offset label))
    → IsCutBlock m n bs (insert (slice_set bs i (left_part b offset)) j (right_part b offset label))
    (stamp_behind b.first offset)
cut_leaves m n bs i j b offset label sound k e is within lo hi under over cut =
    let l = left_part b offset in
    let r = right_part b offset label in
    let here = k.listed.index b.first ∙ entry_here bs i b k.listed.apart e in
    let sized = each_get IsSized bs i b k.listed.sized e in
    let sums = sum_replaced (λ (x : Block). x.len) bs i b l e in
    let m1 = map.insert m b.first (entry l) in
    let shorter = listed_set m m1 bs i b l k.listed e refl (omega arith, omega arith, omega arith) (omega arith)
    (λ q. get-insert stamp_cmp_total m b.first (entry l) q) in
    let fresh : entry_of (slice_set bs i l) r.first ≡ None =
    entry_set bs i b l r.first k.listed.apart e refl
    ∙ (rw (apart_stamps r.first b.first (λ same. let counters : b.first.counter + offset
    ≡ b.first.counter = ap (λ (x : Stamp). x.counter) same in omega arith))
    (sym (k.listed.index r.first) ∙ no_start m b.first (entry b) offset sound here lo hi))
    in
    let before : below 0 (slice_set bs i l) j ≡ below 0 bs j =
    below-get 0 (slice_set bs i l) j i l (get-set bs i l within) is ∙ sym (below-get 0 bs j i b e is) in
    let after : above (slice_set bs i l) j LAST_LABEL ≡ above bs j LAST_LABEL = above-set bs i j l LAST_LABEL is in
    record {
      kept = record {
        listed = listed_insert m1 n (slice_set bs i l) j r shorter fresh (omega arith, omega arith, omega arith)
            (omega (arith, sums, k.listed.small)) (λ q. ap (λ x. get x q) cut ∙ get-insert stamp_cmp_total m1 r.first
            (entry r) q);
        rises = Rises-insert 0 LAST_LABEL (slice_set bs i l) j r (Rises-set 0 LAST_LABEL bs i b l k.rises e refl)
            (let same = length-set bs i l in omega (arith, same)) (omega (arith, before, under))
            (omega (arith, after, over));
      };
      cells = record {
        within = λ authors text w. within_cut authors text bs i j b offset label w e (omega arith);
        cells = λ authors text w. cells-cut authors text bs i b offset label j w e lo hi is;
      };
      edges = edges_cut m n b.first (entry b) (entry l) (entry r) offset sound here lo hi refl refl cut;
      edge = edge_cut m n b.first (entry b) (entry l) (entry r) offset sound here lo hi refl refl cut;
    }

-- one more block fits
pub room_for_part : (m : Index) (bs : List Block) (i : ℕ) (b : Block) (offset label : ℕ) → IsListed m bs →
    slice_get bs i ≡ Some b → offset < b.len → sum_by weight_of (slice_set bs i (left_part b offset))
    + weight_of (right_part b offset label) < 2 ^ 64
room_for_part m bs i b offset label k e hi =
    let set = sum_replaced_le weight_of bs i (left_part b offset) in
    let sum = weights_small bs in
    let one = weight-le-len (left_part b offset) in
    let other = weight-le-len (right_part b offset label) in
    let small = len_small bs i b e in
    omega (arith, k.small, set, sum, one, other, small)

-- what a new block leaves
pub put_leaves : (m n : Index) (bs : List Block) (i : ℕ) (b : Block) → IsSound m → IsKept m bs → i ≤ length bs →
    IsSized b → IsNew m b.first b.len → sum_by (λ x. x.len) bs + b.len ≤ MAX_CHARACTERS
    → below 0 bs i < b.label → b.label < above bs i LAST_LABEL → n ≡ map.insert m b.first (entry b) →
    IsKept n (insert bs i b)
put_leaves m n bs i b sound k within sized fresh room under over put = record {
  listed = listed_insert m n bs i b k.listed (sym (k.listed.index b.first)
      ∙ get-from_new m b.first b.len sound sized.0 fresh) sized room (λ q. ap (λ x. get x q) put
      ∙ get-insert stamp_cmp_total m b.first (entry b) q);
  rises = Rises-insert 0 LAST_LABEL bs i b k.rises within under over;
}

-- what a block less leaves
pub take_leaves : (m n : Index) (bs : List Block) (i : ℕ) (b : Block) → IsKept m bs → slice_get bs i ≡ Some b →
    n ≡ map.remove m b.first → IsKept n (remove bs i)
take_leaves m n bs i b k e gone = record {
  listed = listed_removed m n bs i b k.listed e (λ q. ap (λ x. get x q) gone ∙ get-remove stamp_cmp_total m b.first q);
  rises = Rises-removed 0 LAST_LABEL bs i b k.rises e;
}

pub insert-without_labels : (bs : List Block) (i : ℕ) (b : Block) → without_labels (insert bs i b)
    ≡ insert (without_labels bs) i (unlabelled b)
insert-without_labels [] zero b = refl
insert-without_labels [] (suc i) b = refl
insert-without_labels (x ∷ bs) zero b = refl
insert-without_labels (x ∷ bs) (suc i) b = ap (λ l. unlabelled x ∷ l) (insert-without_labels bs i b)

pub sum-without_labels : (bs : List Block) → sum_by (λ x. x.len) (without_labels bs) ≡ sum_by (λ x. x.len) bs
sum-without_labels [] = refl
sum-without_labels (b ∷ bs) =
    Rattle.std.proofs.lemmas.List.Sums.sum_by-cons (λ (x : Block). x.len) (unlabelled b) (without_labels bs)
    ∙ ap (λ n. b.len + n) (sum-without_labels bs)
    ∙ sym (Rattle.std.proofs.lemmas.List.Sums.sum_by-cons (λ (x : Block). x.len) b bs)
