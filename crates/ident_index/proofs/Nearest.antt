-- The last block that begins no later than a stamp, in the keys' order, is the only one that may hold it.
use Rattle.std.proofs.Common.{◌≡◌, ℕ, ◌+◌, ◌-◌, ◌≤◌, ◌<◌, ◌⊎◌, inl, inr, false, Some, None, List, [], ◌∷◌, ◌++◌, refl}
use Rattle.std.proofs.Common.{◌∙◌, sym, subst, arith}
use Rattle.std.specs.Option.{IfSome, IsSome, IsSomeAnd}
use Rattle.std.specs.declared.cmp.Ordering.{Ordering}
use Rattle.std.specs.declared.cmp.Ordering.TheVariants.{Less, Equal, Greater}
use Rattle.std.specs.Ordering.{is_gt, is_lt, nat_cmp, ordering_then}
use Rattle.std.specs.FinMap.{get}
use Rattle.std.specs.BTreeMap.{BTreeMap}
use Rattle.std.specs.BTreeMap.Range.{IsInRange, IsRangeOf}
use Rattle.std.specs.declared.ops.Bound.TheVariants.{Included, Unbounded}
use Rattle.std.proofs.lemmas.Cmp.{ranked}
use Rattle.pad_model.specs.Stamp.{Stamp}
use Rattle.pad_model.specs.declared.limits.TheConstants.{MAX_COUNTER}
use Rattle.ident_index.specs.declared.place.BlockEntry.{BlockEntry}
use Rattle.ident_index.specs.Index.{Index, stamp_behind, Covers, Holds, HoldsNone, IsBlock, IsSound, IsPlace}
use Rattle.ident_index.proofs.Order.{same_stamps}
use Rattle.ident_index.specs.View.{stamp_of, index_of}
use Rattle.ident_index.specs.declared.index.Key.{Key}
use Rattle.ident_index.proofs.Kept.{key_cmp, key_of, get-kept, there}
use Rattle.ident_index.proofs.Sound.{some_entry}

-- what an order by two numbers says about them, p for the first two and q for the others
pub le_from_pairs : (a b c d : ℕ) (p q : Ordering) → p ≡ nat_cmp a b → q ≡ nat_cmp c d → is_gt (ordering_then p q)
    ≡ false → (a < b) ⊎ ((a ≡ b) × (c ≤ d))
le_from_pairs a b c d Less q e f h = inl (ranked a b Less e)
le_from_pairs a b c d Equal Less e f h = inr (ranked a b Equal e, let below : c < d = ranked c d Less f in omega arith)
le_from_pairs a b c d Equal Equal e f h = inr (ranked a b Equal e, let same : c ≡ d = ranked c d Equal f in omega arith)
le_from_pairs a b c d Equal Greater e f h = cc h
le_from_pairs a b c d Greater q e f h = cc h

pub ge_from_pairs : (a b c d : ℕ) (p q : Ordering) → p ≡ nat_cmp a b → q ≡ nat_cmp c d → is_lt (ordering_then p q)
    ≡ false → (b < a) ⊎ ((a ≡ b) × (d ≤ c))
ge_from_pairs a b c d Less q e f h = cc h
ge_from_pairs a b c d Equal Less e f h = cc h
ge_from_pairs a b c d Equal Equal e f h = inr (ranked a b Equal e, let same : c ≡ d = ranked c d Equal f in omega arith)
ge_from_pairs a b c d Equal Greater e f h = inr (
  ranked a b Equal e,
  let above : d < c = ranked c d Greater f in
      omega arith,
)
ge_from_pairs a b c d Greater q e f h = inl (ranked a b Greater e)

pub pairs_le : (a b c d : ℕ) (p q : Ordering) → p ≡ nat_cmp a b → q ≡ nat_cmp c d → a ≡ b → c ≤ d →
    is_gt (ordering_then p q) ≡ false
pairs_le a b c d Less q e f same le = let below : a < b = ranked a b Less e in absurd (omega arith)
pairs_le a b c d Equal Less e f same le = refl
pairs_le a b c d Equal Equal e f same le = refl
pairs_le a b c d Equal Greater e f same le = let above : d < c = ranked c d Greater f in absurd (omega arith)
pairs_le a b c d Greater q e f same le = let above : b < a = ranked a b Greater e in absurd (omega arith)

-- the block at `first` begins no later than s, and each block of the replica of s that does begins no later than it
pub record IsNearest (m : Index) (s first : Stamp) (e : BlockEntry) : Type 0 where
  pub here : get m first ≡ Some e
  pub begins : (first.replica < s.replica) ⊎ ((first.replica ≡ s.replica) × (first.counter ≤ s.counter))
  pub last : (other : Stamp) → other.replica ≡ s.replica → other.counter ≤ s.counter → IsSome (get m other)
      → (other.replica < first.replica) ⊎ ((first.replica ≡ other.replica) × (other.counter ≤ first.counter))

-- the two agree on the replica, and `other` begins between
between_both : (a s o b t p : ℕ) → (a < s) ⊎ ((a ≡ s) × (b ≤ t)) → (o < a) ⊎ ((a ≡ o) × (p ≤ b)) → o ≡ s →
    (a ≡ s) × (b ≤ t) × (p ≤ b)
between_both a s o b t p (inl x) (inl y) e = absurd (omega arith)
between_both a s o b t p (inl x) (inr y) e = let z = y.0 in absurd (omega arith)
between_both a s o b t p (inr x) (inl y) e = let z = x.0 in absurd (omega arith)
between_both a s o b t p (inr x) (inr y) e = (x.0, x.1, y.1)

-- its entry is a block
pub nearest_block : (m : Index) (s first : Stamp) (e : BlockEntry) → IsSound m → IsNearest m s first e → IsBlock first e
nearest_block m s first e sound nearest = subst (λ o. IfSome o (IsBlock first)) nearest.here (sound.blocks first)

-- what holds the stamp is the nearest block
pub nearest_holds : (m : Index) (s first : Stamp) (e : BlockEntry) → IsSound m → IsNearest m s first e → (other : Stamp) →
    Holds m other s → (other ≡ first) × Covers first e.len s
nearest_holds m s first e sound nearest other h =
    let found = some_entry (get m other) (λ x. Covers other x.len s) h in
    let covers = found.2 in
    let some : IsSome (get m other) = subst (λ o. IsSome o) (sym found.1) refl in
    let placed = between_both first.replica s.replica other.replica first.counter s.counter other.counter nearest.begins
    (nearest.last other covers.0 covers.1 some) covers.0 in
    let sized : 1 ≤ e.len = (nearest_block m s first e sound nearest).sized in
    let by_other : Holds m other first = subst (λ o. IsSomeAnd o (λ x. Covers other x.len first)) (sym found.1)
    (omega arith, omega arith, omega arith) in
    let by_first : Holds m first first = subst (λ o. IsSomeAnd o (λ x. Covers first x.len first)) (sym nearest.here)
    (refl, omega arith, omega arith) in
    let same : other ≡ first = sound.apart first other first by_other by_first in
    let held : Holds m first s = subst (λ (x : Stamp). Holds m x s) same h in
    (same, subst (λ o. IsSomeAnd o (λ x. Covers first x.len s)) nearest.here held)

begins_by : (a s b t : ℕ) → (a < s) ⊎ ((a ≡ s) × (b ≤ t)) → a ≡ s → b ≤ t
begins_by a s b t (inl x) e = absurd (omega arith)
begins_by a s b t (inr x) e = x.1

-- if the nearest block is of the replica, and reaches to the stamp, the stamp's place is in it
pub nearest_place : (m : Index) (s first : Stamp) (e : BlockEntry) → IsSound m → IsNearest m s first e → first.replica
    ≡ s.replica → s.counter - first.counter < e.len
    → IsPlace m s (record { first = first; offset = s.counter - first.counter; label = e.label })
nearest_place m s first e sound nearest replica inside =
    let begins = begins_by first.replica s.replica first.counter s.counter nearest.begins replica in
    record {
      stamp = same_stamps s (stamp_behind first (s.counter - first.counter)) (omega arith) (sym replica);
      block = subst (λ o. IsSomeAnd o (λ x. (s.counter - first.counter < x.len) × (e.label ≡ x.label)))
          (sym nearest.here) (inside, refl);
      only = λ other h. (nearest_holds m s first e sound nearest other h).0;
    }

-- if no block of the replica of s begins at or before s, none holds it
pub none_holds : (m : Index) (s : Stamp) → ((other : Stamp) → other.replica ≡ s.replica → other.counter ≤ s.counter →
    get m other ≡ None) → HoldsNone m s
none_holds m s none other h =
    let found = some_entry (get m other) (λ x. Covers other x.len s) h in
    let covers = found.2 in
    there (get m other) (subst (λ o. IsSome o) (sym found.1) refl) (none other covers.0 covers.1)

module _ (b : BTreeMap Key BlockEntry) (m : Index) (s : Stamp) (r : List (Key × BlockEntry)) (kept : index_of b.entries ≡ m)
    (part : IsRangeOf key_cmp Unbounded (Included (key_of s)) b r) where
  in_part : (other : Stamp) → other.replica ≡ s.replica → other.counter ≤ s.counter →
      IsInRange key_cmp Unbounded (Included (key_of s)) (key_of other)
  in_part other replica counter = (
    tt,
    pairs_le other.replica s.replica other.counter s.counter _ _ refl refl replica
        counter,
  )

  -- of what the map has up to the key of s, the last is the nearest
  pub nearest_from_range : (t : List (Key × BlockEntry)) (k : Key) (e : BlockEntry) → r ≡ t ++ (k, e) ∷ [] →
      IsNearest m s (stamp_of k) e
  nearest_from_range t k e ends =
      let entry = part.3 (k, e) t ends in
      record {
        here = get-kept b.entries m (stamp_of k) kept ∙ entry.1;
        begins = le_from_pairs k.replica s.replica k.counter s.counter _ _ refl refl entry.0.1;
        last = λ other replica counter some.
            ge_from_pairs k.replica other.replica k.counter other.counter _ _ refl refl
            (part.4 (k, e) t ends (key_of other) (in_part other replica counter)
            (subst (λ o. IsSome o) (get-kept b.entries m other kept) some));
      }

  -- if it has nothing there, no block begins there
  pub none_begins : r ≡ [] → (other : Stamp) → other.replica ≡ s.replica → other.counter ≤ s.counter → get m other
      ≡ None
  none_begins nil other replica counter = get-kept b.entries m other kept ∙ part.5 nil (key_of other)
      (in_part other replica counter)

  -- if it has nothing there, no block holds s
  pub none_from_range : r ≡ [] → HoldsNone m s
  none_from_range nil = none_holds m s (λ other replica counter. get-kept b.entries m other kept
      ∙ part.5 nil (key_of other) (in_part other replica counter))

-- each stamp of a replica that is held lies before the end of the block nearest to the replica's greatest stamp
pub nearest_bounds : (m : Index) (last first : Stamp) (e : BlockEntry) → IsSound m → IsNearest m last first e → first.replica
    ≡ last.replica → last.counter ≡ MAX_COUNTER
    → (other s : Stamp) → s.replica ≡ last.replica → Holds m other s → s.counter < first.counter + e.len
nearest_bounds m last first e sound nearest same most other s replica h =
    let found = some_entry (get m other) (λ x. Covers other x.len s) h in
    let covers = found.2 in
    let some : IsSome (get m other) = subst (λ o. IsSome o) (sym found.1) refl in
    let block : IsBlock other found.0 = subst (λ o. IfSome o (IsBlock other)) found.1 (sound.blocks other) in
    let limits = block.limits in
    let placed = between_both first.replica last.replica other.replica first.counter last.counter other.counter
    nearest.begins (nearest.last other (covers.0 ∙ replica) (omega arith) some) (covers.0 ∙ replica) in
    elim (Rattle.std.proofs.lemmas.Bool.cases_lt s.counter (first.counter + e.len)) [
      | inl before ↦ before
      | inr behind ↦
          let sized : 1 ≤ e.len = (nearest_block m last first e sound nearest).sized in
          let by_other : Holds m other first = subst (λ o. IsSomeAnd o (λ x. Covers other x.len first)) (sym found.1)
          (omega arith, omega arith, omega arith) in
          let by_first : Holds m first first = subst (λ o. IsSomeAnd o (λ x. Covers first x.len first))
          (sym nearest.here) (refl, omega arith, omega arith) in
          let one : other ≡ first = sound.apart first other first by_other by_first in
          let held : Holds m first s = subst (λ (x : Stamp). Holds m x s) one h in
          let inside = subst (λ o. IsSomeAnd o (λ x. Covers first x.len s)) nearest.here held in
          absurd (omega arith)
    ]

-- and that end is held
pub nearest_end : (m : Index) (last first : Stamp) (e : BlockEntry) (s : Stamp) → IsSound m → IsNearest m last first e →
    s.replica ≡ first.replica → s.counter ≡ first.counter + (e.len - 1) → Holds m first s
nearest_end m last first e s sound nearest replica counter =
    let sized : 1 ≤ e.len = (nearest_block m last first e sound nearest).sized in
    subst (λ o. IsSomeAnd o (λ x. Covers first x.len s)) (sym nearest.here) (sym replica, omega arith, omega arith)

-- what holds a stamp begins by the greatest counter
pub holder_begins : (m : Index) (other s : Stamp) → IsSound m → Holds m other s → (other.counter ≤ MAX_COUNTER)
    × (other.replica ≡ s.replica) × IsSome (get m other)
holder_begins m other s sound h =
    let found = some_entry (get m other) (λ x. Covers other x.len s) h in
    let block : IsBlock other found.0 = subst (λ o. IfSome o (IsBlock other)) found.1 (sound.blocks other) in
    let limits = block.limits in
    (limits.1, found.2.0, subst (λ o. IsSome o) (sym found.1) refl)

-- if the nearest block is of another replica, no block of the replica holds anything
pub nearest_other : (m : Index) (last first : Stamp) (e : BlockEntry) → IsSound m → IsNearest m last first e →
    (first.replica ≡ last.replica → ⊥) → last.counter ≡ MAX_COUNTER
    → (other s : Stamp) → s.replica ≡ last.replica → Holds m other s → ⊥
nearest_other m last first e sound nearest differ most other s replica h =
    let begins = holder_begins m other s sound h in
    let placed = between_both first.replica last.replica other.replica first.counter last.counter other.counter
    nearest.begins (nearest.last other (begins.1 ∙ replica) (omega arith) begins.2) (begins.1 ∙ replica) in
    differ placed.0
