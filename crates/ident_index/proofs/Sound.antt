-- What changes keep an index sound.
use Rattle.std.proofs.Common.{◌≡◌, ◌+◌, ◌≤◌, ◌⊎◌, inl, inr, Bool, true, false, cond, Option, Some, None, refl, sym, ap}
use Rattle.std.proofs.Common.{◌∙◌, subst, arith}
use Rattle.std.specs.Option.{IfSome, IsSomeAnd}
use Rattle.std.specs.Ordering.{eq_by_cmp}
use Rattle.std.specs.FinMap.{get, insert, remove, empty, get-empty, get-insert, get-remove}
use Rattle.pad_model.specs.Stamp.{Stamp}
use Rattle.ident_index.specs.declared.place.BlockEntry.{BlockEntry}
use Rattle.ident_index.specs.Index.{Index, stamp_cmp, stamp_behind, Covers, Holds, IsNew, IsBlock, IsSound}
use Rattle.ident_index.proofs.Order.{stamp_cmp_total, cases_stamps, tied}

-- what the index has after e is put at k
pub get_here : (m : Index) (k : Stamp) (e : BlockEntry) → get (insert m k e) k ≡ Some e
get_here m k e = get-insert stamp_cmp_total m k e k ∙ ap (λ b. cond b (Some e) (get m k)) (tied k)

pub get_beside : (m : Index) (k : Stamp) (e : BlockEntry) (q : Stamp) → eq_by_cmp stamp_cmp q k ≡ false →
    get (insert m k e) q ≡ get m q
get_beside m k e q apart = get-insert stamp_cmp_total m k e q ∙ ap (λ b. cond b (Some e) (get m q)) apart

-- the entry of an `IsSomeAnd`
pub some_entry : (o : Option BlockEntry) (P : BlockEntry → Type 0) → IsSomeAnd o P → (e : BlockEntry) × (o ≡ Some e) × P e
some_entry None P h = absurd h
some_entry (Some e) P h = (e, refl, h)

pub not_tied : (a b : Stamp) → a ≡ b → eq_by_cmp stamp_cmp a b ≡ false → ⊥
not_tied a b same apart = let is : eq_by_cmp stamp_cmp a a ≡ false =
    subst (λ (x : Stamp). eq_by_cmp stamp_cmp a x ≡ false) (sym same) apart in cc (tied a, is)

-- what holds a stamp after e is put at k
pub holds_insert : (m : Index) (k : Stamp) (e : BlockEntry) (a s : Stamp) → Holds (insert m k e) a s →
    ((a ≡ k) × Covers k e.len s) ⊎ ((eq_by_cmp stamp_cmp a k ≡ false) × Holds m a s)
holds_insert m k e a s h = elim (cases_stamps a k) [
  | inl same ↦
      let here : Holds (insert m k e) k s = subst (λ (x : Stamp). Holds (insert m k e) x s) same h in
      inl (same, subst (λ (o : Option BlockEntry). IsSomeAnd o (λ e. Covers k e.len s)) (get_here m k e) here)
  | inr apart ↦ inr (
    apart,
    subst (λ (o : Option BlockEntry). IsSomeAnd o (λ e. Covers a e.len s))
        (get_beside m k e a apart) h,
  )
]

blocks_insert : (m : Index) (k : Stamp) (e : BlockEntry) → IsSound m → IsBlock k e → (a : Stamp) →
    IfSome (get (insert m k e) a) (IsBlock a)
blocks_insert m k e sound block a = elim (cases_stamps a k) [
  | inl same ↦ subst (λ (x : Stamp). IfSome (get (insert m k e) x) (IsBlock x)) (sym same)
      (subst (λ (o : Option BlockEntry). IfSome o (IsBlock k)) (sym (get_here m k e)) block)
  | inr apart ↦ subst (λ (o : Option BlockEntry). IfSome o (IsBlock a)) (sym (get_beside m k e a apart)) (sound.blocks a)
]

pub sound_empty : IsSound empty
sound_empty = record {
  blocks = λ a. subst (λ (o : Option BlockEntry). IfSome o (IsBlock a)) (sym (get-empty stamp_cmp a)) tt;
  apart = λ s a b h _. absurd (subst (λ (o : Option BlockEntry). IsSomeAnd o (λ e. Covers a e.len s))
      (get-empty stamp_cmp a) h);
}

-- a block of new stamps
pub sound_add : (m : Index) (k : Stamp) (e : BlockEntry) → IsSound m → IsBlock k e → IsNew m k e.len → IsSound (insert m k e)
sound_add m k e sound block fresh = record {
  blocks = blocks_insert m k e sound block;
  apart = λ s a b h i.
      elim (holds_insert m k e a s h) [
        | inl x ↦ elim (holds_insert m k e b s i) [ inl y ↦ x.0 ∙ sym y.0 | inr y ↦ absurd (fresh s x.1 b y.1) ]
        | inr x ↦ elim (holds_insert m k e b s i) [
          | inl y ↦ absurd (fresh s y.1 a x.1)
          | inr y ↦ sound.apart s a b x.1
              y.1
        ]
      ];
}

-- a block at its place, no longer than it was
pub sound_change : (m : Index) (k : Stamp) (old e : BlockEntry) → IsSound m → get m k ≡ Some old → 1 ≤ e.len →
    e.len ≤ old.len → IsSound (insert m k e)
sound_change m k old e sound is sized shorter =
    let block : IsBlock k old = subst (λ (o : Option BlockEntry). IfSome o (IsBlock k)) is (sound.blocks k) in
    let was : (s : Stamp) → Covers k e.len s → Holds m k s =
    λ s c. subst (λ (o : Option BlockEntry). IsSomeAnd o (λ x. Covers k x.len s)) (sym is) (c.0, c.1, omega arith) in
    let held : (a s : Stamp) → Holds (insert m k e) a s → Holds m a s = λ a s h.
    elim (holds_insert m k e a s h) [
      | inl x ↦ subst (λ (y : Stamp). Holds m y s) (sym x.0)
          (was s x.1)
      | inr x ↦ x.1
    ] in
    record {
      blocks = blocks_insert m k e sound
          (record { limits = block.limits; sized = sized; ends = let h = block.ends in omega arith });
      apart = λ s a b h i. sound.apart s a b (held a s h) (held b s i);
    }

-- a block cut in two
pub sound_cut : (m : Index) (k : Stamp) (old left right : BlockEntry) → IsSound m → get m k ≡ Some old → 1 ≤ left.len →
    1 ≤ right.len → left.len + right.len ≡ old.len → IsSound (insert (insert m k left) (stamp_behind k left.len) right)
sound_cut m k old left right sound is sized sized_right whole =
    let block : IsBlock k old = subst (λ (o : Option BlockEntry). IfSome o (IsBlock k)) is (sound.blocks k) in
    let limits = block.limits in
    let ends = block.ends in
    sound_add (insert m k left) (stamp_behind k left.len) right (sound_change m k old left sound is sized (omega arith))
    (record { limits = (omega arith, omega arith, limits.2, limits.3); sized = sized_right; ends = omega arith })
    (λ s c a h.
    elim (holds_insert m k left a s h) [
      | inl x ↦ let covers = x.1 in absurd (omega arith)
      | inr x ↦
          let was : Holds m k s = subst (λ (o : Option BlockEntry). IsSomeAnd o (λ e. Covers k e.len s)) (sym is)
          (c.0, omega arith, omega arith) in
          not_tied a k (sound.apart s a k x.1 was) x.0
    ])

none_or : (b : Bool) (o : Option BlockEntry) (P : BlockEntry → Type 0) → IfSome o P → IfSome (cond b None o) P
none_or true o P h = tt
none_or false o P h = h

some_of : (b : Bool) (o : Option BlockEntry) (P : BlockEntry → Type 0) → IsSomeAnd (cond b None o) P → IsSomeAnd o P
some_of true o P h = absurd h
some_of false o P h = h

pub sound_remove : (m : Index) (k : Stamp) → IsSound m → IsSound (remove m k)
sound_remove m k sound =
    let held : (a s : Stamp) → Holds (remove m k) a s → Holds m a s = λ a s h.
    some_of _ _ (λ e. Covers a e.len s) (subst (λ (o : Option BlockEntry). IsSomeAnd o (λ e. Covers a e.len s))
    (get-remove stamp_cmp_total m k a) h) in
    record {
      blocks = λ a. subst (λ (o : Option BlockEntry). IfSome o (IsBlock a)) (sym (get-remove stamp_cmp_total m k a))
          (none_or _ _ (IsBlock a) (sound.blocks a));
      apart = λ s a b h i. sound.apart s a b (held a s h) (held b s i);
    }
