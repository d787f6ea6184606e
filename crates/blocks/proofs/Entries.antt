-- What the index keeps of blocks, after one of them is changed and after one more.
use Rattle.std.proofs.Common.{◌≡◌, ℕ, zero, suc, ◌+◌, ◌^◌, ◌≤◌, ◌<◌, Bool, true, false, cond, List, [], ◌∷◌, length}
use Rattle.std.proofs.Common.{Option, Some, None, refl, sym, ap, ◌∙◌, subst, arith, slice_get, slice_set, sum_by}
use Rattle.std.specs.List.{AllByRecursion, insert, remove}
use Rattle.std.specs.Ordering.{eq_by_cmp}
use Rattle.std.specs.FinMap.{get}
use Rattle.std.proofs.lemmas.List.Sums.{sum_by-cons, sum_by-insert}
use Rattle.pad_model.specs.Stamp.{Stamp}
use Rattle.pad_model.specs.declared.limits.TheConstants.{MAX_CHARACTERS}
use Rattle.pad_model.proofs.Newer.{split}
use Rattle.ident_index.specs.Index.{Index, stamp_cmp}
use Rattle.ident_index.specs.declared.place.BlockEntry.{BlockEntry}
use Rattle.ident_index.proofs.Order.{same_from_tied, tied, apart_stamps}
use Rattle.weight_tree.proofs.CallerLemmas.{sum_replaced, sum_replaced_le}
use Rattle.blocks.specs.declared.block.Block.{Block}
use Rattle.blocks.specs.Blocks.{entry, entry_of, IsApart, IsSized, IsListed, weight_of, HoldsNoMore, KeepsEdges}

cond_twice : {A : Type 0} (b : Bool) (x y z : A) → cond b x z ≡ cond b x (cond b y z)
cond_twice true x y z = refl
cond_twice false x y z = refl

in_turn : {A : Type 0} (a b : Bool) (x y z : A) → (a ≡ true → b ≡ true → ⊥) → cond a x (cond b y z)
    ≡ cond b y (cond a x z)
in_turn true true x y z apart = absurd (apart refl refl)
in_turn true false x y z apart = refl
in_turn false b x y z apart = refl

same_again : {A : Type 0} (b : Bool) (x : A) (z : A) → (b ≡ true → z ≡ x) → cond b x z ≡ z
same_again true x z h = sym (h refl)
same_again false x z h = refl

-- the entry of a block is found under its first stamp
pub entry_here : (bs : List Block) (i : ℕ) (b : Block) → IsApart bs → slice_get bs i ≡ Some b → entry_of bs b.first
    ≡ Some (entry b)
entry_here [] i b a e = absurd (cc)
entry_here (x ∷ bs) zero b a e =
    let same : x ≡ b = cc in
    subst (λ (y : Block). entry_of (x ∷ bs) y.first ≡ Some (entry y)) same (rw (tied x.first) refl)
entry_here (x ∷ bs) (suc i) b a e =
    let rest = entry_here bs i b a.1 e in
    rw (apart_stamps b.first x.first (λ same. let none : entry_of bs b.first
    ≡ None = subst (λ (s : Stamp). entry_of bs s ≡ None) (sym same) a.0 in absurd (cc))) rest

none_parts : (x : Block) (bs : List Block) (s : Stamp) → entry_of (x ∷ bs) s ≡ None →
    (eq_by_cmp stamp_cmp s x.first ≡ false) × (entry_of bs s ≡ None)
none_parts x bs s h = split (eq_by_cmp stamp_cmp s x.first) (λ e. let h' = rw e at h in absurd (cc))
    (λ e. let h' = rw e at h in (e, h'))

-- a stamp at which no block begins is not that of a block
pub differs : (bs : List Block) (i : ℕ) (b : Block) (s : Stamp) → IsApart bs → slice_get bs i ≡ Some b → entry_of bs s
    ≡ None → s ≡ b.first → ⊥
differs bs i b s a e none same =
    let here = entry_here bs i b a e in
    let gone : entry_of bs b.first ≡ None = subst (λ (q : Stamp). entry_of bs q ≡ None) same none in
    absurd (cc)

pub entry_set : (bs : List Block) (i : ℕ) (b c : Block) (q : Stamp) → IsApart bs → slice_get bs i ≡ Some b →
    c.first ≡ b.first
    → entry_of (slice_set bs i c) q ≡ cond (eq_by_cmp stamp_cmp q b.first) (Some (entry c)) (entry_of bs q)
entry_set [] i b c q a e f = absurd (cc)
entry_set (x ∷ bs) zero b c q a e f =
    let same : x ≡ b = cc in
    ap (λ k. cond (eq_by_cmp stamp_cmp q k) (Some (entry c)) (entry_of bs q)) f
    ∙ cond_twice (eq_by_cmp stamp_cmp q b.first) (Some (entry c)) (Some (entry x)) (entry_of bs q)
    ∙ ap (λ (y : Block). cond (eq_by_cmp stamp_cmp q b.first) (Some (entry c))
    (cond (eq_by_cmp stamp_cmp q y.first) (Some (entry x)) (entry_of bs q))) (sym same)
entry_set (x ∷ bs) (suc i) b c q a e f =
    ap (λ o. cond (eq_by_cmp stamp_cmp q x.first) (Some (entry x)) o) (entry_set bs i b c q a.1 e f)
    ∙ in_turn (eq_by_cmp stamp_cmp q x.first) (eq_by_cmp stamp_cmp q b.first) (Some (entry x)) (Some (entry c))
    (entry_of bs q)
    (λ u v. differs bs i b x.first a.1 e a.0 (sym (same_from_tied q x.first u) ∙ same_from_tied q b.first v))

apart_set : (bs : List Block) (i : ℕ) (b c : Block) → IsApart bs → slice_get bs i ≡ Some b → c.first ≡ b.first →
    IsApart (slice_set bs i c)
apart_set [] i b c a e f = absurd (cc)
apart_set (x ∷ bs) zero b c a e f =
    let same : x ≡ b = cc in
    (subst (λ (s : Stamp). entry_of bs s ≡ None) (ap (λ (y : Block). y.first) same ∙ sym f) a.0, a.1)
apart_set (x ∷ bs) (suc i) b c a e f = (
  entry_set bs i b c x.first a.1 e f ∙ (rw (apart_stamps x.first b.first (differs bs i b x.first a.1 e a.0)) a.0),
  apart_set bs i b c a.1 e f,
)

pub entry_insert : (bs : List Block) (i : ℕ) (b : Block) (q : Stamp) → entry_of bs b.first ≡ None
    → entry_of (insert bs i b) q ≡ cond (eq_by_cmp stamp_cmp q b.first) (Some (entry b)) (entry_of bs q)
entry_insert [] zero b q none = refl
entry_insert [] (suc i) b q none = refl
entry_insert (x ∷ bs) zero b q none = refl
entry_insert (x ∷ bs) (suc i) b q none =
    let parts = none_parts x bs b.first none in
    ap (λ o. cond (eq_by_cmp stamp_cmp q x.first) (Some (entry x)) o) (entry_insert bs i b q parts.1)
    ∙ in_turn (eq_by_cmp stamp_cmp q x.first) (eq_by_cmp stamp_cmp q b.first) (Some (entry x)) (Some (entry b))
    (entry_of bs q)
    (λ u v. let same : b.first ≡ x.first = sym (same_from_tied q b.first v) ∙ same_from_tied q x.first u in
    let no : eq_by_cmp stamp_cmp x.first x.first ≡ false =
    subst (λ (s : Stamp). eq_by_cmp stamp_cmp s x.first ≡ false) same parts.0 in
    absurd (cc (tied x.first, no)))

apart_insert : (bs : List Block) (i : ℕ) (b : Block) → IsApart bs → entry_of bs b.first ≡ None → IsApart (insert bs i b)
apart_insert [] zero b a none = (none, tt)
apart_insert [] (suc i) b a none = (none, tt)
apart_insert (x ∷ bs) zero b a none = (none, a)
apart_insert (x ∷ bs) (suc i) b a none =
    let parts = none_parts x bs b.first none in (
      entry_insert bs i b x.first parts.1
          ∙ (rw (apart_stamps x.first b.first (λ same. let no : eq_by_cmp stamp_cmp b.first b.first
          ≡ false = subst (λ (s : Stamp). eq_by_cmp stamp_cmp b.first s ≡ false) same parts.0 in
          absurd (cc (tied b.first, no)))) a.0),
      apart_insert bs i b a.1 parts.1,
    )

pub each_set : {A : Type 0} (P : A → Type 0) (xs : List A) (i : ℕ) (y : A) → AllByRecursion P xs → P y →
    AllByRecursion P (slice_set xs i y)
each_set P [] i y h p = tt
each_set P (x ∷ xs) zero y h p = (p, h.1)
each_set P (x ∷ xs) (suc i) y h p = (h.0, each_set P xs i y h.1 p)

pub each_insert : {A : Type 0} (P : A → Type 0) (xs : List A) (i : ℕ) (y : A) → AllByRecursion P xs → P y →
    AllByRecursion P (insert xs i y)
each_insert P [] zero y h p = (p, tt)
each_insert P [] (suc i) y h p = (p, tt)
each_insert P (x ∷ xs) zero y h p = (p, h)
each_insert P (x ∷ xs) (suc i) y h p = (h.0, each_insert P xs i y h.1 p)

pub each_get : {A : Type 0} (P : A → Type 0) (xs : List A) (i : ℕ) (y : A) → AllByRecursion P xs → slice_get xs i
    ≡ Some y → P y
each_get P [] i y h e = absurd (cc)
each_get P (x ∷ xs) zero y h e = let same : x ≡ y = cc in subst P same h.0
each_get P (x ∷ xs) (suc i) y h e = each_get P xs i y h.1 e

-- ---- the index after a change
pub listed_set : (m n : Index) (bs : List Block) (i : ℕ) (b c : Block) → IsListed m bs → slice_get bs i ≡ Some b →
    c.first ≡ b.first → IsSized c → c.len ≤ b.len
    → ((q : Stamp) → get n q ≡ cond (eq_by_cmp stamp_cmp q b.first) (Some (entry c)) (get m q)) →
    IsListed n (slice_set bs i c)
listed_set m n bs i b c k e f sized shorter changed =
    let sums = sum_replaced (λ (x : Block). x.len) bs i b c e in
    record {
      index = λ s. changed s ∙ ap (cond (eq_by_cmp stamp_cmp s b.first) (Some (entry c))) (k.index s)
          ∙ sym (entry_set bs i b c s k.apart e f);
      apart = apart_set bs i b c k.apart e f;
      sized = each_set IsSized bs i c k.sized sized;
      small = omega (arith, k.small, sums);
    }

-- a change of only what the index does not keep
pub listed_same : (m : Index) (bs : List Block) (i : ℕ) (b c : Block) → IsListed m bs → slice_get bs i ≡ Some b →
    c.first ≡ b.first → entry c ≡ entry b → c.start ≡ b.start → IsListed m (slice_set bs i c)
listed_same m bs i b c k e f same start =
    let was = each_get IsSized bs i b k.sized e in
    let len : c.len ≡ b.len = ap (λ (x : BlockEntry). x.len) same in
    let counters : c.first.counter ≡ b.first.counter = ap (λ (s : Stamp). s.counter) f in
    listed_set m m bs i b c k e f (omega arith, omega arith, omega arith) (omega arith)
    (λ q. sym (ap (λ x. cond (eq_by_cmp stamp_cmp q b.first) (Some x) (get m q)) same
    ∙ same_again (eq_by_cmp stamp_cmp q b.first) (Some (entry b)) (get m q)
    (λ is. ap (get m) (same_from_tied q b.first is) ∙ k.index b.first ∙ entry_here bs i b k.apart e)))

pub listed_insert : (m n : Index) (bs : List Block) (i : ℕ) (b : Block) → IsListed m bs → entry_of bs b.first ≡ None →
    IsSized b → sum_by (λ x. x.len) bs + b.len ≤ MAX_CHARACTERS
    → ((q : Stamp) → get n q ≡ cond (eq_by_cmp stamp_cmp q b.first) (Some (entry b)) (get m q)) →
    IsListed n (insert bs i b)
listed_insert m n bs i b k none sized room changed = record {
  index = λ s. changed s ∙ ap (cond (eq_by_cmp stamp_cmp s b.first) (Some (entry b))) (k.index s)
      ∙ sym (entry_insert bs i b s none);
  apart = apart_insert bs i b k.apart none;
  sized = each_insert IsSized bs i b k.sized sized;
  small = omega (arith, room, sum_by-insert (λ (x : Block). x.len) bs i b);
}

-- ---- a block less
pub entry_removed : (bs : List Block) (i : ℕ) (b : Block) (q : Stamp) → IsApart bs → slice_get bs i ≡ Some b
    → entry_of (remove bs i) q ≡ cond (eq_by_cmp stamp_cmp q b.first) None (entry_of bs q)
entry_removed [] i b q a e = absurd (cc)
entry_removed (x ∷ bs) zero b q a e =
    let same : x ≡ b = cc in
    subst (λ (y : Block). entry_of bs q ≡ cond (eq_by_cmp stamp_cmp q y.first) None (entry_of (x ∷ bs) q)) same
    (split (eq_by_cmp stamp_cmp q x.first)
    (λ is. rw is (ap (entry_of bs) (same_from_tied q x.first is) ∙ a.0))
    (λ is. rw is refl))
entry_removed (x ∷ bs) (suc i) b q a e =
    ap (λ o. cond (eq_by_cmp stamp_cmp q x.first) (Some (entry x)) o) (entry_removed bs i b q a.1 e)
    ∙ in_turn (eq_by_cmp stamp_cmp q x.first) (eq_by_cmp stamp_cmp q b.first) (Some (entry x)) None (entry_of bs q)
    (λ u v. differs bs i b x.first a.1 e a.0 (sym (same_from_tied q x.first u) ∙ same_from_tied q b.first v))

apart_removed : (bs : List Block) (i : ℕ) (b : Block) → IsApart bs → slice_get bs i ≡ Some b → IsApart (remove bs i)
apart_removed [] i b a e = absurd (cc)
apart_removed (x ∷ bs) zero b a e = a.1
apart_removed (x ∷ bs) (suc i) b a e = (
  entry_removed bs i b x.first a.1 e ∙ (rw (apart_stamps x.first b.first (differs bs i b x.first a.1 e a.0)) a.0),
  apart_removed bs i b a.1 e,
)

each_removed : {A : Type 0} (P : A → Type 0) (xs : List A) (i : ℕ) (y : A) → AllByRecursion P xs → slice_get xs i
    ≡ Some y → AllByRecursion P (remove xs i)
each_removed P [] i y h e = absurd (cc)
each_removed P (x ∷ xs) zero y h e = h.1
each_removed P (x ∷ xs) (suc i) y h e = (h.0, each_removed P xs i y h.1 e)

sum_removed : (f : Block → ℕ) (bs : List Block) (i : ℕ) (b : Block) → slice_get bs i ≡ Some b → sum_by f (remove bs i)
    ≤ sum_by f bs
sum_removed f [] i b e = absurd (cc)
sum_removed f (x ∷ bs) zero b e = rw (sum_by-cons f x bs) (omega arith)
sum_removed f (x ∷ bs) (suc i) b e =
    let rest = sum_removed f bs i b e in
    rw (sum_by-cons f x bs, sum_by-cons f x (remove bs i)) (omega (arith, rest))

pub listed_removed : (m n : Index) (bs : List Block) (i : ℕ) (b : Block) → IsListed m bs → slice_get bs i ≡ Some b
    → ((q : Stamp) → get n q ≡ cond (eq_by_cmp stamp_cmp q b.first) None (get m q)) → IsListed n (remove bs i)
listed_removed m n bs i b k e changed =
    let sums = sum_removed (λ (x : Block). x.len) bs i b e in
    record {
      index = λ s. changed s ∙ ap (cond (eq_by_cmp stamp_cmp s b.first) None) (k.index s)
          ∙ sym (entry_removed bs i b s k.apart e);
      apart = apart_removed bs i b k.apart e;
      sized = each_removed IsSized bs i b k.sized e;
      small = omega (arith, k.small, sums);
    }

-- a stamp where a block begins, by the index
pub found_block : (bs : List Block) (s : Stamp) (x : BlockEntry) → entry_of bs s ≡ Some x → (i : ℕ) × (b : Block)
    × (slice_get bs i ≡ Some b) × (b.first ≡ s) × (entry b ≡ x)
found_block [] s x e = absurd (cc)
found_block (b ∷ bs) s x e =
    split (eq_by_cmp stamp_cmp s b.first)
    (λ is. let e' = rw is at e in (
      0,
      b,
      refl,
      sym (same_from_tied s b.first is),
      (let same : entry b ≡ x = cc in same),
    ))
    (λ is. let e' = rw is at e in
    let rest = found_block bs s x e' in
    (suc rest.0, rest.1, rest.2, rest.3, rest.4))

-- ---- weights and lengths
pub weight-le-len : (b : Block) → weight_of b ≤ b.len
weight-le-len b = split (Rattle.std.proofs.Common.is_none b.died) (λ e. rw e (omega arith)) (λ e. rw e (omega arith))

pub weights_small : (bs : List Block) → sum_by weight_of bs ≤ sum_by (λ b. b.len) bs
weights_small [] = omega arith
weights_small (b ∷ bs) =
    let rest = weights_small bs in
    let here = weight-le-len b in
    rw (sum_by-cons weight_of b bs, sum_by-cons (λ (x : Block). x.len) b bs) (omega (arith, rest, here))

pub lengths_small : (bs : List Block) → AllByRecursion IsSized bs → length bs ≤ sum_by (λ b. b.len) bs
lengths_small [] s = omega arith
lengths_small (b ∷ bs) s =
    let rest = lengths_small bs s.1 in
    let here = s.0.0 in
    rw (sum_by-cons (λ (x : Block). x.len) b bs) (omega (arith, rest, here))

pub len_small : (bs : List Block) (i : ℕ) (b : Block) → slice_get bs i ≡ Some b → b.len ≤ sum_by (λ b. b.len) bs
len_small [] i b e = absurd (cc)
len_small (x ∷ bs) zero b e =
    let same : x ≡ b = cc in
    let here : x.len ≡ b.len = ap (λ (y : Block). y.len) same in
    rw (sum_by-cons (λ (y : Block). y.len) x bs) (omega arith)
len_small (x ∷ bs) (suc i) b e =
    let rest = len_small bs i b e in
    rw (sum_by-cons (λ (y : Block). y.len) x bs) (omega (arith, rest))

pub weight_fits_set : (m : Index) (bs : List Block) (i : ℕ) (c : Block) → IsListed m bs → c.len ≤ MAX_CHARACTERS →
    sum_by weight_of (slice_set bs i c) < 2 ^ 64
weight_fits_set m bs i c k h =
    let set = sum_replaced_le weight_of bs i c in
    let sum = weights_small bs in
    let one = weight-le-len c in
    omega (arith, k.small, set, sum, one, h)

pub weight_fits_insert : (m : Index) (bs : List Block) (c : Block) → IsListed m bs → c.len ≤ MAX_CHARACTERS →
    sum_by weight_of bs + weight_of c < 2 ^ 64
weight_fits_insert m bs c k h =
    let sum = weights_small bs in
    let one = weight-le-len c in
    omega (arith, k.small, sum, one, h)

pub count_small : (m : Index) (bs : List Block) → IsListed m bs → length bs ≤ MAX_CHARACTERS
count_small m bs k = let l = lengths_small bs k.sized in omega (arith, l, k.small)

-- ---- what holds a stamp
pub edges_kept : (m n : Index) → HoldsNoMore m n → KeepsEdges m n
edges_kept m n h s edge first held = edge first (h first s held)

pub some_at : {A : Type 0} (xs : List A) (i : ℕ) → i < length xs → (x : A) × (slice_get xs i ≡ Some x)
some_at [] i h = absurd (omega arith)
some_at (x ∷ xs) zero h = (x, refl)
some_at (x ∷ xs) (suc i) h = some_at xs i (omega arith)
