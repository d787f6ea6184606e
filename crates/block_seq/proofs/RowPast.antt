-- What a row showed at a revision: how much it was, and where it stands in the blocks.
use Rattle.std.proofs.Common.{◌≡◌, ℕ, zero, suc, ◌+◌, ◌-◌, ◌≤◌, ◌<◌, ◌⊎◌, inl, inr, not, ◌&&◌, ◌||◌, List, [], ◌∷◌}
use Rattle.std.proofs.Common.{◌++◌, length, take, drop, flat_map, sum_by, Option, Some, None, is_none, slice_get}
use Rattle.std.proofs.Common.{MatchOption, IsSomeAnd, drop-cons, cond, eqb, leb, ltb, refl, sym, ap, ap₂, ◌∙◌, subst}
use Rattle.std.proofs.Common.{arith, length-append, eq-eqb, le-leb, lt-ltb, le-ltb}
use Rattle.std.specs.List.{AllByRecursion}
use Rattle.std.proofs.lemmas.Bool.{cases_lt, lt-leb, ne_eqb}
use Rattle.std.proofs.lemmas.List.Sums.{sum_by-cons}
use Rattle.std.proofs.lemmas.Option.{slice_get_within, get_or_from_slice_get}
use Rattle.pad_model.specs.Stamp.{Stamp}
use Rattle.pad_model.proofs.Newer.{split}
use Rattle.ident_index.specs.Index.{Covers, HoldsNone, Index, IsSound, stamp_behind}
use Rattle.blocks.specs.declared.block.Block.{Block}
use Rattle.blocks.specs.Blocks.{IsListed, IsSpot, weight_of}
use Rattle.blocks.specs.declared.find.Spot.{Spot}
use Rattle.blocks.proofs.Entries.{each_get, weight-le-len}
use Rattle.blocks.proofs.Parts.{holds_here, some_block}
use Rattle.text_history.specs.Slide.{Slide}
use Rattle.text_history.specs.Slides.{LeadTo, Leads, since}
use Rattle.text_history.proofs.Carrying.{get_front, get_back, get_stamp, length-stamps}
use Rattle.block_seq.specs.RowLists.{IsSeenAt, shown_front, shown_stamps}
use Rattle.block_seq.specs.RowSlides.{IsSlid, live_stamps}
use Rattle.block_seq.specs.Rows.{IsDated, shows, shown_len, stamp_in}
use Rattle.block_seq.proofs.BlockCells.{spot_block}
use Rattle.block_seq.proofs.RowLists.{length-shown_stamps}
use Rattle.block_seq.proofs.RowNow.{alive_shown, front_now}
use Rattle.block_seq.proofs.RowOrder.{only_rank}

-- ---- how much is visible, and how much is alive
pub length-shown : (rev : ℕ) (bs : List Block) → length (flat_map (shown_stamps rev) bs) ≡ sum_by (shown_len rev) bs
length-shown rev [] = refl
length-shown rev (b ∷ bs) =
    length-append (shown_stamps rev b) (flat_map (shown_stamps rev) bs)
    ∙ ap₂ (λ x y. x + y) (length-shown_stamps rev b) (length-shown rev bs) ∙ sym (sum_by-cons (shown_len rev) b bs)

length-live_stamps : (b : Block) → length (live_stamps b) ≡ weight_of b
length-live_stamps b = split (is_none b.died) (λ e. rw e (length-stamps b.first b.len)) (λ e. rw e refl)

pub length-live : (bs : List Block) → length (flat_map live_stamps bs) ≡ sum_by weight_of bs
length-live [] = refl
length-live (b ∷ bs) =
    length-append (live_stamps b) (flat_map live_stamps bs)
    ∙ ap₂ (λ x y. x + y) (length-live_stamps b) (length-live bs) ∙ sym (sum_by-cons weight_of b bs)

-- ---- the stamp at a place
stamp_shown : (rev : ℕ) (b : Block) (i : ℕ) → i < shown_len rev b → slice_get (shown_stamps rev b) i
    ≡ Some (stamp_behind b.first i)
stamp_shown rev b i h =
    split (shows rev b)
    (λ e. let h' = rw e at h in rw e (get_stamp b.first b.len i h'))
    (λ e. let h' = rw e at h in absurd (omega arith))

pub stamp-shown : (rev : ℕ) (bs : List Block) (i : ℕ) → stamp_in rev bs i ≡ slice_get (flat_map (shown_stamps rev) bs) i
stamp-shown rev [] zero = refl
stamp-shown rev [] (suc i) = refl
stamp-shown rev (b ∷ bs) i =
    let size = length-shown_stamps rev b in
    elim (cases_lt i (shown_len rev b)) [
      | inl here ↦ rw (lt-ltb i (shown_len rev b) here)
          (sym (get_front (shown_stamps rev b) (flat_map (shown_stamps rev) bs) i (omega (arith, size))
          ∙ stamp_shown rev b i here))
      | inr past ↦ rw (le-ltb i (shown_len rev b) past) (stamp-shown rev bs (i - shown_len rev b)
          ∙ sym (get_back (shown_stamps rev b) (flat_map (shown_stamps rev) bs) i (i - shown_len rev b)
          (omega (arith, size))))
    ]

stamp_alive : (b : Block) (i : ℕ) → i < weight_of b → slice_get (live_stamps b) i ≡ Some (stamp_behind b.first i)
stamp_alive b i h =
    split (is_none b.died)
    (λ e. let h' = rw e at h in rw e (get_stamp b.first b.len i h'))
    (λ e. let h' = rw e at h in absurd (omega arith))

-- the place of those alive that falls in a block
pub alive_at : (bs : List Block) (i rank offset : ℕ) (b : Block) → sum_by weight_of (take rank bs) + offset ≡ i →
    offset < weight_of b → slice_get bs rank ≡ Some b
    → slice_get (flat_map live_stamps bs) i ≡ Some (stamp_behind b.first offset)
alive_at [] i rank offset b e h is = absurd (cc)
alive_at (x ∷ bs) i zero offset b e h is =
    let same : x ≡ b = cc in
    let size = length-live_stamps x in
    let weight = ap weight_of same in
    get_front (live_stamps x) (flat_map live_stamps bs) i (omega (arith, size, weight))
    ∙ stamp_alive x i (omega (arith, weight))
    ∙ ap₂ (λ (y : Block) n. Some (stamp_behind y.first n)) same (let at : i ≡ offset = omega arith in at)
alive_at (x ∷ bs) i (suc rank) offset b e h is =
    let size = length-live_stamps x in
    let sum = sum_by-cons weight_of x (take rank bs) in
    get_back (live_stamps x) (flat_map live_stamps bs) i (sum_by weight_of (take rank bs) + offset)
    (omega (arith, size, sum))
    ∙ alive_at bs (sum_by weight_of (take rank bs) + offset) rank offset b refl h is

-- ---- the slides since a revision
pub leads-past : (slides recent : List Slide) (bs : List Block) (rev : ℕ) → IsSlid slides bs →
    recent ≡ since rev slides → Leads recent (flat_map (shown_stamps rev) bs) (flat_map live_stamps bs)
leads-past slides recent bs rev slid e = subst (λ l. Leads l (flat_map (shown_stamps rev) bs) (flat_map live_stamps bs))
    (sym e) (slid.leads rev)

pub lead-to : (slides recent : List Slide) (bs : List Block) (rev many : ℕ) → IsSlid slides bs →
    recent ≡ since rev slides → many ≡ sum_by weight_of bs → LeadTo recent many
lead-to slides recent bs rev many slid e is =
    record { old = flat_map (shown_stamps rev) bs; new = flat_map live_stamps bs; leads = leads-past slides recent bs rev slid e; size = length-live bs ∙ sym is }

-- how many were visible
pub counted-past : (slides recent : List Slide) (bs : List Block) (rev many count : ℕ) → IsSlid slides bs →
    recent ≡ since rev slides → many ≡ sum_by weight_of bs
    → ((old new : List Stamp) → Leads recent old new → length new ≡ many → count ≡ length old) →
    count ≡ sum_by (shown_len rev) bs
counted-past slides recent bs rev many count slid e is counts =
    counts (flat_map (shown_stamps rev) bs) (flat_map live_stamps bs) (leads-past slides recent bs rev slid e)
    (length-live bs ∙ sym is) ∙ length-shown rev bs

-- ---- where a visible character is
pub shown_inside : (rev : ℕ) (b : Block) (i : ℕ) → i < shown_len rev b → i < b.len
shown_inside rev b i h = split (shows rev b) (λ e. rw e at h) (λ e. let h' = rw e at h in absurd (omega arith))

behind_covers : (b : Block) (s : Stamp) (i : ℕ) → s ≡ stamp_behind b.first i → i < b.len → Covers b.first b.len s
behind_covers b s i e h =
    let counter = ap (λ (k : Stamp). k.counter) e in
    (sym (ap (λ (k : Stamp). k.replica) e), omega arith, omega arith)

-- the stamp in the first block that a place falls in, and behind it
stamp_first : (rev : ℕ) (b : Block) (bs : List Block) (i : ℕ) (s : Stamp) →
    slice_get (flat_map (shown_stamps rev) (b ∷ bs)) i ≡ Some s → i < shown_len rev b → s ≡ stamp_behind b.first i
stamp_first rev b bs i s e h =
    let size = length-shown_stamps rev b in
    let is : Some s ≡ Some (stamp_behind b.first i) = sym e ∙ get_front (shown_stamps rev b)
    (flat_map (shown_stamps rev) bs) i (omega (arith, size)) ∙ stamp_shown rev b i h in
    cc

stamp_later : (rev : ℕ) (b : Block) (bs : List Block) (i : ℕ) (s : Stamp) →
    slice_get (flat_map (shown_stamps rev) (b ∷ bs)) i ≡ Some s → shown_len rev b ≤ i →
    slice_get (flat_map (shown_stamps rev) bs) (i - shown_len rev b) ≡ Some s
stamp_later rev b bs i s e h =
    let size = length-shown_stamps rev b in
    sym (get_back (shown_stamps rev b) (flat_map (shown_stamps rev) bs) i (i - shown_len rev b) (omega (arith, size)))
    ∙ e

-- a visible stamp is in some block
shown_in : (rev : ℕ) (bs : List Block) (i : ℕ) (s : Stamp) → slice_get (flat_map (shown_stamps rev) bs) i ≡ Some s →
    (r : ℕ) × (b : Block) × (slice_get bs r ≡ Some b) × Covers b.first b.len s
shown_in rev [] i s e = absurd (cc)
shown_in rev (b ∷ bs) i s e = elim (cases_lt i (shown_len rev b)) [
  | inl here ↦ (0, b, refl, behind_covers b s i (stamp_first rev b bs i s e here) (shown_inside rev b i here))
  | inr past ↦
      let rest = shown_in rev bs (i - shown_len rev b) s (stamp_later rev b bs i s e past) in
      (suc rest.0, rest.1, rest.2, rest.3)
]

drop_back : {A : Type 0} (xs ys : List A) (i j : ℕ) → i ≡ length xs + j → drop i (xs ++ ys) ≡ drop j ys
drop_back [] ys i j e = ap (λ n. drop n ys) (let same : i ≡ j = omega (arith, e) in same)
drop_back (x ∷ xs) ys zero j e = absurd (omega arith)
drop_back (x ∷ xs) ys (suc i) j e = drop_back xs ys i j (omega arith)

pub drop_some : {A : Type 0} (xs : List A) (i j : ℕ) (x : A) → slice_get xs i ≡ Some x → j ≡ suc i → drop i xs ≡ x
    ∷ drop j xs
drop_some xs i j x e is = drop-cons xs i x (slice_get_within xs i x e) ∙ ap₂ (λ y n. y ∷ drop n xs)
    (get_or_from_slice_get xs i x x e) (sym is)

-- the place of a visible character, by the one block that holds its stamp
place_shown : (rev : ℕ) (bs : List Block) (at rank offset : ℕ) (b : Block) (s : Stamp) →
    slice_get (flat_map (shown_stamps rev) bs) at ≡ Some s → slice_get bs rank ≡ Some b →
    s ≡ stamp_behind b.first offset → offset < b.len
    → ((i : ℕ) (z : Block) → slice_get bs i ≡ Some z → Covers z.first z.len s → i ≡ rank)
    → (at ≡ sum_by (shown_len rev) (take rank bs) + offset) × (offset < shown_len rev b)
place_shown rev [] at rank offset b s e is f h one = absurd (cc)
place_shown rev (x ∷ bs) at zero offset b s e is f h one = elim (cases_lt at (shown_len rev x)) [
  | inl here ↦
      let same : x ≡ b = cc in
      let first = ap (λ (k : Stamp). k.counter) (stamp_first rev x bs at s e here) in
      let counter = ap (λ (k : Stamp). k.counter) f in
      let start = ap (λ (k : Block). k.first.counter) same in
      let size = ap (shown_len rev) same in
      (omega arith, omega arith)
  | inr past ↦
      let rest = shown_in rev bs (at - shown_len rev x) s (stamp_later rev x bs at s e past) in
      let never : suc rest.0 ≡ 0 = one (suc rest.0) rest.1 rest.2 rest.3 in
      absurd (omega arith)
]
place_shown rev (x ∷ bs) at (suc rank) offset b s e is f h one = elim (cases_lt at (shown_len rev x)) [
  | inl here ↦
      let never : 0 ≡ suc rank = one 0 x refl (behind_covers x s at (stamp_first rev x bs at s e here)
      (shown_inside rev x at here)) in
      absurd (omega arith)
  | inr past ↦
      let sum = sum_by-cons (shown_len rev) x (take rank bs) in
      let rest = place_shown rev bs (at - shown_len rev x) rank offset b s (stamp_later rev x bs at s e past) is f h
      (λ i z g c. let next : suc i ≡ suc rank = one (suc i) z g c in omega arith) in
      let place = rest.0 in
      (omega arith, rest.1)
]

-- and as a search for that block answers
pub spot-shown : (m : Index) (bs : List Block) (rev at : ℕ) (s : Stamp) (found : Option Spot) → IsListed m bs →
    IsSound m → slice_get (flat_map (shown_stamps rev) bs) at ≡ Some s
    → MatchOption found (HoldsNone m s) (λ spot. IsSpot bs s spot.rank spot.offset)
    → MatchOption found (sum_by (shown_len rev) bs ≤ at) (IsSeenAt rev bs at)
spot-shown m bs rev at s None listed sound e h =
    let there = shown_in rev bs at s e in
    absurd (h there.1.first (holds_here m bs there.0 there.1 s listed there.2 there.3))
spot-shown m bs rev at s (Some spot) listed sound e h =
    let block = spot_block bs s spot.rank spot.offset h in
    let inside = subst (λ o. IsSomeAnd o (λ b. (s ≡ stamp_behind b.first spot.offset) × (spot.offset < b.len))) block.1
    h in
    let place = place_shown rev bs at spot.rank spot.offset block.0 s e block.1 inside.0 inside.1
    (only_rank m bs spot.rank block.0 s listed sound block.1 block.2) in
    (subst (λ o. IsSomeAnd o (λ b. spot.offset < shown_len rev b)) (sym block.1) place.1, place.0)

-- no place has no character but those behind all
pub none-shown : (rev : ℕ) (bs : List Block) (at : ℕ) → stamp_in rev bs at ≡ None → sum_by (shown_len rev) bs ≤ at
none-shown rev bs at e =
    let size = length-shown rev bs in
    let past = past_end (flat_map (shown_stamps rev) bs) at (sym (stamp-shown rev bs at) ∙ e) in
    omega arith
  where
    past_end : {A : Type 0} (xs : List A) (i : ℕ) → slice_get xs i ≡ None → length xs ≤ i
    past_end [] i e = omega arith
    past_end (x ∷ xs) zero e = absurd (cc)
    past_end (x ∷ xs) (suc i) e = let rest = past_end xs i e in omega arith

-- what is visible from there on
pub drop_seen : (rev : ℕ) (bs : List Block) (place rank offset : ℕ) → place ≡ sum_by (shown_len rev) (take rank bs)
    + offset → drop place (flat_map (shown_stamps rev) bs) ≡ drop offset (flat_map (shown_stamps rev) (drop rank bs))
drop_seen rev bs place zero offset e = ap (λ n. drop n (flat_map (shown_stamps rev) bs))
    (let same : place ≡ offset = omega (arith, e) in same)
drop_seen rev [] place (suc rank) offset e = ap (λ n. drop {A = Stamp} n [])
    (let same : place ≡ offset = omega (arith, e) in same)
drop_seen rev (x ∷ bs) place (suc rank) offset e =
    let size = length-shown_stamps rev x in
    let sum = sum_by-cons (shown_len rev) x (take rank bs) in
    drop_back (shown_stamps rev x) (flat_map (shown_stamps rev) bs) place (sum_by (shown_len rev) (take rank bs)
    + offset) (omega (arith, size, sum))
    ∙ drop_seen rev bs (sum_by (shown_len rev) (take rank bs) + offset) rank offset refl

-- the blocks from a rank on show no more than all
pub dropped_small : {A : Type 0} (f : A → ℕ) (xs : List A) (i : ℕ) → sum_by f (drop i xs) ≤ sum_by f xs
dropped_small f xs zero = omega arith
dropped_small f [] (suc i) = omega arith
dropped_small f (x ∷ xs) (suc i) =
    let rest = dropped_small f xs i in
    rw (sum_by-cons f x xs) (omega (arith, rest))

-- ---- how many visible characters stand before a spot
front_grows : {A : Type 0} (f : A → ℕ) (xs : List A) (i j : ℕ) (x : A) → slice_get xs i ≡ Some x → i < j →
    sum_by f (take i xs) + f x ≤ sum_by f (take j xs)
front_grows f [] i j x e h = absurd (cc)
front_grows f (y ∷ xs) zero zero x e h = absurd (omega arith)
front_grows f (y ∷ xs) zero (suc j) x e h =
    let same : y ≡ x = cc in
    let size = ap f same in
    rw (sum_by-cons f y (take j xs)) (omega (arith, size))
front_grows f (y ∷ xs) (suc i) zero x e h = absurd (omega arith)
front_grows f (y ∷ xs) (suc i) (suc j) x e h =
    let rest = front_grows f xs i j x e (omega arith) in
    rw (sum_by-cons f y (take i xs), sum_by-cons f y (take j xs)) (omega (arith, rest))

front_most : {A : Type 0} (f : A → ℕ) (xs : List A) (i : ℕ) (x : A) → slice_get xs i ≡ Some x → sum_by f (take i xs)
    + f x ≤ sum_by f xs
front_most f [] i x e = absurd (cc)
front_most f (y ∷ xs) zero x e =
    let same : y ≡ x = cc in
    let size = ap f same in
    rw (sum_by-cons f y xs) (omega (arith, size))
front_most f (y ∷ xs) (suc i) x e =
    let rest = front_most f xs i x e in
    rw (sum_by-cons f y (take i xs), sum_by-cons f y xs) (omega (arith, rest))

-- no more of a block than it shows
part_shown : (rev : ℕ) (b : Block) (offset : ℕ) → offset ≤ b.len → cond (shows rev b) offset 0 ≤ shown_len rev b
part_shown rev b offset h = split (shows rev b) (λ e. rw e h) (λ e. rw e (omega arith))

pub shown_front-most : (rev : ℕ) (bs : List Block) (rank offset : ℕ) (b : Block) → slice_get bs rank ≡ Some b →
    offset ≤ b.len → shown_front rev bs rank offset b ≤ sum_by (shown_len rev) bs
shown_front-most rev bs rank offset b e h =
    let most = front_most (shown_len rev) bs rank b e in
    let part = part_shown rev b offset h in
    omega arith

-- a visible character before the spot, and one that is not
seen_before : (rev : ℕ) (bs : List Block) (r o rank offset : ℕ) (x b : Block) → slice_get bs r ≡ Some x →
    o < shown_len rev x → slice_get bs rank ≡ Some b → offset ≤ b.len
    → (r < rank) ⊎ ((r ≡ rank) × (o < offset)) → sum_by (shown_len rev) (take r bs) + o
    < shown_front rev bs rank offset b
seen_before rev bs r o rank offset x b f inside e h (inl less) = let grows =
    front_grows (shown_len rev) bs r rank x f less in omega arith
seen_before rev bs r o rank offset x b f inside e h (inr here) =
    let same : x ≡ b = cc (ap (slice_get bs) here.0, e, f) in
    let size = ap (shown_len rev) same in
    let front = ap (λ n. sum_by (shown_len rev) (take n bs)) here.0 in
    let less = here.1 in
    let room : o < shown_len rev b = omega arith in
    split (shows rev b) (λ q. rw q (omega arith)) (λ q. let none = rw q at room in absurd (omega arith))

seen_past : (rev : ℕ) (bs : List Block) (r o rank offset : ℕ) (b : Block) → slice_get bs rank ≡ Some b → offset ≤ b.len
    → (rank < r) ⊎ ((r ≡ rank) × (offset ≤ o)) → shown_front rev bs rank offset b ≤ sum_by (shown_len rev) (take r bs)
    + o
seen_past rev bs r o rank offset b e h (inl less) =
    let grows = front_grows (shown_len rev) bs rank r b e less in
    let part = part_shown rev b offset h in
    omega arith
seen_past rev bs r o rank offset b e h (inr here) =
    let front = ap (λ n. sum_by (shown_len rev) (take n bs)) here.0 in
    let past = here.1 in
    split (shows rev b) (λ q. rw q (omega arith)) (λ q. rw q (omega arith))

pub seen-order : (rev : ℕ) (bs : List Block) (place r o rank offset : ℕ) (b : Block) → IsSomeAnd (slice_get bs r)
    (λ x. o < shown_len rev x) → place ≡ sum_by (shown_len rev) (take r bs) + o
    → slice_get bs rank ≡ Some b → offset ≤ b.len → not (ltb rank r || (eqb rank r && leb offset o))
    ≡ ltb place (shown_front rev bs rank offset b)
seen-order rev bs place r o rank offset b seen is e h =
    let block = some_block (slice_get bs r) (λ (x : Block). o < shown_len rev x) seen in
    elim (cases_lt r rank) [
      | inl less ↦
          let before = seen_before rev bs r o rank offset block.0 b block.1 block.2 e h (inl less) in
          rw (
            le-ltb rank r (omega arith),
            ne_eqb rank r (λ same. omega arith),
            lt-ltb place (shown_front rev bs rank offset b) (omega arith),
          ) refl
      | inr more ↦ elim (cases_lt rank r) [
        | inl less ↦
            let past = seen_past rev bs r o rank offset b e h (inl less) in
            rw (lt-ltb rank r less, le-ltb place (shown_front rev bs rank offset b) (omega arith)) refl
        | inr least ↦
            let same : r ≡ rank = omega arith in
            let same' : rank ≡ r = omega arith in
            elim (cases_lt o offset) [
              | inl less ↦
                  let before = seen_before rev bs r o rank offset block.0 b block.1 block.2 e h (inr (same, less)) in
                  rw (
                    le-ltb rank r (omega arith),
                    eq-eqb rank r same',
                    lt-leb offset o less,
                    lt-ltb place (shown_front rev bs rank offset b) (omega arith),
                  ) refl
              | inr up ↦
                  let past = seen_past rev bs r o rank offset b e h (inr (same, up)) in
                  rw (
                    le-ltb rank r (omega arith),
                    eq-eqb rank r same',
                    le-leb offset o up,
                    le-ltb place (shown_front rev bs rank offset b) (omega arith),
                  ) refl
            ]
      ]
    ]

-- from the latest revision on it is how many of those alive do
pub alive_front : (latest rev : ℕ) (bs : List Block) (rank offset : ℕ) (b : Block) → latest ≤ rev →
    AllByRecursion (IsDated latest) bs → slice_get bs rank ≡ Some b
    → sum_by weight_of (take rank bs) + cond (is_none b.died) offset 0 ≡ shown_front rev bs rank offset b
alive_front latest rev bs rank offset b l d e =
    let dated = each_get (IsDated latest) bs rank b d e in
    let front = front_now latest rev bs rank l d in
    let here = alive_shown b.born offset latest rev b.died l dated.0 dated.1 in
    omega arith

pub weight_small : (bs : List Block) (i : ℕ) → sum_by weight_of (take i bs) ≤ sum_by (λ b. b.len) bs
weight_small bs zero = omega arith
weight_small [] (suc i) = omega arith
weight_small (b ∷ bs) (suc i) =
    let rest = weight_small bs i in
    let here = weight-le-len b in
    rw (sum_by-cons weight_of b (take i bs), sum_by-cons (λ (x : Block). x.len) b bs) (omega (arith, rest, here))

pub some_there : {A : Type 0} (xs : List A) (i : ℕ) → i < length xs → (x : A) × (slice_get xs i ≡ Some x)
some_there [] i h = absurd (omega arith)
some_there (x ∷ xs) zero h = (x, refl)
some_there (x ∷ xs) (suc i) h = some_there xs i (omega arith)
