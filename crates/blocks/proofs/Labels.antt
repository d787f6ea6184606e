-- Labels that rise.
use Rattle.std.proofs.Common.{◌≡◌, ℕ, zero, suc, ◌+◌, ◌*◌, ◌/◌, ◌≤◌, ◌<◌, inl, inr, Bool, cond, List, [], ◌∷◌, ◌++◌}
use Rattle.std.proofs.Common.{length, take, drop, get_or, Some, refl, sym, ap, ◌∙◌, subst, arith, slice_get, slice_set}
use Rattle.std.proofs.Common.{count_by}
use Rattle.std.specs.List.{insert, remove}
use Rattle.std.specs.Ordering.{nat_cmp, is_lt, ordering_index}
use Rattle.std.specs.Cmp.{nat_cmp_is}
use Rattle.std.specs.declared.cmp.Ordering.TheVariants.{Less, Equal, Greater}
use Rattle.std.proofs.lemmas.Bool.{cases_order}
use Rattle.std.proofs.lemmas.List.Sums.{sum_by-cons}
use Rattle.weight_tree.specs.Rank.{IsRising, count_less}
use Rattle.std.proofs.Math.Nat.{le-div_iff_mul-le}
use Rattle.pad_model.specs.declared.limits.TheConstants.{MAX_CHARACTERS}
use Rattle.blocks.specs.declared.block.Block.{Block}
use Rattle.blocks.specs.declared.block.TheConstants.{LAST_LABEL}
use Rattle.blocks.specs.Blocks.{Rises, below, above, spread, without_labels, unlabelled}

-- how two numbers compare
compare_lt : (a l : ℕ) → a < l → nat_cmp a l ≡ Less
compare_lt a l h = sym (nat_cmp_is a l Less h)

compare_eq : (a l : ℕ) → a ≡ l → nat_cmp a l ≡ Equal
compare_eq a l h = sym (nat_cmp_is a l Equal h)

compare_gt : (a l : ℕ) → l < a → nat_cmp a l ≡ Greater
compare_gt a l h = sym (nat_cmp_is a l Greater h)

index_rises : (a b l : ℕ) → a ≤ b → ordering_index (nat_cmp a l) ≤ ordering_index (nat_cmp b l)
index_rises a b l h = elim (cases_order a l) [
  | inl same ↦ elim (cases_order b l) [
    | inl there ↦ rw (compare_eq a l same, compare_eq b l there) (omega arith)
    | inr (inl less) ↦ absurd (omega arith)
    | inr (inr more) ↦ rw (compare_eq a l same, compare_gt b l more) (omega arith)
  ]
  | inr (inl less) ↦ rw (compare_lt a l less) (omega arith)
  | inr (inr more) ↦ rw (compare_gt a l more, compare_gt b l (omega arith)) (omega arith)
]

low_below : (low high : ℕ) (bs : List Block) (j : ℕ) (d : Block) → Rises 1 low bs high → j < length bs →
    low ≤ (get_or bs j d).label
low_below low high [] j d r h = absurd (omega arith)
low_below low high (b ∷ bs) zero d r h = let first = r.0 in omega arith
low_below low high (b ∷ bs) (suc j) d r h = let first = r.0 in let rest =
    low_below b.label high bs j d r.1 (omega arith) in omega arith

label_rises : (low high : ℕ) (bs : List Block) (i j : ℕ) (d : Block) → Rises 1 low bs high → i ≤ j → j < length bs →
    (get_or bs i d).label ≤ (get_or bs j d).label
label_rises low high [] i j d r h k = absurd (omega arith)
label_rises low high (b ∷ bs) zero zero d r h k = omega arith
label_rises low high (b ∷ bs) zero (suc j) d r h k = low_below b.label high bs j d r.1 (omega arith)
label_rises low high (b ∷ bs) (suc i) zero d r h k = absurd (omega arith)
label_rises low high (b ∷ bs) (suc i) (suc j) d r h k = label_rises b.label high bs i j d r.1 (omega arith)
    (omega arith)

-- the results of comparisons by label rise
pub search_rises : (low high : ℕ) (bs : List Block) (label : ℕ) → Rises 1 low bs high →
    IsRising (λ b. nat_cmp b.label label) bs
search_rises low high bs label r = λ i j d h k. index_rises (get_or bs i d).label (get_or bs j d).label label
    (label_rises low high bs i j d r h k)

count_first : (t : Block → Bool) (b : Block) (bs : List Block) → count_by t (b ∷ bs) ≡ cond (t b) 1 0 + count_by t bs
count_first t b bs = sum_by-cons (λ x. cond (t x) 1 0) b bs

none_less : (low high : ℕ) (bs : List Block) (label : ℕ) → Rises 1 low bs high → label ≤ low →
    count_less (λ b. nat_cmp b.label label) bs ≡ 0
none_less low high [] label r h = refl
none_less low high (b ∷ bs) label r h =
    let first = r.0 in
    let rest = none_less b.label high bs label r.1 (omega arith) in
    count_first (λ x. is_lt (nat_cmp x.label label)) b bs
    ∙ (rw (compare_gt b.label label (omega arith)) (omega (arith, rest)))

-- and end at the block with the label
pub search_ends : (low high : ℕ) (bs : List Block) (i : ℕ) (b : Block) (label : ℕ) → Rises 1 low bs high →
    slice_get bs i ≡ Some b → b.label ≡ label → count_less (λ x. nat_cmp x.label label) bs ≡ i
search_ends low high [] i b label r e is = absurd (cc)
search_ends low high (x ∷ bs) zero b label r e is =
    let same : x ≡ b = cc in
    let here : x.label ≡ label = ap (λ (y : Block). y.label) same ∙ is in
    let rest = none_less x.label high bs label r.1 (omega arith) in
    count_first (λ y. is_lt (nat_cmp y.label label)) x bs ∙ (rw (compare_eq x.label label here) (omega (arith, rest)))
search_ends low high (x ∷ bs) (suc i) b label r e is =
    let rest = search_ends x.label high bs i b label r.1 e is in
    let more = label_above x.label high bs i b r.1 e in
    count_first (λ y. is_lt (nat_cmp y.label label)) x bs
    ∙ (rw (compare_lt x.label label (omega arith)) (omega (arith, rest)))
  where
    label_above : (low high : ℕ) (bs : List Block) (i : ℕ) (b : Block) → Rises 1 low bs high → slice_get bs i ≡ Some b →
        low < b.label
    label_above low high [] i b r e = absurd (cc)
    label_above low high (x ∷ bs) zero b r e = let same : x ≡ b = cc in let here : x.label ≡ b.label =
        ap (λ (y : Block). y.label) same in let first = r.0 in omega arith
    label_above low high (x ∷ bs) (suc i) b r e = let first = r.0 in let rest = label_above x.label high bs i b r.1 e in
        omega arith

-- ---- the neighbours of a rank
pub below-get : (low : ℕ) (bs : List Block) (i j : ℕ) (b : Block) → slice_get bs j ≡ Some b → i ≡ suc j → below low bs i
    ≡ b.label
below-get low [] i j b e is = absurd (cc)
below-get low (x ∷ bs) zero j b e is = absurd (omega arith)
below-get low (x ∷ []) (suc i) zero b e is = let same : x ≡ b = cc in ap (λ (y : Block). y.label) same
below-get low (x ∷ y ∷ bs) (suc zero) zero b e is = let same : x ≡ b = cc in ap (λ (y : Block). y.label) same
below-get low (x ∷ y ∷ bs) (suc (suc i)) zero b e is = absurd (omega arith)
below-get low (x ∷ bs) (suc i) (suc j) b e is = below-get x.label bs i j b e (omega arith)

pub below-zero : (low : ℕ) (bs : List Block) → below low bs 0 ≡ low
below-zero low [] = refl
below-zero low (x ∷ bs) = refl

pub above-get : (bs : List Block) (i : ℕ) (high : ℕ) (b : Block) → slice_get bs i ≡ Some b → above bs i high ≡ b.label
above-get [] i high b e = absurd (cc)
above-get (x ∷ bs) zero high b e = let same : x ≡ b = cc in ap (λ (y : Block). y.label) same
above-get (x ∷ bs) (suc i) high b e = above-get bs i high b e

pub above-end : (bs : List Block) (i : ℕ) (high : ℕ) → i ≡ length bs → above bs i high ≡ high
above-end [] i high e = refl
above-end (x ∷ bs) zero high e = absurd (omega arith)
above-end (x ∷ bs) (suc i) high e = above-end bs i high (omega arith)

-- the neighbours are a step apart
pub neighbours : (step low high : ℕ) (bs : List Block) (i : ℕ) → Rises step low bs high → i ≤ length bs → below low bs i
    + step ≤ above bs i high
neighbours step low high [] i r h = r
neighbours step low high (b ∷ bs) zero r h = r.0
neighbours step low high (b ∷ bs) (suc i) r h = neighbours step b.label high bs i r.1 (omega arith)

-- a label between the neighbours
pub Rises-insert : (low high : ℕ) (bs : List Block) (i : ℕ) (b : Block) → Rises 1 low bs high → i ≤ length bs →
    below low bs i < b.label → b.label < above bs i high → Rises 1 low (insert bs i b) high
Rises-insert low high [] zero b r h lo hi = (omega arith, omega arith)
Rises-insert low high [] (suc i) b r h lo hi = absurd (omega arith)
Rises-insert low high (x ∷ bs) zero b r h lo hi = (omega arith, (omega arith, r.1))
Rises-insert low high (x ∷ bs) (suc i) b r h lo hi = (r.0, Rises-insert x.label high bs i b r.1 (omega arith) lo hi)

-- a block that keeps its label
pub Rises-set : (low high : ℕ) (bs : List Block) (i : ℕ) (b c : Block) → Rises 1 low bs high → slice_get bs i ≡ Some b →
    c.label ≡ b.label → Rises 1 low (slice_set bs i c) high
Rises-set low high [] i b c r e f = r
Rises-set low high (x ∷ bs) zero b c r e f =
    let same : x ≡ b = cc in
    let here : x.label ≡ c.label = ap (λ (y : Block). y.label) same ∙ sym f in
    let first = r.0 in
    (omega arith, subst (λ l. Rises 1 l bs high) here r.1)
Rises-set low high (x ∷ bs) (suc i) b c r e f = (r.0, Rises-set x.label high bs i b c r.1 e f)

-- ---- a block less
rises_from : (low below high : ℕ) (bs : List Block) → low ≤ below → Rises 1 below bs high → Rises 1 low bs high
rises_from low below high [] h r = omega arith
rises_from low below high (b ∷ bs) h r = let first = r.0 in (omega arith, r.1)

pub Rises-removed : (low high : ℕ) (bs : List Block) (i : ℕ) (b : Block) → Rises 1 low bs high → slice_get bs i
    ≡ Some b → Rises 1 low (remove bs i) high
Rises-removed low high [] i b r e = absurd (cc)
Rises-removed low high (x ∷ bs) zero b r e = let first = r.0 in rises_from low x.label high bs (omega arith) r.1
Rises-removed low high (x ∷ bs) (suc i) b r e = (r.0, Rises-removed x.label high bs i b r.1 e)

-- ---- labels at even steps
length-spread : (step low n : ℕ) (bs : List Block) → length (spread step low n bs) ≡ length bs
length-spread step low zero bs = refl
length-spread step low (suc n) [] = refl
length-spread step low (suc n) (b ∷ bs) = ap suc (length-spread step (low + step) n bs)

pub length-front : (step low i n : ℕ) (bs : List Block) → length (take i bs ++ spread step low n (drop i bs))
    ≡ length bs
length-front step low zero n [] = length-spread step low n []
length-front step low zero n (b ∷ bs) = length-spread step low n (b ∷ bs)
length-front step low (suc i) n [] = length-spread step low n []
length-front step low (suc i) n (b ∷ bs) = ap suc (length-front step low i n bs)

unlabelled-spread : (step low n : ℕ) (bs : List Block) → without_labels (spread step low n bs) ≡ without_labels bs
unlabelled-spread step low zero bs = refl
unlabelled-spread step low (suc n) [] = refl
unlabelled-spread step low (suc n) (b ∷ bs) = ap (λ l. unlabelled b ∷ l) (unlabelled-spread step (low + step) n bs)

pub unlabelled-front : (step low i n : ℕ) (bs : List Block) →
    without_labels (take i bs ++ spread step low n (drop i bs)) ≡ without_labels bs
unlabelled-front step low zero n [] = unlabelled-spread step low n []
unlabelled-front step low zero n (b ∷ bs) = unlabelled-spread step low n (b ∷ bs)
unlabelled-front step low (suc i) n [] = unlabelled-spread step low n []
unlabelled-front step low (suc i) n (b ∷ bs) = ap (λ l. unlabelled b ∷ l) (unlabelled-front step low i n bs)

-- the labels of a window rise, and so do those after it
rises_spread : (step was low high n : ℕ) (bs : List Block) → 1 ≤ step → Rises 1 was bs high → low + step * (n + 1)
    ≤ above bs n high → Rises 1 low (spread step low n bs) high
rises_spread step was low high zero [] s r h = omega arith
rises_spread step was low high zero (b ∷ bs) s r h = (omega arith, r.1)
rises_spread step was low high (suc n) [] s r h = omega arith
rises_spread step was low high (suc n) (b ∷ bs) s r h =
    (omega arith, rises_spread step b.label (low + step) high n bs s r.1 (omega arith))

above_next : (b : Block) (bs : List Block) (i n high : ℕ) → above (b ∷ bs) (suc i + n) high ≡ above bs (i + n) high
above_next b bs i n high = ap (λ k. above (b ∷ bs) k high) (let e : suc i + n ≡ suc (i + n) = omega arith in e)

pub rises_front : (step low from high i n : ℕ) (bs : List Block) → 1 ≤ step → Rises 1 low bs high → i ≤ length bs →
    from ≡ below low bs i → from + step * (n + 1) ≤ above bs (i + n) high →
    Rises 1 low (take i bs ++ spread step from n (drop i bs)) high
rises_front step low from high zero n [] s r w e h =
    let fits : low + step * (n + 1) ≤ high = omega arith in
    subst (λ f. Rises 1 low (spread step f n []) high) (sym e) (rises_spread step low low high n [] s r fits)
rises_front step low from high zero n (b ∷ bs) s r w e h =
    let at : 0 + n ≡ n = omega arith in
    let fits = rw at at h in
    subst (λ f. Rises 1 low (spread step f n (b ∷ bs)) high) (sym e)
    (rises_spread step low low high n (b ∷ bs) s r (omega arith))
rises_front step low from high (suc i) n [] s r w e h = absurd (omega arith)
rises_front step low from high (suc i) n (b ∷ bs) s r w e h =
    let same = above_next b bs i n high in
    (r.0, rises_front step b.label from high i n bs s r.1 (omega arith) e (omega (arith, same, h)))

-- the neighbours of a rank in a window are a step apart
gap_spread : (step was low high n rank : ℕ) (bs : List Block) → Rises 1 was bs high → low + step * (n + 1)
    ≤ above bs n high → rank ≤ n → below low (spread step low n bs) rank + step ≤ above (spread step low n bs) rank high
gap_spread step was low high zero zero [] r h k = omega arith
gap_spread step was low high zero zero (b ∷ bs) r h k = omega arith
gap_spread step was low high zero (suc rank) bs r h k = absurd (omega arith)
gap_spread step was low high (suc n) zero [] r h k = omega arith
gap_spread step was low high (suc n) zero (b ∷ bs) r h k = omega arith
gap_spread step was low high (suc n) (suc rank) [] r h k = omega arith
gap_spread step was low high (suc n) (suc rank) (b ∷ bs) r h k = gap_spread step b.label (low + step) high n rank bs r.1
    (omega arith) (omega arith)

pub gap_front : (step low from high i n rank : ℕ) (bs : List Block) → Rises 1 low bs high → i ≤ length bs →
    from ≡ below low bs i → from + step * (n + 1) ≤ above bs (i + n) high → i ≤ rank → rank ≤ i + n
    → below low (take i bs ++ spread step from n (drop i bs)) rank + step
    ≤ above (take i bs ++ spread step from n (drop i bs)) rank high
gap_front step low from high zero n rank [] r w e h lo hi =
    let fits : low + step * (n + 1) ≤ high = omega arith in
    subst (λ f. below low (spread step f n []) rank + step ≤ above (spread step f n []) rank high) (sym e)
    (gap_spread step low low high n rank [] r fits (omega arith))
gap_front step low from high zero n rank (b ∷ bs) r w e h lo hi =
    let at : 0 + n ≡ n = omega arith in
    let fits = rw at at h in
    subst (λ f. below low (spread step f n (b ∷ bs)) rank + step ≤ above (spread step f n (b ∷ bs)) rank high) (sym e)
    (gap_spread step low low high n rank (b ∷ bs) r (omega arith) (omega arith))
gap_front step low from high (suc i) n rank [] r w e h lo hi = absurd (omega arith)
gap_front step low from high (suc i) n zero (b ∷ bs) r w e h lo hi = absurd (omega arith)
gap_front step low from high (suc i) n (suc rank) (b ∷ bs) r w e h lo hi =
    let same = above_next b bs i n high in
    gap_front step b.label from high i n rank bs r.1 (omega arith) e (omega (arith, same, h)) (omega arith)
    (omega arith)

-- one more block with its new label
spread_one : (step low label n : ℕ) (bs : List Block) (b : Block) → slice_get (spread step low n bs) n ≡ Some b →
    label ≡ low + step * n + step
    → slice_set (spread step low n bs) n (record b { label = label }) ≡ spread step low (suc n) bs
spread_one step low label zero [] b e is = absurd (cc)
spread_one step low label zero (x ∷ bs) b e is =
    let same : x ≡ b = cc in
    let here : label ≡ low + step = omega arith in
    subst (λ (y : Block). (let it : Block = record y { label = label } in it) ∷ bs
    ≡ (let it : Block = record x { label = low + step } in it) ∷ bs) same
    (ap (λ l. (let it : Block = record x { label = l } in it) ∷ bs) here)
spread_one step low label (suc n) [] b e is = absurd (cc)
spread_one step low label (suc n) (x ∷ bs) b e is =
    ap (λ l. (let it : Block = record x { label = low + step } in it) ∷ l)
    (spread_one step (low + step) label n bs b e (omega arith))

pub front_more : (step low label i n rank : ℕ) (bs : List Block) (b : Block) →
    slice_get (take i bs ++ spread step low n (drop i bs)) rank ≡ Some b → rank ≡ i + n → i ≤ length bs → label ≡ low
    + step * n + step
    → slice_set (take i bs ++ spread step low n (drop i bs)) rank (record b { label = label }) ≡ take i bs
    ++ spread step low (suc n) (drop i bs)
front_more step low label zero n rank [] b e at within is =
    let there : rank ≡ n = omega arith in
    subst (λ k. slice_set (spread step low n []) k (record b { label = label }) ≡ spread step low (suc n) [])
    (sym there)
    (spread_one step low label n [] b (ap (slice_get (spread step low n [])) (sym there) ∙ e) is)
front_more step low label zero n rank (x ∷ bs) b e at within is =
    let there : rank ≡ n = omega arith in
    subst (λ k. slice_set (spread step low n (x ∷ bs)) k (record b { label = label }) ≡ spread step low (suc n)
    (x ∷ bs)) (sym there)
    (spread_one step low label n (x ∷ bs) b (ap (slice_get (spread step low n (x ∷ bs))) (sym there) ∙ e) is)
front_more step low label (suc i) n rank [] b e at within is = absurd (omega arith)
front_more step low label (suc i) n zero (x ∷ bs) b e at within is = absurd (omega arith)
front_more step low label (suc i) n (suc rank) (x ∷ bs) b e at within is =
    ap (λ l. x ∷ l) (front_more step low label i n rank bs b e (omega arith) (omega arith) is)

-- ---- with all blocks labelled, at steps of two or more
pub two_fit : (n : ℕ) → n ≤ MAX_CHARACTERS → 2 ≤ LAST_LABEL / (n + 1)
two_fit n h = (le-div_iff_mul-le {k = n + 1} {x = 2} {y = LAST_LABEL} (omega arith)).1 (omega arith)

pub steps_under : (step n m : ℕ) → n ≤ m → step * n ≤ step * m
steps_under zero n m h = omega arith
steps_under (suc step) n m h = let rest = steps_under step n m h in omega (arith, rest)

pub above_under : (low high i : ℕ) (bs : List Block) → Rises 1 low bs high → above bs i high ≤ high
above_under low high i [] r = omega arith
above_under low high zero (b ∷ bs) r = label_under b.label high bs r.1
  where
    label_under : (low high : ℕ) (bs : List Block) → Rises 1 low bs high → low ≤ high
    label_under low high [] r = omega arith
    label_under low high (b ∷ bs) r = let first = r.0 in let rest = label_under b.label high bs r.1 in omega arith
above_under low high (suc i) (b ∷ bs) r = above_under b.label high i bs r.1

-- the labels at two ranks
pub low_under_high : (low high i j : ℕ) (bs : List Block) → Rises 1 low bs high → i ≤ j → j ≤ length bs → below low bs i
    ≤ above bs j high
low_under_high low high i j [] r h k = omega arith
low_under_high low high zero zero (b ∷ bs) r h k = let first = r.0 in omega arith
low_under_high low high zero (suc j) (b ∷ bs) r h k = let first = r.0 in let rest =
    low_under_high b.label high zero j bs r.1 (omega arith) (omega arith) in let same = below-zero b.label bs in
    omega arith
low_under_high low high (suc i) zero (b ∷ bs) r h k = absurd (omega arith)
low_under_high low high (suc i) (suc j) (b ∷ bs) r h k = low_under_high b.label high i j bs r.1 (omega arith)
    (omega arith)

-- ---- after a change of the block at a rank
pub above-set : (bs : List Block) (i j : ℕ) (c : Block) (high : ℕ) → j ≡ suc i → above (slice_set bs i c) j high
    ≡ above bs j high
above-set [] i j c high is = refl
above-set (x ∷ bs) i zero c high is = absurd (omega arith)
above-set (x ∷ bs) zero (suc zero) c high is = refl
above-set (x ∷ bs) zero (suc (suc j)) c high is = absurd (omega arith)
above-set (x ∷ bs) (suc i) (suc j) c high is = above-set bs i j c high (omega arith)

pub get-set : {A : Type 0} (xs : List A) (i : ℕ) (y : A) → i < length xs → slice_get (slice_set xs i y) i ≡ Some y
get-set [] i y h = absurd (omega arith)
get-set (x ∷ xs) zero y h = refl
get-set (x ∷ xs) (suc i) y h = get-set xs i y (omega arith)
