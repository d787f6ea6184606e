-- The items of a page are what stands in its bytes.
use Rattle.std.proofs.Common.{◌≡◌, ℕ, zero, suc, ◌+◌, ◌<◌, ◌≤◌, List, [], ◌∷◌, ◌++◌, length, take, drop, flat_map, slice_get, Some, None, is_some, Bool, true, if◌then◌else◌}
use Rattle.std.proofs.Common.{refl, sym, ap, ◌∙◌, arith, append_assoc, append-nil, length-append, length-take, get_or, ◌*◌, mul-le-mul_right, ltb}
use Rattle.std.specs.List.{AllByRecursion}
use Rattle.std.proofs.lemmas.Bool.{false≢true, ltb-true, ltb-false}
use Rattle.pad_model.proofs.Newer.{split}
use Rattle.op_log.specs.Items.{Items}
use Rattle.op_log.specs.declared.page.OpPage.TheInside.{Inside}
use Rattle.std.proofs.lemmas.List.{take_all}
use Rattle.std.proofs.lemmas.List.Concat.{flat_map-append}
use Rattle.pad_model.proofs.Each.{each-append}
use Rattle.op_log.specs.Number.{number_bytes, after_number}
use Rattle.op_log.specs.Page.{page_shown, framed, item_at, behind_item, behind, items_of, IsShort, Hold, IsFramed}
use Rattle.op_log.proofs.Numbers.{number_at_bytes, after_number_bytes}

-- as many items as asked for
pub length-items_of : (n : ℕ) (bytes : List ℕ) → length (items_of n bytes) ≡ n
unfolding items_of
length-items_of zero bytes = refl
length-items_of (suc n) bytes = ap suc (length-items_of n (behind_item bytes))

take_first : (xs ys : List ℕ) → take (length xs) (xs ++ ys) ≡ xs
take_first [] ys = refl
take_first (x ∷ xs) ys = ap (λ (zs : List ℕ). x ∷ zs) (take_first xs ys)

drop_first : (xs ys : List ℕ) → drop (length xs) (xs ++ ys) ≡ ys
drop_first [] ys = refl
drop_first (x ∷ xs) ys = drop_first xs ys

both_parts : (n : ℕ) (xs : List ℕ) → take n xs ++ drop n xs ≡ xs
both_parts zero xs = refl
both_parts (suc n) [] = refl
both_parts (suc n) (x ∷ xs) = ap (λ (zs : List ℕ). x ∷ zs) (both_parts n xs)

-- an item is read back from behind its length
pub item_back : (item rest : List ℕ) → IsShort item → item_at (framed item ++ rest) ≡ item
item_back item rest short =
    let parted = append_assoc (number_bytes (length item)) item rest in
    ap item_at parted
    ∙ ap (λ (n : ℕ). take n (after_number (number_bytes (length item) ++ (item ++ rest))))
    (number_at_bytes (length item) (item ++ rest) short)
    ∙ ap (λ (b : List ℕ). take (length item) b) (after_number_bytes (length item) (item ++ rest))
    ∙ take_first item rest

pub behind_back : (item rest : List ℕ) → IsShort item → behind_item (framed item ++ rest) ≡ rest
behind_back item rest short =
    let parted = append_assoc (number_bytes (length item)) item rest in
    ap behind_item parted
    ∙ ap (λ (n : ℕ). drop n (after_number (number_bytes (length item) ++ (item ++ rest))))
    (number_at_bytes (length item) (item ++ rest) short)
    ∙ ap (λ (b : List ℕ). drop (length item) b) (after_number_bytes (length item) (item ++ rest))
    ∙ drop_first item rest

-- so are several, one behind the other
pub items_back : (items : List (List ℕ)) (rest : List ℕ) → AllByRecursion IsShort items →
    items_of (length items) (flat_map framed items ++ rest) ≡ items
unfolding items_of
items_back [] rest short = refl
items_back (item ∷ items) rest short =
    let parted = append_assoc (framed item) (flat_map framed items) rest in
    let others = flat_map framed items ++ rest in
    ap (items_of (suc (length items))) parted
    ∙ ap (λ (x : List ℕ). x ∷ items_of (length items) (behind_item (framed item ++ others)))
    (item_back item others short.0)
    ∙ ap (λ (b : List ℕ). item ∷ items_of (length items) b) (behind_back item others short.0)
    ∙ ap (λ (xs : List (List ℕ)). item ∷ xs) (items_back items rest short.1)

-- what is written behind the items leaves them
pub items_kept : (count end : ℕ) (old new : List ℕ) → Hold count end old → take end new ≡ take end old →
    items_of count new ≡ items_of count old
items_kept count end old new hold same =
    let items = items_of count old in
    ap (items_of count) (sym (both_parts end new) ∙ ap (λ (b : List ℕ). b ++ drop end new) (same ∙ hold.items))
    ∙ ap (λ (n : ℕ). items_of n (flat_map framed items ++ drop end new)) (sym (length-items_of count old))
    ∙ items_back items (drop end new) hold.short

pub hold_kept : (count end : ℕ) (old new : List ℕ) → Hold count end old → take end new ≡ take end old → end ≤ length new →
    Hold count end new
hold_kept count end old new hold same within =
    let kept = items_kept count end old new hold same in
    record {
      within = within;
      items = same ∙ hold.items ∙ ap (flat_map framed) (sym kept);
      short = rw kept hold.short;
    }

-- where an item stands behind the end, the bytes are the items and that one
whole : (count end : ℕ) (bytes : List ℕ) → Hold count end bytes → IsFramed (drop end bytes) →
    bytes ≡ flat_map framed (items_of count bytes ++ item_at (drop end bytes) ∷ [])
whole count end bytes hold one =
    let items = items_of count bytes in
    sym (both_parts end bytes) ∙ ap (λ (b : List ℕ). b ++ drop end bytes) hold.items
    ∙ ap (λ (b : List ℕ). flat_map framed items ++ b) (one.0 ∙ sym (append-nil (framed (item_at (drop end bytes)))))
    ∙ sym (flat_map-append framed items (item_at (drop end bytes) ∷ []))

-- the item that stands behind the end becomes the last
pub items_more : (count end : ℕ) (bytes : List ℕ) → Hold count end bytes → IsFramed (drop end bytes) →
    items_of (count + 1) bytes ≡ items_of count bytes ++ item_at (drop end bytes) ∷ []
items_more count end bytes hold one =
    let items = items_of count bytes in
    let item = item_at (drop end bytes) in
    let more = items ++ item ∷ [] in
    let long : length more ≡ count + 1 = rw (length-append, length-items_of) refl in
    ap (items_of (count + 1)) (whole count end bytes hold one ∙ sym (append-nil (flat_map framed more)))
    ∙ ap (λ (n : ℕ). items_of n (flat_map framed more ++ [])) (sym long)
    ∙ items_back more [] (each-append IsShort items (item ∷ []) hold.short (one.1, tt))

pub hold_more : (count end all : ℕ) (bytes new : List ℕ) → Hold count end bytes → IsFramed (drop end bytes) →
    all ≡ length bytes → new ≡ bytes → Hold (count + 1) all new
hold_more count end all bytes new hold one is same =
    rw (same, is) (record {
      within = omega arith;
      items = take_all (length bytes) bytes (omega arith) ∙ whole count end bytes hold one
          ∙ ap (flat_map framed) (sym (items_more count end bytes hold one));
      short = rw (items_more count end bytes hold one)
          (each-append IsShort (items_of count bytes) (item_at (drop end bytes) ∷ []) hold.short (one.1, tt));
    })

-- an item is ready where one is shown
pub is_ready : (p : Inside) (shown : Items) → page_shown p ≡ shown → is_some shown.ready ≡ true → p.is_ready ≡ true
is_ready p shown is ready =
    split p.is_ready (λ e. e)
    (λ e. absurd (false≢true (sym (ap (λ (b : Bool). is_some (if b then Some (item_at (drop p.end p.bytes.items))
    else None)) e) ∙ ap (λ (s : Items). is_some s.ready) is ∙ ready)))

-- and it is the one that is shown
pub last_item : (p : Inside) (shown : Items) (item : List ℕ) → page_shown p ≡ shown → shown.ready ≡ Some item →
    items_of p.count p.bytes.items ++ item_at (drop p.end p.bytes.items) ∷ [] ≡ shown.items ++ item ∷ []
last_item p shown item is ready =
    let there = is_ready p shown is (ap is_some ready) in
    let some : Some (item_at (drop p.end p.bytes.items)) ≡ Some item =
    sym (ap (λ (b : Bool). if b then Some (item_at (drop p.end p.bytes.items)) else None) there)
    ∙ ap (λ (s : Items). s.ready) is ∙ ready in
    let same : item_at (drop p.end p.bytes.items) ≡ item = cc in
    ap (λ (xs : List (List ℕ)). xs ++ item_at (drop p.end p.bytes.items) ∷ []) (ap (λ (s : Items). s.items) is)
    ∙ ap (λ (x : List ℕ). shown.items ++ x ∷ []) same

-- ---- what is written behind the end
pub written_behind : (end : ℕ) (old cut new more : List ℕ) → end ≤ length old → cut ≡ take end old → new ≡ cut ++ more →
    (take end new ≡ take end old) × (end ≤ length new) × (drop end new ≡ more)
written_behind end old cut new more within is added =
    let long : length (take end old) ≡ end = omega (arith, length-take end old) in
    let whole : new ≡ take end old ++ more = added ∙ ap (λ (b : List ℕ). b ++ more) is in (
      ap (take end) whole ∙ ap (λ (n : ℕ). take n (take end old ++ more)) (sym long) ∙ take_first (take end old) more,
      omega (arith, ap length whole, length-append (take end old) more),
      ap (drop end) whole ∙ ap (λ (n : ℕ). drop n (take end old ++ more)) (sym long) ∙ drop_first (take end old) more,
    )

-- the same of what is written in part
pub written_partly : (end cut_len : ℕ) (old cut new : List ℕ) → end ≤ length old → cut ≡ take end old → cut_len ≡ end →
    take cut_len new ≡ cut → (take end new ≡ take end old) × (end ≤ length new)
written_partly end cut_len old cut new within is same kept =
    let taken : take end new ≡ take end old = ap (λ (n : ℕ). take n new) (sym same) ∙ kept ∙ is in
    (taken, omega (arith, ap length taken, length-take end old, length-take end new))

-- an item behind its length is framed
pub item_framed : (item bytes : List ℕ) → IsShort item → bytes ≡ framed item → IsFramed bytes × (item_at bytes ≡ item)
item_framed item bytes short is =
    let at : item_at bytes ≡ item = ap item_at (is ∙ sym (append-nil (framed item))) ∙ item_back item [] short in
    ((is ∙ ap framed (sym at), rw at short), at)

-- ---- items at places
pub get_past : {A : Type 0} (xs : List A) (k : ℕ) → length xs ≤ k → slice_get xs k ≡ None
get_past [] k le = refl
get_past (x ∷ xs) zero le = absurd (omega arith)
get_past (x ∷ xs) (suc k) le = get_past xs k (omega arith)

behind_front : (k : ℕ) (bytes : List ℕ) → behind k (behind_item bytes) ≡ behind_item (behind k bytes)
behind_front zero bytes = refl
behind_front (suc k) bytes = ap behind_item (behind_front k bytes)

pub get_item : (n k : ℕ) (bytes : List ℕ) → k < n → slice_get (items_of n bytes) k ≡ Some (item_at (behind k bytes))
unfolding items_of
get_item zero k bytes lt = absurd (omega arith)
get_item (suc n) zero bytes lt = refl
get_item (suc n) (suc k) bytes lt = get_item n k (behind_item bytes) (omega arith)
    ∙ ap (λ (b : List ℕ). Some (item_at b)) (behind_front k bytes)

get_left : {A : Type 0} (xs ys : List A) (k : ℕ) → k < length xs → slice_get (xs ++ ys) k ≡ slice_get xs k
get_left [] ys k lt = absurd (omega arith)
get_left (x ∷ xs) ys zero lt = refl
get_left (x ∷ xs) ys (suc k) lt = get_left xs ys k (omega arith)

get_right : {A : Type 0} (xs ys : List A) (k n : ℕ) → k ≡ length xs + n → slice_get (xs ++ ys) k ≡ slice_get ys n
get_right [] ys k n is = ap (slice_get ys) (let e : k ≡ n = omega arith in e)
get_right (x ∷ xs) ys zero n is = absurd (omega arith)
get_right (x ∷ xs) ys (suc k) n is = get_right xs ys k n (omega arith)

-- a place in pages of one size
pub get_in_page : {A B : Type 0} (f : A → List B) (n : ℕ) → ((x : A) → length (f x) ≡ n) → (pages : List A) (last : List B)
    (k q r : ℕ) (d : A) → q < length pages → r < n → k ≡ q * n + r →
    slice_get (flat_map f pages ++ last) k ≡ slice_get (f (get_or pages q d)) r
get_in_page f n size [] last k q r d lt small is = absurd (omega arith)
get_in_page f n size (p ∷ pages) last k zero r d lt small is =
    let here : k ≡ r = omega arith in
    ap (λ (xs : List _). slice_get xs k) (append_assoc (f p) (flat_map f pages) last)
    ∙ get_left (f p) (flat_map f pages ++ last) k (omega (arith, size p)) ∙ ap (slice_get (f p)) here
get_in_page f n size (p ∷ pages) last k (suc q) r d lt small is =
    ap (λ (xs : List _). slice_get xs k) (append_assoc (f p) (flat_map f pages) last)
    ∙ get_right (f p) (flat_map f pages ++ last) k (q * n + r) (omega (arith, size p))
    ∙ get_in_page f n size pages last (q * n + r) q r d (omega arith) small refl

length_pages : {A B : Type 0} (f : A → List B) (n : ℕ) → ((x : A) → length (f x) ≡ n) → (pages : List A) →
    length (flat_map f pages) ≡ length pages * n
length_pages f n size [] = omega arith
length_pages f n size (p ∷ pages) = rw length-append (omega (arith, size p, length_pages f n size pages))

-- a place behind them
pub get_in_last : {A B : Type 0} (f : A → List B) (n : ℕ) → ((x : A) → length (f x) ≡ n) → (pages : List A) (last : List B)
    (k q r : ℕ) → length pages ≤ q → r < n → length last < n → k ≡ q * n + r → k < length (flat_map f pages ++ last) →
    slice_get (flat_map f pages ++ last) k ≡ slice_get last r
get_in_last f n size pages last k q r le small few is within =
    let long = length_pages f n size pages in
    let all = length-append (flat_map f pages) last in
    let below : q ≤ length pages = split (ltb (length pages) q)
    (λ t. let over = mul-le-mul_right n (let one : length pages + 1 ≤ q = omega (arith, ltb-true (length pages) q t) in one)
    in absurd (omega (arith, over, long, all)))
    (λ t. ltb-false (length pages) q t) in
    let same : q ≡ length pages = omega arith in
    let first : q * n ≡ length pages * n = ap (λ (m : ℕ). m * n) same in
    get_right (flat_map f pages) last k r (omega arith)
