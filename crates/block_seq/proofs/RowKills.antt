-- Deaths of the blocks of spans, one block after the other.
use Rattle.std.proofs.Common.{◌≡◌, ℕ, zero, suc, ◌+◌, ◌-◌, ◌≤◌, ◌<◌, inl, inr, Bool, true, false, ◌||◌, List, [], ◌∷◌}
use Rattle.std.proofs.Common.{◌++◌, length, take, map, sum_by, flat_map, is_none, is_some, Option, Some, None, refl}
use Rattle.std.proofs.Common.{sym, ap, ap₂, ◌∙◌, subst, arith, slice_get, slice_set, get_or}
use Rattle.std.specs.List.{list_any}
use Rattle.std.proofs.lemmas.Bool.{cases_lt}
use Rattle.std.proofs.lemmas.List.{take_more}
use Rattle.std.proofs.lemmas.List.Folds.{list_any-append}
use Rattle.std.proofs.lemmas.List.Sums.{sum_by-cons, sum_by_more}
use Rattle.pad_model.specs.Stamp.{Stamp}
use Rattle.pad_model.specs.Operation.{span_stamps}
use Rattle.pad_model.specs.Visible.{is_erased}
use Rattle.pad_model.specs.declared.op.Span.{Span}
use Rattle.pad_model.proofs.Erase.{in_span, is_erased-spans}
use Rattle.pad_model.proofs.Newer.{split}
use Rattle.ident_index.specs.Index.{Index, Covers, Holds, HoldsNone, IsSound, stamp_behind}
use Rattle.ident_index.proofs.Order.{same_stamps}
use Rattle.blocks.specs.declared.block.Block.{Block}
use Rattle.blocks.specs.Blocks.{IsEdge, IsListed, IsSized}
use Rattle.blocks.proofs.Entries.{each_get}
use Rattle.blocks.proofs.Parts.{holds_here, what_holds}
use Rattle.block_seq.specs.RowSlides.{named_len}
use Rattle.block_seq.specs.Rows.{is_killed, killed, hidden_len, span_from}
use Rattle.block_seq.proofs.BlockCells.{covers-in_span, in_span-covers}
use Rattle.block_seq.proofs.BlockScan.{one_rank}
use Rattle.block_seq.proofs.RowErase.{set_same}

-- whether spans name a stamp
abbrev named : List Span → Stamp → Bool
named spans s = is_erased (flat_map span_stamps spans) s

-- ---- a block by itself
not_none : {A : Type 0} (o : Option A) → is_some o ≡ true → is_none o ≡ false
not_none None e = absurd (cc)
not_none (Some x) e = refl

is_nothing : {A : Type 0} (o : Option A) → is_some o ≡ false → is_none o ≡ true
is_nothing None e = refl
is_nothing (Some x) e = absurd (cc)

dead_one : (rev : ℕ) (spans : List Span) (b : Block) → is_some b.died ≡ true → (killed rev spans b ≡ b)
    × (hidden_len spans b ≡ 0)
dead_one rev spans b e = let dead = not_none b.died e in split (named spans b.first) (λ n. rw (n, dead) (refl, refl))
    (λ n. rw n (refl, refl))

alive_one : (rev : ℕ) (spans : List Span) (b : Block) → is_some b.died ≡ false → named spans b.first ≡ true →
    (killed rev spans b ≡ (let it : Block = record b { died = Some rev } in it)) × (hidden_len spans b ≡ b.len)
alive_one rev spans b e n = let alive = is_nothing b.died e in rw (n, alive) (refl, refl)

unnamed_one : (rev : ℕ) (spans : List Span) (b : Block) → named spans b.first ≡ false → (killed rev spans b ≡ b)
    × (hidden_len spans b ≡ 0)
unnamed_one rev spans b n = rw n (refl, refl)

-- ---- two deletions, one after the other
abbrev Joins : List Span → List Span → List Span → Type 0
Joins first then all = (s : Stamp) → named all s ≡ (named first s || named then s)

abbrev Both : ℕ → List Span → List Span → List Span → Block → Type 0
Both rev first then all b = (killed rev then (killed rev first b) ≡ killed rev all b)
    × (hidden_len all b ≡ hidden_len first b + hidden_len then (killed rev first b))

-- from what each of the two does
both_from : (rev : ℕ) (first then all : List Span) (b mid end : Block) (i j k : ℕ) → (killed rev first b ≡ mid)
    × (hidden_len first b ≡ i) → (killed rev then mid ≡ end) × (hidden_len then mid ≡ j) → (killed rev all b ≡ end)
    × (hidden_len all b ≡ k) → k ≡ i + j
    → Both rev first then all b
both_from rev first then all b mid end i j k one two three sum =
    let after : hidden_len then (killed rev first b) ≡ j = ap (hidden_len then) one.0 ∙ two.1 in
    let before = one.1 in
    let whole = three.1 in
    (ap (killed rev then) one.0 ∙ two.0 ∙ sym three.0, omega arith)

one_then : (rev : ℕ) (first then all : List Span) (b : Block) → Joins first then all → Both rev first then all b
one_then rev first then all b joins =
    split (is_some b.died)
    (λ dead. both_from rev first then all b b b 0 0 0 (dead_one rev first b dead) (dead_one rev then b dead)
    (dead_one rev all b dead) refl)
    (λ alive. let marked : Block = record b { died = Some rev } in
    split (named first b.first)
    (λ x. both_from rev first then all b marked marked b.len 0 b.len (alive_one rev first b alive x)
    (dead_one rev then marked refl) (alive_one rev all b alive (joins b.first ∙ (rw x refl))) (omega arith))
    (λ x. split (named then b.first)
    (λ y. both_from rev first then all b b marked 0 b.len b.len (unnamed_one rev first b x)
    (alive_one rev then b alive y) (alive_one rev all b alive (joins b.first ∙ (rw (x, y) refl))) (omega arith))
    (λ y. both_from rev first then all b b b 0 0 0 (unnamed_one rev first b x) (unnamed_one rev then b y)
    (unnamed_one rev all b (joins b.first ∙ (rw (x, y) refl))) refl)))

pub killed_then : (rev : ℕ) (first then all : List Span) (bs : List Block) → Joins first then all →
    map (killed rev then) (map (killed rev first) bs) ≡ map (killed rev all) bs
killed_then rev first then all [] j = refl
killed_then rev first then all (b ∷ bs) j = ap₂ (λ (x : Block) l. x ∷ l) (one_then rev first then all b j).0
    (killed_then rev first then all bs j)

pub hidden_then : (rev : ℕ) (first then all : List Span) (bs : List Block) → Joins first then all →
    sum_by (hidden_len all) bs ≡ sum_by (hidden_len first) bs + sum_by (hidden_len then) (map (killed rev first) bs)
hidden_then rev first then all [] j = refl
hidden_then rev first then all (b ∷ bs) j =
    let here = (one_then rev first then all b j).1 in
    let rest = hidden_then rev first then all bs j in
    rw (
      sum_by-cons (hidden_len all) b bs,
      sum_by-cons (hidden_len first) b bs,
      sum_by-cons (hidden_len then)
          (killed rev first b) (map (killed rev first) bs),
    ) (omega (arith, here, rest))

-- ---- where no block is named, and where one is
pub none_killed : (rev : ℕ) (spans : List Span) (bs : List Block) → ((i : ℕ) (b : Block) → slice_get bs i ≡ Some b →
    named spans b.first ≡ false) → bs ≡ map (killed rev spans) bs
none_killed rev spans [] h = refl
none_killed rev spans (b ∷ bs) h = ap₂ (λ (x : Block) l. x ∷ l) (rw (h 0 b refl) refl)
    (none_killed rev spans bs (λ i x e. h (suc i) x e))

pub none_hidden : (spans : List Span) (bs : List Block) → ((i : ℕ) (b : Block) → slice_get bs i ≡ Some b →
    named spans b.first ≡ false) → 0 ≡ sum_by (hidden_len spans) bs
none_hidden spans [] h = refl
none_hidden spans (b ∷ bs) h =
    let here : hidden_len spans b ≡ 0 = rw (h 0 b refl) refl in
    let rest = none_hidden spans bs (λ i x e. h (suc i) x e) in
    rw (sum_by-cons (hidden_len spans) b bs) (omega (arith, here, rest))

abbrev OnlyAt : List Span → List Block → ℕ → Type 0
OnlyAt spans bs rank = (i : ℕ) (x : Block) → slice_get bs i ≡ Some x → named spans x.first ≡ true → i ≡ rank

others : (spans : List Span) (b : Block) (bs : List Block) → OnlyAt spans (b ∷ bs) 0 → (i : ℕ) (x : Block) →
    slice_get bs i ≡ Some x → named spans x.first ≡ false
others spans b bs only i x e = split (named spans x.first) (λ t. absurd (omega (arith, only (suc i) x e t))) (λ f. f)

pub one_killed : (rev rank : ℕ) (spans : List Span) (bs : List Block) (b : Block) → slice_get bs rank ≡ Some b →
    OnlyAt spans bs rank → slice_set bs rank (killed rev spans b) ≡ map (killed rev spans) bs
one_killed rev rank spans [] b e only = absurd (cc)
one_killed rev zero spans (x ∷ bs) b e only =
    let same : x ≡ b = cc in
    ap₂ (λ (y : Block) l. y ∷ l) (ap (killed rev spans) (sym same)) (none_killed rev spans bs (others spans x bs only))
one_killed rev (suc rank) spans (x ∷ bs) b e only =
    let here : named spans x.first ≡ false = split (named spans x.first) (λ t. absurd (omega (arith, only 0 x refl t)))
    (λ f. f) in
    ap₂ (λ (y : Block) l. y ∷ l) (rw here refl)
    (one_killed rev rank spans bs b e (λ i y f t. let next = only (suc i) y f t in omega (arith, next)))

pub one_hidden : (rank : ℕ) (spans : List Span) (bs : List Block) (b : Block) → slice_get bs rank ≡ Some b →
    OnlyAt spans bs rank → hidden_len spans b ≡ sum_by (hidden_len spans) bs
one_hidden rank spans [] b e only = absurd (cc)
one_hidden zero spans (x ∷ bs) b e only =
    let same : x ≡ b = cc in
    let none = none_hidden spans bs (others spans x bs only) in
    let here : hidden_len spans x ≡ hidden_len spans b = ap (hidden_len spans) same in
    rw (sum_by-cons (hidden_len spans) x bs) (omega (arith, none, here))
one_hidden (suc rank) spans (x ∷ bs) b e only =
    let here : named spans x.first ≡ false = split (named spans x.first) (λ t. absurd (omega (arith, only 0 x refl t)))
    (λ f. f) in
    let nothing : hidden_len spans x ≡ 0 = rw here refl in
    let rest = one_hidden rank spans bs b e (λ i y f t. let next = only (suc i) y f t in omega (arith, next)) in
    rw (sum_by-cons (hidden_len spans) x bs) (omega (arith, nothing, rest))

-- ---- one span
one_named : (first : Stamp) (n : ℕ) (s : Stamp) → named (span_from first n) s ≡ in_span first n s
one_named first n s = is_erased-spans (span_from first n) s ∙ or_none (in_span first n s)
  where
    or_none : (b : Bool) → (b || false) ≡ b
    or_none true = refl
    or_none false = refl

named_covers : (first : Stamp) (n : ℕ) (s : Stamp) → named (span_from first n) s ≡ true → Covers first n s
named_covers first n s e = in_span-covers first n s (sym (one_named first n s) ∙ e)

covers_named : (first : Stamp) (n : ℕ) (s : Stamp) → Covers first n s → named (span_from first n) s ≡ true
covers_named first n s c = one_named first n s ∙ covers-in_span first n s c

-- a span in two parts
pub part_joins : (first : Stamp) (done more : ℕ) → Joins (span_from first done)
    (span_from (stamp_behind first done) more) (span_from first (done + more))
part_joins first done more s =
    split (named (span_from first done) s)
    (λ in_first. let c = named_covers first done s in_first in
    rw in_first (covers_named first (done + more) s (c.0, c.1, omega (arith, c.2))))
    (λ out. split (named (span_from (stamp_behind first done) more) s)
    (λ in_then. let c = named_covers (stamp_behind first done) more s in_then in
    rw (out, in_then) (covers_named first (done + more) s (c.0, omega (arith, c.1), omega (arith, c.2))))
    (λ also. split (named (span_from first (done + more)) s)
    (λ all. let c = named_covers first (done + more) s all in
    elim (cases_lt s.counter (first.counter + done)) [
      | inl before ↦ absurd (cc (covers_named first done s (c.0, c.1, before), out))
      | inr from ↦ absurd (cc (covers_named (stamp_behind first done) more s (c.0, from, omega (arith, c.2)), also))
    ])
    (λ none. rw (out, also) none)))

pub nothing_named : (first s : Stamp) → named (span_from first 0) s ≡ false
nothing_named first s = split (named (span_from first 0) s) (λ e. let c = named_covers first 0 s e in let lo = c.1 in
    let hi = c.2 in absurd (omega arith)) (λ f. f)

-- one span more
pub span_joins : (spans : List Span) (i j : ℕ) (span : Span) → i < length spans → span ≡ get_or spans i span →
    j ≡ i + 1 → Joins (take i spans) (span_from span.first span.len) (take j spans)
span_joins spans i j span h is next s =
    ap (λ l. named l s) (ap (λ k. take k spans) next ∙ take_more spans i span h)
    ∙ is_erased-spans (take i spans ++ get_or spans i span ∷ []) s
    ∙ list_any-append (λ x. in_span x.first x.len s) (take i spans) (get_or spans i span ∷ [])
    ∙ ap₂ (λ x y. x || y) (sym (is_erased-spans (take i spans) s))
    (ap (λ (x : Span). list_any (λ y. in_span y.first y.len s) (x ∷ [])) (sym is) ∙ sym (is_erased-spans (span ∷ []) s))

-- ---- the block that begins with a stamp
module _ (m : Index) (bs : List Block) (sound : IsSound m) (k : IsListed m bs) where
  same_rank : (i rank : ℕ) (x b : Block) → slice_get bs i ≡ Some x → slice_get bs rank ≡ Some b → x.first ≡ b.first →
      i ≡ rank
  same_rank i rank x b f e same =
      elim (cases_lt i rank) [
        | inl less ↦ absurd (one_rank bs i rank x b k.apart f e less same)
        | inr from ↦ elim (cases_lt rank i) [
          | inl more ↦ absurd (one_rank bs rank i b x k.apart e f more (sym same))
          | inr to ↦ omega arith
        ]
      ]

  -- a block holds its first stamp
  holds_first : (i : ℕ) (x : Block) → slice_get bs i ≡ Some x → Holds m x.first x.first
  holds_first i x f = let sized = each_get IsSized bs i x k.sized f in let some = sized.0 in
      holds_here m bs i x x.first k f (refl, omega arith, omega arith)

  -- a block that begins inside another, or with it, is that one
  inside_block : (i rank : ℕ) (x b : Block) → slice_get bs i ≡ Some x → slice_get bs rank ≡ Some b →
      Covers b.first b.len x.first → i ≡ rank
  inside_block i rank x b f e c = same_rank i rank x b f e (sound.apart x.first x.first b.first (holds_first i x f)
      (holds_here m bs rank b x.first k e c))

  -- no other block is named by the stamps of a block
  pub only_block : (rank : ℕ) (b : Block) (stamp : Stamp) → slice_get bs rank ≡ Some b → b.first ≡ stamp →
      OnlyAt (span_from stamp b.len) bs rank
  only_block rank b stamp e is i x f t =
      let c = named_covers stamp b.len x.first t in
      inside_block i rank x b f e (subst (λ (s : Stamp). Covers s b.len x.first) (sym is) c)

  -- what follows a block begins one
  pub edge_behind : (rank : ℕ) (b : Block) (stamp : Stamp) → slice_get bs rank ≡ Some b → b.first ≡ stamp → 1 ≤ b.len →
      IsEdge m (stamp_behind stamp b.len)
  edge_behind rank b stamp e is some first held =
      let found = what_holds m bs first (stamp_behind stamp b.len) k held in
      let x = found.1 in
      let c = found.3 in
      let starts : x.first.counter ≤ stamp.counter + b.len = c.1 in
      let ends : stamp.counter + b.len < x.first.counter + x.len = c.2 in
      let here : b.first.counter ≡ stamp.counter = ap (λ (s : Stamp). s.counter) is in
      elim (cases_lt x.first.counter (stamp.counter + b.len)) [
        | inl before ↦
            let last = stamp_behind stamp (b.len - 1) in
            let by_x = holds_here m bs found.0 x last k found.2 (c.0, omega arith, omega arith) in
            let by_b = holds_here m bs rank b last k e (ap (λ (s : Stamp). s.replica) is, omega arith, omega arith) in
            let same = same_rank found.0 rank x b found.2 e (sound.apart last x.first b.first by_x by_b) in
            let block : x ≡ b = cc (found.2, e, same) in
            let first_counter : x.first.counter ≡ b.first.counter = ap (λ (y : Block). y.first.counter) block in
            let len : x.len ≡ b.len = ap (λ (y : Block). y.len) block in
            absurd (omega arith)
        | inr from ↦ sym found.4 ∙ same_stamps x.first (stamp_behind stamp b.len) (omega arith) c.0
      ]

  pub edge_behind_none : (stamp : Stamp) → HoldsNone m stamp → IsEdge m (stamp_behind stamp 1)
  edge_behind_none stamp none first held =
      let found = what_holds m bs first (stamp_behind stamp 1) k held in
      let x = found.1 in
      let c = found.3 in
      let starts : x.first.counter ≤ stamp.counter + 1 = c.1 in
      let ends : stamp.counter + 1 < x.first.counter + x.len = c.2 in
      elim (cases_lt x.first.counter (stamp.counter + 1)) [
        | inl before ↦ absurd (none x.first (holds_here m bs found.0 x stamp k found.2 (c.0, omega arith, omega arith)))
        | inr from ↦ sym found.4 ∙ same_stamps x.first (stamp_behind stamp 1) (omega arith) c.0
      ]

  -- nothing begins inside a block
  pub no_edge_inside : (rank : ℕ) (b : Block) (stamp : Stamp) (j : ℕ) → slice_get bs rank ≡ Some b → b.first ≡ stamp →
      0 < j → j < b.len → IsEdge m (stamp_behind stamp j) → ⊥
  no_edge_inside rank b stamp j e is lo hi edge =
      let here : b.first.counter ≡ stamp.counter = ap (λ (s : Stamp). s.counter) is in
      let same = edge b.first (holds_here m bs rank b (stamp_behind stamp j) k e (
        ap (λ (s : Stamp). s.replica) is,
        omega arith,
        omega arith,
      )) in
      let there : b.first.counter ≡ stamp.counter + j = ap (λ (s : Stamp). s.counter) same in
      omega arith

  -- no block begins with a stamp that none holds
  pub none_named : (stamp : Stamp) → HoldsNone m stamp → (i : ℕ) (x : Block) → slice_get bs i ≡ Some x →
      named (span_from stamp 1) x.first ≡ false
  none_named stamp none i x e =
      split (named (span_from stamp 1) x.first)
      (λ t. let c = named_covers stamp 1 x.first t in
      let lo : stamp.counter ≤ x.first.counter = c.1 in
      let hi : x.first.counter < stamp.counter + 1 = c.2 in
      let same : x.first ≡ stamp = same_stamps x.first stamp (omega arith) (sym c.0) in
      absurd (none x.first (subst (Holds m x.first) same (holds_first i x e))))
      (λ f. f)

  -- what is left of a block's stamps
  pub dead_block : (rev rank : ℕ) (b : Block) (stamp : Stamp) → slice_get bs rank ≡ Some b → b.first ≡ stamp →
      is_some b.died ≡ true
      → (bs ≡ map (killed rev (span_from stamp b.len)) bs) × (0 ≡ sum_by (hidden_len (span_from stamp b.len)) bs)
  dead_block rev rank b stamp e is dead =
      let spans = span_from stamp b.len in
      let one = dead_one rev spans b dead in (
        sym (set_same bs rank b e) ∙ ap (slice_set bs rank) (sym one.0)
            ∙ one_killed rev rank spans bs b e (only_block rank b stamp e is),
        sym one.1 ∙ one_hidden rank spans bs b e (only_block rank b stamp e is),
      )

  pub alive_block : (rev rank : ℕ) (b : Block) (stamp : Stamp) → slice_get bs rank ≡ Some b → b.first ≡ stamp →
      is_some b.died ≡ false
      → (slice_set bs rank (record b { died = Some rev }) ≡ map (killed rev (span_from stamp b.len)) bs)
      × (b.len ≡ sum_by (hidden_len (span_from stamp b.len)) bs)
  alive_block rev rank b stamp e is alive =
      let spans = span_from stamp b.len in
      let sized = each_get IsSized bs rank b k.sized e in
      let some = sized.0 in
      let here : b.first.counter ≡ stamp.counter = ap (λ (s : Stamp). s.counter) is in
      let one = alive_one rev spans b alive (covers_named stamp b.len b.first (
        sym (ap (λ (s : Stamp). s.replica) is),
        omega arith,
        omega arith,
      )) in (
        ap (slice_set bs rank) (sym one.0) ∙ one_killed rev rank spans bs b e (only_block rank b stamp e is),
        sym one.1 ∙ one_hidden rank spans bs b e (only_block rank b stamp e is),
      )

-- ---- one step along a span
pub span_step : (rev : ℕ) (first at : Stamp) (done more : ℕ) (bs now new : List Block) → at ≡ stamp_behind first done →
    now ≡ map (killed rev (span_from first done)) bs → new ≡ map (killed rev (span_from at more)) now
    → new ≡ map (killed rev (span_from first (done + more))) bs
span_step rev first at done more bs now new is so_far here =
    here ∙ ap₂ (λ (s : Stamp) l. map (killed rev (span_from s more)) l) is so_far
    ∙ killed_then rev (span_from first done) (span_from (stamp_behind first done) more)
    (span_from first (done + more)) bs (part_joins first done more)

pub span_step_hidden : (rev : ℕ) (first at : Stamp) (done more h g : ℕ) (bs now : List Block) →
    at ≡ stamp_behind first done → now ≡ map (killed rev (span_from first done)) bs →
    h ≡ sum_by (hidden_len (span_from first done)) bs → g ≡ sum_by (hidden_len (span_from at more)) now
    → h + g ≡ sum_by (hidden_len (span_from first (done + more))) bs
span_step_hidden rev first at done more h g bs now is so_far hidden here =
    let there : g ≡ sum_by (hidden_len (span_from (stamp_behind first done) more))
    (map (killed rev (span_from first done)) bs) =
    here ∙ ap₂ (λ (s : Stamp) l. sum_by (hidden_len (span_from s more)) l) is so_far in
    let all = hidden_then rev (span_from first done) (span_from (stamp_behind first done) more)
    (span_from first (done + more)) bs (part_joins first done more) in
    omega (arith, there, all, hidden)

pub step_ends : (first at : Stamp) (done more : ℕ) → at ≡ stamp_behind first done → stamp_behind at more
    ≡ stamp_behind first (done + more)
step_ends first at done more is = ap (λ (s : Stamp). stamp_behind s more) is ∙ same_stamps _ _ (omega arith) refl

pub step_within : (m : Index) (first at : Stamp) (done len more : ℕ) → at ≡ stamp_behind first done → done < len →
    IsEdge m (stamp_behind first len) → ((k : ℕ) → 0 < k → k < more → IsEdge m (stamp_behind at k) → ⊥) → done + more
    ≤ len
step_within m first at done len more is l edge whole =
    elim (cases_lt (len - done) more) [
      | inl less ↦ absurd (whole (len - done) (omega arith) less
          (subst (IsEdge m) (sym (step_ends first at done (len - done) is ∙ ap (stamp_behind first)
          (let e : done + (len - done) ≡ len = omega arith in e))) edge))
      | inr from ↦ omega arith
    ]

-- ---- what dies is no more than what there is
pub hidden_all : (spans : List Span) (bs : List Block) → sum_by (hidden_len spans) bs ≤ sum_by (λ b. b.len) bs
hidden_all spans [] = omega arith
hidden_all spans (x ∷ bs) =
    let rest = hidden_all spans bs in
    let here : hidden_len spans x ≤ x.len = split (is_killed spans x) (λ e. rw e (omega arith))
    (λ e. rw e (omega arith)) in
    rw (sum_by-cons (hidden_len spans) x bs, sum_by-cons (λ (b : Block). b.len) x bs) (omega (arith, rest, here))

-- ---- one span more
pub spans_step : (rev : ℕ) (spans : List Span) (i j : ℕ) (span : Span) (bs now new : List Block) → i < length spans →
    span ≡ get_or spans i span → j ≡ i + 1 → now ≡ map (killed rev (take i spans)) bs →
    new ≡ map (killed rev (span_from span.first span.len)) now
    → new ≡ map (killed rev (take j spans)) bs
spans_step rev spans i j span bs now new h is next so_far here =
    here ∙ ap (map (killed rev (span_from span.first span.len))) so_far ∙ killed_then rev (take i spans)
    (span_from span.first span.len) (take j spans) bs (span_joins spans i j span h is next)

pub spans_step_hidden : (rev : ℕ) (spans : List Span) (i j : ℕ) (span : Span) (bs now : List Block) (hid more : ℕ) →
    i < length spans → span ≡ get_or spans i span → j ≡ i + 1 → now ≡ map (killed rev (take i spans)) bs →
    hid ≡ sum_by (hidden_len (take i spans)) bs
    → more ≡ sum_by (hidden_len (span_from span.first span.len)) now → hid + more
    ≡ sum_by (hidden_len (take j spans)) bs
spans_step_hidden rev spans i j span bs now hid more h is next so_far hidden here =
    let there : more ≡ sum_by (hidden_len (span_from span.first span.len)) (map (killed rev (take i spans)) bs) =
    here ∙ ap (sum_by (hidden_len (span_from span.first span.len))) so_far in
    let all = hidden_then rev (take i spans) (span_from span.first span.len) (take j spans) bs
    (span_joins spans i j span h is next) in
    omega (arith, there, all, hidden)

-- how many stamps one span more names
pub next_len : (spans : List Span) (i : ℕ) (span : Span) → i < length spans → span ≡ get_or spans i span →
    named_len (take (i + 1) spans) ≡ named_len (take i spans) + span.len
next_len spans i span low is =
    sum_by_more (λ (s : Span). s.len) spans i span low
    ∙ ap (λ (s : Span). named_len (take i spans) + s.len) (sym is)
