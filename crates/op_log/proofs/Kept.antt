-- The marks of each origin stay those of its operations while a log grows.
use Rattle.std.proofs.Common.{◌≡◌, ℕ, zero, suc, ◌+◌, ◌<◌, Bool, true, false, ◌||◌, List, [], ◌∷◌, ◌++◌, length}
use Rattle.std.proofs.Common.{get_or, set, map, Some, None, refl, sym, ap, ◌∙◌, subst, arith, eqb, ltb}
use Rattle.std.specs.List.{AllByRecursion, list_any, position, position_or_len}
use Rattle.std.proofs.lemmas.Bool.{eqb-true, ltb-false, ne_eqb, eq-eqb, or_left, or_right, false≢true}
use Rattle.std.proofs.lemmas.List.Folds.{list_any-append, list_any_none}
use Rattle.std.proofs.lemmas.List.Sums.{fails_before_first}
use Rattle.std.proofs.lemmas.List.Quantifiers.{position-Some}
use Rattle.std.proofs.lemmas.List.{get_or-map, length-map, map-set, map_push}
use Rattle.pad_model.specs.declared.op.Op.{Op}
use Rattle.pad_model.proofs.Newer.{split}
use Rattle.pad_model.proofs.Each.{each-imply, each-both, each-append, each_fails}
use Rattle.pad_model.specs.declared.op.OpName.{OpName}
use Rattle.op_log.specs.declared.track.Mark.{Mark}
use Rattle.op_log.specs.declared.track.Track.{Track}
use Rattle.op_log.specs.Log.{is_of}
use Rattle.op_log.specs.Track.{IsRising, mark_of, marks_from, marks_of, rises_from}
use Rattle.op_log.specs.Index.{Kept, IsIndex, IsTold, AreApart, kept, has_origin}
use Rattle.op_log.proofs.Marks.{each_at, marks_rise}

-- an operation of another origin adds no mark
marks_other : (o p : ℕ) (ops : List Op) (op : Op) → is_of o op ≡ false → marks_from o p (ops ++ op ∷ [])
    ≡ marks_from o p ops
marks_other o p [] op other = rw other refl
marks_other o p (x ∷ ops) op other =
    split (is_of o x)
    (λ e. rw e (ap (λ ms. mark_of p x.name.number ∷ ms) (marks_other o (p + 1) ops op other)))
    (λ e. rw e (marks_other o (p + 1) ops op other))

-- one of the origin adds a mark at the end
marks_own : (o p place : ℕ) (ops : List Op) (op : Op) → is_of o op ≡ true → place ≡ p + length ops
    → marks_from o p (ops ++ op ∷ []) ≡ marks_from o p ops ++ mark_of place op.name.number ∷ []
marks_own o p place [] op own at =
    let same : p ≡ place = omega arith in
    rw own (ap (λ (k : ℕ). mark_of k op.name.number ∷ []) same)
marks_own o p place (x ∷ ops) op own at =
    split (is_of o x)
    (λ e. rw e (ap (λ ms. mark_of p x.name.number ∷ ms) (marks_own o (p + 1) place ops op own (omega arith))))
    (λ e. rw e (marks_own o (p + 1) place ops op own (omega arith)))

none_marked : (o p : ℕ) (ops : List Op) → AllByRecursion (λ op. is_of o op ≡ false) ops → marks_from o p ops ≡ []
none_marked o p [] none = refl
none_marked o p (op ∷ ops) none = rw none.0 (none_marked o (p + 1) ops none.1)

-- an origin that is not there has no operation
pub none_of : (o : ℕ) (ks : List Kept) (ops : List Op) → list_any (has_origin o) ks ≡ false →
    AllByRecursion (λ op. list_any (has_origin op.name.origin) ks ≡ true) ops
    → AllByRecursion (λ op. is_of o op ≡ false) ops
none_of o ks ops absent known =
    each-imply (λ op. list_any (has_origin op.name.origin) ks ≡ true) (λ op. is_of o op ≡ false)
    (λ op there. ne_eqb op.name.origin o
    (λ same. false≢true (sym absent ∙ ap (λ q. list_any (has_origin q) ks) (sym same) ∙ there))) ops known

-- ---- one more mark of an origin that is there
each_set : (P : Kept → Type 0) (ks : List Kept) (i : ℕ) (k : Kept) → P k → AllByRecursion P ks →
    AllByRecursion P (set ks i k)
each_set P [] i k h each = tt
each_set P (x ∷ ks) zero k h each = (h, each.1)
each_set P (x ∷ ks) (suc i) k h each = (each.0, each_set P ks i k h each.1)

any_set : (o : ℕ) (ks : List Kept) (i : ℕ) (d k : Kept) → k.origin ≡ (get_or ks i d).origin →
    list_any (has_origin o) (set ks i k) ≡ list_any (has_origin o) ks
any_set o [] i d k same = refl
any_set o (x ∷ ks) zero d k same = ap (λ (q : ℕ). eqb o q || list_any (has_origin o) ks) same
any_set o (x ∷ ks) (suc i) d k same = ap (λ b. has_origin o x || b) (any_set o ks i d k same)

any_at : (o : ℕ) (ks : List Kept) (i : ℕ) (d : Kept) → i < length ks → o ≡ (get_or ks i d).origin →
    list_any (has_origin o) ks ≡ true
any_at o [] i d lt same = absurd (omega arith)
any_at o (x ∷ ks) zero d lt same = or_left _ _ (eq-eqb o x.origin same)
any_at o (x ∷ ks) (suc i) d lt same = or_right (has_origin o x) _ (any_at o ks i d (omega arith) same)

apart_set : (ks : List Kept) (i : ℕ) (d k : Kept) → i < length ks → k.origin ≡ (get_or ks i d).origin → AreApart ks →
    AreApart (set ks i k)
apart_set [] i d k lt same apart = tt
apart_set (x ∷ ks) zero d k lt same apart = (
  each-imply (λ later. has_origin later.origin x ≡ false) (λ later. has_origin later.origin k ≡ false)
      (λ later ne. ap (λ (q : ℕ). eqb later.origin q) same ∙ ne) ks apart.0,
  apart.1,
)
apart_set (x ∷ ks) (suc i) d k lt same apart = (
  each_set (λ later. has_origin later.origin x ≡ false) ks i k
      (ap (λ (q : ℕ). eqb q x.origin) same ∙ each_at (λ later. has_origin later.origin x ≡ false) ks i d apart.0
      (omega arith)) apart.0,
  apart_set ks i d k (omega arith) same apart.1,
)

marks_set : (ks : List Kept) (i : ℕ) (d k : Kept) (ops : List Op) (op : Op) → i < length ks → op.name.origin
    ≡ (get_or ks i d).origin → k.marks ≡ marks_of k.origin (ops ++ op ∷ [])
    → AreApart ks → AllByRecursion (λ k. k.marks ≡ marks_of k.origin ops) ks →
    AllByRecursion (λ k. k.marks ≡ marks_of k.origin (ops ++ op ∷ [])) (set ks i k)
marks_set [] i d k ops op lt at fits apart marks = tt
marks_set (x ∷ ks) zero d k ops op lt at fits apart marks = (
  fits,
  each-both (λ later. has_origin later.origin x ≡ false) (λ k. k.marks ≡ marks_of k.origin ops)
      (λ k. k.marks ≡ marks_of k.origin (ops ++ op ∷ []))
      (λ later ne m. m ∙ sym (marks_other later.origin 0 ops op
      (ne_eqb op.name.origin later.origin (λ same. iff_other later.origin x.origin op.name.origin ne at same)))) ks
      apart.0 marks.1,
)
  where
    iff_other : (a b c : ℕ) → eqb a b ≡ false → c ≡ b → c ≡ a → ⊥
    iff_other a b c ne at same = false≢true (sym ne ∙ eq-eqb a b (omega arith))
marks_set (x ∷ ks) (suc i) d k ops op lt at fits apart marks = (
  marks.0 ∙ sym (marks_other x.origin 0 ops op (ap (λ (q : ℕ). eqb q x.origin) at
      ∙ each_at (λ later. has_origin later.origin x ≡ false) ks i d apart.0 (omega arith))),
  marks_set ks i d k ops op (omega arith) at fits apart.1 marks.1,
)

pub entered_there : (ks : List Kept) (i : ℕ) (d k : Kept) (ops : List Op) (op : Op) → i < length ks → op.name.origin
    ≡ (get_or ks i d).origin → k.origin ≡ op.name.origin
    → k.marks ≡ (get_or ks i d).marks ++ mark_of (length ops) op.name.number ∷ []
    → IsTold k → IsIndex ks ops → IsIndex (set ks i k) (ops ++ op ∷ [])
entered_there ks i d k ops op lt at own added told index =
    let o = op.name.origin in
    let had : (get_or ks i d).marks ≡ marks_of o ops =
    each_at (λ k. k.marks ≡ marks_of k.origin ops) ks i d index.marks lt ∙ ap (λ (q : ℕ). marks_of q ops) (sym at) in
    let whole : k.marks ≡ marks_of o (ops ++ op ∷ []) =
    added ∙ ap (λ (ms : List Mark). ms ++ mark_of (length ops) op.name.number ∷ []) had
    ∙ sym (marks_own o 0 (length ops) ops op (eq-eqb o o refl) (omega arith))
    in
    record {
      marks = marks_set ks i d k ops op lt at (whole ∙ ap (λ (q : ℕ). marks_of q (ops ++ op ∷ [])) (sym own))
          index.apart index.marks;
      told = each_set IsTold ks i k told index.told;
      known = each-append (λ op. list_any (has_origin op.name.origin) (set ks i k) ≡ true) ops (op ∷ [])
          (each-imply (λ op. list_any (has_origin op.name.origin) ks ≡ true)
          (λ op. list_any (has_origin op.name.origin) (set ks i k) ≡ true)
          (λ x there. any_set x.name.origin ks i d k (own ∙ at) ∙ there) ops index.known)
          (any_set o ks i d k (own ∙ at) ∙ any_at o ks i d lt at, tt);
      apart = apart_set ks i d k lt (own ∙ at) index.apart;
    }

-- ---- the first mark of a new origin
apart_push : (ks : List Kept) (k : Kept) → AllByRecursion (λ x. has_origin k.origin x ≡ false) ks → AreApart ks →
    AreApart (ks ++ k ∷ [])
apart_push [] k new apart = (tt, tt)
apart_push (x ∷ ks) k new apart = (
  each-append (λ later. has_origin later.origin x ≡ false) ks (k ∷ []) apart.0 (
    new.0,
    tt,
  ),
  apart_push ks k new.1 apart.1,
)

pub entered_new : (ks : List Kept) (k : Kept) (ops : List Op) (op : Op) → list_any (has_origin op.name.origin) ks
    ≡ false → k.origin ≡ op.name.origin
    → k.marks ≡ mark_of (length ops) op.name.number ∷ []
    → IsTold k → IsIndex ks ops → IsIndex (ks ++ k ∷ []) (ops ++ op ∷ [])
entered_new ks k ops op absent own only told index =
    let o = op.name.origin in
    let others = each_fails (has_origin o) ks absent in
    let before : marks_of o ops ≡ [] = none_marked o 0 ops (none_of o ks ops absent index.known) in
    let whole : k.marks ≡ marks_of o (ops ++ op ∷ []) =
    only ∙ ap (λ (ms : List Mark). ms ++ mark_of (length ops) op.name.number ∷ []) (sym before)
    ∙ sym (marks_own o 0 (length ops) ops op (eq-eqb o o refl) (omega arith))
    in
    record {
      marks = each-append (λ k. k.marks ≡ marks_of k.origin (ops ++ op ∷ [])) ks (k ∷ [])
          (each-both (λ x. has_origin o x ≡ false) (λ k. k.marks ≡ marks_of k.origin ops)
          (λ k. k.marks ≡ marks_of k.origin (ops ++ op ∷ []))
          (λ x ne m. m ∙ sym (marks_other x.origin 0 ops op ne)) ks others index.marks)
          (whole ∙ ap (λ (q : ℕ). marks_of q (ops ++ op ∷ [])) (sym own), tt);
      told = each-append IsTold ks (k ∷ []) index.told (told, tt);
      known = each-append (λ op. list_any (has_origin op.name.origin) (ks ++ k ∷ []) ≡ true) ops (op ∷ [])
          (each-imply (λ op. list_any (has_origin op.name.origin) ks ≡ true)
          (λ op. list_any (has_origin op.name.origin) (ks ++ k ∷ []) ≡ true)
          (λ x there. list_any-append (has_origin x.name.origin) ks (k ∷ []) ∙ or_left _ _ there) ops index.known) (
            list_any-append (has_origin o) ks (k ∷ []) ∙ or_right (list_any (has_origin o) ks) _
                (or_left _ _ (eq-eqb o k.origin (sym own))),
            tt,
          );
      apart = apart_push ks k (each-imply (λ x. has_origin o x ≡ false) (λ x. has_origin k.origin x ≡ false)
          (λ x ne. ap (λ (q : ℕ). eqb q x.origin) own ∙ ne) ks others) index.apart;
    }

-- ---- the same, of tracks
pub entered_track : (ts : List Track) (at : ℕ) (t new : Track) (ops : List Op) (op : Op) (name : OpName) (place : ℕ) →
    t ≡ get_or ts at t → position (λ t. has_origin name.origin (kept t)) ts ≡ Some at
    → new.origin ≡ t.origin → new.marks.items ≡ t.marks.items ++ mark_of place name.number ∷ []
    → (IsTold (kept t) → IsTold (kept new)) → op.name ≡ name → length ops ≡ place → IsIndex (map kept ts) ops →
    IsIndex (map kept (set ts at new)) (ops ++ op ∷ [])
entered_track ts at t new ops op name place read is origin marks tells named long index =
    let found = position-Some (λ t. has_origin name.origin (kept t)) ts at t is in
    let read_kept : get_or (map kept ts) at (kept t) ≡ kept t = get_or-map kept ts at t (kept t) found.0
    ∙ ap kept (sym read) in
    let own : name.origin ≡ t.origin = eqb-true name.origin t.origin (ap (has_origin name.origin) (ap kept read)
    ∙ found.1) in
    let number : op.name.number ≡ name.number = ap (λ (n : OpName). n.number) named in
    let from : op.name.origin ≡ name.origin = ap (λ (n : OpName). n.origin) named in
    let told : IsTold (kept t) = subst IsTold read_kept (each_at IsTold (map kept ts) at (kept t) index.told
    (omega (arith, found.0, length-map ts kept))) in
    rw map-set
    (entered_there (map kept ts) at (kept t) (kept new) ops op (omega (arith, found.0, length-map ts kept))
    (from ∙ own ∙ sym (ap (λ (k : Kept). k.origin) read_kept)) (origin ∙ sym (from ∙ own))
    (marks ∙ marked t.marks.items (get_or (map kept ts) at (kept t)).marks place (length ops) name.number op.name.number
    (sym (ap (λ (k : Kept). k.marks) read_kept)) (sym long) (sym number)) (tells told) index)
  where
    marked : (ms ns : List Mark) (p q m n : ℕ) → ms ≡ ns → p ≡ q → m ≡ n
        → ms ++ mark_of p m ∷ [] ≡ ns ++ mark_of q n ∷ []
    marked ms ns p q m n e f g = rw (e, f, g) refl

-- where no place is found, nothing passes
pub no_position : {A : Type 0} (test : A → Bool) (xs : List A) → position test xs ≡ None → list_any test xs ≡ false
no_position test xs e =
    split (ltb (position_or_len test xs) (length xs))
    (λ t. let some : Some (position_or_len test xs) ≡ None = rw t at e in cc)
    (λ t. list_any_none test xs (λ k d lt. fails_before_first test xs k d
    (omega (arith, ltb-false (position_or_len test xs) (length xs) t))))

any_kept : (o : ℕ) (ts : List Track) → list_any (has_origin o) (map kept ts) ≡ list_any (λ t. has_origin o (kept t)) ts
any_kept o [] = refl
any_kept o (t ∷ ts) = ap (λ b. has_origin o (kept t) || b) (any_kept o ts)

pub entered_first : (ts : List Track) (new : Track) (ops : List Op) (op : Op) (name : OpName) (place : ℕ) →
    position (λ t. has_origin name.origin (kept t)) ts ≡ None
    → new.origin ≡ name.origin → new.marks.items ≡ mark_of place name.number ∷ [] → IsTold (kept new) → op.name ≡ name
    → length ops ≡ place → IsIndex (map kept ts) ops → IsIndex (map kept (ts ++ new ∷ [])) (ops ++ op ∷ [])
entered_first ts new ops op name place none origin marks told named long index =
    let number : op.name.number ≡ name.number = ap (λ (n : OpName). n.number) named in
    let from : op.name.origin ≡ name.origin = ap (λ (n : OpName). n.origin) named in
    rw map_push
    (entered_new (map kept ts) (kept new) ops op
    (any_kept op.name.origin ts ∙ ap (λ (o : ℕ). list_any (λ t. has_origin o (kept t)) ts) from
    ∙ no_position (λ t. has_origin name.origin (kept t)) ts none)
    (origin ∙ sym from) (marks ∙ marked place (length ops) name.number op.name.number (sym long) (sym number)) told index)
  where
    marked : (p q m n : ℕ) → p ≡ q → m ≡ n → mark_of p m ∷ [] ≡ mark_of q n ∷ []
    marked p q m n f g = rw (f, g) refl

-- ---- the marks of an origin
pub track_fits : (ts : List Track) (i : ℕ) (t : Track) (ops : List Op) → i < length ts → t ≡ get_or ts i t →
    IsIndex (map kept ts) ops → (t.marks.items ≡ marks_of t.origin ops) × IsTold (kept t)
track_fits ts i t ops lt read index =
    let read_kept : get_or (map kept ts) i (kept t) ≡ kept t = get_or-map kept ts i t (kept t) lt
    ∙ ap kept (sym read) in
    let within : i < length (map kept ts) = omega (arith, lt, length-map ts kept) in (
      sym (ap (λ (k : Kept). k.marks) read_kept) ∙ each_at (λ k. k.marks ≡ marks_of k.origin ops)
          (map kept ts) i (kept t) index.marks within
          ∙ ap (λ (k : Kept). marks_of k.origin ops) read_kept,
      subst IsTold read_kept (each_at IsTold (map kept ts) i (kept t) index.told within),
    )

-- where a track tells that its numbers rise, its marks do
pub track_rises : (ts : List Track) (i : ℕ) (t : Track) (ops : List Op) → i < length ts → t ≡ get_or ts i t →
    IsIndex (map kept ts) ops → t.rises ≡ true → IsRising t.marks.items
track_rises ts i t ops lt read index rises =
    let fits = track_fits ts i t ops lt read index in
    subst IsRising (sym fits.0) (marks_rise t.origin 0 0 ops
    (ap (rises_from 0) (sym fits.0) ∙ sym fits.1 ∙ rises))

pub marks_at : (ts : List Track) (at : ℕ) (t : Track) (o : ℕ) (ops : List Op) → t ≡ get_or ts at t →
    position (λ t. has_origin o (kept t)) ts ≡ Some at → IsIndex (map kept ts) ops
    → t.marks.items ≡ marks_of o ops
marks_at ts at t o ops read is index =
    let found = position-Some (λ t. has_origin o (kept t)) ts at t is in
    let own : o ≡ t.origin = eqb-true o t.origin (ap (has_origin o) (ap kept read) ∙ found.1) in
    (track_fits ts at t ops found.0 read index).0 ∙ ap (λ (q : ℕ). marks_of q ops) (sym own)

pub marks_nowhere : (ts : List Track) (o : ℕ) (ops : List Op) → position (λ t. has_origin o (kept t)) ts ≡ None →
    IsIndex (map kept ts) ops → marks_of o ops ≡ []
marks_nowhere ts o ops none index =
    none_marked o 0 ops (none_of o (map kept ts) ops (any_kept o ts
    ∙ no_position (λ t. has_origin o (kept t)) ts none) index.known)
