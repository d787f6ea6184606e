-- The operation of a comment or a resolution that is not refused is in the limits, and fits its log.
use Rattle.std.proofs.Common.{◌≡◌, ℕ, zero, suc, ◌+◌, ◌-◌, ◌<◌, ◌≤◌, Bool, true, false, ◌&&◌, ◌||◌, cond, eqb, List, []}
use Rattle.std.proofs.Common.{◌∷◌, length, filter, map, take, count_by, Option, Some, None, refl, sym, ap, ◌∙◌, subst}
use Rattle.std.proofs.Common.{arith, slice_get, option_map, le-leb, eqb-true, ltb-false, leb-false}
use Rattle.std.proofs.lemmas.Bool.{and_from, and_parts, or_left, or_right, or_parts, lt-leb}
use Rattle.std.specs.List.{IsDistinct}
use Rattle.pad_model.specs.Stamp.{Stamp, same_stamp}
use Rattle.pad_model.specs.Character.{Character}
use Rattle.pad_model.specs.Cell.{character_of, shown_at}
use Rattle.pad_model.specs.Checked.{is_name, is_checked}
use Rattle.pad_model.specs.History.{IsHistory, cells_of}
use Rattle.pad_model.specs.Laws.{itself}
use Rattle.pad_model.specs.Legal.{has_stamp, same_item, IsTree}
use Rattle.pad_model.specs.Log.{stands_before, is_comment, same_name}
use Rattle.pad_model.specs.Operation.{characters_in}
use Rattle.pad_model.specs.Order.{order}
use Rattle.pad_model.specs.Visible.{visible, stamp_at}
use Rattle.pad_model.specs.declared.limits.TheConstants.{MAX_COMMENT, MAX_COMMENTS, MAX_OPERATIONS}
use Rattle.pad_model.specs.declared.op.Op.{Op}
use Rattle.pad_model.specs.declared.op.OpName.{OpName}
use Rattle.pad_model.specs.declared.op.Part.{Part}
use Rattle.pad_model.specs.declared.op.Part.TheVariants.{Comment, Resolve}
use Rattle.pad_model.proofs.Each.{found_has}
use Rattle.pad_model.proofs.Growth.{IsTree-history, IsHistory-take}
use Rattle.pad_model.proofs.History.{cells_of-characters, cells_of-permutation, cell_stamp_at-cells_of, length-cells_at}
use Rattle.pad_model.proofs.History.{length-cells_of}
use Rattle.pad_model.proofs.Maps.{IsTree-of_map, stands_before-map}
use Rattle.pad_model.proofs.Members.{IsTree-permutation}
use Rattle.pad_model.proofs.Newer.{same_stamp-true, same_stamp-refl}
use Rattle.pad_model.proofs.Rising.{IsDistinct-parts}
use Rattle.pad_core.specs.Counts.{characters_at, op_of}
use Rattle.pad_core.specs.Delivered.{IsDelivered, delivery_refusal}
use Rattle.pad_core.specs.Notes.{comment_refusal, comment_between, comment_parts, has_comment}
use Rattle.pad_core.proofs.Allowed.{unless}
use Rattle.pad_core.proofs.Made.{op_checked, delivered}
use Rattle.pad_core.proofs.Others.{not_zero, IsNamed, each_named}

-- the stamp at a place of a list
abbrev pub stamp_in : {A : Type 0} → (A → Character) → List A → ℕ → Option Stamp
stamp_in at xs i = option_map (λ x. (at x).stamp) (slice_get xs i)

pub is_stamp : (s b : Stamp) → (let o : Option Stamp = Some s in o) ≡ Some b → s ≡ b
is_stamp s b e = cc

-- a stamp of what a test keeps is one of all
pub kept_has : {A : Type 0} (at : A → Character) (t : A → Bool) (xs : List A) (i : ℕ) (s : Stamp) →
    stamp_in at (filter t xs) i ≡ Some s → has_stamp at xs s ≡ true
kept_has at t [] i s e = absurd (cc)
kept_has at t (x ∷ xs) i s e = kept (t x) i (λ k f. kept_has at t xs k s f) e
  where
    kept : (b : Bool) (i : ℕ) → ((k : ℕ) → stamp_in at (filter t xs) k ≡ Some s → has_stamp at xs s ≡ true) →
        stamp_in at (cond b (x ∷ filter t xs) (filter t xs)) i ≡ Some s → has_stamp at (x ∷ xs) s ≡ true
    kept true zero more e = or_left (same_stamp (at x).stamp s) (has_stamp at xs s)
        (subst (λ z. same_stamp (at x).stamp z ≡ true) (is_stamp (at x).stamp s e) (same_stamp-refl (at x).stamp))
    kept true (suc i) more e = or_right (same_stamp (at x).stamp s) (has_stamp at xs s) (more i e)
    kept false i more e = or_right (same_stamp (at x).stamp s) (has_stamp at xs s) (more i e)

-- a stamp of the rest is not that of the first item
pub other_stamp : {A : Type 0} (at : A → Character) (x : A) (xs : List A) (s : Stamp) →
    IsDistinct (same_item at) (x ∷ xs) → has_stamp at xs s ≡ true → same_stamp (at x).stamp s ≡ false
other_stamp at x xs s d h =
    let found = found_has (λ y. same_stamp (at y).stamp s) (λ y. same_stamp (at x).stamp (at y).stamp ≡ false) xs h
    (IsDistinct-parts at x xs d).0 in
    subst (λ z. same_stamp (at x).stamp z ≡ false) (same_stamp-true (at found.0).stamp s found.1.0) found.1.1

-- what a test keeps is in the order of all
pub stands-filter : {A : Type 0} (at : A → Character) (t : A → Bool) (xs : List A) (i j : ℕ) (a b : Stamp) →
    IsDistinct (same_item at) xs → i ≤ j → stamp_in at (filter t xs) i ≡ Some a → stamp_in at (filter t xs) j ≡ Some b →
    stands_before at xs a b ≡ true
stands-filter at t [] i j a b d l ea eb = absurd (cc)
stands-filter at t (x ∷ xs) i j a b d l ea eb =
    step (t x) i j l (λ k m n f h. stands-filter at t xs k m a b (IsDistinct-parts at x xs d).1 n f h) ea eb
  where
    behind : (c : Bool) (i : ℕ) → stamp_in at (filter t xs) i ≡ Some a → c ≡ true → cond (same_stamp (at x).stamp a)
        (same_stamp a b || has_stamp at xs b) c ≡ true
    behind c i e h = rw (other_stamp at x xs a d (kept_has at t xs i a e)) h

    step : (kept : Bool) (i j : ℕ) → i ≤ j → ((k m : ℕ) → k ≤ m → stamp_in at (filter t xs) k ≡ Some a →
        stamp_in at (filter t xs) m ≡ Some b → stands_before at xs a b ≡ true) →
        stamp_in at (cond kept (x ∷ filter t xs) (filter t xs)) i ≡ Some a →
        stamp_in at (cond kept (x ∷ filter t xs) (filter t xs)) j ≡ Some b → stands_before at (x ∷ xs) a b ≡ true
    step true zero zero l more ea eb =
        let first : same_stamp (at x).stamp a ≡ true = subst (λ z. same_stamp (at x).stamp z ≡ true)
        (is_stamp (at x).stamp a ea) (same_stamp-refl (at x).stamp) in
        let same : a ≡ b = sym (is_stamp (at x).stamp a ea) ∙ is_stamp (at x).stamp b eb in
        rw first (or_left (same_stamp a b) (has_stamp at xs b)
        (subst (λ z. same_stamp a z ≡ true) same (same_stamp-refl a)))
    step true zero (suc j) l more ea eb =
        let first : same_stamp (at x).stamp a ≡ true = subst (λ z. same_stamp (at x).stamp z ≡ true)
        (is_stamp (at x).stamp a ea) (same_stamp-refl (at x).stamp) in
        rw first (or_right (same_stamp a b) (has_stamp at xs b) (kept_has at t xs j b eb))
    step true (suc i) zero l more ea eb = absurd (omega arith)
    step true (suc i) (suc j) l more ea eb = behind (stands_before at xs a b) i ea (more i j (omega arith) ea eb)
    step false i j l more ea eb = behind (stands_before at xs a b) i ea (more i j l ea eb)

-- what a revision shows is in the order of the whole log
pub shown_stands : (log : List Op) (rev i j : ℕ) (a b : Stamp) → IsHistory log → i ≤ j →
    stamp_at (characters_at rev log) i ≡ Some a → stamp_at (characters_at rev log) j ≡ Some b →
    stands_before itself (order itself (characters_in log).inserted) a b ≡ true
shown_stands log rev i j a b h l ea eb =
    let whole = IsTree-history log h in
    let part = IsTree-history (take rev log) (IsHistory-take log rev h) in
    let tree : IsTree character_of (cells_of log) = IsTree-of_map character_of itself (cells_of log)
    (IsTree-permutation itself (characters_in log).inserted (map character_of (cells_of log))
    (cells_of-permutation log whole) whole) in
    sym (ap (λ cs. stands_before itself cs a b) (cells_of-characters log))
    ∙ stands_before-map character_of itself (cells_of log) a b
    ∙ stands-filter character_of (shown_at rev) (cells_of log) i j a b tree.distinct l
    (cell_stamp_at-cells_of log rev i whole part ∙ ea) (cell_stamp_at-cells_of log rev j whole part ∙ eb)

-- a test keeps no more than all
count_less : {A : Type 0} (t : A → Bool) (xs : List A) → length (filter t xs) ≤ length xs
count_less t [] = omega arith
count_less t (x ∷ xs) = fewer (t x) (count_less t xs)
  where
    fewer : (b : Bool) → length (filter t xs) ≤ length xs → length (cond b (x ∷ filter t xs) (filter t xs))
        ≤ length (x ∷ xs)
    fewer true l = omega arith
    fewer false l = omega arith

-- a revision shows no more characters than the log has
pub visible_low : (log : List Op) (rev : ℕ) → IsHistory log → length (visible (characters_at rev log))
    ≤ length (characters_in log).inserted
visible_low log rev h =
    let whole = IsTree-history log h in
    let part = IsTree-history (take rev log) (IsHistory-take log rev h) in
    omega (
      arith,
      length-cells_at log rev whole part,
      length-cells_of log whole,
      count_less (shown_at rev) (cells_of log),
    )

-- what a comment that is not refused keeps to
pub record IsCommentable (rev at len : ℕ) (text : List ℕ) (log : List Op) : Type 0 where
  pub within : at + len ≤ length (visible (characters_at rev log))
  pub some : 1 ≤ len
  pub filled : 1 ≤ length text
  pub few : length text ≤ MAX_COMMENT
  pub short : length log < MAX_OPERATIONS
  pub comments : count_by is_comment log < MAX_COMMENTS

-- a comment that is not refused keeps to it
pub commentable : (rev at len : ℕ) (text : List ℕ) (log : List Op) → comment_refusal rev at len text log ≡ None →
    IsCommentable rev at len text log
commentable rev at len text log e =
    let a = unless _ _ _ e in
    let b = unless _ _ _ a.1 in
    let c = unless _ _ _ b.1 in
    let d = unless _ _ _ c.1 in
    let f = unless _ _ _ d.1 in
    let g = unless _ _ _ f.1 in
    let filled = or_parts _ _ c.0 in
    record {
      within = ltb-false (length (visible (characters_at rev log))) (at + len) b.0;
      some = not_zero len filled.0;
      filled = not_zero (length text) filled.1;
      few = ltb-false MAX_COMMENT (length text) d.0;
      short = leb-false MAX_OPERATIONS (length log) f.0;
      comments = leb-false MAX_COMMENTS (count_by is_comment log) g.0;
    }

same_part : (a b : Part) → a ∷ [] ≡ b ∷ [] → a ≡ b
same_part a b e = cc

-- the stamps of a comment's part
shape_of : (o p : Option Stamp) (text : List ℕ) (part : Part) → comment_between o p text ≡ part ∷ [] → (first : Stamp)
    × (last : Stamp) × (o ≡ Some first) × (p ≡ Some last) × (Comment first last text ≡ part)
shape_of (Some first) (Some last) text part e = (first, last, refl, refl, same_part (Comment first last text) part e)
shape_of (Some first) None text part e = absurd (cc)
shape_of None (Some last) text part e = absurd (cc)
shape_of None None text part e = absurd (cc)

-- a comment that is not refused is in the limits
pub comment_checked : (own : ℕ) (author : List ℕ) (rev at len : ℕ) (text : List ℕ) (part : Part) (log : List Op) →
    comment_refusal rev at len text log ≡ None → comment_parts (characters_at rev log) at len text ≡ part ∷ [] →
    IsHistory log → is_name author ≡ true → 1 ≤ own →
    is_checked (op_of own author (part ∷ []) log) ≡ true
comment_checked own author rev at len text part log none made h named low =
    let c = commentable rev at len text log none in
    let shape = shape_of (stamp_at (characters_at rev log) at) (stamp_at (characters_at rev log) (at + len - 1)) text
    part made in
    subst (λ part. is_checked (op_of own author (part ∷ []) log) ≡ true) shape.4
    (op_checked own author (Comment shape.0 shape.1 text ∷ []) log h c.short named low
    (rw (le-leb 1 (length text) c.filled, le-leb (length text) MAX_COMMENT c.few) refl))

-- it fits, and passes no limit
pub comment_fits : (own : ℕ) (author : List ℕ) (rev at len : ℕ) (text : List ℕ) (part : Part) (log : List Op) →
    comment_refusal rev at len text log ≡ None → comment_parts (characters_at rev log) at len text ≡ part ∷ [] →
    IsDelivered log →
    delivery_refusal (op_of own author (part ∷ []) log) log ≡ None
comment_fits own author rev at len text part log none made d =
    let c = commentable rev at len text log none in
    let some = c.some in
    let room = d.room in
    let shape = shape_of (stamp_at (characters_at rev log) at) (stamp_at (characters_at rev log) (at + len - 1)) text
    part made in
    let stands = shown_stands log rev at (at + len - 1) shape.0 shape.1 d.history (omega arith) shape.2 shape.3 in
    subst (λ part. delivery_refusal (op_of own author (part ∷ []) log) log ≡ None) shape.4
    (delivered (op_of own author (Comment shape.0 shape.1 text ∷ []) log) log
    (and_from _ _ (and_from _ _ stands refl) refl) (omega arith) c.short
    (lt-leb MAX_COMMENTS (count_by is_comment log) c.comments))

-- a resolution of a comment that is there is in the limits
pub resolve_checked : (own : ℕ) (author : List ℕ) (name : OpName) (log : List Op) → has_comment name log ≡ true →
    length log < MAX_OPERATIONS → IsHistory log → is_name author ≡ true → 1 ≤ own →
    is_checked (op_of own author (Resolve name ∷ []) log) ≡ true
resolve_checked own author name log there short h named low =
    let found = found_has (λ op. is_comment op && same_name op.name name) IsNamed log there (each_named log h) in
    let same : (eqb found.0.name.origin name.origin ≡ true) × (eqb found.0.name.number name.number ≡ true) =
    and_parts (eqb found.0.name.origin name.origin) (eqb found.0.name.number name.number)
    (and_parts (is_comment found.0) (same_name found.0.name name) found.1.0).1
    in
    let origin : found.0.name.origin ≡ name.origin = eqb-true found.0.name.origin name.origin same.0 in
    let number : found.0.name.number ≡ name.number = eqb-true found.0.name.number name.number same.1 in
    let some = found.1.1 in
    op_checked own author (Resolve name ∷ []) log h short named low
    (rw (le-leb 1 name.origin (omega arith), le-leb 1 name.number (omega arith)) refl)
