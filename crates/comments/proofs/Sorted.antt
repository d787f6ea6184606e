-- Comments by name: what a search finds, and what a new one leaves.
use Rattle.std.proofs.Common.{◌≡◌, ℕ, zero, suc, ◌≤◌, ◌<◌, nat_le, Bool, true, false, cond, List, [], ◌∷◌, length}
use Rattle.std.proofs.Common.{get_or, set, map, slice_get, is_some, Option, Some, None, ◌⊎◌, inl, inr, refl, sym, ap}
use Rattle.std.proofs.Common.{ap₂, ◌∙◌, subst, arith}
use Rattle.std.specs.List.{AllByRecursion, insert, prefix_len}
use Rattle.std.specs.List.Sorted.{IsPartitionedBy, IsPartitionPoint}
use Rattle.std.proofs.lemmas.Bool.{cases_eq, le-leb, or_parts}
use Rattle.std.proofs.lemmas.List.{length-map}
use Rattle.std.proofs.lemmas.List.Edits.{length-insert}
use Rattle.std.proofs.lemmas.List.Sums.{prefix_len-le-length}
use Rattle.std.proofs.lemmas.Option.{gets, slice_get_read}
use Rattle.std.specs.Option.{IfSome, IfNone}
use Rattle.pad_model.proofs.Newer.{split}
use Rattle.pad_model.proofs.Each.{each-imply}
use Rattle.pad_model.specs.Cell.{Cell}
use Rattle.pad_model.specs.Log.{precedes, same_name}
use Rattle.pad_model.specs.declared.limits.TheConstants.{MAX_COMMENTS}
use Rattle.pad_model.specs.declared.op.OpName.{OpName}
use Rattle.comments.specs.Comments.{IsByName, is_comment, comment_of, place_of, with_comment, resolved_at}
use Rattle.comments.specs.Comments.{with_resolution, born_by, has_both, IsBook, AreHeld}
use Rattle.comments.specs.declared.comment.Comment.{Comment}
use Rattle.pad_model.proofs.Names.{precedes-trans, same-precedes, follows, precedes-other}

each_get : {A : Type 0} (P : A → Type 0) (xs : List A) (k : ℕ) (d : A) → AllByRecursion P xs → k < length xs →
    P (get_or xs k d)
each_get P [] k d h lt = absurd (omega arith)
each_get P (x ∷ xs) zero d h lt = h.0
each_get P (x ∷ xs) (suc k) d h lt = each_get P xs k d h.1 (omega arith)

-- if all items before an index pass a test and all from it on fail, the index is the length of the prefix that passes
pub prefix-parted : {A : Type 0} (p : A → Bool) (xs : List A) (i : ℕ) → i ≤ length xs →
    IsPartitionPoint (λ x. p x ≡ true) (λ x. p x ≡ false) xs i → i ≡ prefix_len p xs
prefix-parted p [] i h parted = omega arith
prefix-parted p (x ∷ xs) zero h parted = let fails : p x ≡ false = parted.1 0 x (omega arith) (omega arith) in
    rw fails refl
prefix-parted p (x ∷ xs) (suc i) h parted =
    let passes : p x ≡ true = parted.0 0 x (omega arith) (omega arith) in
    let rest : i ≡ prefix_len p xs = prefix-parted p xs i (omega arith) (
      λ k d low high. parted.0 (suc k) d (omega arith) (omega arith),
      λ k d low high. parted.1 (suc k) d (omega arith) (omega arith),
    ) in
    rw passes (omega arith)

names_rise : (comments : List Comment) (i j : ℕ) (d : Comment) → IsByName comments → i < j → j < length comments →
    precedes (get_or comments i d).name (get_or comments j d).name ≡ true
names_rise [] i j d sorted lt within = absurd (omega arith)
names_rise (c ∷ comments) i zero d sorted lt within = absurd (omega arith)
names_rise (c ∷ comments) zero (suc j) d sorted lt within =
    each_get (λ later. precedes c.name later.name ≡ true) comments j d sorted.0 (omega arith)
names_rise (c ∷ comments) (suc i) (suc j) d sorted lt within = names_rise comments i j d sorted.1 (omega arith)
    (omega arith)

-- the comments that come before a name are the first ones
pub parted_by_name : (comments : List Comment) (name : OpName) → IsByName comments →
    IsPartitionedBy (λ c. precedes c.name name) comments
parted_by_name comments name sorted i j d le within later = go (cases_eq i j)
  where
    go : (i ≡ j) ⊎ (i ≡ j → ⊥) → precedes (get_or comments i d).name name ≡ true
    go (inl same) = subst (λ k. precedes (get_or comments k d).name name ≡ true) (sym same) later
    go (inr other) = precedes-trans (get_or comments i d).name (get_or comments j d).name name
        (names_rise comments i j d sorted (omega arith) within) later

-- what follows a name that is no smaller than another is not that one
others : (name : OpName) (first : OpName) (comments : List Comment) → precedes first name ≡ false →
    AllByRecursion (λ later. precedes first later.name ≡ true) comments
    → AllByRecursion (λ c. same_name c.name name ≡ false) comments
others name first comments stops later = each-imply (λ c. precedes first c.name ≡ true)
    (λ c. same_name c.name name ≡ false) (λ c h. follows first c.name name stops h) comments later

none_found : (name : OpName) (comments : List Comment) → AllByRecursion (λ c. same_name c.name name ≡ false) comments →
    comment_of name comments ≡ None
none_found name [] h = refl
none_found name (c ∷ comments) h = rw h.0 (none_found name comments h.1)

-- the place of a name after a comment that comes before it, and before one that does not
place_later : (x : Comment) (comments : List Comment) (name : OpName) → precedes x.name name ≡ true →
    place_of name (x ∷ comments) ≡ suc (place_of name comments)
place_later x comments name before = rw before (omega arith)

place_here : (x : Comment) (comments : List Comment) (name : OpName) → precedes x.name name ≡ false →
    place_of name (x ∷ comments) ≡ 0
place_here x comments name stops = rw stops refl

at_later : (x : Comment) (comments : List Comment) (name : OpName) → precedes x.name name ≡ true →
    slice_get (x ∷ comments) (place_of name (x ∷ comments)) ≡ slice_get comments (place_of name comments)
at_later x comments name before = ap (slice_get (x ∷ comments)) (place_later x comments name before)

at_here : (x : Comment) (comments : List Comment) (name : OpName) → precedes x.name name ≡ false →
    slice_get (x ∷ comments) (place_of name (x ∷ comments)) ≡ Some x
at_here x comments name stops = ap (slice_get (x ∷ comments)) (place_here x comments name stops)

-- the comment at a name's place, if it has that name
pub found_there : (comments : List Comment) (name : OpName) (c : Comment) → IsByName comments →
    slice_get comments (place_of name comments) ≡ Some c → same_name c.name name ≡ true
    → comment_of name comments ≡ Some c
found_there [] name c sorted is same = absurd (cc)
found_there (x ∷ comments) name c sorted is same =
    split (precedes x.name name)
    (λ before. rw (same-precedes x.name name before)
    (found_there comments name c sorted.1 (sym (at_later x comments name before) ∙ is) same))
    (λ stops.
    let here : x ≡ c = (let at : Some x ≡ Some c = sym (at_here x comments name stops) ∙ is in cc) in
    let is_named : same_name x.name name ≡ true = subst (λ (y : Comment). same_name y.name name ≡ true)
    (sym here) same in
    rw is_named (ap (λ (y : Comment). Some y) here))

-- no comment has a name if the one at its place has another
pub none_there : (comments : List Comment) (name : OpName) (c : Comment) → IsByName comments →
    slice_get comments (place_of name comments) ≡ Some c → same_name c.name name ≡ false
    → comment_of name comments ≡ None
none_there [] name c sorted is other = refl
none_there (x ∷ comments) name c sorted is other =
    split (precedes x.name name)
    (λ before. rw (same-precedes x.name name before)
    (none_there comments name c sorted.1 (sym (at_later x comments name before) ∙ is) other))
    (λ stops.
    let here : x ≡ c = (let at : Some x ≡ Some c = sym (at_here x comments name stops) ∙ is in cc) in
    let is_other : same_name x.name name ≡ false = subst (λ (y : Comment). same_name y.name name ≡ false)
    (sym here) other in
    rw is_other (none_found name comments (others name x.name comments stops sorted.0)))

-- nor if all come before it
pub none_behind : (comments : List Comment) (name : OpName) → slice_get comments (place_of name comments) ≡ None →
    comment_of name comments ≡ None
none_behind [] name is = refl
none_behind (x ∷ comments) name is =
    split (precedes x.name name)
    (λ before. rw (same-precedes x.name name before)
    (none_behind comments name (sym (at_later x comments name before) ∙ is)))
    (λ stops. absurd (let at : Some x ≡ None = sym (at_here x comments name stops) ∙ is in cc))

-- there is a comment with a name if one is found
pub some_found : (name : OpName) (comments : List Comment) → is_some (comment_of name comments)
    ≡ is_comment name comments
some_found name [] = refl
some_found name (x ∷ comments) = split (same_name x.name name) (λ same. rw same refl)
    (λ other. rw other (some_found name comments))

-- a new comment at its place
each_insert : {A : Type 0} (P : A → Type 0) (xs : List A) (i : ℕ) (x : A) → P x → AllByRecursion P xs →
    AllByRecursion P (insert xs i x)
each_insert P [] zero x h hs = (h, tt)
each_insert P [] (suc i) x h hs = (h, tt)
each_insert P (y ∷ xs) zero x h hs = (h, hs)
each_insert P (y ∷ xs) (suc i) x h hs = (hs.0, each_insert P xs i x h hs.1)

pub sorted-with_comment : (comments : List Comment) (new : Comment) → IsByName comments → is_comment new.name comments
    ≡ false → IsByName (with_comment new comments)
sorted-with_comment [] new sorted fresh = (tt, tt)
sorted-with_comment (x ∷ comments) new sorted fresh =
    let parts = or_parts (same_name x.name new.name) (is_comment new.name comments) fresh in
    split (precedes x.name new.name)
    (λ before.
    subst (λ i. IsByName (insert (x ∷ comments) i new)) (sym (place_later x comments new.name before)) (
      each_insert (λ later. precedes x.name later.name ≡ true) comments (place_of new.name comments) new before sorted.0,
      sorted-with_comment comments new sorted.1 parts.1,
    ))
    (λ stops.
    let after : precedes new.name x.name ≡ true = precedes-other x.name new.name stops parts.0 in
    subst (λ i. IsByName (insert (x ∷ comments) i new)) (sym (place_here x comments new.name stops))
    ((
      (
        after,
        each-imply (λ later. precedes x.name later.name ≡ true) (λ later. precedes new.name later.name ≡ true)
            (λ later h. precedes-trans new.name x.name later.name after h) comments sorted.0,
      ),
      sorted,
    )))

-- comments that keep their names keep their order
each_named : (first : OpName) (f : Comment → Comment) → ((c : Comment) → (f c).name ≡ c.name) →
    (comments : List Comment) → AllByRecursion (λ later. precedes first later.name ≡ true) comments
    → AllByRecursion (λ later. precedes first later.name ≡ true) (map f comments)
each_named first f same [] h = tt
each_named first f same (c ∷ comments) h = (
  subst (λ n. precedes first n ≡ true) (sym (same c)) h.0,
  each_named first f same comments h.1,
)

sorted-map : (f : Comment → Comment) → ((c : Comment) → (f c).name ≡ c.name) → (comments : List Comment) →
    IsByName comments → IsByName (map f comments)
sorted-map f same [] sorted = tt
sorted-map f same (c ∷ comments) sorted = (
  subst (λ n. AllByRecursion (λ later. precedes n later.name ≡ true) (map f comments)) (sym (same c))
      (each_named c.name f same comments sorted.0),
  sorted-map f same comments sorted.1,
)

pub sorted-with_resolution : (name : OpName) (rev : ℕ) (comments : List Comment) → IsByName comments →
    IsByName (with_resolution name rev comments)
sorted-with_resolution name rev comments sorted =
    sorted-map (λ c. cond (same_name c.name name) (resolved_at rev c) c)
    (λ c. split (same_name c.name name) (λ same. rw same refl) (λ other. rw other refl)) comments sorted

-- comments of other names stay as they are
stays : (name : OpName) (rev : ℕ) (comments : List Comment) →
    AllByRecursion (λ c. same_name c.name name ≡ false) comments → with_resolution name rev comments ≡ comments
stays name rev [] h = refl
stays name rev (c ∷ comments) h = rw h.0 (ap (λ cs. c ∷ cs) (stays name rev comments h.1))

-- the comment with a name, replaced by the resolved one
pub set_resolved : (comments : List Comment) (name : OpName) (rev : ℕ) (c : Comment) → IsByName comments →
    slice_get comments (place_of name comments) ≡ Some c → same_name c.name name ≡ true
    → set comments (place_of name comments) (resolved_at rev c) ≡ with_resolution name rev comments
set_resolved [] name rev c sorted is same = absurd (cc)
set_resolved (x ∷ comments) name rev c sorted is same =
    split (precedes x.name name)
    (λ before.
    ap (λ i. set (x ∷ comments) i (resolved_at rev c)) (place_later x comments name before)
    ∙ rw (same-precedes x.name name before)
    (ap (λ cs. x ∷ cs) (set_resolved comments name rev c sorted.1 (sym (at_later x comments name before) ∙ is) same)))
    (λ stops.
    let here : x ≡ c = (let at : Some x ≡ Some c = sym (at_here x comments name stops) ∙ is in cc) in
    let is_named : same_name x.name name ≡ true = subst (λ (y : Comment). same_name y.name name ≡ true)
    (sym here) same in
    ap (λ i. set (x ∷ comments) i (resolved_at rev c)) (place_here x comments name stops)
    ∙ rw is_named (ap₂ (λ (y : Comment) cs. y ∷ cs) (ap (resolved_at rev) (sym here))
    (sym (stays name rev comments (others name x.name comments stops sorted.0)))))

-- what was read at a name's place is there
pub read_there : (comments : List Comment) (name : OpName) (place : ℕ) (c : Comment) → place ≡ place_of name comments →
    place < length comments → c ≡ get_or comments place c
    → slice_get comments (place_of name comments) ≡ Some c
read_there comments name place c same within read = ap (slice_get comments) (sym same)
    ∙ slice_get_read comments (length comments) place c refl within read

-- the result of a search by name: where the comment is, or that there is none
abbrev pub Finds : List Comment → OpName → ℕ → Type 0
Finds comments name place = (place < length comments) × (place ≡ place_of name comments)
    × (slice_get comments place ≡ comment_of name comments)

pub found_or_none : (comments : List Comment) (name : OpName) (r : Option ℕ) → IfSome r (Finds comments name) →
    IfNone r (comment_of name comments ≡ None) → is_some r ≡ is_comment name comments
found_or_none comments name None found none = ap is_some (sym none) ∙ some_found name comments
found_or_none comments name (Some place) found none =
    let some : is_some (slice_get comments place) ≡ true = grind (arith, gets, found.0) in
    sym some ∙ ap is_some found.2 ∙ some_found name comments

found_named : (comments : List Comment) (name : OpName) (c : Comment) → comment_of name comments ≡ Some c →
    same_name c.name name ≡ true
found_named [] name c is = absurd (cc)
found_named (x ∷ comments) name c is =
    split (same_name x.name name)
    (λ same. let here : x ≡ c = (let at : Some x ≡ Some c = sym (rw same refl) ∙ is in cc) in
    subst (λ (y : Comment). same_name y.name name ≡ true) here same)
    (λ other. found_named comments name c (sym (rw other refl) ∙ is))

-- the comment that was found, replaced by the resolved one
pub resolved_there : (comments : List Comment) (name : OpName) (rev place : ℕ) (c : Comment) → IsByName comments →
    Finds comments name place → c ≡ get_or comments place c
    → (is_comment name comments ≡ true) × (set comments place (resolved_at rev c) ≡ with_resolution name rev comments)
resolved_there comments name rev place c sorted finds read =
    let there = read_there comments name place c finds.1 finds.0 read in
    let is : comment_of name comments ≡ Some c = sym finds.2 ∙ ap (slice_get comments) finds.1 ∙ there in (
      sym (some_found name comments) ∙ ap is_some is,
      ap (λ i. set comments i (resolved_at rev c)) finds.1 ∙ set_resolved comments name rev c sorted there
          (found_named comments name c is),
    )

-- a book with a new comment, or with a resolution
pub book-with_comment : (comments : List Comment) (new : Comment) → IsBook comments → is_comment new.name comments
    ≡ false → length comments < MAX_COMMENTS → IsBook (with_comment new comments)
book-with_comment comments new book fresh room = record {
  by_name = sorted-with_comment comments new book.by_name fresh;
  few = omega (
    arith,
    length-insert comments (place_of new.name comments) new
        (prefix_len-le-length (λ c. precedes c.name new.name) comments),
  );
}

pub book-with_resolution : (comments : List Comment) (name : OpName) (rev : ℕ) → IsBook comments →
    IsBook (with_resolution name rev comments)
book-with_resolution comments name rev book = record {
  by_name = sorted-with_resolution name rev comments book.by_name;
  few = omega (arith, book.few, length-map comments (λ c. cond (same_name c.name name) (resolved_at rev c) c));
}

-- a comment of a revision is held if all comments are
pub held_at : (cells : List Cell) (rev : ℕ) (comments : List Comment) (i : ℕ) (c : Comment) →
    AreHeld cells (born_by rev comments) → i < length comments → c ≡ get_or comments i c → c.born ≤ rev
    → has_both cells c.first c.last ≡ true
held_at cells rev [] i c held within read born = absurd (omega arith)
held_at cells rev (x ∷ comments) zero c held within read born =
    let is_born : nat_le x.born rev ≡ true = subst (λ (y : Comment). nat_le y.born rev ≡ true) read
    (le-leb c.born rev born) in
    let first : AreHeld cells (x ∷ born_by rev comments) = rw is_born at held in
    subst (λ (y : Comment). has_both cells y.first y.last ≡ true) (sym read) first.0
held_at cells rev (x ∷ comments) (suc i) c held within read born =
    held_at cells rev comments i c (split (nat_le x.born rev) (λ now. (rw now at held).1) (λ later. rw later at held))
    (omega arith) read born

pub not_found : (comments : List Comment) (name : OpName) → comment_of name comments ≡ None → is_comment name comments
    ≡ false
not_found comments name none = sym (some_found name comments) ∙ ap is_some none
