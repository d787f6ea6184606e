-- What the crates above need to know about a book that has changed.
use Rattle.std.proofs.Common.{◌≡◌, ℕ, zero, suc, ◌+◌, ◌<◌, nat_le, Bool, true, false, cond, ◌||◌, List, [], ◌∷◌, length}
use Rattle.std.proofs.Common.{map, Option, Some, None, IsPermutation, refl, sym, ap, ap₂, ◌∙◌, subst, arith}
use Rattle.std.specs.List.{insert, list_any}
use Rattle.std.proofs.lemmas.Bool.{lt-leb}
use Rattle.std.proofs.lemmas.Bool.Decides.{nat_tests}
use Rattle.std.proofs.lemmas.List.Edits.{length-insert}
use Rattle.std.proofs.lemmas.List.Sums.{prefix_len-le-length}
use Rattle.std.proofs.lemmas.List.Sorted.{IsPermutation-insert}
use Rattle.pad_model.proofs.Newer.{split}
use Rattle.pad_model.specs.Cell.{Cell}
use Rattle.pad_model.specs.Log.{precedes, same_name}
use Rattle.pad_model.specs.declared.op.OpName.{OpName}
use Rattle.comments.specs.Comments.{is_comment, place_of, with_comment, earlier, resolved_at, with_resolution, born_by}
use Rattle.comments.specs.Comments.{is_resolved, has_both, range_in, range_between, shown, comments_at, AreHeld}
use Rattle.comments.specs.declared.comment.Comment.{Comment}
use Rattle.comments.specs.declared.show.Shown.{Shown}

-- the members are the old ones and the new one
pub members-with_comment : (comments : List Comment) (new : Comment) → IsPermutation (new ∷ comments)
    (with_comment new comments)
members-with_comment comments new = IsPermutation-insert comments (place_of new.name comments) new

-- there is one more
pub length-with_comment : (comments : List Comment) (new : Comment) → length (with_comment new comments)
    ≡ length comments + 1
length-with_comment comments new = length-insert comments (place_of new.name comments) new
    (prefix_len-le-length (λ c. precedes c.name new.name) comments)

or_swap : (a b c : Bool) → (a || (b || c)) ≡ (b || (a || c))
or_swap true true c = refl
or_swap true false c = refl
or_swap false b c = refl

any-insert : {A : Type 0} (t : A → Bool) (xs : List A) (i : ℕ) (x : A) → list_any t (insert xs i x)
    ≡ (t x || list_any t xs)
any-insert t [] zero x = refl
any-insert t [] (suc i) x = refl
any-insert t (y ∷ xs) zero x = refl
any-insert t (y ∷ xs) (suc i) x = ap (λ b. t y || b) (any-insert t xs i x) ∙ or_swap (t y) (t x) (list_any t xs)

-- its name is that of a comment, and for every other name nothing changes
pub is_comment-with_comment : (comments : List Comment) (new : Comment) (name : OpName) →
    is_comment name (with_comment new comments) ≡ (same_name new.name name || is_comment name comments)
is_comment-with_comment comments new name = any-insert (λ c. same_name c.name name) comments
    (place_of new.name comments) new

-- an earlier revision does not show it
born-insert : (rev : ℕ) (xs : List Comment) (i : ℕ) (x : Comment) → nat_le x.born rev ≡ false →
    born_by rev (insert xs i x) ≡ born_by rev xs
born-insert rev [] zero x later = rw later refl
born-insert rev [] (suc i) x later = rw later refl
born-insert rev (y ∷ xs) zero x later = rw later refl
born-insert rev (y ∷ xs) (suc i) x later = ap (λ cs. cond (nat_le y.born rev) (y ∷ cs) cs)
    (born-insert rev xs i x later)

pub born_by-with_comment : (rev : ℕ) (comments : List Comment) (new : Comment) → rev < new.born →
    born_by rev (with_comment new comments) ≡ born_by rev comments
born_by-with_comment rev comments new later = born-insert rev comments (place_of new.name comments) new
    (lt-leb new.born rev later)

-- so an earlier revision shows what it showed
pub comments_at-with_comment : (rev : ℕ) (cells : List Cell) (comments : List Comment) (new : Comment) →
    rev < new.born → comments_at rev cells (with_comment new comments) ≡ comments_at rev cells comments
comments_at-with_comment rev cells comments new later = ap (map (shown rev cells))
    (born_by-with_comment rev comments new later)

-- a resolution neither adds nor removes a comment
pub is_comment-with_resolution : (name : OpName) (rev : ℕ) (comments : List Comment) (other : OpName) →
    is_comment other (with_resolution name rev comments) ≡ is_comment other comments
is_comment-with_resolution name rev [] other = refl
is_comment-with_resolution name rev (c ∷ comments) other =
    ap₂ (λ a b. a || b)
    (split (same_name c.name name) (λ same. rw same refl) (λ differs. rw differs refl))
    (is_comment-with_resolution name rev comments other)

pub length-with_resolution : (name : OpName) (rev : ℕ) (comments : List Comment) →
    length (with_resolution name rev comments) ≡ length comments
length-with_resolution name rev [] = refl
length-with_resolution name rev (c ∷ comments) = ap suc (length-with_resolution name rev comments)

-- an earlier revision does not show the resolution
earlier_stays : (before : Option ℕ) (from rev : ℕ) → rev < from → is_resolved rev (Some (earlier before from))
    ≡ is_resolved rev before
earlier_stays None from rev later = lt-leb from rev later
earlier_stays (Some before) from rev later = grind (arith, nat_tests)

shown_stays : (rev from : ℕ) (cells : List Cell) (c : Comment) (b : Bool) → rev < from →
    shown rev cells (cond b (resolved_at from c) c) ≡ shown rev cells c
shown_stays rev from cells c true later = ap (λ (r : Bool). record (shown rev cells c) { resolved = r })
    (earlier_stays c.resolved from rev later)
shown_stays rev from cells c false later = refl

born_stays : (from : ℕ) (c : Comment) (b : Bool) → (cond b (resolved_at from c) c).born ≡ c.born
born_stays from c true = refl
born_stays from c false = refl

both_stay : (cells : List Cell) (from : ℕ) (c : Comment) (b : Bool) → has_both cells c.first c.last ≡ true →
    (let d = cond b (resolved_at from c) c in has_both cells d.first d.last ≡ true)
both_stay cells from c true held = held
both_stay cells from c false held = held

-- the comments of a revision with one in front, if the revision has it
with_first : (rev : ℕ) (c : Comment) (comments : List Comment) →
    (nat_le c.born rev ≡ true → born_by rev (c ∷ comments) ≡ c ∷ born_by rev comments)
    × (nat_le c.born rev ≡ false → born_by rev (c ∷ comments) ≡ born_by rev comments)
with_first rev c comments = (λ now. rw now refl, λ later. rw later refl)

pub comments_at-with_resolution : (name : OpName) (from rev : ℕ) (cells : List Cell) (comments : List Comment) →
    rev < from
    → comments_at rev cells (with_resolution name from comments) ≡ comments_at rev cells comments
comments_at-with_resolution name from rev cells [] later = refl
comments_at-with_resolution name from rev cells (c ∷ comments) later =
    let d = cond (same_name c.name name) (resolved_at from c) c in
    let same_born : nat_le d.born rev ≡ nat_le c.born rev =
    ap (λ n. nat_le n rev) (born_stays from c (same_name c.name name)) in
    let rest = comments_at-with_resolution name from rev cells comments later in
    split (nat_le c.born rev)
    (λ now.
    ap (map (shown rev cells)) ((with_first rev d (with_resolution name from comments)).0 (same_born ∙ now))
    ∙ ap₂ (λ (x : Shown) xs. x ∷ xs) (shown_stays rev from cells c (same_name c.name name) later) rest
    ∙ sym (ap (map (shown rev cells)) ((with_first rev c comments).0 now)))
    (λ unborn.
    ap (map (shown rev cells)) ((with_first rev d (with_resolution name from comments)).1 (same_born ∙ unborn)) ∙ rest
    ∙ sym (ap (map (shown rev cells)) ((with_first rev c comments).1 unborn)))

held-first : (cells : List Cell) (rev : ℕ) (c : Comment) (comments : List Comment) → has_both cells c.first c.last
    ≡ true → AreHeld cells (born_by rev comments) → AreHeld cells (born_by rev (c ∷ comments))
held-first cells rev c comments there held =
    split (nat_le c.born rev)
    (λ now. subst (AreHeld cells) (sym ((with_first rev c comments).0 now)) (there, held))
    (λ later. subst (AreHeld cells) (sym ((with_first rev c comments).1 later)) held)

held-rest : (cells : List Cell) (rev : ℕ) (c : Comment) (comments : List Comment) →
    AreHeld cells (born_by rev (c ∷ comments)) → AreHeld cells (born_by rev comments)
held-rest cells rev c comments held =
    split (nat_le c.born rev)
    (λ now. (subst (AreHeld cells) ((with_first rev c comments).0 now) held).1)
    (λ later. subst (AreHeld cells) ((with_first rev c comments).1 later) held)

held-insert : (cells : List Cell) (rev : ℕ) (xs : List Comment) (i : ℕ) (x : Comment) → AreHeld cells (born_by rev xs) →
    has_both cells x.first x.last ≡ true → AreHeld cells (born_by rev (insert xs i x))
held-insert cells rev [] zero x held there = held-first cells rev x [] there held
held-insert cells rev [] (suc i) x held there = held-first cells rev x [] there held
held-insert cells rev (y ∷ xs) zero x held there = held-first cells rev x (y ∷ xs) there held
held-insert cells rev (y ∷ xs) (suc i) x held there =
    let rest = held-insert cells rev xs i x (held-rest cells rev y xs held) there in
    split (nat_le y.born rev)
    (λ now. held-first cells rev y (insert xs i x) ((subst (AreHeld cells) ((with_first rev y xs).0 now) held).0) rest)
    (λ later. subst (AreHeld cells) (sym ((with_first rev y (insert xs i x)).1 later)) rest)

-- a new comment whose stamps are there is held, like the others
pub held-with_comment : (cells : List Cell) (rev : ℕ) (comments : List Comment) (new : Comment) →
    AreHeld cells (born_by rev comments) → has_both cells new.first new.last ≡ true
    → AreHeld cells (born_by rev (with_comment new comments))
held-with_comment cells rev comments new held there =
    held-insert cells rev comments (place_of new.name comments) new held there

pub held-with_resolution : (cells : List Cell) (name : OpName) (from rev : ℕ) (comments : List Comment) →
    AreHeld cells (born_by rev comments) → AreHeld cells (born_by rev (with_resolution name from comments))
held-with_resolution cells name from rev [] held = tt
held-with_resolution cells name from rev (c ∷ comments) held =
    let d = cond (same_name c.name name) (resolved_at from c) c in
    let same_born : nat_le d.born rev ≡ nat_le c.born rev =
    ap (λ n. nat_le n rev) (born_stays from c (same_name c.name name)) in
    let rest = held-with_resolution cells name from rev comments (held-rest cells rev c comments held) in
    split (nat_le c.born rev)
    (λ now.
    held-first cells rev d (with_resolution name from comments)
    (both_stay cells from c (same_name c.name name)
    ((subst (AreHeld cells) ((with_first rev c comments).0 now) held).0)) rest)
    (λ later. subst (AreHeld cells) (sym ((with_first rev d (with_resolution name from comments)).1
    (same_born ∙ later))) rest)
