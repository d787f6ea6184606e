-- What a book lists at a revision.
use Rattle.std.proofs.Common.{◌≡◌, ℕ, zero, suc, ◌+◌, ◌-◌, ◌≤◌, ◌<◌, nat_le, Bool, true, false, ◌||◌, cond, List, []}
use Rattle.std.proofs.Common.{◌∷◌, ◌++◌, length, map, flat_map, fold, take, min, Option, Some, None, is_some, refl, sym}
use Rattle.std.proofs.Common.{ap, ap₂, ◌∙◌, subst, arith, le-leb}
use Rattle.std.specs.List.{AllByRecursion, list_all}
use Rattle.std.proofs.lemmas.Bool.{and_parts, or_left, or_right, and_from, false≢true}
use Rattle.std.proofs.lemmas.List.{length-append, length-take}
use Rattle.std.proofs.lemmas.List.Concat.{flat_map-append}
use Rattle.std.proofs.lemmas.List.Folds.{list_any-append}
use Rattle.std.proofs.lemmas.List.Sorted.{list_any-IsPermutation}
use Rattle.pad_model.specs.Stamp.{Stamp, same_stamp}
use Rattle.pad_model.specs.Cell.{Cell, character_of, shown_at}
use Rattle.pad_model.specs.Character.{Character}
use Rattle.pad_model.specs.Checked.{is_edit}
use Rattle.pad_model.specs.History.{IsHistory, cells_of}
use Rattle.pad_model.specs.Laws.{itself}
use Rattle.pad_model.specs.Legal.{has_stamp}
use Rattle.pad_model.specs.Log.{same_name, stands_before, part_is_valid}
use Rattle.pad_model.specs.Operation.{Characters, author_of, characters_in, inserted_by}
use Rattle.pad_model.specs.Order.{order}
use Rattle.pad_model.specs.Visible.{shown_before, shown_through, visible_before, visible_through}
use Rattle.pad_model.specs.declared.op.Op.{Op}
use Rattle.pad_model.specs.declared.op.OpName.{OpName}
use Rattle.pad_model.specs.declared.op.Part.{Part}
use Rattle.pad_model.specs.declared.op.Part.TheVariants.{Insert, Delete, Comment, Resolve}
use Rattle.pad_model.proofs.Each.{each-imply, each-permutation}
use Rattle.pad_model.proofs.Growth.{IsHistory-take, IsTree-history}
use Rattle.pad_model.proofs.Members.{order-permutation}
use Rattle.pad_model.proofs.Newer.{split, same_stamp-true}
use Rattle.pad_model.proofs.Shown.{before_at-cells_of, through_at-cells_of}
use Rattle.comments.specs.Comments.{earlier, resolved_at, with_comment, with_resolution, born_by, is_resolved, has_both}
use Rattle.comments.specs.Comments.{shown, comments_at, AreHeld}
use Rattle.comments.specs.declared.comment.Comment as kept
use Rattle.comments.specs.declared.show.Shown.{Shown}
use Rattle.comments.proofs.CallerLemmas.{members-with_comment, born_by-with_comment, comments_at-with_comment}
use Rattle.comments.proofs.CallerLemmas.{comments_at-with_resolution, held-with_resolution}
use Rattle.pad_core.specs.Book.{entered, book_from, book_of}
use Rattle.pad_core.specs.Comments.{comments_of}
use Rattle.pad_core.specs.Counts.{AreNumbered}
use Rattle.pad_core.specs.Delivered.{IsDelivered}
use Rattle.pad_core.proofs.Booked.{book_of-push, by_parts, edits_enter}
use Rattle.pad_core.proofs.Commented.{bare, shown_bare, bare-book_of, comments_of-bare}
use Rattle.pad_core.proofs.Histories.{Follows, grown, AreNumbered-take}

-- both of two stamps are there if one is before the other
both_there : (xs : List Character) (a b : Stamp) → stands_before itself xs a b ≡ true → (has_stamp itself xs a ≡ true)
    × (has_stamp itself xs b ≡ true)
both_there [] a b stands = absurd (false≢true stands)
both_there (x ∷ xs) a b stands =
    split (same_stamp x.stamp a)
    (λ e. (
      or_left (same_stamp x.stamp a) (has_stamp itself xs a) e,
      subst (λ s. (same_stamp s b || has_stamp itself xs b) ≡ true) (sym (same_stamp-true x.stamp a e))
          (rw e at stands),
    ))
    (λ e. let rest = both_there xs a b (rw e at stands) in (
      or_right (same_stamp x.stamp a) (has_stamp itself xs a) rest.0,
      or_right (same_stamp x.stamp b) (has_stamp itself xs b) rest.1,
    ))

-- a comment of a book that was made by a revision on characters of a log
pub record IsPlaced (rev : ℕ) (log : List Op) (c : kept.Comment) : Type 0 where
  pub born : nat_le c.born rev ≡ true
  pub known : is_resolved rev c.resolved ≡ is_some c.resolved
  pub first : has_stamp itself (characters_in log).inserted c.first ≡ true
  pub last : has_stamp itself (characters_in log).inserted c.last ≡ true

stamp_stays : (log : List Op) (op : Op) (s : Stamp) → has_stamp itself (characters_in log).inserted s ≡ true →
    has_stamp itself (characters_in (log ++ op ∷ [])).inserted s ≡ true
stamp_stays log op s there =
    ap (λ l. has_stamp itself l s) (flat_map-append inserted_by log (op ∷ []))
    ∙ list_any-append (λ x. same_stamp x.stamp s) (characters_in log).inserted (flat_map inserted_by (op ∷ []))
    ∙ or_left (has_stamp itself (characters_in log).inserted s) _ there

placed_stays : (rev : ℕ) (log : List Op) (op : Op) (c : kept.Comment) → IsPlaced rev log c →
    IsPlaced rev (log ++ op ∷ []) c
placed_stays rev log op c p = record { born = p.born; known = p.known; first = stamp_stays log op c.first p.first; last = stamp_stays log op c.last p.last }

earlier_known : (before : Option ℕ) (now rev : ℕ) → now ≤ rev → nat_le (earlier before now) rev ≡ true
earlier_known None now rev by = le-leb now rev by
earlier_known (Some before) now rev by = le-leb (min before now) rev (omega arith)

placed_resolved : (rev now : ℕ) (name : OpName) (log : List Op) (comments : List kept.Comment) → now ≤ rev →
    AllByRecursion (IsPlaced rev log) comments → AllByRecursion (IsPlaced rev log) (with_resolution name now comments)
placed_resolved rev now name log [] by placed = tt
placed_resolved rev now name log (c ∷ comments) by placed =
    (one (same_name c.name name), placed_resolved rev now name log comments by placed.1)
  where
    one : (b : Bool) → IsPlaced rev log (cond b (resolved_at now c) c)
    one true = record { born = placed.0.born; known = earlier_known c.resolved now rev by; first = placed.0.first; last = placed.0.last }
    one false = placed.0

placed_entered : (rev : ℕ) (log : List Op) (op : Op) → Follows log op → length log + 1 ≤ rev →
    AllByRecursion (IsPlaced rev (log ++ op ∷ [])) (book_of log) →
    (parts : List Part) → op.parts ≡ parts → list_all is_edit parts ≡ true →
    AllByRecursion (IsPlaced rev (log ++ op ∷ [])) (fold (entered (length log + 1) op) (book_of log) parts)
placed_entered rev log op follows by placed parts is edits = subst (AllByRecursion (IsPlaced rev (log ++ op ∷ [])))
    (sym (edits_enter (length log + 1) op (book_of log) parts edits)) placed

placed_comment : (rev : ℕ) (log : List Op) (op : Op) (first last : Stamp) (text : List ℕ) → Follows log op → length log
    + 1 ≤ rev → AllByRecursion (IsPlaced rev (log ++ op ∷ [])) (book_of log) →
    part_is_valid (Comment first last text) log ≡ true → AllByRecursion (IsPlaced rev (log ++ op ∷ []))
    (entered (length log + 1) op (book_of log) (Comment first last text))
placed_comment rev log op first last text follows by placed valid =
    let new : kept.Comment = record { name = op.name; first = first; last = last; author = author_of op; text = text; born = length log + 1; resolved = None } in
    let set = (characters_in log).inserted in
    let both = both_there (order itself set) first last valid in
    let permuted = order-permutation itself set (IsTree-history log follows.history) in
    let there : (s : Stamp) → has_stamp itself (order itself set) s ≡ true →
    has_stamp itself (characters_in (log ++ op ∷ [])).inserted s ≡ true =
    λ s h. stamp_stays log op s (list_any-IsPermutation (λ x. same_stamp x.stamp s) set (order itself set) permuted ∙ h)
    in
    let here : IsPlaced rev (log ++ op ∷ []) new =
    record { born = le-leb (length log + 1) rev by; known = refl; first = there first both.0; last = there last both.1 }
    in
    each-permutation (IsPlaced rev (log ++ op ∷ [])) (new ∷ book_of log) (with_comment new (book_of log))
    (members-with_comment (book_of log) new) (here, placed)

valid_part : (log : List Op) (op : Op) (part : Part) → Follows log op → op.parts ≡ part ∷ [] → part_is_valid part log
    ≡ true
valid_part log op part follows is =
    let all = (and_parts (list_all (λ p. part_is_valid p log) op.parts) _ follows.valid).0 in
    (and_parts (part_is_valid part log) true (sym (ap (list_all (λ p. part_is_valid p log)) is) ∙ all)).0

-- the comments of a log's book were made by its revision, on its characters
pub placed-book_of : (log : List Op) → IsHistory log → AreNumbered [] log → (rev : ℕ) → length log ≤ rev →
    AllByRecursion (IsPlaced rev log) (book_of log)
placed-book_of log h n =
    grown (λ l. (rev : ℕ) → length l ≤ rev → AllByRecursion (IsPlaced rev l) (book_of l)) (λ rev by. tt)
    (λ l op follows old rev by.
    let longer : length (l ++ op ∷ []) ≡ length l + 1 = length-append l (op ∷ []) in
    let more : length l + 1 ≤ rev = omega arith in
    let placed = each-imply (IsPlaced rev l) (IsPlaced rev (l ++ op ∷ [])) (λ c p. placed_stays rev l op c p)
    (book_of l) (old rev (omega arith)) in
    subst (AllByRecursion (IsPlaced rev (l ++ op ∷ []))) (sym (book_of-push l op))
    (by_parts (λ parts. op.parts ≡ parts → AllByRecursion (IsPlaced rev (l ++ op ∷ []))
    (fold (entered (length l + 1) op) (book_of l) parts))
    (λ parts edits is. placed_entered rev l op follows more placed parts is edits)
    (λ first last text is. placed_comment rev l op first last text follows more placed
    (valid_part l op (Comment first last text) follows is))
    (λ comment is. placed_resolved rev (length l + 1) comment (l ++ op ∷ []) (book_of l) more placed)
    op follows.checked refl))
    log h n

-- later operations change nothing of a revision
later_parts : (rev from : ℕ) (cells : List Cell) (op : Op) (comments : List kept.Comment) (parts : List Part) →
    rev < from → comments_at rev cells (fold (entered from op) comments parts) ≡ comments_at rev cells comments
later_parts rev from cells op comments [] later = refl
later_parts rev from cells op comments (Insert run ∷ parts) later = later_parts rev from cells op comments parts later
later_parts rev from cells op comments (Delete spans ∷ parts) later = later_parts rev from cells op comments parts later
later_parts rev from cells op comments (Comment first last text ∷ parts) later =
    let new : kept.Comment = record { name = op.name; first = first; last = last; author = author_of op; text = text; born = from; resolved = None } in
    later_parts rev from cells op (with_comment new comments) parts later
    ∙ comments_at-with_comment rev cells comments new later
later_parts rev from cells op comments (Resolve comment ∷ parts) later =
    later_parts rev from cells op (with_resolution comment from comments) parts later
    ∙ comments_at-with_resolution comment from rev cells comments later

later_log : (rev from : ℕ) (cells : List Cell) (comments : List kept.Comment) (log : List Op) → rev < from →
    comments_at rev cells (book_from from comments log) ≡ comments_at rev cells comments
later_log rev from cells comments [] later = refl
later_log rev from cells comments (op ∷ log) later =
    later_log rev (suc from) cells (fold (entered from op) comments op.parts) log (omega arith)
    ∙ later_parts rev from cells op comments op.parts later

first_log : (rev from k : ℕ) (cells : List Cell) (comments : List kept.Comment) (log : List Op) → rev + 1 ≡ from + k →
    comments_at rev cells (book_from from comments log) ≡ comments_at rev cells (book_from from comments (take k log))
first_log rev from zero cells comments log at = later_log rev from cells comments log (omega arith)
first_log rev from (suc k) cells comments [] at = refl
first_log rev from (suc k) cells comments (op ∷ log) at =
    first_log rev (suc from) k cells (fold (entered from op) comments op.parts) log (omega arith)

-- nor the stamps of its comments
later_parts_held : (rev from : ℕ) (cells : List Cell) (op : Op) (comments : List kept.Comment) (parts : List Part) →
    rev < from → AreHeld cells (born_by rev comments) →
    AreHeld cells (born_by rev (fold (entered from op) comments parts))
later_parts_held rev from cells op comments [] later held = held
later_parts_held rev from cells op comments (Insert run ∷ parts) later held =
    later_parts_held rev from cells op comments parts later held
later_parts_held rev from cells op comments (Delete spans ∷ parts) later held =
    later_parts_held rev from cells op comments parts later held
later_parts_held rev from cells op comments (Comment first last text ∷ parts) later held =
    let new : kept.Comment = record { name = op.name; first = first; last = last; author = author_of op; text = text; born = from; resolved = None } in
    later_parts_held rev from cells op (with_comment new comments) parts later
    (subst (AreHeld cells) (sym (born_by-with_comment rev comments new later)) held)
later_parts_held rev from cells op comments (Resolve comment ∷ parts) later held =
    later_parts_held rev from cells op (with_resolution comment from comments) parts later
    (held-with_resolution cells comment from rev comments held)

later_log_held : (rev from : ℕ) (cells : List Cell) (comments : List kept.Comment) (log : List Op) → rev < from →
    AreHeld cells (born_by rev comments) → AreHeld cells (born_by rev (book_from from comments log))
later_log_held rev from cells comments [] later held = held
later_log_held rev from cells comments (op ∷ log) later held =
    later_log_held rev (suc from) cells (fold (entered from op) comments op.parts) log (omega arith)
    (later_parts_held rev from cells op comments op.parts later held)

first_log_held : (rev from k : ℕ) (cells : List Cell) (comments : List kept.Comment) (log : List Op) → rev + 1 ≡ from
    + k → AreHeld cells (born_by rev (book_from from comments (take k log))) →
    AreHeld cells (born_by rev (book_from from comments log))
first_log_held rev from zero cells comments log at held = later_log_held rev from cells comments log (omega arith) held
first_log_held rev from (suc k) cells comments [] at held = held
first_log_held rev from (suc k) cells comments (op ∷ log) at held =
    first_log_held rev (suc from) k cells (fold (entered from op) comments op.parts) log (omega arith) held

-- the place of a stamp that is found in the cells is its place in what is shown
found : (b : Bool) (n m : ℕ) → cond b (Some n) None ≡ Some m → (b ≡ true) × (n ≡ m)
found true n m is = (refl, same is)
  where
    same : (let a : Option ℕ = Some n in a) ≡ Some m → n ≡ m
    same e = cc
found false n m is = absurd (none is)
  where
    none : (let a : Option ℕ = None in a) ≡ Some m → ⊥
    none e = cc

-- what the cells tell of a comment
pub record IsRead (rev : ℕ) (set : Characters) (cells : List Cell) (c : kept.Comment) : Type 0 where
  pub born : nat_le c.born rev ≡ true
  pub known : is_resolved rev c.resolved ≡ is_some c.resolved
  pub held : has_both cells c.first c.last ≡ true
  pub before : shown_before character_of (shown_at rev) cells c.first ≡ visible_before set c.first
  pub through : shown_through character_of (shown_at rev) cells c.last ≡ visible_through set c.last

read_placed : (log : List Op) (rev : ℕ) (c : kept.Comment) → IsHistory log → IsPlaced rev (take rev log) c →
    IsRead rev (characters_in (take rev log)) (cells_of log) c
read_placed log rev c h p =
    let set = characters_in (take rev log) in
    let cells = cells_of log in
    let first = found (has_stamp character_of cells c.first) (shown_before character_of (shown_at rev) cells c.first)
    (visible_before set c.first) (before_at-cells_of log rev c.first h p.first) in
    let last = found (has_stamp character_of cells c.last) (shown_through character_of (shown_at rev) cells c.last)
    (visible_through set c.last) (through_at-cells_of log rev c.last h p.last) in
    record { born = p.born; known = p.known; held = and_from _ _ first.0 last.0; before = first.1; through = last.1 }

shown_read : (rev : ℕ) (set : Characters) (cells : List Cell) (c : kept.Comment) → IsRead rev set cells c →
    shown rev cells c ≡ shown_bare set (bare c)
shown_read rev set cells c r =
    ap₂ (λ at end. let x : Shown = record
    { name = c.name; author = c.author; text = c.text; at = at; len = end - at; resolved = is_resolved rev c.resolved }
    in x) r.before r.through
    ∙ ap (λ resolved. let x : Shown = record
    { name = c.name; author = c.author; text = c.text; at = visible_before set c.first; len = visible_through set c.last - visible_before set c.first; resolved = resolved } in x) r.known

list_read : (rev : ℕ) (set : Characters) (cells : List Cell) (comments : List kept.Comment) →
    AllByRecursion (IsRead rev set cells) comments → comments_at rev cells comments ≡ map (shown_bare set)
    (map bare comments)
list_read rev set cells [] read = refl
list_read rev set cells (c ∷ comments) read =
    rw read.0.born (ap₂ (λ (x : Shown) xs. x ∷ xs) (shown_read rev set cells c read.0)
    (list_read rev set cells comments read.1))

held_read : (rev : ℕ) (set : Characters) (cells : List Cell) (comments : List kept.Comment) →
    AllByRecursion (IsRead rev set cells) comments → AreHeld cells (born_by rev comments)
held_read rev set cells [] read = tt
held_read rev set cells (c ∷ comments) read = rw read.0.born (read.0.held, held_read rev set cells comments read.1)

read-book_of : (log : List Op) (rev : ℕ) → IsHistory log → AreNumbered [] log →
    AllByRecursion (IsRead rev (characters_in (take rev log)) (cells_of log)) (book_of (take rev log))
read-book_of log rev h n =
    let few : length (take rev log) ≡ min rev (length log) = length-take rev log in
    each-imply (IsPlaced rev (take rev log)) (IsRead rev (characters_in (take rev log)) (cells_of log))
    (λ c p. read_placed log rev c h p) (book_of (take rev log))
    (placed-book_of (take rev log) (IsHistory-take log rev h) (AreNumbered-take log rev n) rev (omega arith))

-- the stamps of a revision's comments are in the cells of the log
pub held-book_of : (log : List Op) (rev : ℕ) → IsDelivered log → AreHeld (cells_of log) (born_by rev (book_of log))
held-book_of log rev delivered =
    first_log_held rev 1 rev (cells_of log) [] log (omega arith)
    (held_read rev (characters_in (take rev log)) (cells_of log) (book_of (take rev log))
    (read-book_of log rev delivered.history delivered.numbered))

-- and what the book lists is what the revision shows
pub comments_at-book_of : (log : List Op) (rev : ℕ) → IsDelivered log → comments_at rev (cells_of log) (book_of log)
    ≡ comments_of (take rev log)
comments_at-book_of log rev delivered =
    let set = characters_in (take rev log) in
    first_log rev 1 rev (cells_of log) [] log (omega arith)
    ∙ list_read rev set (cells_of log) (book_of (take rev log))
    (read-book_of log rev delivered.history delivered.numbered)
    ∙ ap (map (shown_bare set)) (bare-book_of (take rev log) (IsHistory-take log rev delivered.history)
    (AreNumbered-take log rev delivered.numbered))
    ∙ sym (comments_of-bare (take rev log))
