-- An operation fits what is kept beside a log just where it is valid after the log.
use Rattle.std.proofs.Common.{◌≡◌, ℕ, suc, ◌+◌, ◌≤◌, nat_le, leb, Bool, true, false, ◌&&◌, ◌||◌, List, [], ◌∷◌, length}
use Rattle.std.proofs.Common.{sum_by, Option, Some, None, refl, sym, ap, ap₂, ◌∙◌, arith, count_by, ltb, le-leb, le-ltb}
use Rattle.std.proofs.Common.{leb-true, lt-ltb, ◌<◌}
use Rattle.std.proofs.lemmas.Bool.{and_parts, false≢true, leb-false, lt-leb, ltb-false, ltb-true}
use Rattle.std.proofs.lemmas.List.{length-append}
use Rattle.std.proofs.lemmas.List.Sums.{sum_by-cons}
use Rattle.std.specs.List.{list_all}
use Rattle.std.specs.Option.{unwrap_or}
use Rattle.pad_model.specs.Cell.{Cell, character_of, is_before}
use Rattle.pad_model.specs.Character.{Character, run_characters, next}
use Rattle.pad_model.specs.Checked.{are_parts, is_checked, is_edit, part_size}
use Rattle.pad_model.specs.History.{cells_of}
use Rattle.pad_model.specs.Laws.{itself}
use Rattle.pad_model.specs.Legal.{has_stamp}
use Rattle.pad_model.specs.Log.{is_comment, is_valid, part_is_valid, stands_before}
use Rattle.pad_model.specs.Operation.{author_of, characters_in, inserted_by}
use Rattle.pad_model.specs.Parts.{inserts_in, part_fits}
use Rattle.pad_model.specs.Stamp.{Stamp, same_stamp}
use Rattle.pad_model.specs.declared.limits.TheConstants.{MAX_CHARACTERS, MAX_COMMENTS, MAX_OPERATIONS, MAX_TEXT}
use Rattle.pad_model.specs.declared.refusal.Refusal.{Refusal}
use Rattle.pad_model.specs.declared.refusal.Refusal.TheVariants.{PeerFault, PadFull, LogFull, CommentsFull}
use Rattle.pad_model.specs.declared.op.Op.{Op}
use Rattle.pad_model.specs.declared.op.Part.{Part}
use Rattle.pad_model.specs.declared.op.Part.TheVariants.{Insert, Delete, Comment, Resolve}
use Rattle.pad_model.specs.declared.seen.Counted.{Counted}
use Rattle.pad_model.specs.declared.who.Author.{Author}
use Rattle.pad_model.proofs.Edited.{parts_fit-cells_of}
use Rattle.pad_model.proofs.Growth.{IsTree-history, rises_of_checked}
use Rattle.pad_model.proofs.History.{cells_of-characters, length-cells_of}
use Rattle.pad_model.proofs.Maps.{stands_before-map}
use Rattle.pad_model.proofs.Newer.{split, same_stamp-true}
use Rattle.pad_model.proofs.Parts.{inserts_differ, parts_fit-each}
use Rattle.comments.specs.declared.comment.Comment as kept
use Rattle.pad_core.specs.Book.{book_of}
use Rattle.pad_core.specs.Delivered.{IsDelivered, IsLedger, delivery_refusal}
use Rattle.pad_core.specs.Judge.{fits, note_fits, part_growth}
use Rattle.pad_core.proofs.Booked.{by_parts, is_comment-book_of, length-book_of}

-- if one stamp is missing, neither is before the other
none_before : {A : Type 0} (at : A → Character) (xs : List A) (a b : Stamp) → (has_stamp at xs a && has_stamp at xs b)
    ≡ false → stands_before at xs a b ≡ false
none_before at [] a b h = refl
none_before at (x ∷ xs) a b h =
    split (same_stamp (at x).stamp a)
    (λ e.
    let other : (same_stamp (at x).stamp b || has_stamp at xs b) ≡ false =
    sym (ap (λ t. (t || has_stamp at xs a) && (same_stamp (at x).stamp b || has_stamp at xs b)) e) ∙ h in
    rw e (ap (λ s. same_stamp s b || has_stamp at xs b) (sym (same_stamp-true (at x).stamp a e)) ∙ other))
    (λ e.
    let both : (has_stamp at xs a && (same_stamp (at x).stamp b || has_stamp at xs b)) ≡ false =
    sym (ap (λ t. (t || has_stamp at xs a) && (same_stamp (at x).stamp b || has_stamp at xs b)) e) ∙ h in
    rw e (none_before at xs a b (drop_middle (has_stamp at xs a) (same_stamp (at x).stamp b) (has_stamp at xs b) both)))
  where
    drop_middle : (p q r : Bool) → (p && (q || r)) ≡ false → (p && r) ≡ false
    drop_middle false q r h = refl
    drop_middle true true r h = absurd (false≢true (sym h))
    drop_middle true false r h = h

-- the answer of a sequence, false where a stamp is missing
pub before-stands : (cells : List Cell) (a b : Stamp) → unwrap_or (is_before cells a b) false
    ≡ stands_before character_of cells a b
before-stands cells a b =
    split (has_stamp character_of cells a && has_stamp character_of cells b)
    (λ e. rw e refl)
    (λ e. rw e (sym (none_before character_of cells a b e)))

run_length : (first : Stamp) (p : Option Stamp) (text : List ℕ) (author : Author) →
    length (run_characters first p text author) ≡ length text
run_length first p [] author = refl
run_length first p (c ∷ text) author = ap suc (run_length (next first) (Some first) text author)

-- how many characters parts insert
pub length-inserts_in : (author : Author) (parts : List Part) → length (inserts_in author parts)
    ≡ sum_by part_growth parts
length-inserts_in author [] = refl
length-inserts_in author (Insert run ∷ parts) =
    length-append (run_characters run.first run.after run.text author) (inserts_in author parts)
    ∙ ap₂ (λ a b. a + b) (run_length run.first run.after run.text author) (length-inserts_in author parts)
    ∙ sym (sum_by-cons part_growth (Insert run) parts)
length-inserts_in author (Delete spans ∷ parts) = length-inserts_in author parts
length-inserts_in author (Comment first last text ∷ parts) = length-inserts_in author parts
length-inserts_in author (Resolve comment ∷ parts) = length-inserts_in author parts

growth_most : (parts : List Part) → sum_by part_growth parts ≤ sum_by part_size parts
growth_most [] = omega arith
growth_most (Insert run ∷ parts) = let rest = growth_most parts in
    omega (arith, sum_by-cons part_growth (Insert run) parts, sum_by-cons part_size (Insert run) parts)
growth_most (Delete spans ∷ parts) = let rest = growth_most parts in
    omega (arith, sum_by-cons part_size (Delete spans) parts)
growth_most (Comment first last text ∷ parts) = let rest = growth_most parts in omega arith
growth_most (Resolve comment ∷ parts) = let rest = growth_most parts in omega arith

pub parts_of_checked : (op : Op) → is_checked op ≡ true → are_parts op.name.origin op.parts ≡ true
parts_of_checked op h = (and_parts _ _ h).1

-- an operation in the limits inserts few characters
pub growth-few : (op : Op) → is_checked op ≡ true → sum_by part_growth op.parts ≤ MAX_TEXT
growth-few op h =
    let size : sum_by part_size op.parts ≤ MAX_TEXT = leb-true (sum_by part_size op.parts) MAX_TEXT
    (and_parts _ (nat_le (sum_by part_size op.parts) MAX_TEXT) (parts_of_checked op h)).1 in
    let most : sum_by part_growth op.parts ≤ sum_by part_size op.parts = growth_most op.parts in
    omega arith

and_true : (b : Bool) → (b && true) ≡ b
and_true true = refl
and_true false = refl

-- no stamp is inserted twice by an operation in the limits
valid-parts : (log : List Op) (op : Op) → is_checked op ≡ true → is_valid op log
    ≡ list_all (λ part. part_is_valid part log) op.parts
valid-parts log op h =
    ap (λ b. list_all (λ part. part_is_valid part log) op.parts && b)
    (inserts_differ (author_of op) 0 op.parts (rises_of_checked op h))
    ∙ and_true (list_all (λ part. part_is_valid part log) op.parts)

-- a comment or a resolution fits what is kept where it is valid
one_note : (log : List Op) → IsDelivered log → (op : Op) → is_checked op ≡ true → list_all is_edit op.parts ≡ false →
    list_all (note_fits (cells_of log) (book_of log)) op.parts ≡ list_all (λ part. part_is_valid part log) op.parts
one_note log d op checked =
    by_parts (λ parts. list_all is_edit parts ≡ false → list_all (note_fits (cells_of log) (book_of log)) parts
    ≡ list_all (λ part. part_is_valid part log) parts)
    (λ parts edits none. absurd (false≢true (sym none ∙ edits)))
    (λ first last text none. ap (λ b. b && true) (sym (stands_before-map character_of itself (cells_of log) first last)
    ∙ ap (λ l. stands_before itself l first last) (cells_of-characters log)))
    (λ comment none. ap (λ b. b && true) (is_comment-book_of log d comment))
    op checked

-- an operation fits what is kept where it is valid
fits-kept : (log : List Op) (op : Op) (cells : List Cell) (book : List kept.Comment) → IsDelivered log →
    cells ≡ cells_of log → book ≡ book_of log → is_checked op ≡ true → fits cells book op.parts ≡ is_valid op log
fits-kept log op cells book d same_cells same_book h =
    ap₂ (λ l b. fits l b op.parts) same_cells same_book
    ∙ split (list_all is_edit op.parts)
    (λ e. rw e
    (sym (parts_fit-each (author_of op) op.parts (cells_of log) (parts_of_checked op h))
    ∙ parts_fit-cells_of log op (IsTree-history log d.history) e))
    (λ e. rw e
    (one_note log d op h e
    ∙ sym (valid-parts log op h)))

-- a verdict on what is kept is one on the log
pub verdict-kept : (log : List Op) (op : Op) (seen : List Counted) (cells : List Cell) (book : List kept.Comment)
    (verdict wanted : Bool) → IsLedger log seen book cells → is_checked op ≡ true →
    verdict ≡ fits cells book op.parts → verdict ≡ wanted → is_valid op log ≡ wanted
verdict-kept log op seen cells book verdict wanted l h is e =
    sym (fits-kept log op cells book l.delivered l.kept l.commented h) ∙ sym is ∙ e

-- how many characters a ledger has
pub length-ledger : (log : List Op) (seen : List Counted) (cells : List Cell) (book : List kept.Comment) →
    IsLedger log seen book cells → length cells ≡ length (characters_in log).inserted
length-ledger log seen cells book l = ap length l.kept ∙ length-cells_of log (IsTree-history log l.delivered.history)

-- and how many comments
pub comments-ledger : (log : List Op) (seen : List Counted) (cells : List Cell) (book : List kept.Comment) →
    IsLedger log seen book cells → length book ≡ count_by is_comment log
comments-ledger log seen cells book l = ap length l.commented ∙ length-book_of log l.delivered

-- each step of the judgement of an operation
pub refused-invalid : (log : List Op) (op : Op) → is_valid op log ≡ false → delivery_refusal op log ≡ Some PeerFault
refused-invalid log op e = rw e refl

pub refused-full : (log : List Op) (op : Op) → is_valid op log ≡ true → MAX_CHARACTERS
    < length (characters_in log).inserted + length (inserted_by op) → delivery_refusal op log ≡ Some PadFull
refused-full log op e full = rw (
  e,
  lt-ltb MAX_CHARACTERS (length (characters_in log).inserted
      + length (inserted_by op)) full,
) refl

pub refused-long : (log : List Op) (op : Op) → is_valid op log ≡ true → length (characters_in log).inserted
    + length (inserted_by op) ≤ MAX_CHARACTERS → MAX_OPERATIONS ≤ length log → delivery_refusal op log ≡ Some LogFull
refused-long log op e room long =
    rw (
      e,
      le-ltb MAX_CHARACTERS (length (characters_in log).inserted + length (inserted_by op)) room,
      le-leb MAX_OPERATIONS (length log) long,
    ) refl

pub refused-comments : (log : List Op) (op : Op) → is_valid op log ≡ true → length (characters_in log).inserted
    + length (inserted_by op) ≤ MAX_CHARACTERS → length log < MAX_OPERATIONS →
    is_comment op ≡ true → MAX_COMMENTS ≤ count_by is_comment log → delivery_refusal op log ≡ Some CommentsFull
refused-comments log op e room short comments many =
    rw (
      e,
      le-ltb MAX_CHARACTERS (length (characters_in log).inserted + length (inserted_by op)) room,
      lt-leb MAX_OPERATIONS (length log) short,
      comments,
      le-leb MAX_COMMENTS (count_by is_comment log) many,
    ) refl

-- what speaks for an operation
pub record Allowed (log : List Op) (op : Op) : Type 0 where
  pub valid : is_valid op log ≡ true
  pub room : length (characters_in log).inserted + length (inserted_by op) ≤ MAX_CHARACTERS
  pub short : length log < MAX_OPERATIONS
  pub few : is_comment op ≡ true → count_by is_comment log < MAX_COMMENTS

-- where all does, it is delivered
pub not_refused : (log : List Op) (op : Op) → Allowed log op → delivery_refusal op log ≡ None
not_refused log op a =
    rw (
      a.valid,
      le-ltb MAX_CHARACTERS (length (characters_in log).inserted + length (inserted_by op)) a.room,
      lt-leb MAX_OPERATIONS (length log) a.short,
    )
    (split (is_comment op)
    (λ e. rw (e, lt-leb MAX_COMMENTS (count_by is_comment log) (a.few e)) refl)
    (λ e. rw e refl))

some_none : (refusal : Refusal) → Some refusal ≡ (let none : Option Refusal = None in none) → ⊥
some_none refusal q = cc

-- and where it is delivered, all does
pub allowed : (log : List Op) (op : Op) → delivery_refusal op log ≡ None → Allowed log op
allowed log op none =
    let valid : is_valid op log ≡ true = split (is_valid op log) (λ e. e)
    (λ e. absurd (some_none PeerFault (sym (refused-invalid log op e) ∙ none))) in
    let room : length (characters_in log).inserted + length (inserted_by op) ≤ MAX_CHARACTERS =
    split (ltb MAX_CHARACTERS (length (characters_in log).inserted + length (inserted_by op)))
    (λ e. absurd (some_none PadFull (sym (refused-full log op valid (ltb-true _ _ e)) ∙ none)))
    (λ e. ltb-false MAX_CHARACTERS (length (characters_in log).inserted + length (inserted_by op)) e) in
    let short : length log < MAX_OPERATIONS =
    split (leb MAX_OPERATIONS (length log))
    (λ e. absurd (some_none LogFull (sym (refused-long log op valid room (leb-true MAX_OPERATIONS (length log) e))
    ∙ none)))
    (λ e. leb-false MAX_OPERATIONS (length log) e) in
    record {
      valid = valid;
      room = room;
      short = short;
      few = λ comments. split (leb MAX_COMMENTS (count_by is_comment log))
          (λ e. absurd (some_none CommentsFull
          (sym (refused-comments log op valid room short comments (leb-true MAX_COMMENTS (count_by is_comment log) e))
          ∙ none)))
          (λ e. leb-false MAX_COMMENTS (count_by is_comment log) e);
    }

-- an edit fits where each of its parts does
pub fits_edits : (cells : List Cell) (book : List kept.Comment) (parts lent : List Part) (answer : Bool) →
    list_all is_edit parts ≡ true → lent ≡ parts → answer ≡ list_all (part_fits character_of cells) lent →
    answer ≡ fits cells book parts
fits_edits cells book parts lent answer edits lent_is answer_is =
    rw edits (answer_is ∙ ap (list_all (part_fits character_of cells)) lent_is)

-- what is no edit fits where each of its parts does as a note
pub fits_notes : (cells : List Cell) (book : List kept.Comment) (parts lent : List Part) (answer : Bool) →
    list_all is_edit parts ≡ false → lent ≡ parts → answer ≡ list_all (note_fits cells book) lent →
    answer ≡ fits cells book parts
fits_notes cells book parts lent answer notes lent_is answer_is =
    rw notes (answer_is ∙ ap (list_all (note_fits cells book)) lent_is)
