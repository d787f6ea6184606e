-- The book of a log, as the log grows.
use Rattle.std.proofs.Common.{◌≡◌, ◌⊎◌, inl, inr, ℕ, suc, ◌+◌, ◌≤◌, Bool, true, false, ◌&&◌, ◌||◌, cond, leb, leb-true}
use Rattle.std.proofs.Common.{List, [], ◌∷◌, ◌++◌, length, fold, count_by, None, refl, sym, ap, ◌∙◌, arith}
use Rattle.std.specs.List.{AllByRecursion, list_any, list_all}
use Rattle.std.proofs.Math.Bool.{or-false, or_assoc}
use Rattle.std.proofs.lemmas.Bool.{and_parts, or_cases, false≢true}
use Rattle.pad_model.specs.Stamp.{Stamp}
use Rattle.pad_model.specs.Checked.{is_checked, is_edit}
use Rattle.pad_model.specs.History.{Continues}
use Rattle.pad_model.specs.Log.{same_name, is_comment, is_comment_part}
use Rattle.pad_model.specs.Operation.{author_of}
use Rattle.pad_model.specs.declared.op.Op.{Op}
use Rattle.pad_model.specs.declared.op.OpName.{OpName}
use Rattle.pad_model.specs.declared.op.Part.{Part}
use Rattle.pad_model.specs.declared.op.Part.TheVariants.{Insert, Delete, Comment, Resolve}
use Rattle.comments.specs.Comments as book
use Rattle.comments.specs.declared.comment.Comment as kept
use Rattle.comments.proofs.CallerLemmas.{is_comment-with_comment, is_comment-with_resolution, length-with_comment}
use Rattle.comments.proofs.CallerLemmas.{length-with_resolution}
use Rattle.pad_core.specs.Book.{entered, book_from, book_of}
use Rattle.pad_core.specs.Delivered.{IsDelivered}
use Rattle.pad_core.specs.Notes.{has_comment}

book_from-push : (rev : ℕ) (comments : List kept.Comment) (log : List Op) (op : Op) →
    book_from rev comments (log ++ op ∷ []) ≡ fold (entered (rev + length log) op) (book_from rev comments log) op.parts
book_from-push rev comments [] op = let at : rev ≡ rev + 0 = omega arith in
    ap (λ now. fold (entered now op) comments op.parts) at
book_from-push rev comments (x ∷ log) op =
    let later : suc rev + length log ≡ rev + length (x ∷ log) = omega arith in
    book_from-push (suc rev) (fold (entered rev x) comments x.parts) log op
    ∙ ap (λ at. fold (entered at op) (book_from (suc rev) (fold (entered rev x) comments x.parts) log) op.parts) later

-- one more operation enters its parts
pub book_of-push : (log : List Op) (op : Op) → book_of (log ++ op ∷ []) ≡ fold (entered (length log + 1) op)
    (book_of log) op.parts
book_of-push log op =
    let at : 1 + length log ≡ length log + 1 = omega arith in
    book_from-push 1 [] log op ∙ ap (λ rev. fold (entered rev op) (book_of log) op.parts) at

or_again : (s b c : Bool) → ((s || b) || (c && s)) ≡ (b || (true && s))
or_again true true c = refl
or_again true false c = refl
or_again false true c = refl
or_again false false true = refl
or_again false false false = refl

-- the names of a book once parts are entered
named_entered : (rev : ℕ) (op : Op) (comments : List kept.Comment) (parts : List Part) (name : OpName) →
    book.is_comment name (fold (entered rev op) comments parts)
    ≡ (book.is_comment name comments || (list_any is_comment_part parts && same_name op.name name))
named_entered rev op comments [] name = sym (or-false (book.is_comment name comments))
named_entered rev op comments (Insert run ∷ parts) name = named_entered rev op comments parts name
named_entered rev op comments (Delete spans ∷ parts) name = named_entered rev op comments parts name
named_entered rev op comments (Comment first last text ∷ parts) name =
    let new : kept.Comment = record { name = op.name; first = first; last = last; author = author_of op; text = text; born = rev; resolved = None } in
    let s = same_name op.name name in
    let b = book.is_comment name comments in
    let c = list_any is_comment_part parts in
    named_entered rev op (book.with_comment new comments) parts name
    ∙ ap (λ x. x || (c && s)) (is_comment-with_comment comments new name)
    ∙ or_again s b c
named_entered rev op comments (Resolve comment ∷ parts) name =
    named_entered rev op (book.with_resolution comment rev comments) parts name
    ∙ ap (λ x. x || (list_any is_comment_part parts && same_name op.name name))
    (is_comment-with_resolution comment rev comments name)

named_from : (rev : ℕ) (comments : List kept.Comment) (log : List Op) (name : OpName) →
    book.is_comment name (book_from rev comments log) ≡ (book.is_comment name comments || has_comment name log)
named_from rev comments [] name = sym (or-false (book.is_comment name comments))
named_from rev comments (op ∷ log) name =
    named_from (suc rev) (fold (entered rev op) comments op.parts) log name
    ∙ ap (λ x. x || has_comment name log) (named_entered rev op comments op.parts name)
    ∙ or_assoc (book.is_comment name comments) (is_comment op && same_name op.name name) (has_comment name log)

-- the comments of a book are those of its log, whatever the log
pub named_in_book : (log : List Op) (name : OpName) → book.is_comment name (book_of log) ≡ has_comment name log
named_in_book log name = named_from 1 [] log name

-- and so those of a delivered one
pub is_comment-book_of : (log : List Op) → IsDelivered log → (name : OpName) → book.is_comment name (book_of log)
    ≡ has_comment name log
is_comment-book_of log delivered name = named_in_book log name

-- what holds of insertions and deletions, of one comment and of one resolution holds of the parts of an operation in
-- the limits
pub by_parts : (P : List Part → Type 0) → ((parts : List Part) → list_all is_edit parts ≡ true → P parts) →
    ((first last : Stamp) (text : List ℕ) → P (Comment first last text ∷ [])) →
    ((comment : OpName) → P (Resolve comment ∷ [])) → (op : Op) → is_checked op ≡ true → P op.parts
by_parts P edits comments resolves op checked =
    let parts = (and_parts _ _ checked).1 in
    cases op.parts (or_cases (leb (length op.parts) 1) (list_all is_edit op.parts)
    (and_parts _ _ (and_parts _ _ (and_parts _ _ (and_parts _ _ parts).0).0).0).1)
  where
    cases : (parts : List Part) → (leb (length parts) 1 ≡ true) ⊎ (list_all is_edit parts ≡ true) → P parts
    cases parts (inr all) = edits parts all
    cases [] (inl one) = edits [] refl
    cases (Insert run ∷ []) (inl one) = edits (Insert run ∷ []) refl
    cases (Delete spans ∷ []) (inl one) = edits (Delete spans ∷ []) refl
    cases (Comment first last text ∷ []) (inl one) = comments first last text
    cases (Resolve comment ∷ []) (inl one) = resolves comment
    cases (x ∷ y ∷ parts) (inl one) = absurd (let few : suc (suc (length parts)) ≤ 1 = leb-true _ _ one in omega arith)

-- insertions and deletions enter nothing
pub edits_enter : (rev : ℕ) (op : Op) (comments : List kept.Comment) (parts : List Part) → list_all is_edit parts
    ≡ true → fold (entered rev op) comments parts ≡ comments
edits_enter rev op comments [] edits = refl
edits_enter rev op comments (Insert run ∷ parts) edits = edits_enter rev op comments parts edits
edits_enter rev op comments (Delete spans ∷ parts) edits = edits_enter rev op comments parts edits
edits_enter rev op comments (Comment first last text ∷ parts) edits = absurd (false≢true edits)
edits_enter rev op comments (Resolve comment ∷ parts) edits = absurd (false≢true edits)

-- nor do they comment
pub edits_comment : (parts : List Part) → list_all is_edit parts ≡ true → list_any is_comment_part parts ≡ false
edits_comment [] edits = refl
edits_comment (Insert run ∷ parts) edits = edits_comment parts edits
edits_comment (Delete spans ∷ parts) edits = edits_comment parts edits
edits_comment (Comment first last text ∷ parts) edits = absurd (false≢true edits)
edits_comment (Resolve comment ∷ parts) edits = absurd (false≢true edits)

-- how long a book is once an operation is entered
length_entered : (rev : ℕ) (op : Op) (comments : List kept.Comment) → is_checked op ≡ true →
    length (fold (entered rev op) comments op.parts) ≡ length comments + cond (is_comment op) 1 0
length_entered rev op comments checked =
    by_parts (λ parts. length (fold (entered rev op) comments parts) ≡ length comments
    + cond (list_any is_comment_part parts) 1 0)
    (λ parts edits. no_more (ap length (edits_enter rev op comments parts edits))
    ∙ ap (λ b. length comments + cond b 1 0) (sym (edits_comment parts edits)))
    (λ first last text. length-with_comment comments
    (record { name = op.name; first = first; last = last; author = author_of op; text = text; born = rev; resolved = None }))
    (λ comment. no_more (length-with_resolution comment rev comments))
    op checked
  where
    no_more : {n m : ℕ} → n ≡ m → n ≡ m + 0
    no_more same = omega arith

length_from : (rev : ℕ) (comments : List kept.Comment) (log : List Op) →
    AllByRecursion (λ op. is_checked op ≡ true) log → length (book_from rev comments log)
    ≡ fold (λ n op. n + cond (is_comment op) 1 0) (length comments) log
length_from rev comments [] checked = refl
length_from rev comments (op ∷ log) checked =
    length_from (suc rev) (fold (entered rev op) comments op.parts) log checked.1
    ∙ ap (λ count. fold (λ n one. n + cond (is_comment one) 1 0) count log) (length_entered rev op comments checked.0)

-- each operation of a history is in the limits
pub checked_each : (before log : List Op) → Continues before log → AllByRecursion (λ op. is_checked op ≡ true) log
checked_each before [] c = tt
checked_each before (op ∷ log) c = (c.0, checked_each (before ++ op ∷ []) log c.2)

-- there are as many comments in the book as in the log
pub length-book_of : (log : List Op) → IsDelivered log → length (book_of log) ≡ count_by is_comment log
length-book_of log delivered = length_from 1 [] log (checked_each [] log delivered.history)
