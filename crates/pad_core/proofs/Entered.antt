-- A log that goes on by an operation, and what is kept beside it.
use Rattle.std.proofs.Common.{◌≡◌, ℕ, ◌+◌, ◌≤◌, ◌<◌, inl, inr, true, false, not, ◌&&◌, ◌||◌, cond, List, [], ◌∷◌, ◌++◌}
use Rattle.std.proofs.Common.{length, map, fold, flat_map, count_by, slice_get, Option, Some, None, Result, Ok, Err}
use Rattle.std.proofs.Common.{refl, sym, ap, ap₂, ◌∙◌, subst, arith, append-nil, lt-ltb}
use Rattle.std.proofs.lemmas.Bool.{and_parts, and_from, false≢true}
use Rattle.std.proofs.lemmas.List.{length-append}
use Rattle.std.proofs.lemmas.List.Concat.{flat_map-append}
use Rattle.std.proofs.lemmas.List.Sums.{sum_by_push}
use Rattle.std.specs.List.{list_all, list_any}
use Rattle.pad_model.specs.Answers.{Answers}
use Rattle.pad_model.specs.Cell.{Cell, character_of, without_spans}
use Rattle.pad_model.specs.Character.{Character}
use Rattle.pad_model.specs.Checked.{is_checked, is_edit}
use Rattle.pad_model.specs.History.{births, cells_of, dated, IsHistory}
use Rattle.pad_model.specs.Laws.{itself}
use Rattle.pad_model.specs.Legal.{IsTree}
use Rattle.pad_model.specs.Log.{is_comment, is_comment_part, is_valid, part_is_valid, same_name}
use Rattle.pad_model.specs.Operation.{author_of, characters_in, erased_by, inserted_by, part_erases}
use Rattle.pad_model.specs.Order.{order}
use Rattle.pad_model.specs.Parts.{apply, with_parts}
use Rattle.pad_model.specs.Seen.{count_in, with_count}
use Rattle.pad_model.specs.Visible.{hidden_by, is_erased, visible}
use Rattle.pad_model.specs.declared.limits.TheConstants.{MAX_CHARACTERS, MAX_COMMENTS}
use Rattle.pad_model.specs.declared.op.Op.{Op}
use Rattle.pad_model.specs.declared.op.OpName.{OpName}
use Rattle.pad_model.specs.declared.op.Part.{Part}
use Rattle.pad_model.specs.declared.op.Part.TheVariants.{Insert, Delete, Comment, Resolve}
use Rattle.pad_model.specs.declared.refusal.Refusal.{Refusal}
use Rattle.pad_model.specs.declared.refusal.Refusal.TheVariants.{Memory}
use Rattle.pad_model.specs.declared.seen.Counted.{Counted}
use Rattle.pad_model.specs.declared.who.Author.{Author}
use Rattle.pad_model.proofs.Cells.{order-order}
use Rattle.pad_model.proofs.Edited.{apply-cells_of}
use Rattle.pad_model.proofs.Grown.{cells_of-push}
use Rattle.pad_model.proofs.Growth.{IsTree-history, IsHistory-push}
use Rattle.pad_model.proofs.History.{dated-characters}
use Rattle.pad_model.proofs.Maps.{IsTree-of_map}
use Rattle.pad_model.proofs.Newer.{split}
use Rattle.pad_model.proofs.Stretch.{hidden-cells_of}
use Rattle.comments.specs.declared.comment.Comment as kept
use Rattle.comments.specs.Comments as book
use Rattle.holdback.specs.Held.{is_ready}
use Rattle.pad_core.specs.Book.{book_of, entered, may_enter}
use Rattle.pad_core.specs.Counts.{counted, vector_of}
use Rattle.pad_core.specs.Delivered.{Enters, IsDelivered, IsLedger, delivery_refusal}
use Rattle.pad_core.proofs.Booked.{book_of-push, by_parts, edits_enter, is_comment-book_of, length-book_of}
use Rattle.pad_core.proofs.Counted.{AreNumbered-push, AreTimely-push, name_fresh, ready_is, vector_of-push}
use Rattle.pad_core.proofs.Judged.{Allowed, allowed}

-- the characters of a longer log
pub inserted-push : (log : List Op) (op : Op) → (characters_in (log ++ op ∷ [])).inserted ≡ (characters_in log).inserted
    ++ inserted_by op
inserted-push log op = flat_map-append inserted_by log (op ∷ []) ∙ ap (λ l. (characters_in log).inserted ++ l)
    (append-nil (inserted_by op))

-- a log that may be delivered, with an operation that may be delivered next
pub IsDelivered-push : (log : List Op) (op : Op) → IsDelivered log → is_checked op ≡ true →
    is_ready (vector_of log) op ≡ true → delivery_refusal op log ≡ None → IsDelivered (log ++ op ∷ [])
IsDelivered-push log op d checked ready none =
    let is = ready_is (vector_of log) op ready in
    let a : Allowed log op = allowed log op none in
    let characters : length (characters_in (log ++ op ∷ [])).inserted ≡ length (characters_in log).inserted
    + length (inserted_by op) =
    ap length (inserted-push log op) ∙ length-append (characters_in log).inserted (inserted_by op) in
    let operations : length (log ++ op ∷ []) ≡ length log + 1 = length-append log (op ∷ []) in
    let room = a.room in
    let short = a.short in
    record {
      history = IsHistory-push log op d.history checked a.valid;
      numbered = AreNumbered-push log op d.numbered is.0;
      timely = AreTimely-push log op d.timely is.1;
      room = omega arith;
      short = omega arith;
      few = split (is_comment op)
          (λ e.
          let one_more : count_by is_comment (log ++ op ∷ []) ≡ count_by is_comment log + 1 =
          sum_by_push (λ o. cond (is_comment o) 1 0) log op ∙ ap (λ b. count_by is_comment log + cond b 1 0) e in
          let less : count_by is_comment log < MAX_COMMENTS = a.few e in
          omega arith)
          (λ e.
          let as_many : count_by is_comment (log ++ op ∷ []) ≡ count_by is_comment log + 0 =
          sum_by_push (λ o. cond (is_comment o) 1 0) log op ∙ ap (λ b. count_by is_comment log + cond b 1 0) e in
          let few : count_by is_comment log ≤ MAX_COMMENTS = d.few in
          omega arith);
    }

-- what an edit answers and leaves
edit-made : (log : List Op) (op : Op) (cells : List Cell) (parts : List Part) (author : Author) (rev : ℕ) →
    IsHistory log → cells ≡ cells_of log → parts ≡ op.parts → author ≡ author_of op → rev ≡ length log + 1 →
    is_checked op ≡ true → list_all is_edit op.parts ≡ true → is_valid op log ≡ true →
    length (characters_in log).inserted + length (inserted_by op) ≤ MAX_CHARACTERS →
    apply rev parts author cells ≡ (Ok (hidden_by (erased_by op) (characters_in log)), cells_of (log ++ op ∷ []))
edit-made log op cells parts author rev h kept made who at checked edits valid room =
    ap (λ l. apply rev l author cells) made
    ∙ ap₂ (λ a l. apply rev op.parts a l) who kept
    ∙ ap (λ r. apply r op.parts (author_of op) (cells_of log)) at
    ∙ apply-cells_of log op h checked edits valid room
    ∙ ap (λ n. (Ok n, cells_of (log ++ op ∷ []))) (hidden-cells_of log op.parts h)

-- an edit changes no comment
edit-book : (log : List Op) (op : Op) → list_all is_edit op.parts ≡ true → book_of (log ++ op ∷ []) ≡ book_of log
edit-book log op edits = book_of-push log op ∙ edits_enter (length log + 1) op (book_of log) op.parts edits

-- what a sequence answers to an edit
pub edit_enters : (log : List Op) (op : Op) (cells new : List Cell) (comments : List kept.Comment) (parts : List Part)
    (author : Author) (rev : ℕ) (result : Result ℕ Refusal) →
    IsDelivered log → cells ≡ cells_of log → comments ≡ book_of log → parts ≡ op.parts → author ≡ author_of op →
    rev ≡ length log + 1 →
    is_checked op ≡ true → list_all is_edit op.parts ≡ true → delivery_refusal op log ≡ None →
    Answers cells (apply rev parts author cells) result new → Enters log op (cells, comments) result (new, comments)
edit_enters log op cells new comments parts author rev result d held commented made who at checked edits none (inl h) =
    inl (h.0, ap (λ l. (l, comments)) h.1, refl)
edit_enters log op cells new comments parts author rev result d held commented made who at checked edits none (inr h) =
    let a : Allowed log op = allowed log op none in
    let both : (Ok (hidden_by (erased_by op) (characters_in log)), cells_of (log ++ op ∷ [])) ≡ (result, new) =
    sym (edit-made log op cells parts author rev d.history held made who at checked edits a.valid a.room) ∙ h in
    inr (ap₂ (λ (p : Result ℕ Refusal × List Cell) b. (p.0, (p.1, b))) both (edit-book log op edits ∙ sym commented))

-- a deletion of nothing changes nothing
nothing_erased : (rev : ℕ) (cells : List Cell) → without_spans rev [] cells ≡ cells
nothing_erased rev [] = refl
nothing_erased rev (c ∷ cells) = ap (λ l. c ∷ l) (nothing_erased rev cells)

cells_of-order : (log : List Op) → IsHistory log → order character_of (cells_of log) ≡ cells_of log
cells_of-order log h =
    order-order character_of (map (dated log) (births 1 log))
    (IsTree-of_map character_of itself (map (dated log) (births 1 log))
    (subst (IsTree itself) (sym (dated-characters log)) (IsTree-history log h)))

-- a comment or a resolution changes no cell
note-cells : (log : List Op) (op : Op) → IsHistory log → is_checked op ≡ true → is_valid op log ≡ true →
    list_all is_edit op.parts ≡ false → cells_of (log ++ op ∷ []) ≡ cells_of log
note-cells log op h checked valid none =
    let same : order character_of (without_spans (length log + 1) [] (cells_of log) ++ []) ≡ cells_of log =
    ap (order character_of) (append-nil (without_spans (length log + 1) [] (cells_of log))
    ∙ nothing_erased (length log + 1) (cells_of log)) ∙ cells_of-order log h in
    cells_of-push log op h checked valid
    ∙ by_parts (λ parts. list_all is_edit parts ≡ false → with_parts (length log + 1) parts (author_of op)
    (cells_of log) ≡ cells_of log)
    (λ parts edits none. absurd (false≢true (sym none ∙ edits)))
    (λ first last text none. same)
    (λ comment none. same)
    op checked none

count_none : {A : Type 0} (xs : List A) → count_by (λ (x : A). false) xs ≡ 0
count_none [] = refl
count_none (x ∷ xs) = count_none xs

-- nor does it hide one
note-hides : (log : List Op) (op : Op) → is_checked op ≡ true → list_all is_edit op.parts ≡ false →
    hidden_by (erased_by op) (characters_in log) ≡ 0
note-hides log op checked none =
    by_parts (λ parts. list_all is_edit parts ≡ false →
    count_by (λ (c : Character). is_erased (flat_map part_erases parts) c.stamp) (visible (characters_in log)) ≡ 0)
    (λ parts edits none. absurd (false≢true (sym none ∙ edits)))
    (λ first last text none. count_none (visible (characters_in log)))
    (λ comment none. count_none (visible (characters_in log)))
    op checked none

same_some : (a b : Part) → (let some : Option Part = Some a in some) ≡ Some b → a ≡ b
same_some a b q = cc

-- what is no edit has one part
pub one_part : (op : Op) (part : Part) → is_checked op ≡ true → list_all is_edit op.parts ≡ false → slice_get op.parts 0
    ≡ Some part → op.parts ≡ part ∷ []
one_part op part checked none first_is =
    by_parts (λ parts. list_all is_edit parts ≡ false → slice_get parts 0 ≡ Some part → parts ≡ part ∷ [])
    (λ parts edits none first_is. absurd (false≢true (sym none ∙ edits)))
    (λ first last text none first_is. ap (λ p. p ∷ []) (same_some (Comment first last text) part first_is))
    (λ comment none first_is. ap (λ p. p ∷ []) (same_some (Resolve comment) part first_is))
    op checked none first_is

-- and it has one
pub some_part : (op : Op) → is_checked op ≡ true → list_all is_edit op.parts ≡ false → slice_get op.parts 0 ≡ None → ⊥
some_part op checked none empty =
    by_parts (λ parts. list_all is_edit parts ≡ false → slice_get parts 0 ≡ None → ⊥)
    (λ parts edits none empty. false≢true (sym none ∙ edits))
    (λ first last text none empty. some_none (Comment first last text) empty)
    (λ comment none empty. some_none (Resolve comment) empty)
    op checked none empty
  where
    some_none : (a : Part) → (let some : Option Part = Some a in some) ≡ None → ⊥
    some_none a q = cc

-- the name of the next operation of an origin is no comment's
new_name : (log : List Op) (op : Op) → IsDelivered log → op.name.number ≡ count_in (vector_of log) op.name.origin + 1 →
    book.is_comment op.name (book_of log) ≡ false
new_name log op d next =
    is_comment-book_of log d op.name ∙ no_comment log op.name (name_fresh log op.name d.numbered (omega arith))
  where
    no_comment : (log : List Op) (name : OpName) → list_any (λ op. same_name op.name name) log ≡ false →
        list_any (λ op. is_comment op && same_name op.name name) log ≡ false
    no_comment [] name e = refl
    no_comment (op ∷ log) name e =
        split (same_name op.name name)
        (λ same. absurd (false≢true (sym e ∙ ap (λ b. b || list_any (λ op. same_name op.name name) log) same)))
        (λ other.
        let rest = no_comment log name (sym (ap (λ b. b || list_any (λ op. same_name op.name name) log) other) ∙ e) in
        split (is_comment op) (λ f. rw (f, other) rest) (λ f. rw f rest))

-- the book takes a comment or a resolution that may be delivered
pub takes : (log : List Op) (op : Op) (part : Part) → IsDelivered log → is_checked op ≡ true → op.name.number
    ≡ count_in (vector_of log) op.name.origin + 1 → delivery_refusal op log ≡ None →
    list_all is_edit op.parts ≡ false → slice_get op.parts 0 ≡ Some part → may_enter op.name (book_of log) part ≡ true
takes log op part d checked next none notes first_is =
    let a : Allowed log op = allowed log op none in
    let one = one_part op part checked notes first_is in
    let fits : part_is_valid part log ≡ true =
    (and_parts (part_is_valid part log) true (subst (λ parts. list_all (λ p. part_is_valid p log) parts ≡ true) one
    (and_parts _ _ a.valid).0)).0 in
    taken log op d next a part one fits
  where
    taken : (log : List Op) (op : Op) → IsDelivered log → op.name.number ≡ count_in (vector_of log) op.name.origin + 1 →
        Allowed log op → (part : Part) → op.parts ≡ part ∷ [] → part_is_valid part log ≡ true →
        may_enter op.name (book_of log) part ≡ true
    taken log op d next a (Insert run) one fits = refl
    taken log op d next a (Delete spans) one fits = refl
    taken log op d next a (Comment first last text) one fits =
        let many = length-book_of log d in
        let few : count_by is_comment log < MAX_COMMENTS = a.few (ap (λ parts. list_any is_comment_part parts) one) in
        and_from _ _ (ap not (new_name log op d next)) (lt-ltb (length (book_of log)) MAX_COMMENTS (omega arith))
    taken log op d next a (Resolve comment) one fits = is_comment-book_of log d comment ∙ fits

-- what a book with that comment or resolution is
pub note_enters : (log : List Op) (op : Op) (part : Part) (cells : List Cell) (comments new : List kept.Comment)
    (rev : ℕ) →
    IsDelivered log → cells ≡ cells_of log → comments ≡ book_of log → rev ≡ length log + 1 → is_checked op ≡ true →
    delivery_refusal op log ≡ None →
    list_all is_edit op.parts ≡ false → slice_get op.parts 0 ≡ Some part → new ≡ entered rev op comments part →
    Enters log op (cells, comments) (Ok 0) (cells, new)
note_enters log op part cells comments new rev d held commented at checked none notes first_is enters =
    let a : Allowed log op = allowed log op none in
    let book_is : book_of (log ++ op ∷ []) ≡ new =
    book_of-push log op ∙ ap (fold (entered (length log + 1) op) (book_of log))
    (one_part op part checked notes first_is)
    ∙ ap₂ (λ r b. entered r op b part) (sym at) (sym commented) ∙ sym enters in
    inr (ap₂ (λ (n : ℕ) (after : List Cell × List kept.Comment). (let ok : Result ℕ Refusal = Ok n in (ok, after)))
    (note-hides log op checked notes)
    (ap₂ (λ (l : List Cell) (b : List kept.Comment). (l, b)) (note-cells log op d.history checked a.valid notes
    ∙ sym held) book_is))

-- what was entered, and how many visible characters it hides
pub entered_all : (log : List Op) (op : Op) (cells new_cells : List Cell) (comments new_comments : List kept.Comment)
    (hidden : ℕ) → Enters log op (cells, comments) (Ok hidden) (new_cells, new_comments) →
    (new_cells ≡ cells_of (log ++ op ∷ [])) × (new_comments ≡ book_of (log ++ op ∷ []))
entered_all log op cells new_cells comments new_comments hidden (inl h) = absurd (ok_err hidden h.0)
  where
    ok_err : (n : ℕ) → (let ok : Result ℕ Refusal = Ok n in ok) ≡ Err Memory → ⊥
    ok_err n q = cc
entered_all log op cells new_cells comments new_comments hidden (inr h) =
    (sym (ap (λ p. p.1.0) h), sym (ap (λ p. p.1.1) h))

-- what is kept beside the longer log
pub IsLedger-push : (log longer : List Op) (op : Op) (seen new_seen : List Counted) (cells new_cells : List Cell)
    (comments new_comments : List kept.Comment) (hidden : ℕ) →
    IsLedger log seen comments cells → is_checked op ≡ true → is_ready (vector_of log) op ≡ true →
    delivery_refusal op log ≡ None →
    Enters log op (cells, comments) (Ok hidden) (new_cells, new_comments) → longer ≡ log ++ op ∷ [] → new_seen
    ≡ with_count seen op.name.origin (count_in seen op.name.origin + 1) →
    IsLedger longer new_seen new_comments new_cells
IsLedger-push log longer op seen new_seen cells new_cells comments new_comments hidden l checked ready none enters
    longer_is seen_is =
    let all = entered_all log op cells new_cells comments new_comments hidden enters in
    subst (λ ops. IsLedger ops new_seen new_comments new_cells) (sym longer_is)
    (record {
      delivered = IsDelivered-push log op l.delivered checked ready none;
      counted = seen_is ∙ ap (λ v. counted v op) l.counted ∙ sym (vector_of-push log op);
      commented = all.1;
      kept = all.0;
    })

-- what is kept beside a log after which nothing was entered
pub IsLedger-kept : (log same : List Op) (op : Op) (seen new_seen : List Counted) (cells new_cells : List Cell)
    (comments new_comments : List kept.Comment) (e : Refusal) →
    IsLedger log seen comments cells → same ≡ log → new_seen ≡ seen → Enters log op (cells, comments) (Err e)
    (new_cells, new_comments) → IsLedger same new_seen new_comments new_cells
IsLedger-kept log same op seen new_seen cells new_cells comments new_comments e l log_is seen_is (inl h) =
    subst (λ ops. IsLedger ops new_seen new_comments new_cells) (sym log_is)
    (record {
      delivered = l.delivered;
      counted = seen_is ∙ l.counted;
      commented = ap (λ p. p.1) h.1 ∙ l.commented;
      kept = ap (λ p. p.0) h.1 ∙ l.kept;
    })
IsLedger-kept log same op seen new_seen cells new_cells comments new_comments e l log_is seen_is (inr h) =
    absurd (ok_err (hidden_by (erased_by op) (characters_in log)) e (ap (λ p. p.0) h))
  where
    ok_err : (n : ℕ) (e : Refusal) → (let ok : Result ℕ Refusal = Ok n in ok) ≡ Err e → ⊥
    ok_err n e q = cc

-- the answer where it was entered
pub append_answers : (log longer : List Op) (op : Op) (old new : List Cell × List kept.Comment) (hidden : ℕ) →
    Enters log op old (Ok hidden) new → longer ≡ log ++ op ∷ [] →
    Answers log (Ok (hidden_by (erased_by op) (characters_in log)), log ++ op ∷ []) (Ok hidden) longer
append_answers log longer op old new hidden (inl h) longer_is = absurd (ok_err hidden h.0)
  where
    ok_err : (n : ℕ) → (let ok : Result ℕ Refusal = Ok n in ok) ≡ Err Memory → ⊥
    ok_err n q = cc
append_answers log longer op old new hidden (inr h) longer_is =
    inr (ap₂ (λ (r : Result ℕ Refusal) (l : List Op). (r, l)) (ap (λ p. p.0) h) (sym longer_is))

-- and where it was not
pub append_fails : (log same : List Op) (op : Op) (old new : List Cell × List kept.Comment) (e : Refusal) →
    Enters log op old (Err e) new → same ≡ log → Answers log (
      Ok (hidden_by (erased_by op) (characters_in log)),
      log ++ op ∷ [],
    ) (Err e) same
append_fails log same op old new e (inl h) same_is = inl (h.0, same_is, refl)
append_fails log same op old new e (inr h) same_is =
    absurd (ok_err (hidden_by (erased_by op) (characters_in log)) e (ap (λ p. p.0) h))
  where
    ok_err : (n : ℕ) (e : Refusal) → (let ok : Result ℕ Refusal = Ok n in ok) ≡ Err e → ⊥
    ok_err n e q = cc
