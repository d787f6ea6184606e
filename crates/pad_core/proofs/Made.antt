-- The operation of changes that are not refused is in the limits, and fits its log.
use Rattle.std.proofs.Common.{◌≡◌, inl, inr, ℕ, zero, suc, ◌+◌, ◌<◌, ◌≤◌, true, false, ◌&&◌, leb, List, [], ◌∷◌, ◌++◌}
use Rattle.std.proofs.Common.{length, take, sum_by, count_by, Option, Some, None, Result, Ok, Err, refl, sym, ap, ap₂}
use Rattle.std.proofs.Common.{◌∙◌, subst, arith, flat_map, append-nil, append_assoc, length-append, le-ltb, le-leb}
use Rattle.std.proofs.Common.{eq-eqb, ltb-false}
use Rattle.std.proofs.lemmas.Bool.{and_from, or_right, lt-leb}
use Rattle.std.proofs.lemmas.List.Sums.{sum_by-cons}
use Rattle.std.specs.List.{list_all, list_any, AllByRecursion}
use Rattle.pad_model.specs.Answers.{Answers}
use Rattle.pad_model.specs.Stamp.{Stamp}
use Rattle.pad_model.specs.Character.{next, run_characters}
use Rattle.pad_model.specs.Checked.{is_name, is_checked, is_edit, is_part, part_size, counters_rise, are_parts}
use Rattle.pad_model.specs.History.{IsHistory, clock_of_characters}
use Rattle.pad_model.specs.Laws.{itself}
use Rattle.pad_model.specs.Legal.{has_parent}
use Rattle.pad_model.specs.Log.{part_is_valid, is_valid, is_comment, is_comment_part}
use Rattle.pad_model.specs.Operation.{Characters, part_inserts, inserted_by, characters_in, erased_by}
use Rattle.pad_model.specs.Seen.{count_in}
use Rattle.pad_model.specs.Visible.{visible, stamp_at, hidden_by}
use Rattle.pad_model.specs.declared.limits.TheConstants.{MAX_TEXT, MAX_PARTS, MAX_CHARACTERS, MAX_COUNTER}
use Rattle.pad_model.specs.declared.limits.TheConstants.{MAX_OPERATIONS, MAX_NUMBER, MAX_COMMENTS}
use Rattle.pad_model.specs.declared.op.Op.{Op}
use Rattle.pad_model.specs.declared.op.OpName.{OpName}
use Rattle.pad_model.specs.declared.op.Part.{Part}
use Rattle.pad_model.specs.declared.op.Run.{Run}
use Rattle.pad_model.specs.declared.op.Part.TheVariants as part
use Rattle.pad_model.specs.declared.refusal.Refusal.{Refusal}
use Rattle.pad_model.specs.declared.refusal.Refusal.TheVariants.{Memory}
use Rattle.pad_model.specs.declared.who.Author.{Author}
use Rattle.pad_model.proofs.Growth.{IsTree-history, IsHistory-take}
use Rattle.pad_model.proofs.Local.{stamp_at-inserted, has_parent-take, newest_joins}
use Rattle.pad_model.proofs.Parts.{inserts_differ}
use Rattle.pad_model.proofs.Stretch.{has_spans-stretch, spans_of-checked, spans_of-len, spans_of-some}
use Rattle.pad_core.specs.Counts.{characters_at, vector_of, op_of}
use Rattle.pad_core.specs.Delivered.{delivery_refusal}
use Rattle.pad_core.specs.Edits.{before_place, is_outside, size_of, growth_of, is_blank, edit_refusal, appended, edited}
use Rattle.pad_core.specs.Edits.{part_from, parts_from, made_parts}
use Rattle.pad_core.specs.declared.act.Change.{Change}
use Rattle.pad_core.specs.declared.act.Change.TheVariants.{Insert, Delete}
use Rattle.pad_core.specs.declared.edit.Edited.{Edited}
use Rattle.pad_core.proofs.Allowed.{allowed}
use Rattle.pad_core.proofs.Counted.{count_in-le-length}
use Rattle.pad_core.proofs.Others.{not_zero, others_checked}

-- an operation of an author is in the limits where its parts are
pub op_checked : (own : ℕ) (author : List ℕ) (parts : List Part) (log : List Op) → IsHistory log → length log
    < MAX_OPERATIONS → is_name author ≡ true → 1 ≤ own → are_parts own parts ≡ true →
    is_checked (op_of own author parts log) ≡ true
op_checked own author parts log h short named low fit =
    let few = count_in-le-length log own in
    let number = count_in (vector_of log) own + 1 in
    and_from _ _ (and_from _ _ (and_from _ _ (and_from _ _ named (le-leb 1 own low))
    (and_from _ _ (le-leb 1 number (omega arith)) (le-leb number MAX_NUMBER (omega arith))))
    (others_checked log own h (omega arith))) fit

-- the part of one change is in the limits
part_checked : (own counter : ℕ) (log : List Op) (rev : ℕ) (change : Change) → IsHistory log →
    is_outside (length (visible (characters_at rev log))) change ≡ false → is_blank change ≡ false →
    size_of change ≤ MAX_TEXT → counter + growth_of change ≤ MAX_COUNTER + 1 →
    is_part own (part_from counter own (characters_at rev log) change) ≡ true
part_checked own counter log rev (Insert at text) h out blank few clock =
    and_from _ _ (and_from _ _ (and_from _ _ (le-leb 1 (length text) (not_zero (length text) blank))
    (le-leb (length text) MAX_TEXT few)) (eq-eqb own own refl)) (le-leb (counter + length text) (MAX_COUNTER + 1) clock)
part_checked own counter log rev (Delete at len) h out blank few clock =
    let within : at + len ≤ length (visible (characters_at rev log)) =
    ltb-false (length (visible (characters_at rev log))) (at + len) out in
    and_from _ _ (le-leb 1 _ (spans_of-some (characters_at rev log) at len within (not_zero len blank)))
    (spans_of-checked (take rev log) at len (IsHistory-take log rev h))

-- and so is each part
parts_checked : (own counter : ℕ) (log : List Op) (rev : ℕ) (changes : List Change) → IsHistory log →
    AllByRecursion (λ change. is_outside (length (visible (characters_at rev log))) change ≡ false) changes →
    AllByRecursion (λ change. is_blank change ≡ false) changes →
    sum_by size_of changes ≤ MAX_TEXT → counter + sum_by growth_of changes ≤ MAX_COUNTER + 1 →
    list_all (is_part own) (parts_from counter own (characters_at rev log) changes) ≡ true
parts_checked own counter log rev [] h out filled few clock = refl
parts_checked own counter log rev (change ∷ changes) h out filled few clock =
    let all = sum_by-cons size_of change changes in
    let grown = sum_by-cons growth_of change changes in
    and_from _ _ (part_checked own counter log rev change h out.0 filled.0 (omega arith) (omega arith))
    (parts_checked own (counter + growth_of change) log rev changes h out.1 filled.1 (omega arith) (omega arith))

part_edits : (own counter : ℕ) (log : List Op) (rev : ℕ) (change : Change) →
    is_edit (part_from counter own (characters_at rev log) change) ≡ true
part_edits own counter log rev (Insert at text) = refl
part_edits own counter log rev (Delete at len) = refl

-- the parts only insert and erase
pub parts_edit : (own counter : ℕ) (log : List Op) (rev : ℕ) (changes : List Change) →
    list_all is_edit (parts_from counter own (characters_at rev log) changes) ≡ true
parts_edit own counter log rev [] = refl
parts_edit own counter log rev (change ∷ changes) = and_from _ _ (part_edits own counter log rev change)
    (parts_edit own (counter + growth_of change) log rev changes)

-- so none of them is a comment
no_comment : (parts : List Part) → list_all is_edit parts ≡ true → list_any is_comment_part parts ≡ false
no_comment [] e = refl
no_comment (part.Insert run ∷ parts) e = no_comment parts e
no_comment (part.Delete spans ∷ parts) e = no_comment parts e
no_comment (part.Comment first last text ∷ parts) e = absurd (Rattle.std.proofs.lemmas.Bool.false≢true e)
no_comment (part.Resolve comment ∷ parts) e = absurd (Rattle.std.proofs.lemmas.Bool.false≢true e)

-- there is one for each change
parts_count : (own counter : ℕ) (log : List Op) (rev : ℕ) (changes : List Change) →
    length (parts_from counter own (characters_at rev log) changes) ≡ length changes
parts_count own counter log rev [] = refl
parts_count own counter log rev (change ∷ changes) =
    ap suc (parts_count own (counter + growth_of change) log rev changes)

part_size_is : (own counter : ℕ) (log : List Op) (rev : ℕ) (change : Change) →
    is_outside (length (visible (characters_at rev log))) change ≡ false →
    part_size (part_from counter own (characters_at rev log) change) ≡ size_of change
part_size_is own counter log rev (Insert at text) out = refl
part_size_is own counter log rev (Delete at len) out =
    spans_of-len (characters_at rev log) at len (ltb-false (length (visible (characters_at rev log))) (at + len) out)

-- they insert and erase as many characters as the changes
parts_size : (own counter : ℕ) (log : List Op) (rev : ℕ) (changes : List Change) →
    AllByRecursion (λ change. is_outside (length (visible (characters_at rev log))) change ≡ false) changes →
    sum_by part_size (parts_from counter own (characters_at rev log) changes) ≡ sum_by size_of changes
parts_size own counter log rev [] out = refl
parts_size own counter log rev (change ∷ changes) out =
    sum_by-cons part_size (part_from counter own (characters_at rev log) change)
    (parts_from (counter + growth_of change) own (characters_at rev log) changes)
    ∙ ap₂ (λ a b. a + b) (part_size_is own counter log rev change out.0)
    (parts_size own (counter + growth_of change) log rev changes out.1)
    ∙ sym (sum_by-cons size_of change changes)

-- their counters rise
parts_rise : (own floor counter : ℕ) (log : List Op) (rev : ℕ) (changes : List Change) → floor ≤ counter →
    counters_rise floor (parts_from counter own (characters_at rev log) changes) ≡ true
parts_rise own floor counter log rev [] l = refl
parts_rise own floor counter log rev (Insert at text ∷ changes) l = and_from _ _ (le-leb floor counter l)
    (parts_rise own (counter + length text) (counter + length text) log rev changes (omega arith))
parts_rise own floor counter log rev (Delete at len ∷ changes) l = parts_rise own floor (counter + 0) log rev changes
    (omega arith)

-- a run has a character for each of its text
run_length : (first : Stamp) (p : Option Stamp) (text : List ℕ) (author : Author) →
    length (run_characters first p text author) ≡ length text
run_length first p [] author = refl
run_length first p (c ∷ text) author = ap suc (run_length (next first) (Some first) text author)

part_grows : (own counter : ℕ) (author : Author) (log : List Op) (rev : ℕ) (change : Change) →
    length (part_inserts author (part_from counter own (characters_at rev log) change)) ≡ growth_of change
part_grows own counter author log rev (Insert at text) = run_length (record { counter = counter; replica = own })
    (before_place (characters_at rev log) at) text author
part_grows own counter author log rev (Delete at len) = refl

-- a run of the given stamp, parent and text
pub run_made : (first stamp : Stamp) (after before : Option Stamp) (text codes : List ℕ) → first ≡ stamp →
    after ≡ before → text ≡ codes → (let run : Run = record { first = first; after = after; text = text } in run)
    ≡ record { first = stamp; after = before; text = codes }
run_made first stamp after before text codes f a t =
    ap (λ (s : Stamp). (let run : Run = record { first = s; after = after; text = text } in run)) f
    ∙ ap₂ (λ (p : Option Stamp) (l : List ℕ). (let run : Run = record { first = stamp; after = p; text = l } in run)) a
    t

-- they insert as many characters as the changes
parts_grow : (own counter : ℕ) (author : Author) (log : List Op) (rev : ℕ) (changes : List Change) →
    length (flat_map (part_inserts author) (parts_from counter own (characters_at rev log) changes))
    ≡ sum_by growth_of changes
parts_grow own counter author log rev [] = refl
parts_grow own counter author log rev (change ∷ changes) =
    length-append (part_inserts author (part_from counter own (characters_at rev log) change))
    (flat_map (part_inserts author) (parts_from (counter + growth_of change) own (characters_at rev log) changes))
    ∙ ap₂ (λ a b. a + b) (part_grows own counter author log rev change)
    (parts_grow own (counter + growth_of change) author log rev changes)
    ∙ sym (sum_by-cons growth_of change changes)

parent_there : (log : List Op) (rev : ℕ) (o : Option Stamp) (i : ℕ) → IsHistory log → stamp_at (characters_at rev log) i
    ≡ o → has_parent itself (characters_in log).inserted o ≡ true
parent_there log rev None i h e = refl
parent_there log rev (Some s) i h e = has_parent-take log rev (Some s)
    (stamp_at-inserted (characters_at rev log) i s (IsTree-history (take rev log) (IsHistory-take log rev h)) e)

-- the character in front of a place was inserted, or there is none
pub front_there : (log : List Op) (rev at : ℕ) → IsHistory log → has_parent itself (characters_in log).inserted
    (before_place (characters_at rev log) at) ≡ true
front_there log rev zero h = refl
front_there log rev (suc i) h = parent_there log rev (stamp_at (characters_at rev log) i) i h refl

part_valid : (own counter : ℕ) (log : List Op) (rev : ℕ) (change : Change) → IsHistory log →
    clock_of_characters (characters_in log).inserted < counter →
    part_is_valid (part_from counter own (characters_at rev log) change) log ≡ true
part_valid own counter log rev (Insert at text) h l =
    newest_joins (characters_in log).inserted (record { counter = counter; replica = own })
    (before_place (characters_at rev log) at) l (front_there log rev at h)
part_valid own counter log rev (Delete at len) h l = has_spans-stretch log rev at len h

-- each part fits the contents
parts_valid : (own counter : ℕ) (log : List Op) (rev : ℕ) (changes : List Change) → IsHistory log →
    clock_of_characters (characters_in log).inserted < counter → list_all (λ part. part_is_valid part log)
    (parts_from counter own (characters_at rev log) changes) ≡ true
parts_valid own counter log rev [] h l = refl
parts_valid own counter log rev (change ∷ changes) h l = and_from _ _ (part_valid own counter log rev change h l)
    (parts_valid own (counter + growth_of change) log rev changes h (omega arith))

-- the operation of changes that are not refused is in the limits
pub edit_checked : (own rev : ℕ) (author : List ℕ) (changes : List Change) (log : List Op) →
    edit_refusal rev changes log ≡ None → IsHistory log → is_name author ≡ true → 1 ≤ own →
    is_checked (op_of own author (made_parts own rev changes log) log) ≡ true
edit_checked own rev author changes log none h named low =
    let a = allowed rev changes log none in
    let from = clock_of_characters (characters_in log).inserted + 1 in
    let count : length (made_parts own rev changes log) ≡ length changes = parts_count own from log rev changes in
    let size : sum_by part_size (made_parts own rev changes log) ≡ sum_by size_of changes =
    parts_size own from log rev changes a.within in
    let some = a.some in
    let most = a.parts in
    let few = a.few in
    let clock = a.grows.clock in
    op_checked own author (made_parts own rev changes log) log h a.grows.short named low
    (and_from _ _ (and_from _ _ (and_from _ _
    (and_from _ _ (and_from _ _ (le-leb 1 (length (made_parts own rev changes log)) (omega arith))
    (le-leb (length (made_parts own rev changes log)) MAX_PARTS (omega arith)))
    (or_right _ _ (parts_edit own from log rev changes)))
    (parts_checked own from log rev changes h a.within a.filled few (omega arith)))
    (parts_rise own 0 from log rev changes (omega arith)))
    (le-leb (sum_by part_size (made_parts own rev changes log)) MAX_TEXT (omega arith)))

-- once the part of the first change that is left is made, those of the others are left
pub parts_step : (own counter next : ℕ) (set : Characters) (before after all : List Part) (one : Part)
    (left more : List Change) (change : Change) → before ++ parts_from counter own set left ≡ all → left ≡ change
    ∷ more →
    after ≡ before ++ one ∷ [] → one ≡ part_from counter own set change → next ≡ counter + growth_of change →
    after ++ parts_from next own set more ≡ all
parts_step own counter next set before after all one left more change so_far is pushed made grown =
    ap₂ (λ (parts : List Part) n. parts ++ parts_from n own set more) pushed grown
    ∙ append_assoc before (one ∷ []) (parts_from (counter + growth_of change) own set more)
    ∙ ap (λ (p : Part). before ++ p ∷ parts_from (counter + growth_of change) own set more) made
    ∙ ap (λ changes. before ++ parts_from counter own set changes) (sym is)
    ∙ so_far

-- where none is left, all are made
pub parts_done : (own counter : ℕ) (set : Characters) (before all : List Part) (left : List Change) →
    before ++ parts_from counter own set left ≡ all → left ≡ [] → before ≡ all
parts_done own counter set before all left so_far is = sym (append-nil before)
    ∙ ap (λ changes. before ++ parts_from counter own set changes) (sym is) ∙ so_far

-- an operation that fits and passes no limit is not refused
pub delivered : (op : Op) (log : List Op) → is_valid op log ≡ true → length (characters_in log).inserted
    + length (inserted_by op) ≤ MAX_CHARACTERS → length log < MAX_OPERATIONS →
    (is_comment op && leb MAX_COMMENTS (count_by is_comment log)) ≡ false → delivery_refusal op log ≡ None
delivered op log valid room short silent =
    rw (
      valid,
      le-ltb MAX_CHARACTERS (length (characters_in log).inserted + length (inserted_by op)) room,
      lt-leb MAX_OPERATIONS (length log) short,
      silent,
    ) refl

-- it fits, and passes no limit
pub edit_fits : (own rev : ℕ) (author : List ℕ) (changes : List Change) (log : List Op) → edit_refusal rev changes log
    ≡ None → IsHistory log → delivery_refusal (op_of own author (made_parts own rev changes log) log) log ≡ None
edit_fits own rev author changes log none h =
    let a = allowed rev changes log none in
    let who : Author = record { name = author; origin = own } in
    let from = clock_of_characters (characters_in log).inserted + 1 in
    let grown : length (flat_map (part_inserts who) (made_parts own rev changes log)) ≡ sum_by growth_of changes =
    parts_grow own from who log rev changes in
    let room = a.grows.room in
    delivered (op_of own author (made_parts own rev changes log) log) log
    (and_from _ _ (parts_valid own from log rev changes h (omega arith))
    (inserts_differ who 0 (made_parts own rev changes log) (parts_rise own 0 from log rev changes (omega arith))))
    (omega arith) a.grows.short (ap (λ b. b && leb MAX_COMMENTS (count_by is_comment log))
    (no_comment (made_parts own rev changes log) (parts_edit own from log rev changes)))

no_memory : (n : ℕ) → (let r : Result ℕ Refusal = Ok n in r) ≡ Err Memory → ⊥
no_memory n q = cc

-- the answer of a ledger as an edit's
abbrev answered : OpName → Result ℕ Refusal × List Op → Result Edited Refusal × List Op
answered name (Ok hidden, log) = (Ok (record { name = name; hidden = hidden }), log)
answered name (Err refusal, log) = (Err refusal, log)

-- what a ledger answers to the next operation of an author
pub appended_answers : (own : ℕ) (author : List ℕ) (parts : List Part) (log new : List Op) (op : Op) (hidden : ℕ) →
    op ≡ op_of own author parts log →
    Answers log (Ok (hidden_by (erased_by op) (characters_in log)), log ++ op ∷ []) (Ok hidden) new →
    Answers log (appended own author parts log) (Ok (record { name = op.name; hidden = hidden })) new
appended_answers own author parts log new op hidden is (inl h) = absurd (no_memory hidden h.0)
appended_answers own author parts log new op hidden is (inr h) =
    inr (ap (λ (o : Op). answered o.name (Ok (hidden_by (erased_by o) (characters_in log)), log ++ o ∷ [])) (sym is)
    ∙ ap (answered op.name) h)

-- what is refused is not made
pub edit_refused : (own rev : ℕ) (author : List ℕ) (changes : List Change) (log : List Op) (refusal : Refusal) →
    edit_refusal rev changes log ≡ Some refusal → edited own author rev changes log ≡ (Err refusal, log)
edit_refused own rev author changes log refusal e = rw e refl

-- where nothing is refused, the operation is made
pub edit_made : (own rev : ℕ) (author : List ℕ) (changes : List Change) (log : List Op) → edit_refusal rev changes log
    ≡ None → edited own author rev changes log ≡ appended own author (made_parts own rev changes log) log
edit_made own rev author changes log none = rw none refl

-- and answered
pub edit_answers : (own rev : ℕ) (author : List ℕ) (changes : List Change) (parts : List Part) (log new : List Op)
    (result : Result Edited Refusal) → edit_refusal rev changes log ≡ None → parts ≡ made_parts own rev changes log →
    Answers log (appended own author parts log) result new → Answers log (edited own author rev changes log) result new
edit_answers own rev author changes parts log new result none made h =
    subst (λ answer. Answers log answer result new) (ap (λ (ps : List Part). appended own author ps log) made
    ∙ sym (edit_made own rev author changes log none)) h
