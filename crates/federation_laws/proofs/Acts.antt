-- What an act does to the log of a server, and to what it holds.
use Rattle.std.proofs.Common.{◌≡◌, ℕ, zero, suc, ◌+◌, ◌-◌, ◌≤◌, ◌<◌, ◌⊎◌, inl, inr, Bool, true, false, not, leb, List}
use Rattle.std.proofs.Common.{[], ◌∷◌, ◌++◌, length, Option, Some, None, Result, Ok, Err, refl, sym, ap, ◌∙◌, subst}
use Rattle.std.proofs.Common.{arith, slice_get, option_map, leb-false}
use Rattle.std.proofs.lemmas.Bool.{and_from, lt-leb}
use Rattle.pad_model.specs.Checked.{is_name, is_checked}
use Rattle.pad_model.specs.Operation.{Characters}
use Rattle.pad_model.specs.Seen.{count_in, with_count}
use Rattle.pad_model.specs.Stamp.{Stamp}
use Rattle.pad_model.specs.Character.{Character}
use Rattle.pad_model.specs.Visible.{visible, stamp_at}
use Rattle.pad_model.specs.declared.limits.TheConstants.{MAX_OPERATIONS}
use Rattle.pad_model.specs.declared.op.Op.{Op}
use Rattle.pad_model.specs.declared.op.OpName.{OpName}
use Rattle.pad_model.specs.declared.op.Part.{Part}
use Rattle.pad_model.specs.declared.op.Part.TheVariants.{Comment, Resolve}
use Rattle.pad_model.specs.declared.refusal.Refusal.{Refusal}
use Rattle.pad_core.specs.Counts.{characters_at, op_of, vector_of}
use Rattle.pad_core.specs.Delivered.{IsDelivered, delivery_refusal}
use Rattle.pad_core.specs.Edits.{edit_refusal, edited, insert, delete, edit, made_parts, told_hidden, told_name}
use Rattle.pad_core.specs.Notes.{noted, comment, comment_refusal, comment_between, comment_parts, resolve}
use Rattle.pad_core.specs.Notes.{resolve_refusal, has_comment}
use Rattle.pad_core.specs.declared.act.Change.{Change}
use Rattle.pad_core.specs.declared.act.Change.TheVariants as change
use Rattle.pad_core.specs.declared.edit.Edited.{Edited}
use Rattle.pad_core.proofs.Allowed.{unless}
use Rattle.pad_core.proofs.Made.{edit_checked, edit_fits, edit_made, edit_refused, delivered}
use Rattle.pad_core.proofs.Noted.{commentable, comment_checked, comment_fits, resolve_checked}

-- an operation that a server makes: the next of its own, after all that it has
pub record IsLocal (own : ℕ) (log : List Op) (op : Op) : Type 0 where
  pub origin : op.name.origin ≡ own
  pub number : op.name.number ≡ count_in (vector_of log) own + 1
  pub seen : op.seen ≡ with_count (vector_of log) own 0
  pub checked : is_checked op ≡ true
  pub allowed : delivery_refusal op log ≡ None

-- an act leaves the log, or adds an operation of the server
abbrev pub Makes : ℕ → List Op → List Op → Type 0
Makes own log new = (new ≡ log) ⊎ ((op : Op) × (IsLocal own log op × (new ≡ log ++ op ∷ [])))

made : (own : ℕ) (author : List ℕ) (parts : List Part) (log : List Op) → is_checked (op_of own author parts log)
    ≡ true → delivery_refusal (op_of own author parts log) log ≡ None →
    Makes own log (log ++ op_of own author parts log ∷ [])
made own author parts log checked allowed =
    let local : IsLocal own log (op_of own author parts log) =
    record { origin = refl; number = refl; seen = refl; checked = checked; allowed = allowed } in
    inr (op_of own author parts log, (local, refl))

-- an edit
edits : (own : ℕ) (author : List ℕ) (rev : ℕ) (changes : List Change) (log : List Op) → IsDelivered log → is_name author
    ≡ true → 1 ≤ own → Makes own log (edited own author rev changes log).1
edits own author rev changes log d named low = at (edit_refusal rev changes log) refl
  where
    at : (r : Option Refusal) → edit_refusal rev changes log ≡ r → Makes own log (edited own author rev changes log).1
    at (Some refusal) e = inl (ap (λ p. p.1) (edit_refused own rev author changes log refusal e))
    at None e =
        subst (λ p. Makes own log p.1) (sym (edit_made own rev author changes log e))
        (made own author (made_parts own rev changes log) log
        (edit_checked own rev author changes log e d.history named low)
        (edit_fits own rev author changes log e d.history))

told_name_log : (own : ℕ) (old : List Op) (answer : Result Edited Refusal) (log : List Op) → Makes own old log →
    Makes own old (told_name (answer, log)).1
told_name_log own old (Ok edit) log h = h
told_name_log own old (Err refusal) log h = h

told_hidden_log : (own : ℕ) (old : List Op) (answer : Result Edited Refusal) (log : List Op) → Makes own old log →
    Makes own old (told_hidden (answer, log)).1
told_hidden_log own old (Ok edit) log h = h
told_hidden_log own old (Err refusal) log h = h

pub inserts : (own : ℕ) (author : List ℕ) (rev at : ℕ) (text : List ℕ) (log : List Op) → IsDelivered log →
    is_name author ≡ true → 1 ≤ own → Makes own log (insert own author rev at text log).1
inserts own author rev at text log d named low =
    let done = edited own author rev (change.Insert at text ∷ []) log in
    told_name_log own log done.0 done.1 (edits own author rev (change.Insert at text ∷ []) log d named low)

pub deletes : (own : ℕ) (author : List ℕ) (rev at len : ℕ) (log : List Op) → IsDelivered log → is_name author ≡ true →
    1 ≤ own → Makes own log (delete own author rev at len log).1
deletes own author rev at len log d named low =
    let done = edited own author rev (change.Delete at len ∷ []) log in
    told_hidden_log own log done.0 done.1 (edits own author rev (change.Delete at len ∷ []) log d named low)

pub changes_all : (own : ℕ) (author : List ℕ) (rev : ℕ) (changes : List Change) (log : List Op) → IsDelivered log →
    is_name author ≡ true → 1 ≤ own → Makes own log (edit own author rev changes log).1
changes_all own author rev changes log d named low =
    let done = edited own author rev changes log in
    told_hidden_log own log done.0 done.1 (edits own author rev changes log d named low)

-- each place of a list has an item
pub place_there : (xs : List Character) (i : ℕ) → i < length xs → (s : Stamp)
    × (option_map (λ c. c.stamp) (slice_get xs i) ≡ Some s)
place_there [] i l = absurd (omega arith)
place_there (x ∷ xs) zero l = (x.stamp, refl)
place_there (x ∷ xs) (suc i) l = place_there xs i (omega arith)

-- a comment that is not refused has its part
comment_made : (set : Characters) (at len : ℕ) (text : List ℕ) → at + len ≤ length (visible set) → 1 ≤ len →
    (part : Part) × (comment_parts set at len text ≡ part ∷ [])
comment_made set at len text within some =
    let first = place_there (visible set) at (omega arith) in
    let last = place_there (visible set) (at + len - 1) (omega arith) in
    let there : stamp_at set at ≡ Some first.0 = first.1 in
    let end : stamp_at set (at + len - 1) ≡ Some last.0 = last.1 in (
      Comment first.0 last.0 text,
      ap (λ o. comment_between o (stamp_at set (at + len - 1)) text) there
          ∙ ap (λ o. comment_between (Some first.0) o text) end,
    )

pub comments : (own : ℕ) (author : List ℕ) (rev at len : ℕ) (text : List ℕ) (log : List Op) → IsDelivered log →
    is_name author ≡ true → 1 ≤ own → Makes own log (comment own author rev at len text log).1
comments own author rev at len text log d named low = case (comment_refusal rev at len text log) refl
  where
    case : (r : Option Refusal) → comment_refusal rev at len text log ≡ r →
        Makes own log (comment own author rev at len text log).1
    case (Some refusal) e = inl (ap (λ r. (noted r own author (comment_parts (characters_at rev log) at len text)
        log).1) e)
    case None e =
        let c = commentable rev at len text log e in
        let part = comment_made (characters_at rev log) at len text c.within c.some in
        subst (λ r. Makes own log (noted r own author (comment_parts (characters_at rev log) at len text) log).1)
        (sym e)
        (subst (λ ps. Makes own log (noted None own author ps log).1) (sym part.1)
        (made own author (part.0 ∷ []) log (comment_checked own author rev at len text part.0 log e part.1 d.history
        named low) (comment_fits own author rev at len text part.0 log e part.1 d)))

-- a resolution that is not refused fits its log
resolve_fits : (own : ℕ) (author : List ℕ) (name : OpName) (log : List Op) → has_comment name log ≡ true → length log
    < MAX_OPERATIONS → IsDelivered log → delivery_refusal (op_of own author (Resolve name ∷ []) log) log ≡ None
resolve_fits own author name log there short d =
    let room = d.room in
    delivered (op_of own author (Resolve name ∷ []) log) log (and_from _ _ (and_from _ _ there refl) refl)
    (omega arith) short refl

pub resolutions : (own : ℕ) (author : List ℕ) (name : OpName) (log : List Op) → IsDelivered log → is_name author
    ≡ true → 1 ≤ own → Makes own log (resolve own author name log).1
resolutions own author name log d named low = case (resolve_refusal name log) refl
  where
    not_false : (b : Bool) → not b ≡ false → b ≡ true
    not_false true e = refl
    not_false false e = absurd (Rattle.std.proofs.lemmas.Bool.true≢false e)

    case : (r : Option Refusal) → resolve_refusal name log ≡ r → Makes own log (resolve own author name log).1
    case (Some refusal) e = inl (ap (λ r. (noted r own author (Resolve name ∷ []) log).1) e)
    case None e =
        let a = unless (not (has_comment name log)) _ _ e in
        let b = unless (leb MAX_OPERATIONS (length log)) _ _ a.1 in
        let there = not_false (has_comment name log) a.0 in
        let short : length log < MAX_OPERATIONS = leb-false MAX_OPERATIONS (length log) b.0 in
        subst (λ r. Makes own log (noted r own author (Resolve name ∷ []) log).1) (sym e)
        (made own author (Resolve name ∷ []) log (resolve_checked own author name log there short d.history named low)
        (resolve_fits own author name log there short d))
