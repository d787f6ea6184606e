-- A text inserted at a position of the present revision is at that position in the next.
use Rattle.std.proofs.Common.{◌≡◌, ℕ, zero, suc, ◌+◌, ◌≤◌, ◌<◌, Bool, true, false, not, cond, List, [], ◌∷◌, ◌++◌}
use Rattle.std.proofs.Common.{length, map, filter, take, drop, Option, Some, None, Result, Ok, Err, refl, sym, ap, ap₂}
use Rattle.std.proofs.Common.{◌∙◌, subst, arith, append-nil, bytes_eq, ltb, ltb-false, unwrap_or}
use Rattle.std.proofs.Math.Seq.{take-length}
use Rattle.std.proofs.lemmas.Bool.{both_ways}
use Rattle.std.proofs.lemmas.List.Concat.{flat_map-append}
use Rattle.std.proofs.lemmas.List.Elements.{filter-append}
use Rattle.std.specs.List.{AllByRecursion, IsDistinct}
use Rattle.op_log.specs.Made.{Made}
use Rattle.pad_model.specs.Stamp.{Stamp, newer, same_stamp}
use Rattle.pad_model.specs.Character.{Character, next, run_characters}
use Rattle.pad_model.specs.History.{IsHistory, clock_of_characters}
use Rattle.pad_model.specs.Laws.{itself}
use Rattle.pad_model.specs.Legal.{same_item}
use Rattle.pad_model.specs.Operation.{Characters, author_of, characters_in, erased_by}
use Rattle.pad_model.specs.Order.{order}
use Rattle.pad_model.specs.Scan.{put_right_behind}
use Rattle.pad_model.specs.Visible.{is_erased, visible}
use Rattle.pad_model.specs.declared.op.Op.{Op}
use Rattle.pad_model.specs.declared.op.OpName.{OpName}
use Rattle.pad_model.specs.declared.who.Author.{Author as Writer}
use Rattle.pad_model.specs.declared.who.Who.{Who}
use Rattle.pad_model.specs.declared.who.Who.TheVariants.{Nobody, Author, Peer}
use Rattle.pad_model.specs.declared.refusal.Refusal.{Refusal}
use Rattle.pad_model.specs.declared.refusal.Refusal.TheVariants.{NoPad, NoSession}
use Rattle.pad_model.proofs.Cells.{RunMayJoin-from_test}
use Rattle.pad_model.proofs.Each.{each-imply}
use Rattle.pad_model.proofs.Growth.{IsTree-history}
use Rattle.pad_model.proofs.History.{filter_all}
use Rattle.pad_model.proofs.Local.{greatest_bound, newest_joins}
use Rattle.pad_model.proofs.Members.{order-permutation}
use Rattle.pad_model.proofs.Newer.{split, newer_of_counter, same_stamp-true}
use Rattle.pad_model.proofs.Pushed.{erased-inserted}
use Rattle.pad_model.proofs.Rising.{IsDistinct-parts, distinct-permutation}
use Rattle.pad_model.proofs.Runs.{order-newest, IsRun-run_characters}
use Rattle.pad_model.proofs.Sets.{Has-each, item_of_stamp}
use Rattle.presence.specs.Presence.{Presence}
use Rattle.pad_core.specs.Counts.{characters_at, op_of}
use Rattle.pad_core.specs.Edits.{before_place, edit_refusal, insert, made_parts, told_name}
use Rattle.pad_core.specs.Machine.{Machine, author_refusal, author_step, on_log, session_step, step}
use Rattle.pad_core.specs.declared.act.Act.TheVariants as act
use Rattle.pad_core.specs.declared.act.Change.TheVariants as change
use Rattle.pad_core.specs.declared.owned.Owned.{Owned}
use Rattle.pad_core.specs.declared.reply.PadReply.{PadReply}
use Rattle.pad_core.specs.declared.reply.PadReply.TheVariants as reply
use Rattle.pad_core.proofs.Allowed.{allowed}
use Rattle.pad_core.proofs.Entered.{inserted-push}
use Rattle.pad_core.proofs.Made.{edit_made, edit_refused, front_there}
use Rattle.pad_core.proofs.Noted.{stamp_in, is_stamp, kept_has, other_stamp}
use Rattle.federation_laws.specs.Holds.{TypesInPlace}
use Rattle.federation_laws.proofs.Acts.{place_there}
use Rattle.federation_laws.proofs.Steps.{pad_with}

-- an item that passes a test among those after an item has another stamp
not_first : (t : Character → Bool) (x : Character) (xs : List Character) (j : ℕ) (p : Stamp) →
    IsDistinct (same_item itself) (x ∷ xs) → same_stamp x.stamp p ≡ true → stamp_in itself (filter t xs) j ≡ Some p → ⊥
not_first t x xs j p d same there = both_ways _ (other_stamp itself x xs p d (kept_has itself t xs j p there)) same

-- a block directly after an item that passes a test is directly after it among what passes
behind_kept : (t : Character → Bool) (xs block : List Character) (j : ℕ) (p : Stamp) →
    IsDistinct (same_item itself) xs → stamp_in itself (filter t xs) j ≡ Some p →
    filter t (put_right_behind itself (Some p) block xs) ≡ take (suc j) (filter t xs) ++ filter t block
    ++ drop (suc j) (filter t xs)
behind_kept t [] block j p d there = absurd (cc)
behind_kept t (x ∷ xs) block j p d there =
    split (same_stamp x.stamp p)
    (λ here. rw here (at_first here (t x) j (ap (λ l. l) there)))
    (λ other. rw other (later other (t x) j there
    (λ k e. behind_kept t xs block k p (IsDistinct-parts itself x xs d).1 e)))
  where
    rest : filter t (block ++ xs) ≡ filter t block ++ filter t xs
    rest = filter-append t block xs

    at_first : same_stamp x.stamp p ≡ true → (kept : Bool) (j : ℕ) →
        stamp_in itself (cond kept (x ∷ filter t xs) (filter t xs)) j ≡ Some p →
        cond kept (x ∷ filter t (block ++ xs)) (filter t (block ++ xs))
        ≡ take (suc j) (cond kept (x ∷ filter t xs) (filter t xs)) ++ filter t block
        ++ drop (suc j) (cond kept (x ∷ filter t xs) (filter t xs))
    at_first here true zero e = ap (λ l. x ∷ l) rest
    at_first here true (suc j) e = absurd (not_first t x xs j p d here e)
    at_first here false j e = absurd (not_first t x xs j p d here e)

    later : same_stamp x.stamp p ≡ false → (kept : Bool) (j : ℕ) →
        stamp_in itself (cond kept (x ∷ filter t xs) (filter t xs)) j ≡ Some p →
        ((k : ℕ) → stamp_in itself (filter t xs) k ≡ Some p → filter t (put_right_behind itself (Some p) block xs)
        ≡ take (suc k) (filter t xs) ++ filter t block ++ drop (suc k) (filter t xs)) →
        cond kept (x ∷ filter t (put_right_behind itself (Some p) block xs))
        (filter t (put_right_behind itself (Some p) block xs)) ≡
        take (suc j) (cond kept (x ∷ filter t xs) (filter t xs)) ++ filter t block
        ++ drop (suc j) (cond kept (x ∷ filter t xs) (filter t xs))
    later other true zero e more = absurd
        (both_ways _ other (subst (λ z. same_stamp x.stamp z ≡ true) (is_stamp x.stamp p e)
        (Rattle.pad_model.proofs.Newer.same_stamp-refl x.stamp)))
    later other true (suc j) e more = ap (λ l. x ∷ l) (more j e)
    later other false j e more = more j e

-- the characters of a run are those of its text, and no older than its first
run_text : (first : Stamp) (p : Option Stamp) (text : List ℕ) (author : Writer) →
    map (λ c. c.character) (run_characters first p text author) ≡ text
run_text first p [] author = refl
run_text first p (c ∷ text) author = ap (λ l. c ∷ l) (run_text (next first) (Some first) text author)

run_above : (first : Stamp) (p : Option Stamp) (text : List ℕ) (author : Writer) →
    AllByRecursion (λ c. first.counter ≤ c.stamp.counter) (run_characters first p text author)
run_above first p [] author = tt
run_above first p (c ∷ text) author = (
  omega arith,
  each-imply (λ x. first.counter + 1 ≤ x.stamp.counter) (λ x. first.counter ≤ x.stamp.counter)
      (λ x l. omega arith) (run_characters (next first) (Some first) text author)
      (run_above (next first) (Some first) text author),
)

-- what is newer than all was not erased
newest_shown : (log : List Op) (c : Character) → IsHistory log → clock_of_characters (characters_in log).inserted
    < c.stamp.counter → not (is_erased (characters_in log).erased c.stamp) ≡ true
newest_shown log c h above =
    split (is_erased (characters_in log).erased c.stamp)
    (λ e.
    let found = item_of_stamp itself (characters_in log).inserted c.stamp (erased-inserted log c.stamp h e) in
    let bound : found.0.stamp.counter ≤ clock_of_characters (characters_in log).inserted =
    Has-each (λ x. x.stamp.counter ≤ clock_of_characters (characters_in log).inserted)
    (characters_in log).inserted found.0 (greatest_bound itself (characters_in log).inserted 0) found.1.0 in
    let same : found.0.stamp.counter ≡ c.stamp.counter = ap (λ (s : Stamp). s.counter)
    (same_stamp-true found.0.stamp c.stamp found.1.1) in
    absurd (omega arith))
    (λ e. ap not e)

-- what is inserted directly after the character before a position is at that position among what is shown
placed : (set : Characters) (block : List Character) (at : ℕ) → IsDistinct (same_item itself)
    (order itself set.inserted) → filter (λ c. not (is_erased set.erased c.stamp)) block ≡ block →
    at ≤ length (visible set) →
    filter (λ c. not (is_erased set.erased c.stamp))
    (put_right_behind itself (before_place set at) block (order itself set.inserted)) ≡ take at (visible set) ++ block
    ++ drop at (visible set)
placed set block zero d kept within =
    filter-append (λ c. not (is_erased set.erased c.stamp)) block (order itself set.inserted)
    ∙ ap (λ l. l ++ visible set) kept
placed set block (suc j) d kept within =
    let there = place_there (visible set) j (omega arith) in
    subst (λ o. filter (λ c. not (is_erased set.erased c.stamp))
    (put_right_behind itself o block (order itself set.inserted)) ≡ take (suc j) (visible set) ++ block
    ++ drop (suc j) (visible set)) (sym there.1)
    (behind_kept (λ c. not (is_erased set.erased c.stamp)) (order itself set.inserted) block j there.0 d there.1
    ∙ ap (λ l. take (suc j) (visible set) ++ l ++ drop (suc j) (visible set)) kept)

-- a text is at its position
abbrev pub InPlace : List Op → ℕ → List ℕ → List Op → Type 0
InPlace log at text new =
    (typed : List Character) × (at ≤ length (visible (characters_in log))) × (map (λ c. c.character) typed ≡ text)
    × (visible (characters_in new) ≡ take at (visible (characters_in log)) ++ typed
    ++ drop at (visible (characters_in log)))

-- the operation of an insertion at a place of the present revision
abbrev inserted_at : ℕ → List ℕ → ℕ → List ℕ → List Op → Op
inserted_at own author at text log = op_of own author (made_parts own (length log) (change.Insert at text ∷ []) log) log

in_place : (own : ℕ) (author : List ℕ) (at : ℕ) (text : List ℕ) (log : List Op) → IsHistory log →
    edit_refusal (length log) (change.Insert at text ∷ []) log ≡ None →
    InPlace log at text (log ++ inserted_at own author at text log ∷ [])
in_place own author at text log h none =
    let set = characters_in log in
    let op = inserted_at own author at text log in
    let first : Stamp = record { counter = clock_of_characters set.inserted + 1; replica = own } in
    let p = before_place (characters_at (length log) log) at in
    let block = run_characters first p text (author_of op) in
    let present : characters_at (length log) log ≡ set = ap characters_in (take-length log) in
    let tree = IsTree-history log h in
    let above : clock_of_characters set.inserted < first.counter = omega arith in
    let joins = RunMayJoin-from_test itself set.inserted first p
    (newest_joins set.inserted first p above (front_there log (length log) at h)) in
    let newest : AllByRecursion (λ x. newer first x.stamp ≡ true) set.inserted =
    each-imply (λ x. x.stamp.counter ≤ clock_of_characters set.inserted) (λ x. newer first x.stamp ≡ true)
    (λ x l. newer_of_counter first x.stamp (omega arith)) set.inserted (greatest_bound itself set.inserted 0)
    in
    let ordered : order itself (characters_in (log ++ op ∷ [])).inserted
    ≡ put_right_behind itself p block (order itself set.inserted) =
    ap (order itself) (inserted-push log op ∙ ap (λ l. set.inserted ++ l) (append-nil block))
    ∙ order-newest itself set.inserted first p block tree joins (IsRun-run_characters first p text (author_of op))
    newest
    in
    let gone : (characters_in (log ++ op ∷ [])).erased ≡ set.erased = flat_map-append erased_by log (op ∷ [])
    ∙ append-nil set.erased in
    let kept : filter (λ c. not (is_erased set.erased c.stamp)) block ≡ block =
    filter_all (λ c. not (is_erased set.erased c.stamp)) block
    (each-imply (λ c. first.counter ≤ c.stamp.counter) (λ c. not (is_erased set.erased c.stamp) ≡ true)
    (λ c l. newest_shown log c h (omega arith)) block (run_above first p text (author_of op)))
    in
    let outside : ltb (length (visible (characters_at (length log) log))) at ≡ false =
    (allowed (length log) (change.Insert at text ∷ []) log none).within.0 in
    let within : at ≤ length (visible set) = subst (λ s. at ≤ length (visible s)) present
    (ltb-false (length (visible (characters_at (length log) log))) at outside) in
    let shown : visible (characters_in (log ++ op ∷ [])) ≡ filter (λ c. not (is_erased set.erased c.stamp))
    (put_right_behind itself p block (order itself set.inserted)) =
    ap₂ (λ (e : List Stamp) (xs : List Character). filter (λ c. not (is_erased e c.stamp)) xs) gone ordered
    in
    let distinct = distinct-permutation itself set.inserted (order itself set.inserted)
    (order-permutation itself set.inserted tree) tree.distinct in (
      block,
      within,
      run_text first p text (author_of op),
      shown
          ∙ ap (λ s. filter (λ c. not (is_erased set.erased c.stamp))
          (put_right_behind itself (before_place s at) block (order itself set.inserted))) present
          ∙ placed set block at distinct kept within,
    )

-- what the answer to an insertion leaves
abbrev TypedBy : List Op → ℕ → List ℕ → Result PadReply Refusal × Machine → Type 0
TypedBy log at text result = (now : ℕ) (name : OpName) → result.0 ≡ Ok (reply.Made now name) →
    InPlace log at text result.1.log

refused : (log : List Op) (at : ℕ) (text : List ℕ) (refusal : Refusal) (m : Machine) →
    TypedBy log at text (Err refusal, m)
refused log at text refusal m now name e = absurd (no refusal now name e)
  where
    no : (refusal : Refusal) (now : ℕ) (name : OpName) → (let r : Result PadReply Refusal = Err refusal in r)
        ≡ Ok (reply.Made now name) → ⊥
    no refusal now name e = cc

elsewhere : (log : List Op) (at : ℕ) (text : List ℕ) (m : Machine) → TypedBy log at text (Ok reply.Elsewhere, m)
elsewhere log at text m now name e = absurd (no now name e)
  where
    no : (now : ℕ) (name : OpName) → (let r : Result PadReply Refusal = Ok reply.Elsewhere in r)
        ≡ Ok (reply.Made now name) → ⊥
    no now name e = cc

insert_types : (owned : Option Owned) (own : ℕ) (author : List ℕ) (visit at : ℕ) (text : List ℕ) (log held : List Op)
    (p : Presence) (clock : ℕ) (known : Made) → IsHistory log →
    TypedBy log at text (on_log (pad_with owned own log held p clock known) visit (insert own author (length log) at text log))
insert_types owned own author visit at text log held p clock known h =
    case (edit_refusal (length log) (change.Insert at text ∷ []) log) refl
  where
    case : (r : Option Refusal) → edit_refusal (length log) (change.Insert at text ∷ []) log ≡ r →
        TypedBy log at text (on_log (pad_with owned own log held p clock known) visit (insert own author (length log) at text log))
    case (Some refusal) e =
        subst (λ d. TypedBy log at text (on_log (pad_with owned own log held p clock known) visit (told_name d)))
        (sym (edit_refused own (length log) author (change.Insert at text ∷ []) log refusal e))
        (refused log at text refusal (pad_with owned own log held p clock known))
    case None e =
        subst (λ d. TypedBy log at text (on_log (pad_with owned own log held p clock known) visit (told_name d)))
        (sym (edit_made own (length log) author (change.Insert at text ∷ []) log e))
        (λ now name told. in_place own author at text log h e)

author_types : (owned : Option Owned) (own : ℕ) (at : ℕ) (text : List ℕ) (log held : List Op) (p : Presence) (clock : ℕ) (known : Made)
    (pad : Owned) (author : List ℕ) (visit : Option ℕ) → IsHistory log →
    TypedBy log at text (author_step pad author visit (act.Insert (length log) at text) (pad_with owned own log held p clock known))
author_types owned own at text log held p clock known pad author visit h =
    case (author_refusal pad p author visit (act.Insert (length log) at text)) refl
  where
    case : (r : Option Refusal) → author_refusal pad p author visit (act.Insert (length log) at text) ≡ r →
        TypedBy log at text (author_step pad author visit (act.Insert (length log) at text)
        (pad_with owned own log held p clock known))
    case (Some refusal) e = rw e (refused log at text refusal (pad_with owned own log held p clock known))
    case None e = rw e (insert_types owned own author (unwrap_or visit 0) at text log held p clock known h)

session_types : (owned : Option Owned) (own : ℕ) (at : ℕ) (text : List ℕ) (log held : List Op) (p : Presence) (clock : ℕ) (known : Made)
    (pad : Owned) (who : Who) (visit : Option ℕ) → IsHistory log →
    TypedBy log at text (session_step pad who visit (act.Insert (length log) at text) (pad_with owned own log held p clock known))
session_types owned own at text log held p clock known pad Nobody visit h =
    refused log at text NoSession (pad_with owned own log held p clock known)
session_types owned own at text log held p clock known pad (Author author) visit h =
    author_types owned own at text log held p clock known pad author visit h
session_types owned own at text log held p clock known pad (Peer number version) visit h =
    refused log at text NoSession (pad_with owned own log held p clock known)

step_types : (owned : Option Owned) (own : ℕ) (at : ℕ) (text : List ℕ) (log held : List Op) (p : Presence) (clock : ℕ) (known : Made)
    (pad : List ℕ) (who : Who) (visit : Option ℕ) → IsHistory log →
    TypedBy log at text (step pad who visit (act.Insert (length log) at text) (pad_with owned own log held p clock known))
step_types None own at text log held p clock known pad who visit h = refused log at text NoPad (pad_with None own log held p clock known)
step_types (Some owned) own at text log held p clock known pad who visit h =
    split (bytes_eq owned.name pad)
    (λ e. rw e (session_types (Some owned) own at text log held p clock known owned who visit h))
    (λ e. rw e (elsewhere log at text (pad_with (Some owned) own log held p clock known)))

-- what is typed is at its position
pub types_in_place : (m : Machine) → IsHistory m.log → TypesInPlace m
types_in_place m h pad who visit at text now name new e =
    subst (λ (x : Machine). InPlace m.log at text x.log) (ap (λ r. r.1) e)
    (step_types m.owned m.replica at text m.log m.held m.presence m.clock m.made pad who visit h now name (ap (λ r. r.0) e))
