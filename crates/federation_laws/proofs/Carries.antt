-- An operation that is valid after a past is valid after each log that has the past and no further operations of its
-- origin.
use Rattle.std.proofs.Common.{◌≡◌, ℕ, inl, inr, Bool, true, false, not, ◌&&◌, ◌||◌, eqb, ltb, List, [], ◌∷◌, Option}
use Rattle.std.proofs.Common.{Some, None, refl, sym, ap, ◌∙◌, subst, flat_map, eqb-true}
use Rattle.std.proofs.lemmas.Bool.{and_parts, and_from, or_left, or_right, or_cases, false≢true}
use Rattle.std.specs.List.{AllByRecursion, IsDistinct, list_all}
use Rattle.pad_model.specs.Stamp.{Stamp, same_stamp}
use Rattle.pad_model.specs.Character.{Character, next, run_characters}
use Rattle.pad_model.specs.Checked.{is_checked, is_part}
use Rattle.pad_model.specs.History.{IsHistory}
use Rattle.pad_model.specs.Laws.{itself}
use Rattle.pad_model.specs.Legal.{has_stamp, has_parent, same_item}
use Rattle.pad_model.specs.Log.{is_valid, is_comment, part_is_valid, same_name, stands_before, all_differ}
use Rattle.pad_model.specs.Operation.{span_stamps, author_of, part_inserts, inserted_by, characters_in}
use Rattle.pad_model.specs.Order.{order}
use Rattle.pad_model.specs.Subsequence.{IsSubsequence, done, keep, skip}
use Rattle.pad_model.specs.declared.op.Op.{Op}
use Rattle.pad_model.specs.declared.op.Part.{Part}
use Rattle.pad_model.specs.declared.op.Run.{Run}
use Rattle.pad_model.specs.declared.op.Part.TheVariants.{Insert, Delete, Comment, Resolve}
use Rattle.pad_model.specs.declared.who.Author.{Author}
use Rattle.pad_model.proofs.Cells.{each_passes}
use Rattle.pad_model.proofs.Each.{each-append}
use Rattle.pad_model.proofs.Filters.{order-subset}
use Rattle.pad_model.proofs.Growth.{IsTree-history}
use Rattle.pad_model.proofs.Local.{all_pass}
use Rattle.pad_model.proofs.Members.{order-permutation}
use Rattle.pad_model.proofs.Newer.{split, same_stamp-true}
use Rattle.pad_model.proofs.Rising.{IsDistinct-parts, distinct-permutation}
use Rattle.pad_model.proofs.Sets.{Has, Has-each, each_Has, has_stamp_of, item_of_stamp, Has-from_Contains}
use Rattle.pad_model.proofs.Sets.{Contains-from_Has}
use Rattle.pad_core.proofs.Booked.{checked_each}
use Rattle.pad_core.proofs.SameSet.{made_by, made_alike, made_from, passes_into}
use Rattle.federation_laws.specs.Laws.{CarriesLaw}

-- each operation of a history is within its limits
pub history_checked : (log : List Op) (op : Op) → IsHistory log → Has log op → is_checked op ≡ true
history_checked log op h m = Has-each (λ one. is_checked one ≡ true) log op (checked_each [] log h) m

-- the characters of a run are of its replica
run_replica : (first : Stamp) (p : Option Stamp) (text : List ℕ) (author : Author) (replica : ℕ) → first.replica
    ≡ replica → AllByRecursion (λ c. c.stamp.replica ≡ replica) (run_characters first p text author)
run_replica first p [] author replica is = tt
run_replica first p (c ∷ text) author replica is = (is, run_replica (next first) (Some first) text author replica is)

checked_run : (origin : ℕ) (run : Run) → is_part origin (Insert run) ≡ true → run.first.replica ≡ origin
checked_run origin run h = eqb-true run.first.replica origin (and_parts _ _ (and_parts _ _ h).0).1

parts_replica : (origin : ℕ) (author : Author) (parts : List Part) → list_all (is_part origin) parts ≡ true →
    AllByRecursion (λ c. c.stamp.replica ≡ origin) (flat_map (part_inserts author) parts)
parts_replica origin author [] h = tt
parts_replica origin author (Insert run ∷ parts) h =
    let both = and_parts (is_part origin (Insert run)) (list_all (is_part origin) parts) h in
    each-append (λ c. c.stamp.replica ≡ origin) (run_characters run.first run.after run.text author)
    (flat_map (part_inserts author) parts)
    (run_replica run.first run.after run.text author origin (checked_run origin run both.0))
    (parts_replica origin author parts both.1)
parts_replica origin author (Delete spans ∷ parts) h =
    parts_replica origin author parts (and_parts (is_part origin (Delete spans)) (list_all (is_part origin) parts) h).1
parts_replica origin author (Comment first last text ∷ parts) h =
    parts_replica origin author parts (and_parts (is_part origin (Comment first last text))
    (list_all (is_part origin) parts) h).1
parts_replica origin author (Resolve comment ∷ parts) h =
    parts_replica origin author parts (and_parts (is_part origin (Resolve comment))
    (list_all (is_part origin) parts) h).1

-- the parts of an operation within its limits are within theirs
checked_parts : (op : Op) → is_checked op ≡ true → list_all (is_part op.name.origin) op.parts ≡ true
checked_parts op h = (and_parts _ _ (and_parts _ _ (and_parts _ _ (and_parts _ _ h).1).0).0).1

-- what an operation inserts is of its origin
pub inserted_replica : (op : Op) (c : Character) → is_checked op ≡ true → Has (inserted_by op) c → c.stamp.replica
    ≡ op.name.origin
inserted_replica op c h m = Has-each (λ c. c.stamp.replica ≡ op.name.origin) (inserted_by op) c
    (parts_replica op.name.origin (author_of op) op.parts (checked_parts op h)) m

-- a stamp of some characters is one of more
pub stamp_into : (xs ys : List Character) (s : Stamp) → ((c : Character) → Has xs c → Has ys c) → has_stamp itself xs s
    ≡ true → has_stamp itself ys s ≡ true
stamp_into xs ys s into h =
    let found = item_of_stamp itself xs s h in
    subst (λ z. has_stamp itself ys z ≡ true) (same_stamp-true found.0.stamp s found.1.1)
    (has_stamp_of itself ys found.0 (into found.0 found.1.0))

parent_into : (xs ys : List Character) (p : Option Stamp) → ((c : Character) → Has xs c → Has ys c) →
    has_parent itself xs p ≡ true → has_parent itself ys p ≡ true
parent_into xs ys None into h = refl
parent_into xs ys (Some s) into h = stamp_into xs ys s into h

all_into : {A : Type 0} (t u : A → Bool) (xs : List A) → ((x : A) → t x ≡ true → u x ≡ true) → list_all t xs ≡ true →
    list_all u xs ≡ true
all_into t u [] into h = refl
all_into t u (x ∷ xs) into h = let both = and_parts (t x) (list_all t xs) h in and_from (u x) (list_all u xs)
    (into x both.0) (all_into t u xs into both.1)

-- what comes before another in a part of a list comes before it in the list
stamp_sub : (xs ys : List Character) (s : Stamp) → IsSubsequence xs ys → has_stamp itself xs s ≡ true →
    has_stamp itself ys s ≡ true
stamp_sub xs ys s done h = h
stamp_sub xs ys s (keep {x = c} {xs = us} {ys = vs} sub) h =
    elim (or_cases (same_stamp c.stamp s) (has_stamp itself us s) h) [
      | inl here ↦ or_left (same_stamp c.stamp s) (has_stamp itself vs s) here
      | inr later ↦ or_right (same_stamp c.stamp s) (has_stamp itself vs s) (stamp_sub us vs s sub later)
    ]
stamp_sub xs ys s (skip {y = c} {xs = us} {ys = vs} sub) h = or_right (same_stamp c.stamp s) (has_stamp itself vs s)
    (stamp_sub us vs s sub h)

first_there : (xs : List Character) (a b : Stamp) → stands_before itself xs a b ≡ true → has_stamp itself xs a ≡ true
first_there [] a b h = absurd (false≢true h)
first_there (x ∷ xs) a b h =
    split (same_stamp x.stamp a)
    (λ e. or_left (same_stamp x.stamp a) (has_stamp itself xs a) e)
    (λ e. or_right (same_stamp x.stamp a) (has_stamp itself xs a) (first_there xs a b (rw e at h)))

stands_sub : (xs ys : List Character) (a b : Stamp) → IsDistinct (same_item itself) ys → IsSubsequence xs ys →
    stands_before itself xs a b ≡ true → stands_before itself ys a b ≡ true
stands_sub xs ys a b d done h = h
stands_sub xs ys a b d (keep {x = c} {xs = us} {ys = vs} sub) h =
    split (same_stamp c.stamp a)
    (λ e. rw e
    (elim (or_cases (same_stamp a b) (has_stamp itself us b) (rw e at h)) [
      | inl same ↦ or_left (same_stamp a b) (has_stamp itself vs b) same
      | inr later ↦ or_right (same_stamp a b) (has_stamp itself vs b) (stamp_sub us vs b sub later)
    ]))
    (λ e. rw e (stands_sub us vs a b (IsDistinct-parts itself c vs d).1 sub (rw e at h)))
stands_sub xs ys a b d (skip {y = c} {xs = us} {ys = vs} sub) h =
    let parts = IsDistinct-parts itself c vs d in
    let found = item_of_stamp itself vs a (stamp_sub us vs a sub (first_there us a b h)) in
    let other : same_stamp c.stamp a ≡ false =
    subst (λ z. same_stamp c.stamp z ≡ false) (same_stamp-true found.0.stamp a found.1.1)
    (Has-each (λ y. same_stamp c.stamp y.stamp ≡ false) vs found.0 parts.0 found.1.0)
    in
    rw other (stands_sub us vs a b parts.1 sub h)

-- conditions on characters of a run's replica concern only the past
counters_carry : (past log : List Op) (op : Op) (first : Stamp) (c : Character) → IsHistory log →
    ((one : Op) → Has log one → one.name.origin ≡ op.name.origin → Has past one) → first.replica ≡ op.name.origin →
    AllByRecursion (λ x. (not (eqb x.stamp.replica first.replica) || ltb x.stamp.counter first.counter) ≡ true)
    (characters_in past).inserted → Has (characters_in log).inserted c →
    (not (eqb c.stamp.replica first.replica) || ltb c.stamp.counter first.counter) ≡ true
counters_carry past log op first c h own mine above m =
    split (eqb c.stamp.replica first.replica)
    (λ e.
    let found = made_by inserted_by log c m in
    let replica : c.stamp.replica ≡ found.0.name.origin =
    inserted_replica found.0 c (history_checked log found.0 h found.1.0) found.1.1 in
    let origin : found.0.name.origin ≡ op.name.origin = sym replica ∙ eqb-true c.stamp.replica first.replica e ∙ mine in
    Has-each (λ x. (not (eqb x.stamp.replica first.replica) || ltb x.stamp.counter first.counter) ≡ true)
    (characters_in past).inserted c above
    (made_from inserted_by past found.0 c (own found.0 found.1.0 origin) found.1.1))
    (λ e. or_left (not (eqb c.stamp.replica first.replica)) (ltb c.stamp.counter first.counter) (ap not e))

part_carries : (past log : List Op) (op : Op) → IsHistory past → IsHistory log →
    ((one : Op) → Has past one → Has log one) → ((one : Op) → Has log one → one.name.origin ≡ op.name.origin →
    Has past one) →
    (part : Part) → is_part op.name.origin part ≡ true → part_is_valid part past ≡ true → part_is_valid part log ≡ true
part_carries past log op p h into own (Insert run) checked valid =
    let outer = and_parts _ _ valid in
    let inner = and_parts _ _ outer.0 in
    let before = (characters_in past).inserted in
    let after = (characters_in log).inserted in
    let test : Character → Bool = λ x. not (eqb x.stamp.replica run.first.replica)
    || ltb x.stamp.counter run.first.counter in
    and_from _ _ (and_from _ _ (parent_into before after run.after (made_alike inserted_by past log into) inner.0)
    inner.1)
    (all_pass test after
    (each_Has (λ x. test x ≡ true) after (λ c m. counters_carry past log op run.first c h own
    (checked_run op.name.origin run checked) (each_passes test before outer.1) m)))
part_carries past log op p h into own (Delete spans) checked valid =
    all_into (λ s. has_stamp itself (characters_in past).inserted s)
    (λ s. has_stamp itself (characters_in log).inserted s) (flat_map span_stamps spans)
    (λ s e. stamp_into (characters_in past).inserted (characters_in log).inserted s
    (made_alike inserted_by past log into) e) valid
part_carries past log op p h into own (Comment first last text) checked valid =
    let before = (characters_in past).inserted in
    let after = (characters_in log).inserted in
    let tree = IsTree-history log h in
    stands_sub (order itself before) (order itself after) first last
    (distinct-permutation itself after (order itself after) (order-permutation itself after tree) tree.distinct)
    (order-subset itself before after (IsTree-history past p) tree (made_alike inserted_by past log into)) valid
part_carries past log op p h into own (Resolve comment) checked valid =
    passes_into (λ one. is_comment one && same_name one.name comment) past log into valid

parts_carry : (past log : List Op) (op : Op) → IsHistory past → IsHistory log →
    ((one : Op) → Has past one → Has log one) → ((one : Op) → Has log one → one.name.origin ≡ op.name.origin →
    Has past one) →
    (parts : List Part) → list_all (is_part op.name.origin) parts ≡ true →
    list_all (λ part. part_is_valid part past) parts ≡ true → list_all (λ part. part_is_valid part log) parts ≡ true
parts_carry past log op p h into own [] checked valid = refl
parts_carry past log op p h into own (part ∷ parts) checked valid =
    let checks = and_parts (is_part op.name.origin part) (list_all (is_part op.name.origin) parts) checked in
    let fits = and_parts (part_is_valid part past) (list_all (λ part. part_is_valid part past) parts) valid in
    and_from _ _ (part_carries past log op p h into own part checks.0 fits.0)
    (parts_carry past log op p h into own parts checks.1 fits.1)

-- validity after a past carries over
pub carries : (past log : List Op) (op : Op) → IsHistory past → IsHistory log →
    ((one : Op) → Has past one → Has log one) → ((one : Op) → Has log one → one.name.origin ≡ op.name.origin →
    Has past one) →
    is_checked op ≡ true → is_valid op past ≡ true → is_valid op log ≡ true
carries past log op p h into own checked valid =
    let both = and_parts (list_all (λ part. part_is_valid part past) op.parts) (all_differ (inserted_by op)) valid in
    and_from _ _ (parts_carry past log op p h into own op.parts (checked_parts op checked) both.0) both.1

-- the same for members by containment
pub carries_law : CarriesLaw
carries_law past log op p h extends checked valid =
    carries past log op p h
    (λ one m. Has-from_Contains log one (extends.within one (Contains-from_Has past one m)))
    (λ one m is. Has-from_Contains past one (extends.own one (Contains-from_Has log one m) is))
    checked valid
