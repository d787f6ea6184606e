-- The operations of a log that a pad can have are delivered again, one after another.
use Rattle.std.proofs.Common.{◌≡◌, ℕ, ◌+◌, ◌≤◌, true, cond, eq-eqb, List, [], ◌∷◌, ◌++◌}
use Rattle.std.proofs.Common.{length, map, fold, flat_map, count_by, Option, None, Some, Result, Ok, refl, sym, ap}
use Rattle.std.proofs.Common.{◌∙◌, ap₂, subst, arith, append-nil, append_assoc, replicate, zero, suc, nat_lt, unwrap_or}
use Rattle.std.specs.List.{last_or}
use Rattle.pad_model.proofs.Newer.{split}
use Rattle.presence.specs.Presence.{Presence}
use Rattle.op_log.specs.Made.{Made, last_visit, more as making}
use Rattle.op_log.specs.Makers.{noted}
use Rattle.op_log.specs.Times.{last_time}
use Rattle.op_log.proofs.TimeLists.{last_filled}
use Rattle.pad_core.specs.Times.{time_now, timed}
use Rattle.pad_core.proofs.Timed.{Times, none_more, timed_more}
use Rattle.store_records.specs.Laws.{now_at, visit_at}
use Rattle.std.specs.Prelude.{IsTrue, sum_by}
use Rattle.std.proofs.lemmas.Bool.{and_from}
use Rattle.std.proofs.lemmas.List.{length-append}
use Rattle.std.proofs.lemmas.List.Concat.{flat_map-append}
use Rattle.std.proofs.lemmas.List.Sums.{sum_by-append, sum_by-cons}
use Rattle.pad_model.specs.Checked.{is_checked}
use Rattle.pad_model.specs.History.{Continues}
use Rattle.pad_model.specs.Log.{is_comment, is_valid}
use Rattle.pad_model.specs.Operation.{characters_in, inserted_by}
use Rattle.pad_model.specs.Seen.{count_in}
use Rattle.pad_model.specs.declared.limits.TheConstants.{MAX_CHARACTERS, MAX_OPERATIONS, MAX_COMMENTS}
use Rattle.pad_model.specs.declared.op.Op.{Op}
use Rattle.pad_model.specs.declared.refusal.Refusal.{Refusal}
use Rattle.pad_model.specs.declared.seen.Counted.{Counted}
use Rattle.holdback.specs.Held.{is_ready}
use Rattle.pad_core.specs.Counts.{vector_of}
use Rattle.pad_core.specs.Delivered.{IsDelivered}
use Rattle.pad_core.specs.Machine.{Machine}
use Rattle.pad_core.specs.Restart.{delivered_again, restarted, restore_refusal}
use Rattle.pad_core.specs.declared.owned.Owned.{Owned}
use Rattle.pad_core.proofs.Counted.{next_at, reached_at}
use Rattle.pad_core.proofs.Judged.{Allowed, not_refused}
use Rattle.store_records.specs.Records.{replay_all, replayed, unless_refused}
use Rattle.store_records.specs.declared.kept_record.Record.TheVariants.{Delivered}

-- how many visits were given out, and to whom
abbrev pub Given : Type 0
Given = ℕ × List (Option (List ℕ))

-- the visits that were given out on a pad
abbrev pub given_on : Presence → Given
given_on p = (p.given, p.authors)

-- one more visit
abbrev pub one_given : Option (List ℕ) → Given → Given
one_given author given = (given.0 + 1, given.1 ++ author ∷ [])

-- a restarted pad with this owner, these numbers, this log, and what is known of its operations
abbrev pub bare : Option Owned → ℕ → ℕ → List Op → Given → Made → Machine
bare o replica limit log given made = record {
  owned = o;
  replica = replica;
  log = log;
  held = [];
  presence = record { limit = limit; given = given.0; present = []; authors = given.1 };
  clock = 0;
  made = made;
}

checked_at : (before log : List Op) (op : Op) (more : List Op) → Continues before (log ++ op ∷ more) →
    IsTrue (is_checked op) × IsTrue (is_valid op (before ++ log))
checked_at before [] op more c = (c.0, subst (λ l. IsTrue (is_valid op l)) (sym (append-nil before)) c.1)
checked_at before (x ∷ log) op more c =
    let h = checked_at (before ++ x ∷ []) log op more c.2 in
    (h.0, subst (λ l. IsTrue (is_valid op l)) (append_assoc before (x ∷ []) log) h.1)

-- the number of a log's comments, with one of them in the middle
comments_at : (log : List Op) (op : Op) (more : List Op) → is_comment op ≡ true → count_by is_comment log + 1
    ≤ count_by is_comment (log ++ op ∷ more)
comments_at log op more e =
    let one : Op → ℕ = λ o. cond (is_comment o) 1 0 in
    let whole : count_by is_comment (log ++ op ∷ more) ≡ count_by is_comment log + sum_by one (op ∷ more) =
    sum_by-append one log (op ∷ more) in
    let first : sum_by one (op ∷ more) ≡ 1 + sum_by one more = sum_by-cons one op more
    ∙ ap (λ b. cond b 1 0 + sum_by one more) e in
    omega arith

allowed_at : (log : List Op) (op : Op) (more : List Op) → IsDelivered (log ++ op ∷ more) → Allowed log op
allowed_at log op more d =
    let room : length (characters_in (log ++ op ∷ more)).inserted ≤ MAX_CHARACTERS = d.room in
    let short : length (log ++ op ∷ more) ≤ MAX_OPERATIONS = d.short in
    let few : count_by is_comment (log ++ op ∷ more) ≤ MAX_COMMENTS = d.few in
    let all : length (characters_in (log ++ op ∷ more)).inserted ≡ length (characters_in log).inserted
    + length (flat_map inserted_by (op ∷ more)) =
    ap length (flat_map-append inserted_by log (op ∷ more)) ∙ length-append (flat_map inserted_by log)
    (flat_map inserted_by (op ∷ more))
    in
    let rest : length (flat_map inserted_by (op ∷ more)) ≡ length (inserted_by op)
    + length (flat_map inserted_by more) = length-append (inserted_by op) (flat_map inserted_by more) in
    let operations : length (log ++ op ∷ more) ≡ length log + length (op ∷ more) = length-append log (op ∷ more) in
    record {
      valid = (checked_at [] log op more d.history).1;
      room = omega arith;
      short = omega arith;
      few = λ e. (let more_comments = comments_at log op more e in omega arith);
    }

-- an operation of such a log is delivered after those before it
again_at : (log : List Op) (op : Op) (more : List Op) → IsDelivered (log ++ op ∷ more) → restore_refusal op log ≡ None
again_at log op more d =
    let checked : is_checked op ≡ true = (checked_at [] log op more d.history).0 in
    let ready : is_ready (vector_of log) op ≡ true =
    and_from _ _ (eq-eqb op.name.number (count_in (vector_of log) op.name.origin + 1)
    (next_at [] log op more d.numbered)) (reached_at [] log op more d.timely) in
    rw (checked, ready) (not_refused log op (allowed_at log op more d))

-- a restarted pad delivers it, at a time that is not before the last one
one_again : (o : Option Owned) (replica limit : ℕ) (log : List Op) (given : Given) (made : Made) (at visit : ℕ) (op : Op) →
    time_now at made.times ≡ at → restore_refusal op log ≡ None →
    replayed (Ok (bare o replica limit log given made)) (Delivered at visit op)
    ≡ Ok (bare o replica limit (log ++ op ∷ []) given (making 1 at visit made))
one_again o replica limit log given made at visit op late e =
    ap (λ (d : Result (Unit {0}) Refusal × List Op). unless_refused (
      d.0,
      bare o replica limit d.1 given (timed at visit log d.1 made),
    )) again
    ∙ ap (λ (m : Made). Ok (bare o replica limit (log ++ op ∷ []) given m)) (timed_more at visit log (op ∷ []) made
    ∙ ap (λ t. making 1 t visit made) late)
  where
    again : delivered_again op log ≡ (Ok tt, log ++ op ∷ [])
    again = rw e refl

-- behind a time, the same one is not before the last
still_late : (times : List ℕ) (at : ℕ) → time_now at (times ++ at ∷ []) ≡ at
still_late times at = let last : last_time (times ++ at ∷ []) ≡ at = last_filled 0 times 0 at in omega (arith, last)

one_more : (made : Made) (at visit n : ℕ) → making n at visit (making 1 at visit made) ≡ making (suc n) at visit made
one_more made at visit n =
    ap₂ (λ (times visits : List ℕ). (let m : Made = record { times = times; visits = visits } in m))
    (append_assoc made.times (at ∷ []) (replicate n at))
    (append_assoc made.visits (noted visit ∷ []) (replicate n (noted visit)))

-- a restarted pad delivers all of them
pub all_again : (o : Option Owned) (replica limit : ℕ) (log more : List Op) (given : Given) (made : Made) (at visit : ℕ) →
    time_now at made.times ≡ at → IsDelivered (log ++ more) →
    replay_all (map (Delivered at visit) more) (bare o replica limit log given made)
    ≡ Ok (bare o replica limit (log ++ more) given (making (length more) at visit made))
all_again o replica limit log [] given made at visit late d =
    ap₂ (λ (l : List Op) (m : Made). Ok (bare o replica limit l given m)) (sym (append-nil log)) (sym (none_more at visit made))
all_again o replica limit log (op ∷ more) given made at visit late d =
    ap (λ (m : Result Machine Refusal). fold replayed m (map (Delivered at visit) more))
    (one_again o replica limit log given made at visit op late (again_at log op more d))
    ∙ (all_again o replica limit (log ++ op ∷ []) more given (making 1 at visit made) at visit (still_late made.times at)
    (subst IsDelivered (sym (append_assoc log (op ∷ []) more)) d)
    ∙ ap₂ (λ (l : List Op) (m : Made). Ok (bare o replica limit l given m)) (append_assoc log (op ∷ []) more)
    (one_more made at visit (length more)))

-- a restarted pad delivers only the first of them
pub front_again : (o : Option Owned) (replica limit : ℕ) (log first rest : List Op) (given : Given) (made : Made)
    (at visit : ℕ) →
    time_now at made.times ≡ at → IsDelivered (log ++ (first ++ rest)) →
    replay_all (map (Delivered at visit) first) (bare o replica limit log given made)
    ≡ Ok (bare o replica limit (log ++ first) given (making (length first) at visit made))
front_again o replica limit log [] rest given made at visit late d =
    ap₂ (λ (l : List Op) (m : Made). Ok (bare o replica limit l given m)) (sym (append-nil log)) (sym (none_more at visit made))
front_again o replica limit log (op ∷ first) rest given made at visit late d =
    ap (λ (m : Result Machine Refusal). fold replayed m (map (Delivered at visit) first))
    (one_again o replica limit log given made at visit op late (again_at log op (first ++ rest) d))
    ∙ (front_again o replica limit (log ++ op ∷ []) first rest given (making 1 at visit made) at visit
    (still_late made.times at)
    (subst IsDelivered (sym (append_assoc log (op ∷ []) (first ++ rest))) d)
    ∙ ap₂ (λ (l : List Op) (m : Made). Ok (bare o replica limit l given m)) (append_assoc log (op ∷ []) first)
    (one_more made at visit (length first)))

-- the time of now is not before the last one
pub now_late : (clock : ℕ) (times : List ℕ) → time_now (time_now clock times) times ≡ time_now clock times
now_late clock times = omega arith

-- what is noted of a visit is noted of itself
noted_twice : (visit : ℕ) → noted (noted visit) ≡ noted visit
noted_twice visit = split (nat_lt visit 4294967296) (λ low. rw low (rw low refl)) (λ high. rw high refl)

-- the last of items that end with the same one, more than once or once, is that one
last_same : (otherwise : Option ℕ) (before : List ℕ) (x n : ℕ) →
    last_or otherwise (before ++ replicate (suc n) x) ≡ Some x
last_same otherwise [] x zero = refl
last_same otherwise [] x (suc n) = last_same (Some x) [] x n
last_same otherwise (y ∷ before) x n = last_same (Some y) before x n

-- operations that were added in a visit are added in the one that the last of them shows
pub shown_visit : (n at visit : ℕ) (made : Made) → making n at (last_visit (making n at visit made)) made ≡ making n at visit made
shown_visit zero at visit made =
    none_more at (last_visit (making 0 at visit made)) made ∙ sym (none_more at visit made)
shown_visit (suc n) at visit made =
    ap (λ v. making (suc n) at v made) last
    ∙ ap (λ v. (let m : Made = record {
      times = made.times ++ replicate (suc n) at;
      visits = made.visits ++ replicate (suc n) v;
    } in m)) (noted_twice visit)
  where
    last : last_visit (making (suc n) at visit made) ≡ noted visit
    last = ap (λ (found : Option ℕ). unwrap_or found 0) (last_same None made.visits (noted visit) n)

-- if only the log, what is known of its operations, and the present visits have changed
pub quiet : (visit : ℕ) (old after : Machine) (more : List Op) → after.owned ≡ old.owned → after.replica ≡ old.replica →
    after.presence.limit ≡ old.presence.limit → given_on after.presence ≡ given_on old.presence → Times visit old after →
    after.log ≡ old.log ++ more →
    IsDelivered after.log → replay_all (map (Delivered (now_at old) (visit_at after)) more) (restarted old)
    ≡ Ok (restarted after)
quiet visit old after more owned replica limit given times grown d =
    let is : making (length more) (now_at old) visit old.made ≡ after.made =
    sym (times ∙ ap (λ l. timed old.clock visit old.log l old.made) grown ∙ timed_more old.clock visit old.log more old.made) in
    let later : making (length more) (now_at old) (visit_at after) old.made ≡ after.made =
    ap (λ (m : Made). making (length more) (now_at old) (last_visit m) old.made) (sym is)
    ∙ shown_visit (length more) (now_at old) visit old.made ∙ is in
    all_again old.owned old.replica old.presence.limit old.log more (given_on old.presence) old.made (now_at old)
    (visit_at after)
    (now_late old.clock old.made.times) (subst IsDelivered grown d)
    ∙ (ap₂ (λ (l : List Op) (m : Made). Ok (bare old.owned old.replica old.presence.limit l (given_on old.presence) m))
    (sym grown) later
    ∙ (ap (λ (o : Option Owned). Ok (bare o old.replica old.presence.limit after.log (given_on old.presence) after.made))
    (sym owned)
    ∙ (ap (λ (r : ℕ). Ok (bare after.owned r old.presence.limit after.log (given_on old.presence) after.made)) (sym replica)
    ∙ (ap (λ (n : ℕ). Ok (bare after.owned after.replica n after.log (given_on old.presence) after.made)) (sym limit)
    ∙ ap (λ (g : Given). Ok (bare after.owned after.replica after.presence.limit after.log g after.made)) (sym given)))))
