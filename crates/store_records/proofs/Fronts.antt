-- The first records of a pad's life lead to the restarted pad as it was by then.
use Rattle.std.proofs.Common.{◌≡◌, ◌⊎◌, inl, inr, ℕ, ◌+◌, ◌-◌, ◌≤◌, ◌<◌, nat_le, true, false, List, [], ◌++◌}
use Rattle.std.proofs.Common.{length, map, take, drop, fold, Some, None, Result, Ok, Err, refl, sym, ap, ◌∙◌}
use Rattle.std.proofs.Common.{min, subst, arith}
use Rattle.std.proofs.lemmas.Bool.Decides.{leb_tells}
use Rattle.std.proofs.lemmas.List.{length-take, take-append-drop, take-append-le, take-map, take-take}
use Rattle.std.proofs.lemmas.List.{take_all}
use Rattle.std.proofs.lemmas.List.Sums.{fold-append}
use Rattle.std.proofs.Math.Seq.{take-append-add, take-nil}
use Rattle.op_log.specs.Made.{Made}
use Rattle.pad_model.specs.declared.op.Op.{Op}
use Rattle.pad_model.specs.declared.refusal.Refusal.{Refusal}
use Rattle.pad_model.specs.declared.who.Who.{Who}
use Rattle.pad_model.specs.declared.who.Who.TheVariants as who
use Rattle.sessions.specs.declared.session.Room.{Room}
use Rattle.pad_core.specs.Delivered.{IsDelivered}
use Rattle.pad_core.specs.Machine.{Machine}
use Rattle.pad_core.specs.Restart.{restarted}
use Rattle.pad_core.specs.declared.act.Act.{Act}
use Rattle.pad_core.specs.declared.act.Act.TheVariants as act
use Rattle.pad_core.specs.declared.request.Request.{Request}
use Rattle.pad_core.specs.declared.request.Request.TheVariants as request
use Rattle.store_records.specs.Laws.{Had, Left, Life, grown_by, now_at, restarted_by, visit_at}
use Rattle.store_records.specs.Laws.Had.{last, within, earlier, unticked, unended, before_start}
use Rattle.store_records.specs.Laws.Life.{begins, asked, ticked, left, starts_again}
use Rattle.store_records.specs.Records.{Answer, act_records, claim_records, introduction_records, mark_records, rebuilt, records_of, replayed}
use Rattle.store_records.specs.Records.{unnamed, visit_records}
use Rattle.store_records.specs.declared.kept_record.Record.{Record}
use Rattle.store_records.specs.declared.kept_record.Record.TheVariants.{Delivered}
use Rattle.store_records.proofs.Deliveries.{bare, front_again, given_on, now_late}
use Rattle.pad_core.proofs.Timed.{timed_more}
use Rattle.store_records.proofs.Numbers.{any_numbers}
use Rattle.store_records.proofs.Steps.{life_again}

-- some records lead to a pad as it was on the way, whatever the server's numbers are
abbrev Found : ℕ → ℕ → List Record → Machine → List Record → Type 0
Found replica present records m front = (had : Machine) × Had replica present records m front had
    × ((number most : ℕ) → rebuilt number most front ≡ Ok (restarted_by number most had))

-- at most one record, or one for each operation
abbrev IsFew : ℕ → ℕ → List Record → List Op → Type 0
IsFew at visit records more = (length records ≤ 1) ⊎ (records ≡ map (Delivered at visit) more)

few_of_claim : (w : Who) (name : List ℕ) (at visit : ℕ) (answer : Answer) (more : List Op) → IsFew at visit (claim_records w name answer) more
few_of_claim who.Nobody name at visit answer more = inl (omega arith)
few_of_claim (who.Peer number version) name at visit answer more = inl (omega arith)
few_of_claim (who.Author owner) name at visit (Ok (Some reply)) more = inl (omega arith)
few_of_claim (who.Author owner) name at visit (Ok None) more = inl (omega arith)
few_of_claim (who.Author owner) name at visit (Err e) more = inl (omega arith)

few_of_mark : (w : Who) (rev : ℕ) (text : List ℕ) (at : ℕ) (answer : Answer) → length (mark_records w rev text at answer) ≤ 1
few_of_mark who.Nobody rev text at answer = omega arith
few_of_mark (who.Peer number version) rev text at answer = omega arith
few_of_mark (who.Author author) rev text at (Ok (Some reply)) = omega arith
few_of_mark (who.Author author) rev text at (Ok None) = omega arith
few_of_mark (who.Author author) rev text at (Err e) = omega arith

few_of_introduction : (w : Who) (display : List ℕ) (answer : Answer) → length (introduction_records w display answer) ≤ 1
few_of_introduction who.Nobody display answer = omega arith
few_of_introduction (who.Peer number version) display answer = omega arith
few_of_introduction (who.Author author) display (Ok (Some reply)) = omega arith
few_of_introduction (who.Author author) display (Ok None) = omega arith
few_of_introduction (who.Author author) display (Err e) = omega arith

few_of_visit : (w : Who) (answer : Answer) → length (visit_records w answer) ≤ 1
few_of_visit who.Nobody answer = omega arith
few_of_visit (who.Peer number version) answer = omega arith
few_of_visit (who.Author author) (Ok (Some reply)) = omega arith
few_of_visit (who.Author author) (Ok None) = omega arith
few_of_visit (who.Author author) (Err e) = omega arith

few_of_act : (w : Who) (this : Act) (at visit : ℕ) (answer : Answer) (more : List Op) →
    IsFew at visit (act_records w this at visit answer more) more
few_of_act w act.Join at visit answer more = inl (few_of_visit w answer)
few_of_act w (act.Rejoin old) at visit answer more = inl (few_of_visit w answer)
few_of_act w (act.Grant grantee right) at visit (Ok (Some reply)) more = inl (omega arith)
few_of_act w (act.Hand author) at visit (Ok (Some reply)) more = inl (omega arith)
few_of_act w (act.SetClosed closed) at visit (Ok (Some reply)) more = inl (omega arith)
few_of_act w (act.Mark rev text) at visit answer more = inl (few_of_mark w rev text at answer)
few_of_act w (act.Introduce display) at visit answer more = inl (few_of_introduction w display answer)
few_of_act w other at visit answer more = inr refl

few : (w : Who) (this : Request) (at visit : ℕ) (answer : Answer) (more : List Op) →
    IsFew at visit (records_of w this at visit answer more) more
few w (request.On name this) at visit answer more = few_of_act w this at visit answer more
few w (request.Create name) at visit answer more = few_of_claim w name at visit answer more
few w request.Pads at visit answer more = inl (omega arith)
few w (request.People authors) at visit answer more = inl (omega arith)
few w (request.Hello name token) at visit answer more = inl (omega arith)
few w (request.Peer number token version) at visit answer more = inl (omega arith)

whole : (replica present : ℕ) (records : List Record) (m : Machine) → Life replica present records m → Found replica present records m records
whole replica present records m life = (
  m,
  last replica present records m life,
  any_numbers replica present records m (life_again replica present records m life),
)

-- the operations that a request delivered first are delivered again
part_again : (replica present : ℕ) (records : List Record) (old : Machine) (visit : ℕ) (first rest : List Op) → Life replica present records old →
    IsDelivered (old.log ++ (first ++ rest)) →
    rebuilt replica present (records ++ map (Delivered (now_at old) visit) first) ≡ Ok (restarted (grown_by visit first old))
part_again replica present records old visit first rest life d =
    fold-append replayed (Ok (unnamed replica present)) records (map (Delivered (now_at old) visit) first)
    ∙ (ap (λ (r : Result Machine Refusal). fold replayed r (map (Delivered (now_at old) visit) first)) (life_again replica present records old life)
    ∙ front_again old.owned old.replica old.presence.limit old.log first rest (given_on old.presence) old.made (now_at old) visit
    (now_late old.clock old.made.times) d
    ∙ ap (λ (m : Made). Ok (bare old.owned old.replica old.presence.limit (old.log ++ first) (given_on old.presence) m))
    (sym (timed_more old.clock visit old.log first old.made)))

-- the records of a part of a request
part : (replica present : ℕ) (records : List Record) (w : Who) (this : Request) (cell : ℕ) (rooms : List Room) (old : Machine)
    (answer : Answer) (new : List Room) (after : Machine) (more first rest : List Op) →
    first ++ rest ≡ more → Life replica present records old → Left w this cell rooms old answer new after more →
    Found replica present (records ++ records_of w this (now_at old) (visit_at after) answer more) after (records ++ map (Delivered (now_at old) (visit_at after)) first)
part replica present records w this cell rooms old answer new after more first rest is life l =
    subst (λ (all : List Op). Found replica present (records ++ records_of w this (now_at old) (visit_at after) answer all) after
    (records ++ map (Delivered (now_at old) (visit_at after)) first)) is (
      grown_by (visit_at after) first old,
      within replica present records w this cell rooms old answer new after first rest life
          parted,
      any_numbers replica present (records ++ map (Delivered (now_at old) (visit_at after)) first) (grown_by (visit_at after) first old)
          (part_again replica present records old (visit_at after) first rest life delivered),
    )
  where
    parted : Left w this cell rooms old answer new after (first ++ rest)
    parted = subst (Left w this cell rooms old answer new after) (sym is) l

    delivered : IsDelivered (old.log ++ (first ++ rest))
    delivered = subst IsDelivered parted.grown parted.delivered

-- a prefix of the records that a request leaves
asked_front : (replica present : ℕ) (records : List Record) (w : Who) (this : Request) (cell : ℕ) (rooms : List Room)
    (old : Machine) (answer : Answer) (new : List Room) (after : Machine) (more : List Op) (n : ℕ) →
    Life replica present records old → Left w this cell rooms old answer new after more → 1 ≤ n →
    Found replica present (records ++ records_of w this (now_at old) (visit_at after) answer more) after (records ++ take n (records_of w this (now_at old) (visit_at after) answer more))
asked_front replica present records w this cell rooms old answer new after more n life l some = at (few w this (now_at old) (visit_at after) answer more)
  where
    at : IsFew (now_at old) (visit_at after) (records_of w this (now_at old) (visit_at after) answer more) more → Found replica present (records ++ records_of w this (now_at old) (visit_at after) answer more) after
        (records ++ take n (records_of w this (now_at old) (visit_at after) answer more))
    at (inl one) =
        subst (λ (rs : List Record). Found replica present (records ++ records_of w this (now_at old) (visit_at after) answer more) after (records ++ rs))
        (sym (take_all n (records_of w this (now_at old) (visit_at after) answer more) (omega arith)))
        (whole replica present (records ++ records_of w this (now_at old) (visit_at after) answer more) after
        (asked replica present records w this cell rooms old answer new after more life l))
    at (inr is) =
        subst (λ (rs : List Record). Found replica present (records ++ records_of w this (now_at old) (visit_at after) answer more) after (records ++ rs))
        (sym (ap (take n) is ∙ take-map (Delivered (now_at old) (visit_at after)) n more))
        (part replica present records w this cell rooms old answer new after more (take n more) (drop n more)
        (take-append-drop n more) life l)

pub front : (replica present : ℕ) (records : List Record) (m : Machine) (count : ℕ) → Life replica present records m →
    Found replica present records m (take count records)
front replica present records m count (begins same most) = subst (Found replica present [] (unnamed replica present)) (sym (take-nil count))
    (whole replica present [] (unnamed replica present) (begins replica present))
front replica present records m count (asked same most before w this cell rooms old answer new after more life l) =
    at (leb_tells count (length before)) (front replica present before old count life)
  where
    at : ((nat_le count (length before) ≡ true) × (count ≤ length before))
        ⊎ ((nat_le count (length before) ≡ false) × (length before < count)) →
        Found replica present before old (take count before) →
        Found replica present (before ++ records_of w this (now_at old) (visit_at after) answer more) after
        (take count (before ++ records_of w this (now_at old) (visit_at after) answer more))
    at (inl (_, low)) (had, there, is) =
        subst (Found replica present (before ++ records_of w this (now_at old) (visit_at after) answer more) after)
        (sym (take-append-le count before (records_of w this (now_at old) (visit_at after) answer more) low))
        (had, earlier replica present before w this cell rooms old answer new after more (take count before) had there l, is)
    at (inr (_, high)) found = past (count - length before) (omega arith) (omega arith)
      where
        past : (n : ℕ) → count ≡ length before + n → 1 ≤ n →
            Found replica present (before ++ records_of w this (now_at old) (visit_at after) answer more) after
            (take count (before ++ records_of w this (now_at old) (visit_at after) answer more))
        past n is some =
            subst (Found replica present (before ++ records_of w this (now_at old) (visit_at after) answer more) after)
            (sym (ap (λ k. take k (before ++ records_of w this (now_at old) (visit_at after) answer more)) is
            ∙ take-append-add before (records_of w this (now_at old) (visit_at after) answer more) n))
            (asked_front replica present before w this cell rooms old answer new after more n life l some)
front replica present records m count (ticked same most before clock old life) =
    at (front replica present before old count life)
  where
    at : Found replica present before old (take count before) → Found replica present before m (take count before)
    at (had, there, is) = (had, unticked replica present before clock old (take count before) had there, is)
front replica present records m count (left same most before name w visit old life) = at (front replica present before old count life)
  where
    at : Found replica present before old (take count before) → Found replica present before m (take count before)
    at (had, there, is) = (had, unended replica present before name w visit old (take count before) had there, is)
front replica present records m count (starts_again was had_room before old few number most again life leads) =
    at (leb_tells count few) (λ n. front was had_room before old n life)
  where
    at : ((nat_le count few ≡ true) × (count ≤ few)) ⊎ ((nat_le count few ≡ false) × (few < count)) →
        ((n : ℕ) → Found was had_room before old (take n before)) → Found replica present records m (take count records)
    at (inl (_, low)) fronts = subst (Found replica present records m) (sym (take-take count few before low)) (kept (fronts count))
      where
        kept : Found was had_room before old (take count before) → Found replica present records m (take count before)
        kept (had, there, is) = (had, before_start was had_room before old few number most again (take count before) had there leads, is)
    at (inr (_, high)) fronts =
        subst (Found replica present records m) (sym (take_all count (take few before) (short (length-take few before))))
        (kept (fronts few))
      where
        short : length (take few before) ≡ min few (length before) → length (take few before) ≤ count
        short is = omega (arith, high, is)

        kept : Found was had_room before old (take few before) → Found replica present records m (take few before)
        kept (had, there, is) = (had, before_start was had_room before old few number most again (take few before) had there leads, is)
