-- Every world that events lead to keeps what its servers need to take each other's operations.
use Rattle.std.proofs.Common.{◌≡◌, ◌≢◌, ℕ, ◌+◌, ◌≤◌, ◌⊎◌, inl, inr, true, cond, eqb, List, [], ◌∷◌, ◌++◌, length, drop}
use Rattle.std.proofs.Common.{refl, sym, ap, ◌∙◌, subst, arith, append-nil, eq-eqb, ne_eqb, le_antisymm}
use Rattle.std.proofs.lemmas.Bool.{and_from, cases_eq, cond-true, cond-false}
use Rattle.pad_model.specs.Log.{is_valid}
use Rattle.pad_model.specs.Seen.{count_in, with_count}
use Rattle.pad_model.specs.declared.op.Op.{Op}
use Rattle.pad_model.proofs.Growth.{IsHistory-push}
use Rattle.pad_model.proofs.Sets.{Has, Has-from_Contains, Contains-from_Has}
use Rattle.holdback.specs.Held.{is_ready, reaches}
use Rattle.pad_core.specs.Counts.{vector_of}
use Rattle.pad_core.specs.Delivered.{IsDelivered}
use Rattle.pad_core.specs.Exchange.{received, unsettled}
use Rattle.pad_core.specs.Machine.{Machine, step}
use Rattle.pad_core.specs.Ran.{Stepped, event_step}
use Rattle.pad_core.specs.declared.act.Act.{Act}
use Rattle.pad_core.specs.declared.act.Act.TheVariants as act
use Rattle.pad_core.specs.declared.event.PadEvent.{PadEvent}
use Rattle.pad_core.proofs.Counted.{AreNumbered-push, IsVector-vector_of}
use Rattle.pad_core.proofs.Entered.{IsDelivered-push}
use Rattle.pad_core.proofs.Judged.{allowed}
use Rattle.pad_core.proofs.Others.{others_reached}
use Rattle.pad_core.proofs.SameSet.{has_front, has_behind, has_either}
use Rattle.federation_laws.specs.Laws.{GoesOnLaw}
use Rattle.federation_laws.specs.Past.{IsMadeBehind}
use Rattle.federation_laws.specs.World.{World, Begins, Happens, IsHonest, Leads, HasSameOperations, MayHappen, made_by}
use Rattle.federation_laws.proofs.Acts.{IsLocal, Makes}
use Rattle.federation_laws.proofs.Carries.{carries}
use Rattle.federation_laws.proofs.Keeps.{IsMade, Keeps, keeps_steps, takes_in}
use Rattle.federation_laws.proofs.Numbers.{counts_most}
use Rattle.federation_laws.proofs.Steps.{ActsLocally, Leaves, nothing, answer, stopped, NoPush, left_by, local_step}
use Rattle.federation_laws.proofs.Steps.{push_or_not, push_step}

-- what holds for a world along the way
pub record Stands (world : World) : Type 0 where
  pub made : IsMade world.made
  pub numbered : (server : ℕ) → (world.machine_of server).replica ≡ server
  pub keeps : (server : ℕ) → Keeps world.made server (world.machine_of server).log (world.machine_of server).held

-- an operation made after a past of made operations stays so as more are made
behind_more : (made past : List Op) (op new : Op) → IsMadeBehind made past op → IsMadeBehind (made ++ new ∷ []) past op
behind_more made past op new b = record {
  history = b.history;
  numbered = b.numbered;
  within = λ one h. Contains-from_Has (made ++ new ∷ []) one
      (has_front made (new ∷ []) one (Has-from_Contains made one (b.within one h)));
  next = b.next;
  seen = b.seen;
  valid = b.valid;
}

-- a server's own log has the same count of its operations as the list of all that were made
own_count : (made : List Op) (own : ℕ) (log held : List Op) → IsMade made → Keeps made own log held →
    count_in (vector_of log) own ≡ count_in (vector_of made) own
own_count made own log held m k =
    le_antisymm (counts_most log made own k.delivered.numbered m.numbered (λ op h same. k.within op h))
    (counts_most made log own m.numbered k.delivered.numbered (λ op h same. k.mine op h same))

-- an operation that a server makes is one of those that were made
made_more : (made : List Op) (own : ℕ) (log held : List Op) (op : Op) → IsMade made → Keeps made own log held →
    IsLocal own log op → IsMade (made ++ op ∷ [])
made_more made own log held op m k local =
    let valid : is_valid op log ≡ true = (allowed log op local.allowed).valid in
    let number : op.name.number ≡ count_in (vector_of made) own + 1 = local.number ∙ ap (λ n. n + 1)
    (own_count made own log held m k) in
    record {
      history = IsHistory-push made op m.history local.checked
          (carries log made op k.delivered.history m.history k.within (λ one h same. k.mine one h (same ∙ local.origin))
          local.checked valid);
      numbered = AreNumbered-push made op m.numbered (subst (λ o. op.name.number ≡ count_in (vector_of made) o + 1)
          (sym local.origin) number);
      each = λ one h. at one valid (has_either made (op ∷ []) one h);
    }
  where
    here : is_valid op log ≡ true → IsMadeBehind (made ++ op ∷ []) log op
    here valid = record {
      history = k.delivered.history;
      numbered = k.delivered.numbered;
      within = λ one h. Contains-from_Has (made ++ op ∷ []) one
          (has_front made (op ∷ []) one (k.within one (Has-from_Contains log one h)));
      next = subst (λ o. op.name.number ≡ count_in (vector_of log) o + 1) (sym local.origin) local.number;
      seen = subst (λ o. op.seen ≡ with_count (vector_of log) o 0) (sym local.origin) local.seen;
      valid = valid;
    }

    at : (one : Op) → is_valid op log ≡ true → Has made one ⊎ Has (op ∷ []) one → (past : List Op)
        × IsMadeBehind (made ++ op ∷ []) past one
    at one valid (inl old) = let behind = m.each one old in (behind.0, behind_more made behind.0 one op behind.1)
    at one valid (inr (inl is)) = (log, subst (IsMadeBehind (made ++ op ∷ []) log) is (here valid))
    at one valid (inr (inr none)) = absurd none

-- an operation that a server makes is ready there
local_ready : (own : ℕ) (log : List Op) (op : Op) → IsLocal own log op → is_ready (vector_of log) op ≡ true
local_ready own log op local =
    and_from _ _ (eq-eqb op.name.number (count_in (vector_of log) op.name.origin + 1)
    (subst (λ o. op.name.number ≡ count_in (vector_of log) o + 1) (sym local.origin) local.number))
    (subst (λ v. reaches (vector_of log) v ≡ true) (sym local.seen)
    (others_reached (vector_of log) own (IsVector-vector_of log)))

-- the server that made it keeps it
keeps_own : (made : List Op) (own : ℕ) (log held : List Op) (op : Op) → Keeps made own log held → IsLocal own log op →
    Keeps (made ++ op ∷ []) own (log ++ op ∷ []) held
keeps_own made own log held op k local = record {
  delivered = IsDelivered-push log op k.delivered local.checked (local_ready own log op local) local.allowed;
  within = λ one h. into one (has_either log (op ∷ []) one h);
  waiting = λ one h. has_front made (op ∷ []) one (k.waiting one h);
  mine = λ one h same. back one same (has_either made (op ∷ []) one h);
}
  where
    into : (one : Op) → Has log one ⊎ Has (op ∷ []) one → Has (made ++ op ∷ []) one
    into one (inl old) = has_front made (op ∷ []) one (k.within one old)
    into one (inr new) = has_behind made (op ∷ []) one new

    back : (one : Op) → one.name.origin ≡ own → Has made one ⊎ Has (op ∷ []) one → Has (log ++ op ∷ []) one
    back one same (inl old) = has_front log (op ∷ []) one (k.mine one old same)
    back one same (inr new) = has_behind log (op ∷ []) one new

-- and each other server keeps what it has
keeps_other : (made : List Op) (own other : ℕ) (log held : List Op) (op : Op) → Keeps made other log held →
    op.name.origin ≡ own → other ≢ own → Keeps (made ++ op ∷ []) other log held
keeps_other made own other log held op k origin apart = record {
  delivered = k.delivered;
  within = λ one h. has_front made (op ∷ []) one (k.within one h);
  waiting = λ one h. has_front made (op ∷ []) one (k.waiting one h);
  mine = λ one h same. at one same (has_either made (op ∷ []) one h);
}
  where
    at : (one : Op) → one.name.origin ≡ other → Has made one ⊎ Has (op ∷ []) one → Has log one
    at one same (inl old) = k.mine one old same
    at one same (inr (inl is)) = absurd (apart (sym same ∙ sym (ap (λ (x : Op). x.name.origin) is) ∙ origin))
    at one same (inr (inr none)) = absurd none

-- what a machine becomes, with what was made
record Goes (made : List Op) (server : ℕ) (all : List Op) (new : Machine) : Type 0 where
  made_all : IsMade all
  replica : new.replica ≡ server
  kept : Keeps all server new.log new.held
  rest : (other : ℕ) (log held : List Op) → other ≢ server → Keeps made other log held → Keeps all other log held

goes_same : (made : List Op) (server : ℕ) (new : Machine) → IsMade made → new.replica ≡ server →
    Keeps made server new.log new.held → Goes made server made new
goes_same made server new m replica k = record
    { made_all = m; replica = replica; kept = k; rest = λ other log held apart old. old }

goes_local : (made : List Op) (server : ℕ) (log held : List Op) (op : Op) (new : Machine) → IsMade made →
    Keeps made server log held → IsLocal server log op → new.replica ≡ server → new.held ≡ held → new.log ≡ log ++ op
    ∷ [] →
    Goes made server (made ++ op ∷ []) new
goes_local made server log held op new m k local replica waits more = record {
  made_all = made_more made server log held op m k local;
  replica = replica;
  kept = subst (λ l. Keeps (made ++ op ∷ []) server l new.held) (sym more)
      (subst (Keeps (made ++ op ∷ []) server (log ++ op ∷ [])) (sym waits) (keeps_own made server log held op k local));
  rest = λ other log held apart old. keeps_other made server other log held op old local.origin apart;
}

drop_all : (xs ys : List Op) → drop (length xs) (xs ++ ys) ≡ ys
drop_all [] ys = refl
drop_all (x ∷ xs) ys = drop_all xs ys

drop_none : (xs : List Op) → drop (length xs) xs ≡ []
drop_none [] = refl
drop_none (x ∷ xs) = drop_none xs

-- an act that brought nothing made what it added to the log
made_local : (this : Act) (old new : List Op) → NoPush this → made_by this old new ≡ drop (length old) new
made_local (act.Push op) old new none = absurd none
made_local other old new none = refl

made_nothing : (this : Act) (log new : List Op) → new ≡ log → made_by this log new ≡ []
made_nothing this log new same = at this (push_or_not this)
  where
    at : (this : Act) → ((op : Op) × (this ≡ act.Push op)) ⊎ NoPush this → made_by this log new ≡ []
    at this (inl p) = ap (λ a. made_by a log new) p.1
    at this (inr none) = made_local this log new none ∙ ap (drop (length log)) same ∙ drop_none log

-- if nothing is made
goes_on_same : (made : List Op) (server : ℕ) (more : List Op) (new : Machine) → more ≡ [] → IsMade made → new.replica
    ≡ server → Keeps made server new.log new.held → Goes made server (made ++ more) new
goes_on_same made server more new none m replica k = subst (λ l. Goes made server l new)
    (sym (append-nil made) ∙ ap (λ l. made ++ l) (sym none)) (goes_same made server new m replica k)

goes_makes : (made : List Op) (server : ℕ) (log held : List Op) (this : Act) (new : Machine) → IsMade made →
    Keeps made server log held → NoPush this → new.replica ≡ server → new.held ≡ held → Makes server log new.log →
    Goes made server (made ++ made_by this log new.log) new
goes_makes made server log held this new m k none replica waits (inl same) =
    goes_on_same made server (made_by this log new.log) new (made_nothing this log new.log same) m replica
    (subst (λ l. Keeps made server l new.held) (sym same) (subst (Keeps made server log) (sym waits) k))
goes_makes made server log held this new m k none replica waits (inr (op, (local, more))) =
    let one : made_by this log new.log ≡ op ∷ [] = made_local this log new.log none ∙ ap (drop (length log)) more
    ∙ drop_all log (op ∷ []) in
    subst (λ l. Goes made server (made ++ l) new) (sym one)
    (goes_local made server log held op new m k local replica waits more)

-- a push makes nothing
brings_nothing : (this : Act) (op : Op) (log new : List Op) → this ≡ act.Push op → made_by this log new ≡ []
brings_nothing this op log new is = ap (λ a. made_by a log new) is

honest_made : (this : Act) (op : Op) (made : List Op) → this ≡ act.Push op → IsHonest this made → Has made op
honest_made this op made is honest = Has-from_Contains made op (subst (λ a. IsHonest a made) is honest)

-- what a push leaves
abbrev pushed_to : PadEvent → Op → Machine → Machine
pushed_to event op m = (step event.pad.now event.who.now event.visit (act.Push op) m).1

-- a machine with the same operations keeps what the server's does
keeps_same : (made : List Op) (server : ℕ) (old here : Machine) → HasSameOperations old here →
    Keeps made server old.log old.held → Keeps made server here.log here.held
keeps_same made server old here same k = subst (λ l. Keeps made server l here.held) (sym same.log)
    (subst (Keeps made server old.log) (sym same.held) k)

-- the step of the machine of a server
goes_step : (world : World) (server : ℕ) (event : PadEvent) (m : Machine) → Stands world →
    MayHappen world server event → HasSameOperations (world.machine_of server) m → (new : Machine) →
    new ≡ (event_step event m).1 →
    Goes world.made server (world.made ++ made_by event.act.now m.log new.log) new
goes_step world server event m s may is new next = at (push_or_not event.act.now)
  where
    replica : m.replica ≡ server
    replica = is.replica ∙ s.numbered server

    kept : Keeps world.made server m.log m.held
    kept = keeps_same world.made server (world.machine_of server) m is (s.keeps server)

    kept_here : Keeps world.made m.replica m.log m.held
    kept_here = subst (λ n. Keeps world.made n m.log m.held) (sym replica) kept

    at : ((op : Op) × (event.act.now ≡ act.Push op)) ⊎ NoPush event.act.now →
        Goes world.made server (world.made ++ made_by event.act.now m.log new.log) new
    at (inl p) =
        let there = honest_made event.act.now p.0 world.made p.1 may.honest in
        let pushed = push_step world.made m.owned m.replica m.log m.held m.presence m.clock m.made event.pad.now event.who.now
        event.visit p.0 s.made kept_here (takes_in world.made m.replica p.0 m.log m.held s.made kept_here there) in
        let same : new ≡ pushed_to event p.0 m =
        next ∙ ap (λ (a : Act). (step event.pad.now event.who.now event.visit a m).1) p.1 in
        let number : new.replica ≡ server = ap (λ (x : Machine). x.replica) same ∙ pushed.replica ∙ replica in
        goes_on_same world.made server (made_by event.act.now m.log new.log) new
        (brings_nothing event.act.now p.0 m.log new.log p.1) s.made number
        (subst (λ (x : Machine). Keeps world.made server x.log x.held) (sym same)
        (subst (λ n. Keeps world.made n (pushed_to event p.0 m).log (pushed_to event p.0 m).held) replica pushed.kept))
    at (inr none) =
        let acts = local_step m.owned m.replica m.log m.held m.presence m.clock m.made event.pad.now event.who.now event.visit
        event.act.now kept.delivered may.named (subst (λ n. 1 ≤ n) (sym replica) may.number) none in
        let done : ActsLocally m.replica m.log m.held new = subst (ActsLocally m.replica m.log m.held)
        (sym next) acts in
        goes_makes world.made server m.log m.held event.act.now new s.made kept none (done.replica ∙ replica) done.waits
        (subst (λ n. Makes n m.log new.log) replica done.makes)

-- an event leaves the machine of its server so
goes : (world : World) (server : ℕ) (event : PadEvent) (m new : Machine) → Stands world → MayHappen world server event →
    HasSameOperations (world.machine_of server) m → Leaves m event new →
    Goes world.made server (world.made ++ made_by event.act.now m.log new.log) new
goes world server event m new s may is (nothing same) =
    goes_on_same world.made server (made_by event.act.now m.log new.log) new
    (made_nothing event.act.now m.log new.log (ap (λ (x : Machine). x.log) same)) s.made
    (ap (λ (x : Machine). x.replica) same ∙ is.replica ∙ s.numbered server)
    (subst (λ (x : Machine). Keeps world.made server x.log x.held) (sym same)
    (keeps_same world.made server (world.machine_of server) m is (s.keeps server)))
goes world server event m new s may is (answer next) = goes_step world server event m s may is new next
goes world server event m new s may is (stopped op this n now replica) =
    let number : m.replica ≡ server = is.replica ∙ s.numbered server in
    let kept : Keeps world.made m.replica m.log m.held = subst (λ k. Keeps world.made k m.log m.held) (sym number)
    (keeps_same world.made server (world.machine_of server) m is (s.keeps server)) in
    let taken = takes_in world.made m.replica op m.log m.held s.made kept
    (honest_made event.act.now op world.made this may.honest) in
    let released = keeps_steps world.made m.replica n (unsettled (received m.replica op (m.log, m.held)).1) s.made
    taken.kept in
    goes_on_same world.made server (made_by event.act.now m.log new.log) new
    (brings_nothing event.act.now op m.log new.log this) s.made (replica ∙ number)
    (subst (λ k. Keeps world.made k new.log new.held) number
    (subst (λ (p : List Op × List Op). Keeps world.made m.replica p.0 p.1) (sym now) released))

-- all that was made once an event has happened
abbrev all_made : World → Machine → World → ℕ → PadEvent → List Op
all_made old here new server event = old.made ++ made_by event.act.now here.log (new.machine_of server).log

-- an event keeps what holds
stands_on : (old new : World) (server : ℕ) (event : PadEvent) → Stands old → Happens server event old new → Stands new
stands_on old new server event s h =
    let g = goes old server event h.here (new.machine_of server) s h.may h.same
    (left_by h.here (new.machine_of server) event h.reply h.steps) in
    let all = sym h.made in
    record {
      made = subst IsMade all g.made_all;
      numbered = λ other. number g other (cases_eq other server);
      keeps = λ other. subst (λ l. Keeps l other (new.machine_of other).log (new.machine_of other).held) all
          (keep g other (cases_eq other server));
    }
  where
    number : Goes old.made server (all_made old h.here new server event) (new.machine_of server) → (other : ℕ) →
        (other ≡ server) ⊎ (other ≡ server → ⊥) → (new.machine_of other).replica ≡ other
    number g other (inl same) = subst (λ o. (new.machine_of o).replica ≡ o) (sym same) g.replica
    number g other (inr apart) = ap (λ (x : Machine). x.replica) (h.others other apart) ∙ s.numbered other

    keep : Goes old.made server (all_made old h.here new server event) (new.machine_of server) → (other : ℕ) →
        (other ≡ server) ⊎ (other ≡ server → ⊥) → Keeps (all_made old h.here new server event) other
        (new.machine_of other).log (new.machine_of other).held
    keep g other (inl same) = subst (λ o. Keeps (all_made old h.here new server event) o (new.machine_of o).log
        (new.machine_of o).held) (sym same) g.kept
    keep g other (inr apart) =
        subst (λ (x : Machine). Keeps (all_made old h.here new server event) other x.log x.held)
        (sym (h.others other apart)) (g.rest other (old.machine_of other).log (old.machine_of other).held apart
        (s.keeps other))

-- it holds at the beginning
stands_first : (world : World) → Begins world → Stands world
stands_first world b = record {
  made = subst IsMade (sym b.made) no_made;
  numbered = λ server. (b.fresh server).replica;
  keeps = λ server. subst (λ l. Keeps l server (world.machine_of server).log (world.machine_of server).held)
      (sym b.made)
      (subst (λ l. Keeps [] server l (world.machine_of server).held) (sym (b.fresh server).log)
      (subst (Keeps [] server []) (sym (b.fresh server).held) (keeps_nothing server)));
}
  where
    no_made : IsMade []
    no_made = record { history = tt; numbered = tt; each = λ op h. absurd h }

    no_log : IsDelivered []
    no_log = record { history = tt; numbered = tt; timely = tt; room = omega arith; short = omega arith; few = omega arith }

    keeps_nothing : (server : ℕ) → Keeps [] server [] []
    keeps_nothing server = record { delivered = no_log; within = λ op h. absurd h; waiting = λ op h. absurd h; mine = λ op h same. absurd h }

stands_after : (old new : World) (events : List (ℕ × PadEvent)) → Stands old → Leads old events new → Stands new
stands_after old new [] s l = subst Stands (sym l) s
stands_after old new ((server, event) ∷ events) s l = stands_after l.0 new events (stands_on old l.0 server event s l.1)
    l.2

-- so it holds in each world that events lead to
pub stands : (start now : World) (events : List (ℕ × PadEvent)) → Begins start → Leads start events now → Stands now
stands start now events b l = stands_after start now events (stands_first start b) l

-- the world with another machine on a server
abbrev turned : World → ℕ → PadEvent → Machine → World
turned world server event m =
    let machines : ℕ → Machine = λ other. cond (eqb other server) m (world.machine_of other) in
    record { machine_of = machines; made = world.made ++ made_by event.act.now (world.machine_of server).log (machines server).log }

-- each event that may happen leads to a further world
pub goes_on : GoesOnLaw
goes_on world server event may =
    let m = world.machine_of server in
    let next = (event_step event m).1 in
    let happens : Happens server event world (turned world server event next) = record {
      may = may;
      here = m;
      same = record { replica = refl; log = refl; held = refl };
      reply = (event_step event m).0;
      steps = subst (Stepped m event (event_step event m).0)
          (sym (cond-true (eqb server server) next m (eq-eqb server server refl))) (inl (inr refl));
      others = λ other apart. cond-false (eqb other server) next (world.machine_of other) (ne_eqb other server apart);
      made = refl;
    }
    in (turned world server event next, happens)
