-- What holds for each world that events lead to.
use Rattle.std.proofs.Common.{◌≡◌, ℕ, ◌≤◌, Bool, not, List, take, drop, filter, sym, ap₂, subst, take-append-drop}
use Rattle.pad_model.specs.Character.{Character}
use Rattle.pad_model.specs.Laws.{itself}
use Rattle.pad_model.specs.Operation.{characters_in, inserted_by}
use Rattle.pad_model.specs.Order.{order}
use Rattle.pad_model.specs.Seen.{count_in}
use Rattle.pad_model.specs.Stamp.{same_stamp}
use Rattle.pad_model.specs.Subsequence.{IsSubsequence, done, keep, skip}
use Rattle.pad_model.specs.Visible.{is_erased}
use Rattle.pad_model.specs.declared.op.Op.{Op}
use Rattle.pad_model.specs.declared.op.OpName.{OpName}
use Rattle.pad_model.proofs.Filters.{order-subset}
use Rattle.pad_model.proofs.Growth.{IsTree-history, IsHistory-take}
use Rattle.pad_model.proofs.Newer.{split, same_stamp-refl}
use Rattle.pad_model.proofs.Pushed.{erased-inserted}
use Rattle.pad_model.proofs.Sets.{Has, Has-from_Contains, Contains-from_Has}
use Rattle.pad_core.specs.Counts.{vector_of}
use Rattle.pad_core.specs.Exchange.{received, steps, unsettled}
use Rattle.pad_core.specs.Laws.{ShowSame}
use Rattle.pad_core.proofs.SameSet.{has_front, made_alike, passes_from, same_set}
use Rattle.pad_model.specs.CellLaws.{IsLegal}
use Rattle.federation_laws.specs.Holds.{DropsNoFault, IsTaken, IsUpToCounts, ShowsPart}
use Rattle.federation_laws.specs.Laws.{FederationLaw}
use Rattle.federation_laws.specs.World.{World}
use Rattle.federation_laws.proofs.Keeps.{IsMade, Keeps, found_no_fault, keeps_steps, takes_in}
use Rattle.federation_laws.proofs.Numbers.{in_log, named_once, number_low, number_there}
use Rattle.federation_laws.proofs.Steps.{push_step}
use Rattle.federation_laws.proofs.Typing.{types_in_place}
use Rattle.federation_laws.proofs.Worlds.{Stands, stands}

-- the same for a machine, under its own number
keeps_here : (world : World) (server : ℕ) → Stands world →
    (let m = world.machine_of server in Keeps world.made m.replica m.log m.held)
keeps_here world server s = let m = world.machine_of server in subst (λ n. Keeps world.made n m.log m.held)
    (sym (s.numbered server)) (s.keeps server)

takes_honest : (world : World) (server : ℕ) (op : Op) → Stands world → Has world.made op →
    IsTaken (world.machine_of server) op
takes_honest world server op s there pad who visit =
    let m = world.machine_of server in
    let k = keeps_here world server s in
    let pushed = push_step world.made m.owned m.replica m.log m.held m.presence m.clock m.made pad who visit op s.made k
    (takes_in world.made m.replica op m.log m.held s.made k there) in
    (pushed.in_limits, pushed.in_order)

drops_none : (world : World) (server : ℕ) (op : Op) → Stands world → Has world.made op →
    DropsNoFault (world.machine_of server) op
drops_none world server op s there n next found =
    let m = world.machine_of server in
    let taken = takes_in world.made m.replica op m.log m.held s.made (keeps_here world server s) there in
    let d = steps n (unsettled (received m.replica op (m.log, m.held)).1) in
    found_no_fault world.made m.replica d.log d.held next s.made
    (keeps_steps world.made m.replica n (unsettled (received m.replica op (m.log, m.held)).1) s.made taken.kept) found

same_named : (name : OpName) (op : Op) → op.name.origin ≡ name.origin → op.name.number ≡ name.number → op.name ≡ name
same_named name op origin number = ap₂ (λ o n. let it : OpName = record { origin = o; number = n } in it) origin number

up_to_counts : (made : List Op) (own : ℕ) (log held : List Op) → IsMade made → Keeps made own log held →
    IsUpToCounts made log
up_to_counts made own log held m k = record {
  within = λ op h. Contains-from_Has made op (k.within op (Has-from_Contains log op h));
  counts = λ op there. (
    (λ h. number_low log op k.delivered.numbered (Has-from_Contains log op h)),
    (λ low. Contains-from_Has log op (in_log made log op m.numbered k.delivered.numbered k.within
        (Has-from_Contains made op there) low)),
  );
  each = λ name some low. (let found = number_there log name.origin name.number k.delivered.numbered some low in
      (found.0, Contains-from_Has log found.0 found.1.0, same_named name found.0 found.1.1.0 found.1.1.1));
  once = named_once log k.delivered.numbered;
}

-- a log that reaches another's counts has its operations
has_counted : (made log other : List Op) (own own_other : ℕ) (held held_other : List Op) → IsMade made →
    Keeps made own log held → Keeps made own_other other held_other → vector_of log ≡ vector_of other → (op : Op) →
    Has log op → Has other op
has_counted made log other own own_other held held_other m k l same op h =
    in_log made other op m.numbered l.delivered.numbered l.within (k.within op h)
    (subst (λ v. op.name.number ≤ count_in v op.name.origin) same (number_low log op k.delivered.numbered h))

shows_alike : (world : World) (one other : ℕ) → Stands world → vector_of (world.machine_of one).log
    ≡ vector_of (world.machine_of other).log → ShowSame (world.machine_of one).log (world.machine_of other).log
shows_alike world one other s same =
    let m = world.machine_of one in
    let n = world.machine_of other in
    let k = s.keeps one in
    let l = s.keeps other in
    same_set m.log n.log k.delivered l.delivered
    (has_counted world.made m.log n.log one other m.held n.held s.made k l same)
    (has_counted world.made n.log m.log other one n.held m.held s.made l k (sym same))

legal : (made : List Op) → IsMade made → IsLegal (characters_in made)
legal made m = record {
  tree = IsTree-history made m.history;
  erased = λ stamp h. erased-inserted made stamp m.history (passes_from (λ e. same_stamp e stamp)
      (characters_in made).erased stamp (Has-from_Contains (characters_in made).erased stamp h) (same_stamp-refl stamp));
}

-- what passes a test of a part of a list is a part of the list
filter_part : (t : Character → Bool) (xs ys : List Character) → IsSubsequence xs ys → IsSubsequence (filter t xs) ys
filter_part t xs ys done = done
filter_part t xs ys (keep {x = c} {xs = us} {ys = vs} sub) =
    split (t c) (λ yes. rw yes (keep (filter_part t us vs sub))) (λ no. rw no (skip (filter_part t us vs sub)))
filter_part t xs ys (skip {y = c} {xs = us} {ys = vs} sub) = skip (filter_part t us vs sub)

shows_part : (made log : List Op) (own : ℕ) (held : List Op) → IsMade made → Keeps made own log held →
    ShowsPart made log
shows_part made log own held m k rev =
    let first = take rev log in
    let set = characters_in first in
    let into : (op : Op) → Has first op → Has made op =
    λ op h. k.within op (subst (λ l. Has l op) (take-append-drop rev log) (has_front first (drop rev log) op h)) in
    filter_part (λ c. not (is_erased set.erased c.stamp)) (order itself set.inserted)
    (order itself (characters_in made).inserted)
    (order-subset itself set.inserted (characters_in made).inserted
    (IsTree-history first (IsHistory-take log rev k.delivered.history)) (IsTree-history made m.history)
    (made_alike inserted_by first made into))

-- whatever happens among servers
pub federated : FederationLaw
federated start now events begins leads =
    let s = stands start now events begins leads in
    record {
      named = named_once now.made s.made.numbered;
      valid = λ op there. s.made.each op (Has-from_Contains now.made op there);
      taken = λ server op there. takes_honest now server op s (Has-from_Contains now.made op there);
      kept = λ server op there. drops_none now server op s (Has-from_Contains now.made op there);
      whole = λ server. up_to_counts now.made server (now.machine_of server).log (now.machine_of server).held s.made
          (s.keeps server);
      alike = λ one other same. shows_alike now one other s same;
      legal = legal now.made s.made;
      ordered = λ server. shows_part now.made (now.machine_of server).log server (now.machine_of server).held s.made
          (s.keeps server);
      typed = λ server. types_in_place (now.machine_of server) (s.keeps server).delivered.history;
    }
