-- What a step does to the names of a row, and what an actor knows of them.
use Rattle.std.proofs.Common.{◌≡◌, ◌⊎◌, inl, inr, ℕ, zero, suc, ◌+◌, ◌<◌, Bool, true, false, List, [], ◌∷◌, ◌++◌}
use Rattle.std.proofs.Common.{length, map, Option, Some, None, Result, Ok, Err, refl, sym, ap, ◌∙◌, subst, arith}
use Rattle.std.specs.List.{AllByRecursion, slice_get, slice_set, find}
use Rattle.std.specs.Option.{option_map, option_map_or}
use Rattle.std.specs.Prelude.{bytes_eq, filter}
use Rattle.std.proofs.lemmas.Bool.{false≢true}
use Rattle.std.proofs.lemmas.List.{map-set}
use Rattle.std.proofs.Math.Seq.{map-set_same}
use Rattle.std.proofs.lemmas.Option.{slice_get-map, slice_get_within, get_or_from_slice_get}
use Rattle.std.proofs.lemmas.Slice.Eq.{bytes_eq-Decides}
use Rattle.pad_model.proofs.Newer.{split}
use Rattle.pad_model.specs.declared.refusal.Refusal.{Refusal}
use Rattle.pad_model.specs.declared.refusal.Refusal.TheVariants.{NoPad, NoSession, PadExists}
use Rattle.pad_model.specs.declared.who.Who.{Who}
use Rattle.pad_model.specs.declared.who.Who.TheVariants.{Nobody, Author, Peer}
use Rattle.sessions.specs.Accounts.{Accounts}
use Rattle.presence.specs.Presence.{joined}
use Rattle.sessions.specs.Session.{is_of}
use Rattle.sessions.specs.declared.session.Room.{Room}
use Rattle.pad_core.specs.Machine.{Machine, claim, name_of, new_owned, now_of, step}
use Rattle.pad_core.specs.declared.act.Act.{Act}
use Rattle.pad_core.specs.declared.act.Act.TheVariants as act
use Rattle.pad_core.specs.declared.event.Claim.{Claim}
use Rattle.pad_core.specs.declared.event.Claim.TheVariants.{Created, Exists, Other}
use Rattle.pad_core.specs.declared.owned.Owned.{Owned}
use Rattle.pad_core.specs.declared.reply.PadReply.{PadReply}
use Rattle.pad_core.specs.declared.reply.PadReply.TheVariants as pad
use Rattle.pad_core.specs.declared.reply.Reply.{Reply}
use Rattle.pad_core.specs.declared.reply.Reply.TheVariants as reply
use Rattle.pad_core.specs.declared.request.Request.{Request}
use Rattle.pad_core.specs.declared.request.Request.TheVariants as request
use Rattle.server_core.specs.Actor.{Actor, first_cell, visit_on}
use Rattle.server_core.specs.AtCell.{act_at, created, past_row, request_at, rooms_after, row_answer}
use Rattle.server_core.specs.Names.{NamesStay, names_of}
use Rattle.server_core.specs.Steps.{goes_on}
use Rattle.server_core.specs.declared.task.Task.{Task}
use Rattle.server_core.specs.declared.task.Task.TheVariants.{Resting, Scanning, Listing, Leaving}
use Rattle.server_core.proofs.Named.{ArePassed, Grows, grows-stay, get-set_same, passed-stay, passed-more, each-filter}
use Rattle.server_core.proofs.Named.{each-append, each-weaken, some-same}
use Rattle.server_core.proofs.Own.{IsOwn, Joins, Kept, rooms-kept, step-name, step-own}

-- a room's cell has the pad's name
abbrev pub RoomStands : List (Option (List ℕ)) → Room → Type 0
RoomStands names room = slice_get names room.cell ≡ Some (Some room.pad)

-- a creation has passed cells of other names, or is at the pad that it names
abbrev pub IsBehind : List (Option (List ℕ)) → List ℕ → ℕ → Type 0
IsBehind names name cell = ArePassed names name cell ⊎ (slice_get names cell ≡ Some (Some name))

abbrev pub RequestStands : List (Option (List ℕ)) → Request → ℕ → Type 0
RequestStands names (request.Create name) cell = IsBehind names name cell
RequestStands names (request.On name act) cell = Unit {0}
RequestStands names request.Pads cell = Unit {0}
RequestStands names (request.People authors) cell = Unit {0}
RequestStands names (request.Hello name token) cell = Unit {0}
RequestStands names (request.Peer number token version) cell = Unit {0}

abbrev pub TaskStands : List (Option (List ℕ)) → Task → Type 0
TaskStands names Resting = Unit {0}
TaskStands names (Scanning request cell) = RequestStands names request cell
TaskStands names (Listing cell found) = Unit {0}
TaskStands names Leaving = Unit {0}

-- what an actor knows of the row
abbrev pub ActorStands : List (Option (List ℕ)) → Actor → Type 0
ActorStands names a = AllByRecursion (RoomStands names) a.rooms × TaskStands names a.task

pub rooms-stay : (old new : List (Option (List ℕ))) (rooms : List Room) → NamesStay old new →
    AllByRecursion (RoomStands old) rooms → AllByRecursion (RoomStands new) rooms
rooms-stay old new rooms stay h = each-weaken (RoomStands old) (RoomStands new) rooms
    (λ room there. stay room.cell room.pad there) h

request-stays : (old new : List (Option (List ℕ))) (r : Request) (cell : ℕ) → NamesStay old new →
    RequestStands old r cell → RequestStands new r cell
request-stays old new (request.Create name) cell stay (inl passed) = inl (passed-stay old new name cell stay passed)
request-stays old new (request.Create name) cell stay (inr here) = inr (stay cell name here)
request-stays old new (request.On name act) cell stay h = h
request-stays old new request.Pads cell stay h = h
request-stays old new (request.People authors) cell stay h = h
request-stays old new (request.Hello name token) cell stay h = h
request-stays old new (request.Peer number token version) cell stay h = h

task-stays : (old new : List (Option (List ℕ))) (task : Task) → NamesStay old new → TaskStands old task →
    TaskStands new task
task-stays old new Resting stay h = h
task-stays old new (Scanning request cell) stay h = request-stays old new request cell stay h
task-stays old new (Listing cell found) stay h = h
task-stays old new Leaving stay h = h

pub actor-stays : (old new : List (Option (List ℕ))) (a : Actor) → NamesStay old new → ActorStands old a →
    ActorStands new a
actor-stays old new a stay h = (rooms-stay old new a.rooms stay h.0, task-stays old new a.task stay h.1)

-- a cell that keeps its name leaves the names of the row unchanged
pub same_names : (cells : List Machine) (cell : ℕ) (m new : Machine) → slice_get cells cell ≡ Some m → name_of new.owned
    ≡ name_of m.owned → names_of (slice_set cells cell new) ≡ names_of cells
same_names cells cell m new e same =
    map-set_same (λ (k : Machine). name_of k.owned) cells cell new m (same ∙ ap (λ (k : Machine). name_of k.owned)
    (sym (get_or_from_slice_get cells cell m m e)))

pub name_there : (cells : List Machine) (cell : ℕ) (m : Machine) → slice_get cells cell ≡ Some m →
    slice_get (names_of cells) cell ≡ Some (name_of m.owned)
name_there cells cell m e = slice_get-map (λ (k : Machine). name_of k.owned) cells cell
    ∙ ap (λ o. option_map (λ (k : Machine). name_of k.owned) o) e

-- what a request leaves of a row
abbrev pub Leaves : List Machine → Request → ℕ → List Room → Result (Option Reply) Refusal × List Room × List Machine →
    Type 0
Leaves cells r cell rooms done =
    Grows (names_of cells) (names_of done.2) × AllByRecursion (RoomStands (names_of done.2)) done.1
    × (goes_on done.0 cell (length done.2) ≡ true → RequestStands (names_of done.2) r (cell + 1))

refused-joins : (answer : Result PadReply Refusal) (visit : ℕ) → answer ≡ Err NoPad → Joins visit answer → ⊥
refused-joins answer visit e f = subst (Joins visit) e f

elsewhere-joins : (answer : Result PadReply Refusal) (visit : ℕ) → answer ≡ Ok pad.Elsewhere → Joins visit answer → ⊥
elsewhere-joins answer visit e f = subst (Joins visit) e f

refused-stops : (refusal : Refusal) (cell count : ℕ) → goes_on (Err refusal) cell count ≡ true → ⊥
refused-stops refusal cell count e = absurd (cc)

answered-stops : (answer : Reply) (cell count : ℕ) → goes_on (Ok (Some answer)) cell count ≡ true → ⊥
answered-stops answer cell count e = absurd (cc)

-- a cell whose machine keeps its name, and rooms that were there
kept-rooms : (cells : List Machine) (name : List ℕ) (cell : ℕ) (m : Machine) (answer : Result PadReply Refusal)
    (rooms new : List Room) → slice_get cells cell ≡ Some m → IsOwn name m answer →
    AllByRecursion (RoomStands (names_of cells)) rooms → Kept name cell answer rooms new →
    AllByRecursion (RoomStands (names_of cells)) new
kept-rooms cells name cell m answer rooms new e own h (inl same) =
    subst (λ r. AllByRecursion (RoomStands (names_of cells)) r) (sym same) h
kept-rooms cells name cell m answer rooms new e (inl own) h (inr (inl (visit, joined, more))) =
    subst (λ r. AllByRecursion (RoomStands (names_of cells)) r) (sym more)
    (each-append (RoomStands (names_of cells)) rooms (record { pad = name; cell = cell; visit = visit }) h
    (name_there cells cell m e ∙ ap Some own))
kept-rooms cells name cell m answer rooms new e (inr (inl none)) h (inr (inl (visit, joined, more))) =
    absurd (refused-joins answer visit none joined)
kept-rooms cells name cell m answer rooms new e (inr (inr other)) h (inr (inl (visit, joined, more))) =
    absurd (elsewhere-joins answer visit other joined)
kept-rooms cells name cell m answer rooms new e own h (inr (inr less)) =
    subst (λ r. AllByRecursion (RoomStands (names_of cells)) r) (sym less)
    (each-filter (RoomStands (names_of cells)) (λ room. Rattle.std.specs.Prelude.not (is_of name room)) rooms h)

-- an act leaves the names unchanged
act-leaves : (cells : List Machine) (who : Who) (name : List ℕ) (a : Act) (cell : ℕ) (rooms : List Room) (m : Machine) →
    slice_get cells cell ≡ Some m →
    AllByRecursion (RoomStands (names_of cells)) rooms →
    (names_of (slice_set cells cell (act_at who name a cell rooms m).2) ≡ names_of cells)
    × AllByRecursion (RoomStands (names_of cells)) (act_at who name a cell rooms m).1
act-leaves cells who name a cell rooms m e h = (
  same_names cells cell m (step name who (visit_on name rooms) a m).1 e (step-name name who (visit_on name rooms) a m),
  kept-rooms cells name cell m (step name who (visit_on name rooms) a m).0 rooms
      (rooms_after name cell a (step name who (visit_on name rooms) a m).0 rooms) e
      (step-own name who (visit_on name rooms) a m) h
      (rooms-kept name cell a (step name who (visit_on name rooms) a m).0 rooms),
)

-- a cell put back leaves the names and the rooms unchanged
back-leaves : (cells : List Machine) (r : Request) (cell : ℕ) (rooms : List Room) (m : Machine)
    (answer : Result (Option Reply) Refusal) → slice_get cells cell ≡ Some m →
    AllByRecursion (RoomStands (names_of cells)) rooms → (goes_on answer cell (length (slice_set cells cell m)) ≡ true →
    RequestStands (names_of cells) r (cell + 1)) →
    Leaves cells r cell rooms (answer, rooms, slice_set cells cell m)
back-leaves cells r cell rooms m answer e h passes =
    let same = same_names cells cell m m e refl in (
      inl same,
      subst (λ names. AllByRecursion (RoomStands names) rooms) (sym same) h,
      λ goes. subst (λ names. RequestStands names r (cell + 1)) (sym same) (passes goes),
    )

-- a request that creates nothing needs to know nothing to go on
on-leaves : (cells : List Machine) (who : Who) (name : List ℕ) (a : Act) (cell : ℕ) (rooms : List Room) (m : Machine) →
    slice_get cells cell ≡ Some m →
    AllByRecursion (RoomStands (names_of cells)) rooms →
    let done = act_at who name a cell rooms m in Leaves cells (request.On name a) cell rooms (
      done.0,
      done.1,
      slice_set cells cell done.2,
    )
on-leaves cells who name a cell rooms m e h =
    let done = act_at who name a cell rooms m in
    let both = act-leaves cells who name a cell rooms m e h in
    (inl both.0, subst (λ names. AllByRecursion (RoomStands names) done.1) (sym both.0) both.1, λ goes. tt)

no_name : (o : Option (Option (List ℕ))) (name : List ℕ) → o ≡ Some None → o ≡ Some (Some name) → ⊥
no_name o name e f = absurd (cc)

one_name : (o : Option (Option (List ℕ))) (a b : List ℕ) → o ≡ Some (Some a) → o ≡ Some (Some b) → a ≡ b
one_name o a b e f = cc

not_other : (a b : List ℕ) → bytes_eq a b ≡ false → a ≡ b → ⊥
not_other a b e same = absurd (false≢true (sym e ∙ (bytes_eq-Decides a b).1 same))

behind-unnamed : (cells : List Machine) (name : List ℕ) (cell : ℕ) (m : Machine) → slice_get cells cell ≡ Some m →
    m.owned ≡ None → IsBehind (names_of cells) name cell → ArePassed (names_of cells) name cell
behind-unnamed cells name cell m e none (inl passed) = passed
behind-unnamed cells name cell m e none (inr here) =
    absurd (no_name (slice_get (names_of cells) cell) name (name_there cells cell m e ∙ ap (λ o. Some (name_of o)) none)
    here)

behind-other : (cells : List Machine) (name other : List ℕ) (cell : ℕ) (m : Machine) → slice_get cells cell ≡ Some m →
    name_of m.owned ≡ Some other → (other ≡ name → ⊥) → IsBehind (names_of cells) name cell →
    IsBehind (names_of cells) name (cell + 1)
behind-other cells name other cell m e there differs (inl passed) =
    inl (passed-more (names_of cells) name other cell (name_there cells cell m e ∙ ap Some there) differs passed)
behind-other cells name other cell m e there differs (inr here) =
    absurd (differs (one_name (slice_get (names_of cells) cell) other name (name_there cells cell m e ∙ ap Some there)
    here))

claim-new : (name owner : List ℕ) (m : Machine) → m.owned ≡ None →
    claim name owner m ≡ (
      Ok (Created (m.presence.given + 1)),
      record m { owned = Some (new_owned name owner); presence = joined owner m.presence },
    )
claim-new name owner m none = rw none refl

claim-exists : (name owner : List ℕ) (m : Machine) (owned : Owned) → m.owned ≡ Some owned → bytes_eq owned.name name
    ≡ true → claim name owner m ≡ (Ok Exists, m)
claim-exists name owner m owned some own = rw some (rw own refl)

claim-other : (name owner : List ℕ) (m : Machine) (owned : Owned) → m.owned ≡ Some owned → bytes_eq owned.name name
    ≡ false → claim name owner m ≡ (Ok Other, m)
claim-other name owner m owned some other = rw some (rw other refl)

-- what a claim leaves of a row
abbrev pub ClaimLeaves : List Machine → List ℕ → ℕ → List Room → Result Claim Refusal × Machine → Type 0
ClaimLeaves cells name cell rooms claimed =
    let done = created name cell rooms claimed in Leaves cells (request.Create name) cell rooms (
      done.0,
      done.1,
      slice_set cells cell done.2,
    )

named-leaves : (cells : List Machine) (name : List ℕ) (cell visit : ℕ) (rooms : List Room) (m new : Machine) →
    slice_get cells cell ≡ Some m → m.owned ≡ None → name_of new.owned ≡ Some name →
    AllByRecursion (RoomStands (names_of cells)) rooms → IsBehind (names_of cells) name cell →
    ClaimLeaves cells name cell rooms (Ok (Created visit), new)
named-leaves cells name cell visit rooms m new e none named h behind =
    let set : names_of (slice_set cells cell new) ≡ slice_set (names_of cells) cell (Some name) =
    map-set (λ (k : Machine). name_of k.owned) cells cell new ∙ ap (λ o. slice_set (names_of cells) cell o) named
    in
    let grows : Grows (names_of cells) (names_of (slice_set cells cell new)) =
    inr (
      cell,
      name,
      name_there cells cell m e ∙ ap (λ o. Some (name_of o)) none,
      behind-unnamed cells name cell m e none behind,
      set,
    )
    in
    let low : cell < length (names_of cells) = slice_get_within (names_of cells) cell (name_of m.owned)
    (name_there cells cell m e) in
    let here : RoomStands (names_of (slice_set cells cell new)) (record { pad = name; cell = cell; visit = visit }) =
    ap (λ names. slice_get names cell) set ∙ get-set_same (names_of cells) cell (Some name) low
    in (
      grows,
      each-append (RoomStands (names_of (slice_set cells cell new))) rooms
          (record { pad = name; cell = cell; visit = visit })
          (rooms-stay (names_of cells) (names_of (slice_set cells cell new)) rooms
          (grows-stay (names_of cells) (names_of (slice_set cells cell new)) grows) h) here,
      λ goes. absurd (answered-stops (reply.Pad (pad.Joined (now_of new) visit)) cell
          (length (slice_set cells cell new)) goes),
    )

-- a creation names the cell that it visits, or goes on past another name
create-leaves : (cells : List Machine) (owner name : List ℕ) (cell : ℕ) (rooms : List Room) (m : Machine)
    (o : Option Owned) → slice_get cells cell ≡ Some m → m.owned ≡ o →
    AllByRecursion (RoomStands (names_of cells)) rooms → IsBehind (names_of cells) name cell →
    ClaimLeaves cells name cell rooms (claim name owner m)
create-leaves cells owner name cell rooms m None e none h behind =
    subst (ClaimLeaves cells name cell rooms) (sym (claim-new name owner m none))
    (named-leaves cells name cell (m.presence.given + 1) rooms m _ e none refl h behind)
create-leaves cells owner name cell rooms m (Some owned) e some h behind =
    split (bytes_eq owned.name name)
    (λ own. subst (ClaimLeaves cells name cell rooms) (sym (claim-exists name owner m owned some own))
    (back-leaves cells (request.Create name) cell rooms m (Err PadExists) e h
    (λ goes. absurd (refused-stops PadExists cell (length (slice_set cells cell m)) goes))))
    (λ other. subst (ClaimLeaves cells name cell rooms) (sym (claim-other name owner m owned some other))
    (back-leaves cells (request.Create name) cell rooms m (Ok None) e h
    (λ goes. behind-other cells name owned.name cell m e (ap name_of some)
    (λ same. not_other owned.name name other same) behind)))

-- a request leaves the row so
visit-leaves : (cells : List Machine) (who : Who) (r : Request) (cell : ℕ) (rooms : List Room) (m : Machine) →
    slice_get cells cell ≡ Some m →
    AllByRecursion (RoomStands (names_of cells)) rooms → RequestStands (names_of cells) r cell →
    let done = request_at who r cell rooms m in Leaves cells r cell rooms (done.0, done.1, slice_set cells cell done.2)
visit-leaves cells who (request.On name a) cell rooms m e h stands = on-leaves cells who name a cell rooms m e h
visit-leaves cells (Author owner) (request.Create name) cell rooms m e h stands =
    create-leaves cells owner name cell rooms m m.owned e refl h stands
visit-leaves cells Nobody (request.Create name) cell rooms m e h stands =
    back-leaves cells (request.Create name) cell rooms m (Err NoSession) e h
    (λ goes. absurd (refused-stops NoSession cell (length (slice_set cells cell m)) goes))
visit-leaves cells (Peer number version) (request.Create name) cell rooms m e h stands =
    back-leaves cells (request.Create name) cell rooms m (Err NoSession) e h
    (λ goes. absurd (refused-stops NoSession cell (length (slice_set cells cell m)) goes))
visit-leaves cells who request.Pads cell rooms m e h stands =
    back-leaves cells request.Pads cell rooms m (Err NoSession) e h (λ goes. tt)
visit-leaves cells who (request.People authors) cell rooms m e h stands =
    back-leaves cells (request.People authors) cell rooms m (Err NoSession) e h (λ goes. tt)
visit-leaves cells who (request.Hello name token) cell rooms m e h stands =
    back-leaves cells (request.Hello name token) cell rooms m (Err NoSession) e h (λ goes. tt)
visit-leaves cells who (request.Peer number token version) cell rooms m e h stands =
    back-leaves cells (request.Peer number token version) cell rooms m (Err NoSession) e h (λ goes. tt)

by_place : (cells : List Machine) (who : Who) (r : Request) (cell : ℕ) (rooms : List Room) (o : Option Machine) →
    slice_get cells cell ≡ o →
    AllByRecursion (RoomStands (names_of cells)) rooms → RequestStands (names_of cells) r cell →
    Leaves cells r cell rooms (row_answer who r cell rooms cells)
by_place cells who r cell rooms None e h stands =
    rw e (inl refl, h, λ goes. absurd (refused-stops (past_row r) cell (length cells) goes))
by_place cells who r cell rooms (Some m) e h stands = rw e (visit-leaves cells who r cell rooms m e h stands)

-- what a scan's step leaves of a row
pub row-leaves : (cells : List Machine) (who : Who) (r : Request) (cell : ℕ) (rooms : List Room) →
    AllByRecursion (RoomStands (names_of cells)) rooms → RequestStands (names_of cells) r cell →
    Leaves cells r cell rooms (row_answer who r cell rooms cells)
row-leaves cells who r cell rooms h stands = by_place cells who r cell rooms (slice_get cells cell) refl h stands
