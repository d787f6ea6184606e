-- Steps of a server.
use Rattle.std.proofs.Common.{◌≡◌, inl, inr, ℕ, ◌<◌, ◌≤◌, List, [], ◌∷◌, ◌++◌, length, Option, Some, None, refl, sym}
use Rattle.std.proofs.Common.{ap, ◌∙◌, subst, append_assoc, append-nil}
use Rattle.std.specs.List.{AllByRecursion, Contains, slice_get, slice_set, slice_index_or}
use Rattle.std.proofs.lemmas.List.Elements.{All-contains, All-from_recursion}
use Rattle.std.proofs.lemmas.Option.{slice_get-get_or, slice_get_past}
use Rattle.pad_model.specs.declared.refusal.Refusal.TheVariants.{Memory}
use Rattle.pad_core.specs.Machine.{Machine}
use Rattle.server_core.specs.Actor.{Actor}
use Rattle.server_core.specs.Machine.{Server, server_event, server_step, run, with_actor}
use Rattle.server_core.specs.Served.{Acted, FoundMemory, FoundNone, GoesThrough, Ran, Served, StepFoundNone}
use Rattle.server_core.specs.Steps.{actor_step}
use Rattle.server_core.specs.declared.step.Event.{Event}
use Rattle.server_core.specs.declared.step.Event.TheVariants as event
use Rattle.server_core.specs.declared.step.Moved.{Moved}
use Rattle.server_core.specs.declared.step.Moved.TheVariants.{Idle, Refused}
use Rattle.server_core.specs.declared.step.Step.{Step}
use Rattle.server_core.specs.declared.step.Step.TheVariants.{Ask, Move, Look, Relay, End}
use Rattle.server_core.specs.declared.task.Task.{Task}
use Rattle.server_core.specs.declared.task.Task.TheVariants.{Resting, Scanning, Listing, Leaving}

-- what an actor does is what the server does
pub served : (old s : Server) (at : ℕ) (step : Step) (a d : Actor) (row : List Machine) (answer : Moved) (actor : Actor)
    (cells : List Machine) → s ≡ old → at < length s.actors →
    a ≡ slice_index_or s.actors at d → row ≡ s.cells →
    Acted step row a (actor_step s.replica s.accounts step a row) answer actor cells →
    Served old at step answer (record s { actors = slice_set s.actors at actor; cells = cells })
served old s at step a d row answer actor cells view low is_a is_row v =
    subst (λ k. Served k at step answer (record s { actors = slice_set s.actors at actor; cells = cells })) view
    (by_case (subst (λ k. Acted step k (slice_index_or s.actors at d)
    (actor_step s.replica s.accounts step (slice_index_or s.actors at d) k) answer actor cells) is_row
    (subst (λ k. Acted step row k (actor_step s.replica s.accounts step k row) answer actor cells) is_a v)))
  where
    by_case : Acted step s.cells (slice_index_or s.actors at d)
        (actor_step s.replica s.accounts step (slice_index_or s.actors at d) s.cells) answer actor cells →
        Served s at step answer (record s { actors = slice_set s.actors at actor; cells = cells })
    by_case (inl v) = inl (rw (slice_get-get_or s.actors at d low) (ap (λ done. with_actor at s done) v))
    by_case (inr n) = inr (rw (slice_get-get_or s.actors at d low) (actor, cells, n, refl))

-- a run advances by one event
pub Ran-push : (s now next : Server) (events : List Event) (answers : List Moved) (more : Event) (answer : Moved) →
    Ran s events answers now → GoesThrough now more answer next → Ran s (events ++ more ∷ []) (answers ++ answer ∷ []) next
Ran-push s now next [] [] more answer r a = (next, subst (λ k. GoesThrough k more answer next) r a, refl)
Ran-push s now next [] (x ∷ answers) more answer r a = absurd r
Ran-push s now next (e ∷ events) [] more answer r a = absurd r
Ran-push s now next (e ∷ events) (x ∷ answers) more answer r a =
    (r.0, r.1, Ran-push r.0 now next events answers more answer r.2 a)

none_told : (step : Step) (task : Task) (a : Actor) (cells : List Machine) (expected answer : Moved) (new : Actor)
    (after : List Machine) → FoundNone step task a cells expected answer new after → answer ≡ Refused Memory
none_told (Ask request) Resting a cells expected answer new after h = h.0
none_told (Ask request) (Scanning asked cell) a cells expected answer new after h = absurd h
none_told (Ask request) (Listing at found) a cells expected answer new after h = absurd h
none_told (Ask request) Leaving a cells expected answer new after h = absurd h
none_told Move Resting a cells expected answer new after h = absurd h
none_told Move (Scanning request cell) a cells expected answer new after h = h.0
none_told Move (Listing cell found) a cells expected answer new after h = h.0
none_told Move Leaving a cells expected answer new after h = absurd h
none_told (Look cell) Resting a cells expected answer new after h = h.0
none_told (Look cell) (Scanning asked at) a cells expected answer new after h = absurd h
none_told (Look cell) (Listing at found) a cells expected answer new after h = absurd h
none_told (Look cell) Leaving a cells expected answer new after h = absurd h
none_told (Relay number) task a cells expected answer new after h = absurd h
none_told End task a cells expected answer new after h = absurd h

-- a step that ran out of memory says so
pub told_memory : (s next : Server) (at : ℕ) (step : Step) (o : Option Actor) (answer : Moved) →
    StepFoundNone s at step o answer next → answer ≡ Refused Memory
told_memory s next at step None answer n = absurd n
told_memory s next at step (Some a) answer n =
    none_told step a.task a s.cells (actor_step s.replica s.accounts step a s.cells).0 answer n.0 n.1 n.2

found : (s next : Server) (at : ℕ) (step : Step) (answer : Moved) → Served s at step answer next →
    (answer ≡ Refused Memory → ⊥) → server_step at step s ≡ (answer, next)
found s next at step answer (inl h) no_memory = h
found s next at step answer (inr h) no_memory =
    absurd (no_memory (told_memory s next at step (slice_get s.actors at) answer h))

went : (s next : Server) (e : Event) (answer : Moved) → GoesThrough s e answer next → (answer ≡ Refused Memory → ⊥) →
    server_event e s ≡ (answer, next)
went s next (event.Step at step) answer h no_memory = found s next at step answer h no_memory
went s next (event.Accounts accounts) answer h no_memory = rw (h.0, h.1) refl

-- a run that never ran out of memory is the machine's
pub Ran-machine : (s new : Server) (events : List Event) (answers : List Moved) → Ran s events answers new →
    FoundMemory answers → run events s ≡ (answers, new)
Ran-machine s new [] [] r f = ap (λ k. ([], k)) (sym r)
Ran-machine s new [] (x ∷ answers) r f = absurd r
Ran-machine s new (e ∷ events) [] r f = absurd r
Ran-machine s new (e ∷ events) (x ∷ answers) r f =
    let one : server_event e s ≡ (x, r.0) = went s r.0 e x r.1 f.0 in
    let rest = Ran-machine r.0 new events answers r.2 f.1 in
    ap (λ k. (k.0 ∷ (run events k.1).0, (run events k.1).1)) one ∙ ap (λ k. (x ∷ k.0, k.1)) rest

-- a server handled some events, and others are to come; together they are these
abbrev pub RanSome : Server → List Event → List Event → List Moved → Server → Type 0
RanSome s events rest answers now = (past : List Event) × (past ++ rest ≡ events) × Ran s past answers now

-- it handles the next one
pub RanSome-push : (s now next : Server) (events rest left : List Event) (answers : List Moved) (more : Event)
    (answer : Moved) →
    RanSome s events rest answers now → rest ≡ more ∷ left → GoesThrough now more answer next →
    RanSome s events left (answers ++ answer ∷ []) next
RanSome-push s now next events rest left answers more answer r is a = (
  r.0 ++ more ∷ [],
  append_assoc r.0 (more ∷ []) left ∙ ap (λ l. r.0 ++ l) (sym is) ∙ r.1,
  Ran-push s now next r.0 answers more answer r.2 a,
)

-- none is to come
pub RanSome-ends : (s now : Server) (events rest : List Event) (answers : List Moved) →
    RanSome s events rest answers now → length rest ≡ 0 → Ran s events answers now
RanSome-ends s now events [] answers r none = subst (λ l. Ran s l answers now) (sym (append-nil r.0) ∙ r.1) r.2
RanSome-ends s now events (e ∷ rest) answers r none = absurd (cc)

-- what holds for each holds for one of them
pub each_has : {X : Type 0} (P : X → Type 0) (xs : List X) (x : X) → AllByRecursion P xs → Contains xs x → P x
each_has P xs x each there = All-contains P xs x (All-from_recursion P xs each) there
