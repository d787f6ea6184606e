-- What a request at a cell does to the log of its pad: it grows by the operations that the answer reports, and by no
-- others.
use Rattle.std.proofs.Common.{◌≡◌, ◌⊎◌, inl, inr, ℕ, zero, suc, ◌+◌, Bool, true, false, not, cond, List, [], ◌∷◌, ◌++◌}
use Rattle.std.proofs.Common.{length, Option, Some, None, Result, Ok, Err, slice_get, bytes_eq, nat_le, ◌||◌, unwrap_or}
use Rattle.std.proofs.Common.{refl, sym, ap, ◌∙◌, subst, arith, append_assoc, eqb, eq-eqb}
use Rattle.std.proofs.lemmas.Bool.{and_from}
use Rattle.std.proofs.lemmas.List.{append-nil, length-append}
use Rattle.std.specs.List.{find}
use Rattle.op_log.specs.Made.{Made}
use Rattle.pad_model.specs.Checked.{is_checked}
use Rattle.pad_model.specs.Log.{same_name}
use Rattle.holdback.specs.Held.{is_covered, is_held, is_ready}
use Rattle.holdback.specs.declared.held.TheConstants.{MAX_HELD}
use Rattle.pad_model.specs.Operation.{characters_in, erased_by}
use Rattle.pad_model.specs.Visible.{hidden_by}
use Rattle.pad_model.specs.declared.op.Op.{Op}
use Rattle.pad_model.specs.declared.op.OpName.{OpName}
use Rattle.pad_model.specs.declared.op.Part.{Part}
use Rattle.pad_model.specs.declared.refusal.Refusal.{Refusal}
use Rattle.pad_model.specs.declared.refusal.Refusal.TheVariants.{Memory, NoPad, NoSession, NotPeer, PadClosed}
use Rattle.pad_model.specs.declared.who.Who.{Who}
use Rattle.pad_model.specs.declared.who.Who.TheVariants as who
use Rattle.pad_model.specs.declared.who.Version.{Version}
use Rattle.presence.specs.Presence.{Presence}
use Rattle.sessions.specs.declared.session.Room.{Room}
use Rattle.pad_core.specs.Audit.{stands_at}
use Rattle.pad_core.specs.Counts.{vector_of, next_name, op_of}
use Rattle.pad_core.specs.Delivered.{delivery_refusal}
use Rattle.pad_core.specs.Edits.{edit_refusal, edited, made_parts, told_hidden, told_name}
use Rattle.pad_core.specs.Notes.{noted}
use Rattle.pad_core.specs.Exchange.{Delivery, delivered, received, release, settled, steps, taken_out, unsettled}
use Rattle.pad_core.specs.Exchange.{settle}
use Rattle.pad_core.specs.Closing.{is_closed}
use Rattle.pad_core.specs.Machine.{Machine, Outcome, applied, author_act, author_refusal, author_step, peer_act, session_step, step}
use Rattle.pad_core.specs.Machine.{need_of, nobody_refusal}
use Rattle.pad_core.specs.declared.act.Act.{Act}
use Rattle.pad_core.specs.declared.act.Act.TheVariants as act
use Rattle.pad_core.specs.declared.act.Change.{Change}
use Rattle.pad_core.specs.declared.act.Change.TheVariants.{Insert, Delete}
use Rattle.pad_core.specs.declared.edit.Edited.{Edited}
use Rattle.pad_core.specs.declared.event.Claim.{Claim}
use Rattle.pad_core.specs.declared.event.Claim.TheVariants as event
use Rattle.pad_core.specs.declared.owned.Owned.{Owned}
use Rattle.pad_core.specs.declared.reply.PadReply.{PadReply}
use Rattle.pad_core.specs.declared.reply.PadReply.TheVariants as pad
use Rattle.pad_core.specs.declared.reply.Pushed.{Pushed}
use Rattle.pad_core.specs.declared.request.Request.{Request}
use Rattle.pad_core.specs.declared.request.Request.TheVariants as request
use Rattle.pad_core.proofs.Made.{edit_refused}
use Rattle.pad_core.proofs.Releases.{release_found, release_idle}
use Rattle.server_core.specs.Actor.{visit_on}
use Rattle.server_core.specs.AtCell.{CellAnswer, passed_on, created, create_at, request_at}
use Rattle.server_core.specs.Served.{Visited}
use Rattle.shared_pads.specs.Seats.{Answer, Stands, Tells, TellsOf, edit_by, edit_of, effect_of, taken_as}
use Rattle.shared_pads.specs.declared.seat.Effect.{Effect}
use Rattle.shared_pads.specs.declared.seat.Effect.TheVariants.{Makes, Takes, Keeps}

-- a log has grown by what an answer reports
abbrev pub GrownBy : Effect → Answer → List Op → List Op → Type 0
GrownBy effect answer old new = (more : List Op) × (new ≡ old ++ more) × TellsOf effect answer (length more)
    × Stands new (edit_by effect answer)

-- the same of the answer to a request
abbrev pub Grown : Request → Answer → List Op → List Op → Type 0
Grown request answer old new = (more : List Op) × (new ≡ old ++ more) × Tells request answer (length more)
    × Stands new (edit_of request answer)

kept : (answer : Answer) (log : List Op) → GrownBy Keeps answer log log
kept answer log = ([], sym (append-nil log), refl, tt)

refused : (effect : Effect) (e : Refusal) (log : List Op) → GrownBy effect (Err e) log log
refused Makes e log = ([], sym (append-nil log), refl, tt)
refused Takes e log = ([], sym (append-nil log), (λ other. refl), tt)
refused Keeps e log = kept (Err e) log

elsewhere : (effect : Effect) (log : List Op) → GrownBy effect (Ok None) log log
elsewhere Makes log = ([], sym (append-nil log), refl, tt)
elsewhere Takes log = ([], sym (append-nil log), refl, tt)
elsewhere Keeps log = kept (Ok None) log

either : {A : Type 0} (P : A → Type 0) (b : Bool) (x y : A) → P x → P y → P (cond b x y)
either P true x y p q = p
either P false x y p q = q

name_same : (name : OpName) → same_name name name ≡ true
name_same name = and_from _ _ (eq-eqb name.origin name.origin refl) (eq-eqb name.number name.number refl)

last_there : (log : List Op) (op : Op) → slice_get (log ++ op ∷ []) (length log) ≡ Some op
last_there [] op = refl
last_there (x ∷ log) op = last_there log op

-- the operation after a log makes the next revision
pub stands_last : (log : List Op) (op : Op) (rev : ℕ) → rev ≡ suc (length log) → stands_at op.name rev (log ++ op ∷ [])
    ≡ true
stands_last log op rev is = subst (λ n. stands_at op.name n (log ++ op ∷ []) ≡ true) (sym is)
    (rw (last_there log op) (name_same op.name))

-- what an edit or a note comes to
abbrev Written : List Op → Result PadReply Refusal × List Op → Type 0
Written log done =
    ((e : Refusal) × (done ≡ (Err e, log)))
    ⊎ ((op : Op) × (now : ℕ) × (now ≡ suc (length log)) × ((done ≡ (Ok (pad.Made now op.name), log ++ op ∷ []))
    ⊎ ((hidden : ℕ) × (done ≡ (Ok (pad.Changed now op.name hidden), log ++ op ∷ [])))))

written : (log : List Op) (done : Result PadReply Refusal × List Op) → Written log done →
    GrownBy Makes (passed_on done.0) log done.1
written log done (inl (e, is)) = subst (λ x. GrownBy Makes (passed_on x.0) log x.1) (sym is) (refused Makes e log)
written log done (inr (op, now, next, inl is)) = subst (λ x. GrownBy Makes (passed_on x.0) log x.1) (sym is)
    (op ∷ [], refl, refl, stands_last log op now next)
written log done (inr (op, now, next, inr (hidden, is))) = subst (λ x. GrownBy Makes (passed_on x.0) log x.1) (sym is)
    (op ∷ [], refl, refl, stands_last log op now next)

one_more : (log : List Op) (op : Op) → length (log ++ op ∷ []) ≡ suc (length log)
one_more [] op = refl
one_more (x ∷ log) op = ap suc (one_more log op)

-- what a change comes to
abbrev Changed : List Op → Result Edited Refusal × List Op → Type 0
Changed log done = ((e : Refusal) × (done ≡ (Err e, log))) ⊎ ((op : Op) × (edit : Edited) × (edit.name ≡ op.name)
    × (done ≡ (Ok edit, log ++ op ∷ [])))

changed : (own : ℕ) (author : List ℕ) (rev : ℕ) (changes : List Change) (log : List Op) →
    Changed log (edited own author rev changes log)
changed own author rev changes log = at (edit_refusal rev changes log) refl
  where
    at : (r : Option Refusal) → edit_refusal rev changes log ≡ r → Changed log (edited own author rev changes log)
    at (Some e) is = inl (e, edit_refused own rev author changes log e is)
    at None is =
        let op = op_of own author (made_parts own rev changes log) log in
        inr (
          op,
          record { name = next_name own log; hidden = hidden_by (erased_by op) (characters_in log) },
          refl,
          rw is refl,
        )

named : (log : List Op) (done : Result Edited Refusal × List Op) → Changed log done → Written log (told_name done)
named log done (inl (e, is)) = inl (e, ap told_name is)
named log done (inr (op, edit, name, is)) = inr (
  op,
  length (log ++ op ∷ []),
  one_more log op,
  inl (ap told_name is ∙ ap (λ n. (let r : Result PadReply Refusal
      × List Op = (Ok (pad.Made (length (log ++ op ∷ [])) n), log ++ op ∷ []) in r)) name),
)

hiding : (log : List Op) (done : Result Edited Refusal × List Op) → Changed log done → Written log (told_hidden done)
hiding log done (inl (e, is)) = inl (e, ap told_hidden is)
hiding log done (inr (op, edit, name, is)) =
    inr (
      op,
      length (log ++ op ∷ []),
      one_more log op,
      inr (
        edit.hidden,
        ap told_hidden is ∙ ap (λ n. (let r : Result PadReply Refusal
            × List Op = (Ok (pad.Changed (length (log ++ op ∷ [])) n edit.hidden), log ++ op ∷ []) in r)) name,
      ),
    )

note : (r : Option Refusal) (own : ℕ) (author : List ℕ) (parts : List Part) (log : List Op) →
    Written log (noted r own author parts log)
note (Some e) own author parts log = inl (e, refl)
note None own author parts log = inr (op_of own author parts log, length log + 1, omega arith, inl refl)

-- a release adds what it reports
abbrev Released : List Op → ℕ → Delivery → Type 0
Released log count d = (more : List Op) × (d.log ≡ log ++ more) × (d.released ≡ count + length more)

taken : (op : Op) (r : Option Refusal) (d : Delivery) → Released d.log d.released (taken_out op r d)
taken op None d = (op ∷ [], refl, refl)
taken op (Some e) d = ([], sym (append-nil d.log), omega arith)

one_step : (d : Delivery) → Released d.log d.released (release d)
one_step d = at (find (is_ready (vector_of d.log)) d.held) refl
  where
    at : (r : Option Op) → find (is_ready (vector_of d.log)) d.held ≡ r → Released d.log d.released (release d)
    at None e = subst (Released d.log d.released) (sym (release_idle d e)) ([], sym (append-nil d.log), omega arith)
    at (Some op) e = subst (Released d.log d.released) (sym (release_found d op (delivery_refusal op d.log) e refl))
        (taken op (delivery_refusal op d.log) d)

then : (log : List Op) (count : ℕ) (d next : Delivery) → Released log count d → Released d.log d.released next →
    Released log count next
then log count d next (more, grown, told) (after, on, counts) = (
  more ++ after,
  on ∙ ap (λ (l : List Op). l ++ after) grown ∙ append_assoc log more after,
  (let both = length-append more after in omega arith),
)

-- some steps of a release
pub all_steps : (n : ℕ) (d : Delivery) → Released d.log d.released (steps n d)
all_steps zero d = ([], sym (append-nil d.log), omega arith)
all_steps (suc n) d = then d.log d.released (steps n d) (release (steps n d)) (all_steps n d) (one_step (steps n d))

-- how many operations a push delivers before its release
abbrev taken_in : Result Pushed Refusal → ℕ
taken_in (Ok state) = taken_as state
taken_in (Err e) = 0

abbrev Received : List Op → Result Pushed Refusal × (List Op × List Op) → Type 0
Received log done = (more : List Op) × (done.1.0 ≡ log ++ more) × (length more ≡ taken_in done.0)

arrives : (op : Op) (r : Option Refusal) (log held : List Op) → Received log (delivered op r log held)
arrives op None log held = (op ∷ [], refl, refl)
arrives op (Some e) log held = ([], sym (append-nil log), refl)

pub receives : (own : ℕ) (op : Op) (log held : List Op) → Received log (received own op (log, held))
receives own op log held =
    either (Received log) (not (is_checked op)) _ _ ([], sym (append-nil log), refl)
    (either (Received log) (is_covered (vector_of log) op.name || is_held op.name held) _ _ (
      [],
      sym (append-nil log),
      refl,
    )
    (either (Received log) (eqb op.name.origin own) _ _ ([], sym (append-nil log), refl)
    (either (Received log) (is_ready (vector_of log) op) _ _ (arrives op (delivery_refusal op log) log held)
    (either (Received log) (nat_le MAX_HELD (length held)) _ _ ([], sym (append-nil log), refl)
    ([], sym (append-nil log), refl)))))

settles : (log : List Op) (done : Result Pushed Refusal × (List Op × List Op)) → Received log done →
    GrownBy Takes (passed_on (settled done).0) log (settled done).1.0
settles log (Err e, now) (more, grown, told) = (more, grown, (λ other. told), tt)
settles log (Ok state, now) (more, grown, told) = at (all_steps (length now.1) (unsettled now))
  where
    at : Released now.0 0 (settle (unsettled now)) → GrownBy Takes (passed_on (settled (Ok state, now)).0) log
        (settled (Ok state, now)).1.0
    at (after, on, counts) = (
      more ++ after,
      on ∙ ap (λ (l : List Op). l ++ after) grown ∙ append_assoc log more after,
      (let both = length-append more after in omega arith),
      tt,
    )

-- a push that stopped in its release
pub stops : (n own : ℕ) (op : Op) (log held : List Op) → (more : List Op)
    × ((steps n (unsettled (received own op (log, held)).1)).log ≡ log ++ more)
stops n own op log held = at (receives own op log held) (all_steps n (unsettled (received own op (log, held)).1))
  where
    at : Received log (received own op (log, held)) → Released (received own op (log, held)).1.0 0
        (steps n (unsettled (received own op (log, held)).1)) →
        (more : List Op) × ((steps n (unsettled (received own op (log, held)).1)).log ≡ log ++ more)
    at (more, grown, told) (after, on, counts) = (
      more ++ after,
      on ∙ ap (λ (l : List Op). l ++ after) grown
          ∙ append_assoc log more after,
    )

-- what an author's act does
author_grows : (owned : Owned) (name : List ℕ) (visit : ℕ) (act : Act) (m : Machine) →
    GrownBy (effect_of act) (passed_on (author_act owned name visit act m).0) m.log
    (author_act owned name visit act m).1.log
author_grows owned name visit (act.Insert rev at text) m =
    written m.log _ (named m.log _ (changed m.replica name rev (Insert at text ∷ []) m.log))
author_grows owned name visit (act.Delete rev at len) m =
    written m.log _ (hiding m.log _ (changed m.replica name rev (Delete at len ∷ []) m.log))
author_grows owned name visit (act.Edit rev changes) m =
    written m.log _ (hiding m.log _ (changed m.replica name rev changes m.log))
author_grows owned name visit (act.Comment rev at len text) m = written m.log _ (note _ m.replica name _ m.log)
author_grows owned name visit (act.Resolve resolved) m = written m.log _ (note _ m.replica name _ m.log)
author_grows owned name visit (act.Push op) m = refused Takes NotPeer m.log
author_grows owned name visit other m = kept (Ok None) m.log

-- what a peer's act does
peer_grows : (version : Version) (act : Act) (m : Machine) →
    GrownBy (effect_of act) (passed_on (peer_act version act m).0) m.log (peer_act version act m).1.log
peer_grows version (act.Push op) m =
    either (λ (come : Outcome). GrownBy Takes (passed_on (applied m.owned come m).0) m.log (applied m.owned come m).1.log)
    (is_closed m.owned) _ _ (refused Takes PadClosed m.log)
    (settles m.log (received m.replica op (m.log, m.held)) (receives m.replica op m.log m.held))
peer_grows version other m = refused (effect_of other) NoSession m.log

-- what a session does on a pad that has a name
session_grows : (owned : Owned) (who : Who) (visit : Option ℕ) (act : Act) (m : Machine) →
    GrownBy (effect_of act) (passed_on (session_step owned who visit act m).0) m.log
    (session_step owned who visit act m).1.log
session_grows owned who.Nobody visit act m = refused (effect_of act) (nobody_refusal (need_of act)) m.log
session_grows owned (who.Peer number version) visit act m = peer_grows version act m
session_grows owned (who.Author name) visit act m = at (author_refusal owned m.presence name visit act) refl
  where
    Goal : Result PadReply Refusal × Machine → Type 0
    Goal done = GrownBy (effect_of act) (passed_on done.0) m.log done.1.log

    at : (r : Option Refusal) → author_refusal owned m.presence name visit act ≡ r →
        Goal (author_step owned name visit act m)
    at (Some e) is = subst Goal (sym (the_refused e is)) (refused (effect_of act) e m.log)
      where
        the_refused : (e : Refusal) → author_refusal owned m.presence name visit act ≡ Some e →
            author_step owned name visit act m ≡ (Err e, m)
        the_refused e is = rw is refl
    at None is = subst Goal (sym (the_act is)) (author_grows owned name (unwrap_or visit 0) act m)
      where
        the_act : author_refusal owned m.presence name visit act ≡ None → author_step owned name visit act m
            ≡ author_act owned name (unwrap_or visit 0) act m
        the_act is = rw is refl

abbrev machine : Option Owned → ℕ → List Op → List Op → Presence → ℕ → Made → Machine
machine o replica log held p clock made = record {
  owned = o;
  replica = replica;
  log = log;
  held = held;
  presence = p;
  clock = clock;
  made = made;
}

pub step_grows : (name : List ℕ) (who : Who) (visit : Option ℕ) (act : Act) (o : Option Owned) (replica : ℕ)
    (log held : List Op) (p : Presence) (clock : ℕ) (made : Made) →
    GrownBy (effect_of act) (passed_on (step name who visit act (machine o replica log held p clock made)).0) log
    (step name who visit act (machine o replica log held p clock made)).1.log
step_grows name who visit act None replica log held p clock made = refused (effect_of act) NoPad log
step_grows name who visit act (Some owned) replica log held p clock made =
    either (λ (done : Result PadReply Refusal × Machine). GrownBy (effect_of act) (passed_on done.0) log done.1.log)
    (not (bytes_eq owned.name name)) (Ok pad.Elsewhere, machine (Some owned) replica log held p clock made) _
    (elsewhere (effect_of act) log) (session_grows owned who visit act (machine (Some owned) replica log held p clock made))

bare : (request : Request) (answer : Answer) (log : List Op) → Tells request answer 0 → edit_of request answer ≡ None →
    Grown request answer log log
bare request answer log tells none = ([], sym (append-nil log), tells, subst (Stands log) (sym none) tt)

create_grows : (name : List ℕ) (w : Who) (cell : ℕ) (rooms : List Room) (o : Option Owned) (replica : ℕ)
    (log held : List Op) (p : Presence) (clock : ℕ) (made : Made) →
    Grown (request.Create name) (create_at w name cell rooms (machine o replica log held p clock made)).0 log
    (create_at w name cell rooms (machine o replica log held p clock made)).2.log
create_grows name who.Nobody cell rooms o replica log held p clock made = bare (request.Create name) (Ok None) log refl refl
create_grows name (who.Peer number version) cell rooms o replica log held p clock made = bare (request.Create name)
    (Ok None) log refl refl
create_grows name (who.Author owner) cell rooms None replica log held p clock made = bare (request.Create name)
    (Ok None) log refl refl
create_grows name (who.Author owner) cell rooms (Some owned) replica log held p clock made =
    either (λ (done : Result Claim Refusal × Machine). Grown (request.Create name) (created name cell rooms done).0 log
    (created name cell rooms done).2.log) (bytes_eq owned.name name)
    (Ok event.Exists, machine (Some owned) replica log held p clock made) (Ok event.Other, machine (Some owned) replica log held p clock made)
    (bare (request.Create name) (Ok None) log refl refl) (bare (request.Create name) (Ok None) log refl refl)

request_grows : (w : Who) (request : Request) (cell : ℕ) (rooms : List Room) (m : Machine) →
    Grown request (request_at w request cell rooms m).0 m.log (request_at w request cell rooms m).2.log
request_grows w (request.On name act) cell rooms m = step_grows name w (visit_on name rooms) act m.owned m.replica m.log
    m.held m.presence m.clock m.made
request_grows w (request.Create name) cell rooms m =
    create_grows name w cell rooms m.owned m.replica m.log m.held m.presence m.clock m.made
request_grows w request.Pads cell rooms m = bare request.Pads (Ok None) m.log refl refl
request_grows w (request.People authors) cell rooms m = bare (request.People authors) (Ok None) m.log refl refl
request_grows w (request.Hello name token) cell rooms m = bare (request.Hello name token) (Ok None) m.log refl refl
request_grows w (request.Peer number token version) cell rooms m = bare (request.Peer number token version)
    (Ok None) m.log refl refl

unread : (request : Request) (log : List Op) → Grown request (Err Memory) log log
unread (request.On name act) log = refused (effect_of act) Memory log
unread (request.Create name) log = bare (request.Create name) (Ok None) log refl refl
unread request.Pads log = bare request.Pads (Ok None) log refl refl
unread (request.People authors) log = bare (request.People authors) (Ok None) log refl refl
unread (request.Hello name token) log = bare (request.Hello name token) (Ok None) log refl refl
unread (request.Peer number token version) log = bare (request.Peer number token version) (Ok None) log refl refl

-- a push that was out of memory in its release
cut : (name : List ℕ) (op : Op) (old new more : List Op) → new ≡ old ++ more → Grown (request.On name (act.Push op))
    (Err Memory) old new
cut name op old new more grown = (more, grown, (λ other. absurd (other refl)), tt)

-- the log has what was answered at a cell
pub visited_grows : (w : Who) (request : Request) (cell : ℕ) (rooms : List Room) (m : Machine) (answer : Answer)
    (new : List Room) (after : Machine) →
    Visited w request rooms m (request_at w request cell rooms m) answer new after →
    Grown request answer m.log after.log
visited_grows w asked cell rooms m answer new after (inl is) =
    subst (λ (x : CellAnswer). Grown asked x.0 m.log x.2.log) is (request_grows w asked cell rooms m)
visited_grows w asked cell rooms m answer new after (inr (told, same, inl (same_pad, why))) =
    subst (λ (a : Answer). Grown asked a m.log after.log) (sym told)
    (subst (λ (x : Machine). Grown asked (Err Memory) m.log x.log) (sym same_pad) (unread asked m.log))
visited_grows w asked cell rooms m answer new after
    (inr (told, same, inr (name, what, on, (peer, there, op, is, (ok, n, left, stuck), whole, unshut)))) =
    subst (λ (a : Answer). Grown asked a m.log after.log) (sym told)
    (subst (λ (r : Request). Grown r (Err Memory) m.log after.log) (sym (on ∙ ap (λ a. request.On name a) is))
    (at (stops n m.replica op m.log m.held)))
  where
    at : (more : List Op) × ((steps n (unsettled (received m.replica op (m.log, m.held)).1)).log ≡ m.log ++ more) →
        Grown (request.On name (act.Push op)) (Err Memory) m.log after.log
    at (more, grown) = cut name op m.log after.log more (ap (λ (x : List Op × List Op). x.0) left ∙ grown)
