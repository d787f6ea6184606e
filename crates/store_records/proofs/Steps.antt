-- The records of a request lead from the restarted pad before it to the restarted pad after it.
use Rattle.std.proofs.Common.{◌≡◌, inl, inr, ℕ, true, not, List, [], ◌∷◌}
use Rattle.std.proofs.Common.{Option, Some, None, Result, Ok, Err, bytes_eq, unwrap_or, refl, sym, ap, ◌∙◌, subst, fold}
use Rattle.pad_model.specs.Checked.{is_name}
use Rattle.op_log.specs.Made.{Made}
use Rattle.pad_model.specs.declared.op.Op.{Op}
use Rattle.pad_model.specs.declared.refusal.Refusal.{Refusal}
use Rattle.pad_model.specs.declared.refusal.Refusal.TheVariants.{Memory, NoPad}
use Rattle.pad_model.specs.declared.who.Who.{Who}
use Rattle.pad_model.specs.declared.who.Who.TheVariants as who
use Rattle.presence.specs.Presence.{Presence}
use Rattle.sessions.specs.declared.session.Room.{Room}
use Rattle.pad_core.specs.Machine.{Machine, author_act, author_refusal, author_step, nobody_refusal}
use Rattle.pad_core.specs.Machine.{session_step, step, need_of, new_owned}
use Rattle.pad_core.specs.Restart.{restarted, restore_claim}
use Rattle.pad_core.specs.declared.act.Act.{Act}
use Rattle.pad_core.specs.declared.act.Act.TheVariants as act
use Rattle.pad_core.specs.declared.event.Claim.{Claim}
use Rattle.pad_core.specs.declared.event.Claim.TheVariants as event
use Rattle.pad_core.specs.declared.owned.Owned.{Owned}
use Rattle.pad_core.specs.declared.reply.PadReply.{PadReply}
use Rattle.pad_core.specs.declared.reply.PadReply.TheVariants as pad
use Rattle.pad_core.specs.declared.request.Request.{Request}
use Rattle.pad_core.specs.declared.request.Request.TheVariants as request
use Rattle.pad_core.proofs.Admitted.{admitted_grant, admitted_hand}
use Rattle.server_core.specs.Actor.{visit_on}
use Rattle.server_core.specs.AtCell.{CellAnswer, passed_on, created, create_at, request_at}
use Rattle.server_core.specs.Rooms.{IsAsked}
use Rattle.server_core.specs.Served.{Visited}
use Rattle.sessions.specs.Session.{IsNamed}
use Rattle.store_records.specs.Laws.{Left, Life, now_at, visit_at}
use Rattle.store_records.specs.Laws.Life.{begins, asked, ticked, left, starts_again}
use Rattle.pad_core.specs.Times.{timed}
use Rattle.std.proofs.lemmas.List.Sums.{fold-append}
use Rattle.store_records.specs.Records.{Answer, act_records, claim_records, rebuilt, records_of, replay_all, replayed}
use Rattle.store_records.specs.Records.{unless_refused, unnamed}
use Rattle.store_records.specs.declared.kept_record.Record.{Record}
use Rattle.store_records.specs.declared.kept_record.Record.TheVariants as kept
use Rattle.store_records.proofs.Deliveries.{Given, bare, given_on, one_given, quiet}
use Rattle.store_records.proofs.Numbers.{bare_stays}
use Rattle.store_records.proofs.Acts.{author_leads, elsewhere, idle, peer_leads}
use Rattle.store_records.proofs.Leading.{Leads, either}

abbrev machine : Option Owned → ℕ → List Op → List Op → Presence → ℕ → Made → Machine
machine o replica log held p clock made = record {
  owned = o;
  replica = replica;
  log = log;
  held = held;
  presence = p;
  clock = clock;
  made = made;
}

session_leads : (owned : Owned) (w : Who) (visit : Option ℕ) (this : Act) (m : Machine) → m.owned ≡ Some owned →
    IsNamed w → Leads (act_records w this) m (passed_on (session_step owned w visit this m).0) (session_step owned w visit this m).1
session_leads owned who.Nobody visit this m is known = idle who.Nobody this (nobody_refusal (need_of this)) m
session_leads owned (who.Peer number version) visit this m is known = peer_leads number version this m
session_leads owned (who.Author name) visit this m is known = at (author_refusal owned m.presence name visit this) refl
  where
    Goal : Result PadReply Refusal × Machine → Type 0
    Goal done = Leads (act_records (who.Author name) this) m (passed_on done.0) done.1

    refused : (e : Refusal) → author_refusal owned m.presence name visit this ≡ Some e →
        author_step owned name visit this m ≡ (Err e, m)
    refused e q = rw q refl

    allowed : author_refusal owned m.presence name visit this ≡ None → author_step owned name visit this m
        ≡ author_act owned name (unwrap_or visit 0) this m
    allowed q = rw q refl

    at : (r : Option Refusal) → author_refusal owned m.presence name visit this ≡ r →
        Goal (author_step owned name visit this m)
    at (Some e) q = subst Goal (sym (refused e q)) (idle (who.Author name) this e m)
    at None q =
        subst Goal (sym (allowed q))
        (author_leads owned name (unwrap_or visit 0) this m is
        (λ grantee right grants. admitted_grant (Some owned) m.presence name visit grantee right
        (subst (λ a. author_refusal owned m.presence name visit a ≡ None) grants q))
        (λ author hands_it. admitted_hand (Some owned) m.presence name visit author
        (subst (λ a. author_refusal owned m.presence name visit a ≡ None) hands_it q))
        known)

step_leads : (name : List ℕ) (w : Who) (visit : Option ℕ) (this : Act) (o : Option Owned) (replica : ℕ)
    (log held : List Op) (p : Presence) (clock : ℕ) (made : Made) →
    IsNamed w → Leads (act_records w this) (machine o replica log held p clock made)
    (passed_on (step name w visit this (machine o replica log held p clock made)).0)
    (step name w visit this (machine o replica log held p clock made)).1
step_leads name w visit this None replica log held p clock made known =
    idle w this NoPad (machine None replica log held p clock made)
step_leads name w visit this (Some owned) replica log held p clock made known =
    either (λ (done : Result PadReply Refusal × Machine). Leads (act_records w this)
    (machine (Some owned) replica log held p clock made) (passed_on done.0) done.1) (not (bytes_eq owned.name name))
    (Ok pad.Elsewhere, machine (Some owned) replica log held p clock made) _
    (elsewhere w this (machine (Some owned) replica log held p clock made))
    (session_leads owned w visit this (machine (Some owned) replica log held p clock made) refl known)

claim_again : (replica limit : ℕ) (log : List Op) (given : Given) (made : Made) (name owner : List ℕ) → is_name name ≡ true → is_name owner
    ≡ true →
    replay_all (kept.Named name owner true ∷ []) (bare None replica limit log given made)
    ≡ Ok (bare (Some (new_owned name owner)) replica limit log (one_given (Some owner) given) made)
claim_again replica limit log given made name owner named owned =
    ap unless_refused claims_it
  where
    claims_it : restore_claim name owner true (bare None replica limit log given made)
        ≡ (
          Ok tt,
          bare (Some (new_owned name owner)) replica limit log
              (one_given (Some owner) given) made,
        )
    claims_it = rw (named, owned) refl

create_leads : (name : List ℕ) (w : Who) (cell : ℕ) (rooms : List Room) (o : Option Owned) (replica : ℕ)
    (log held : List Op) (p : Presence) (clock : ℕ) (made : Made) → is_name name ≡ true →
    ((owner : List ℕ) → w ≡ who.Author owner → is_name owner ≡ true) →
    (more : List Op) → replay_all (claim_records w name (create_at w name cell rooms (machine o replica log held p clock made)).0)
    (restarted (machine o replica log held p clock made))
    ≡ Ok (restarted (create_at w name cell rooms (machine o replica log held p clock made)).2)
create_leads name who.Nobody cell rooms o replica log held p clock made named owns more = refl
create_leads name (who.Peer number version) cell rooms o replica log held p clock made named owns more = refl
create_leads name (who.Author owner) cell rooms None replica log held p clock made named owns more =
    claim_again replica p.limit log (given_on p) made name owner named (owns owner refl)
create_leads name (who.Author owner) cell rooms (Some owned) replica log held p clock made named owns more =
    either (λ (done : Result Claim Refusal × Machine). replay_all
    (claim_records (who.Author owner) name (created name cell rooms done).0)
    (restarted (machine (Some owned) replica log held p clock made)) ≡ Ok (restarted (created name cell rooms done).2))
    (bytes_eq owned.name name)
    (Ok event.Exists, machine (Some owned) replica log held p clock made) (Ok event.Other, machine (Some owned) replica log held p clock made)
    refl refl

request_leads : (w : Who) (this : Request) (cell : ℕ) (rooms : List Room) (m : Machine) → IsAsked this → IsNamed w →
    Leads (records_of w this) m (request_at w this cell rooms m).0 (request_at w this cell rooms m).2
request_leads w (request.On name act_there) cell rooms m sound named =
    step_leads name w (visit_on name rooms) act_there m.owned m.replica m.log m.held m.presence m.clock m.made named
request_leads w (request.Create name) cell rooms m sound named =
    λ more grown d. create_leads name w cell rooms m.owned m.replica m.log m.held m.presence m.clock m.made sound
    (owner_named w named) more
  where
    owner_named : (w : Who) → IsNamed w → (owner : List ℕ) → w ≡ who.Author owner → is_name owner ≡ true
    owner_named w named owner is = subst IsNamed is named
request_leads w request.Pads cell rooms m sound named = λ more grown d. refl
request_leads w (request.People authors) cell rooms m sound named = λ more grown d. refl
request_leads w (request.Hello name token) cell rooms m sound named = λ more grown d. refl
request_leads w (request.Peer number token version) cell rooms m sound named = λ more grown d. refl

unread : (w : Who) (this : Request) (m : Machine) → Leads (records_of w this) m (Err Memory) m
unread w (request.On name act_there) m = idle w act_there Memory m
unread who.Nobody (request.Create name) m = λ more grown d. refl
unread (who.Author owner) (request.Create name) m = λ more grown d. refl
unread (who.Peer number version) (request.Create name) m = λ more grown d. refl
unread w request.Pads m = λ more grown d. refl
unread w (request.People authors) m = λ more grown d. refl
unread w (request.Hello name token) m = λ more grown d. refl
unread w (request.Peer number token version) m = λ more grown d. refl

-- a release that was cut short
cut : (w : Who) (name : List ℕ) (op : Op) (old after : Machine) →
    after ≡ record old {
      log = after.log;
      held = after.held;
      made = timed old.clock 0 old.log after.log old.made;
    } → Leads (records_of w (request.On name (act.Push op))) old
    (Err Memory) after
cut w name op old after is more grown d = quiet 0 old after more (ap (λ m. m.owned) is) (ap (λ m. m.replica) is)
    (ap (λ m. m.presence.limit) is) (ap (λ m. given_on m.presence) is) (ap (λ m. m.made) is) grown d

-- the records of a request
pub request_again : (w : Who) (this : Request) (cell : ℕ) (rooms : List Room) (old : Machine) (answer : Answer)
    (new : List Room) (after : Machine) (more : List Op) →
    Left w this cell rooms old answer new after more → replay_all (records_of w this (now_at old) (visit_at after) answer more) (restarted old)
    ≡ Ok (restarted after)
request_again w this cell rooms old answer new after more l = at l.visited more l.grown l.delivered
  where
    at : Visited w this rooms old (request_at w this cell rooms old) answer new after →
        Leads (records_of w this) old answer after
    at (inl is) = subst (λ (x : CellAnswer). Leads (records_of w this) old x.0 x.2) is
        (request_leads w this cell rooms old l.asked l.named)
    at (inr (told, stays, inl (same_pad, why))) =
        subst (λ (a : Answer). Leads (records_of w this) old a after) (sym told)
        (subst (λ (x : Machine). Leads (records_of w this) old (Err Memory) x) (sym same_pad) (unread w this old))
    at (inr (told, stays, inr (name, what, on, (peer, there, op, is, stopped, whole, unshut)))) =
        subst (λ (a : Answer). Leads (records_of w this) old a after) (sym told)
        (subst (λ (r : Request). Leads (records_of w r) old (Err Memory) after)
        (sym (on ∙ ap (λ a. request.On name a) is)) (cut w name op old after whole))

-- the end of a visit
pub leave_again : (name : List ℕ) (w : Who) (visit : ℕ) (m : Machine) →
    restarted (step name w (Some visit) act.Leave m).1 ≡ restarted m
leave_again name w visit m = at m.owned m.replica m.log m.held m.presence m.clock m.made
  where
    author_at : (owned : Owned) (author : List ℕ) (replica : ℕ) (log held : List Op) (p : Presence) (clock : ℕ) (made : Made) →
        restarted (author_step owned author (Some visit) act.Leave (machine (Some owned) replica log held p clock made)).1
        ≡ bare (Some owned) replica p.limit log (given_on p) made
    author_at owned author replica log held p clock made = case (author_refusal owned p author (Some visit) act.Leave) refl
      where
        case : (r : Option Refusal) → author_refusal owned p author (Some visit) act.Leave ≡ r →
            restarted (author_step owned author (Some visit) act.Leave (machine (Some owned) replica log held p clock made)).1
            ≡ bare (Some owned) replica p.limit log (given_on p) made
        case (Some e) is = rw is refl
        case None is = rw is refl

    session_at : (owned : Owned) (w : Who) (replica : ℕ) (log held : List Op) (p : Presence) (clock : ℕ) (made : Made) →
        restarted (session_step owned w (Some visit) act.Leave (machine (Some owned) replica log held p clock made)).1
        ≡ bare (Some owned) replica p.limit log (given_on p) made
    session_at owned who.Nobody replica log held p clock made = refl
    session_at owned (who.Peer number version) replica log held p clock made = refl
    session_at owned (who.Author author) replica log held p clock made =
        author_at owned author replica log held p clock made

    at : (o : Option Owned) (replica : ℕ) (log held : List Op) (p : Presence) (clock : ℕ) (made : Made) →
        restarted (step name w (Some visit) act.Leave (machine o replica log held p clock made)).1 ≡ bare o replica p.limit log (given_on p) made
    at None replica log held p clock made = refl
    at (Some owned) replica log held p clock made =
        either (λ (done : Result PadReply Refusal × Machine). restarted done.1 ≡ bare (Some owned) replica p.limit log (given_on p) made)
        (not (bytes_eq owned.name name)) (Ok pad.Elsewhere, machine (Some owned) replica log held p clock made) _ refl
        (session_at owned w replica log held p clock made)

-- a pad's lives
pub life_again : (replica present : ℕ) (records : List Record) (m : Machine) → Life replica present records m →
    rebuilt replica present records ≡ Ok (restarted m)
life_again replica present records m (begins same most) = refl
life_again replica present records m
    (asked same most before w request cell rooms old answer new after more life step_left) =
    fold-append replayed (Ok (unnamed replica present)) before (records_of w request (now_at old) (visit_at after) answer more)
    ∙ (ap (λ (r : Result Machine Refusal). fold replayed r (records_of w request (now_at old) (visit_at after) answer more))
    (life_again replica present before old life)
    ∙ request_again w request cell rooms old answer new after more step_left)
life_again replica present records m (ticked same most before clock old life) =
    life_again replica present before old life
life_again replica present records m (left same most before name w visit old life) =
    life_again replica present before old life ∙ ap Ok (sym (leave_again name w visit old))
life_again replica present records m (starts_again was had before old count number most again life leads) =
    leads ∙ ap Ok (bare_stays replica present records m leads)
