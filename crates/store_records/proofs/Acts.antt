-- The records of an act lead from the restarted pad before it to the restarted pad after it.
use Rattle.std.proofs.Common.{◌≡◌, ◌⊎◌, inl, inr, ℕ, ◌+◌, Bool, true, false, List, [], ◌∷◌, ◌++◌}
use Rattle.std.proofs.Common.{length, map, Option, Some, None, Result, Ok, Err, bytes_eq, nat_le}
use Rattle.std.proofs.Common.{ltb, refl, sym, ap, ◌∙◌, subst, not, option_map}
use Rattle.std.specs.List.{last_or}
use Rattle.pad_model.specs.Checked.{is_name}
use Rattle.pad_model.specs.Visible.{visible}
use Rattle.pad_model.specs.declared.op.Op.{Op}
use Rattle.pad_model.specs.declared.refusal.Refusal.{Refusal}
use Rattle.pad_model.specs.declared.refusal.Refusal.TheVariants.{Crowded, NoVisit}
use Rattle.pad_model.specs.declared.who.Who.{Who}
use Rattle.pad_model.specs.declared.who.Who.TheVariants as who
use Rattle.pad_model.specs.declared.who.Version.{Version}
use Rattle.rights.specs.Rights.{Rights, can_have, grant, hand, is_full}
use Rattle.rights.specs.declared.grantee.Grantee.{Grantee}
use Rattle.rights.specs.declared.grantee.Grantee.TheVariants.{Author, Everyone}
use Rattle.rights.specs.declared.right.Right.{Right}
use Rattle.rights.specs.declared.right.Right.TheVariants.{Write}
use Rattle.op_log.specs.Made.{Made}
use Rattle.op_log.specs.Makers.{made_in}
use Rattle.presence.specs.Presence.{Presence, join_refusal, joined, rejoin_refusal, spent_refusal, was_given, with_caret}
use Rattle.presence.specs.Presence.{without}
use Rattle.pad_core.specs.Closing.{is_closed, set_closed}
use Rattle.pad_core.specs.Counts.{characters_at}
use Rattle.pad_core.specs.Delivered.{IsDelivered}
use Rattle.pad_core.specs.Edits.{before_place}
use Rattle.pad_core.specs.Grants.{grant as granted, hand as handed, told_done}
use Rattle.pad_core.specs.Machine.{Machine, Outcome, applied, author_act, now_of, on_delivery, peer_act}
use Rattle.pad_core.specs.Exchange.{push}
use Rattle.pad_core.specs.Presence.{join, put_caret, rejoin}
use Rattle.pad_core.specs.Restart.{restarted, restore_grant, restore_hand, visited}
use Rattle.pad_core.specs.declared.act.Act.{Act}
use Rattle.pad_core.specs.declared.act.Act.TheVariants as act
use Rattle.pad_core.specs.declared.owned.Owned.{Owned}
use Rattle.pad_core.specs.declared.reply.PadReply.{PadReply}
use Rattle.pad_core.specs.declared.reply.PadReply.TheVariants as pad
use Rattle.pad_core.proofs.Allowed.{unless}
use Rattle.server_core.specs.AtCell.{passed_on}
use Rattle.store_records.specs.Laws.{now_at, visit_at}
use Rattle.pad_core.specs.Times.{timed}
use Rattle.pad_core.proofs.Timed.{same_times}
use Rattle.store_records.specs.Records.{act_records, replay_all, unless_refused}
use Rattle.store_records.specs.declared.kept_record.Record.TheVariants as kept
use Rattle.store_records.proofs.Deliveries.{Given, bare, given_on, one_given, quiet}
use Rattle.store_records.proofs.Numbers.{nobody}
use Rattle.store_records.proofs.Leading.{Leads, either}
use Rattle.store_records.proofs.Introductions.{introduces, marks}

-- if a client can join, a further number is given
can_join : (p : Presence) → join_refusal p ≡ None → spent_refusal p ≡ None
can_join p e = (unless (nat_le p.limit (length p.present)) Crowded _ e).1

visit_again : (owned : Owned) (replica : ℕ) (log : List Op) (p : Presence) (made : Made) (name : List ℕ) →
    spent_refusal p ≡ None →
    replay_all (kept.Visited (Some name) ∷ []) (bare (Some owned) replica p.limit log (given_on p) made)
    ≡ Ok (bare (Some owned) replica p.limit log (one_given (Some name) (given_on p)) made)
visit_again owned replica log p made name e =
    ap (λ (d : Result (Unit {0}) Refusal × Presence). unless_refused (
      d.0,
      record { owned = Some owned; replica = replica; log = log; held = []; presence = d.1; clock = 0; made = made },
    )) counts
  where
    counts : visited (Some name) (nobody p.limit (given_on p))
        ≡ (Ok tt, nobody p.limit (one_given (Some name) (given_on p)))
    counts = rw e refl

joins : (owned : Owned) (name : List ℕ) (m : Machine) → m.owned ≡ Some owned →
    Leads (act_records (who.Author name) act.Join) m (passed_on (join (now_of m) name m.presence).0)
    (record m { presence = (join (now_of m) name m.presence).1 })
joins owned name m is = at (join_refusal m.presence) refl
  where
    Goal : Result PadReply Refusal × Presence → Type 0
    Goal done = Leads (act_records (who.Author name) act.Join) m (passed_on done.0) (record m { presence = done.1 })

    refused : (e : Refusal) → join_refusal m.presence ≡ Some e → join (now_of m) name m.presence ≡ (Err e, m.presence)
    refused e q = rw q refl

    allowed : join_refusal m.presence ≡ None → join (now_of m) name m.presence
        ≡ (Ok (pad.Joined (now_of m) (m.presence.given + 1)), joined name m.presence)
    allowed q = rw q refl

    at : (r : Option Refusal) → join_refusal m.presence ≡ r → Goal (join (now_of m) name m.presence)
    at (Some e) q = subst Goal (sym (refused e q)) (λ more grown d. ap Ok refl)
    at None q =
        subst Goal (sym (allowed q))
        (λ more grown d. subst (λ (o : Option Owned). replay_all (kept.Visited (Some name) ∷ [])
        (bare o m.replica m.presence.limit m.log (given_on m.presence) m.made)
        ≡ Ok (bare o m.replica m.presence.limit m.log (one_given (Some name) (given_on m.presence)) m.made)) (sym is)
        (visit_again owned m.replica m.log m.presence m.made name (can_join m.presence q)))

-- if an author can join instead of an old visit, a further number is given
can_rejoin : (old : ℕ) (name : List ℕ) (p : Presence) → rejoin_refusal old name p ≡ None → spent_refusal p ≡ None
can_rejoin old name p e = can_join (without old p) (unless (not (was_given old name p)) NoVisit _ e).1

rejoins : (owned : Owned) (name : List ℕ) (old : ℕ) (m : Machine) → m.owned ≡ Some owned →
    Leads (act_records (who.Author name) (act.Rejoin old)) m (passed_on (rejoin old name m.log m.made m.presence).0)
    (record m { presence = (rejoin old name m.log m.made m.presence).1 })
rejoins owned name old m is = at (rejoin_refusal old name m.presence) refl
  where
    Goal : Result PadReply Refusal × Presence → Type 0
    Goal done = Leads (act_records (who.Author name) (act.Rejoin old)) m (passed_on done.0) (record m { presence = done.1 })

    refused : (e : Refusal) → rejoin_refusal old name m.presence ≡ Some e →
        rejoin old name m.log m.made m.presence ≡ (Err e, m.presence)
    refused e q = rw q refl

    allowed : rejoin_refusal old name m.presence ≡ None → rejoin old name m.log m.made m.presence
        ≡ (
          Ok (pad.Rejoined (now_of m) (m.presence.given + 1) (length (made_in old m.log m.made.visits))
              (option_map (λ op. op.name) (last_or None (made_in old m.log m.made.visits)))),
          joined name (without old m.presence),
        )
    allowed q = rw q refl

    at : (r : Option Refusal) → rejoin_refusal old name m.presence ≡ r → Goal (rejoin old name m.log m.made m.presence)
    at (Some e) q = subst Goal (sym (refused e q)) (λ more grown d. ap Ok refl)
    at None q =
        subst Goal (sym (allowed q))
        (λ more grown d. subst (λ (o : Option Owned). replay_all (kept.Visited (Some name) ∷ [])
        (bare o m.replica m.presence.limit m.log (given_on m.presence) m.made)
        ≡ Ok (bare o m.replica m.presence.limit m.log (one_given (Some name) (given_on m.presence)) m.made)) (sym is)
        (visit_again owned m.replica m.log m.presence m.made name (can_rejoin old name m.presence q)))

grant_again : (owned : Owned) (replica limit : ℕ) (log : List Op) (given : Given) (made : Made)
    (grantee : Grantee) (right : Option Right) (book : Rights) → can_have grantee right ≡ true → grant owned.rights grantee right ≡ (Ok tt, book) →
    replay_all (kept.Granted grantee right ∷ []) (bare (Some owned) replica limit log given made)
    ≡ Ok (bare (Some (record owned { rights = book })) replica limit log given made)
grant_again owned replica limit log given made grantee right book can is =
    ap unless_refused grants_it
  where
    grants_it : restore_grant grantee right (bare (Some owned) replica limit log given made)
        ≡ (Ok tt, bare (Some (record owned { rights = book })) replica limit log given made)
    grants_it = rw can (ap (λ (d : Result (Unit {0}) Refusal × Rights). (let r : Result (Unit {0}) Refusal
        × Machine = (d.0, bare (Some (record owned { rights = d.1 })) replica limit log given made) in r)) is)

-- a grant is refused and changes nothing, or it takes effect
abbrev Grants : Rights → Result (Unit {0}) Refusal × Rights → Type 0
Grants old done = ((e : Refusal) × (done ≡ (Err e, old))) ⊎ ((new : Rights) × (done ≡ (Ok tt, new)))

grants : (book : Rights) (grantee : Grantee) (right : Option Right) → Grants book (grant book grantee right)
grants book Everyone right = inr (_, refl)
grants book (Author name) right =
    either (Grants book) (bytes_eq name book.owner) _ _ (inl (_, refl))
    (either (Grants book) (is_full book.grants name right) _ _ (inl (_, refl)) (inr (_, refl)))

gives : (owned : Owned) (name : List ℕ) (grantee : Grantee) (right : Option Right) (m : Machine) → m.owned ≡ Some owned →
    can_have grantee right ≡ true →
    Leads (act_records (who.Author name) (act.Grant grantee right)) m (passed_on (granted (now_of m) grantee right owned.rights).0)
    (record m { owned = Some (record owned { rights = (granted (now_of m) grantee right owned.rights).1 }) })
gives owned name grantee right m is can = at (grant owned.rights grantee right) refl (grants owned.rights grantee right)
  where
    Goal : Result (Unit {0}) Refusal × Rights → Type 0
    Goal done = Leads (act_records (who.Author name) (act.Grant grantee right)) m (passed_on (told_done (now_of m) done.0))
        (record m { owned = Some (record owned { rights = done.1 }) })

    at : (done : Result (Unit {0}) Refusal × Rights) → grant owned.rights grantee right ≡ done →
        Grants owned.rights done → Goal done
    at done q (inl (e, same)) = subst Goal (sym same)
        (λ more grown d. quiet 0 m (record m { owned = Some owned }) more (sym is) refl refl refl (same_times 0 m) grown d)
    at done q (inr (new, same)) =
        subst Goal (sym same)
        (λ more grown d. subst (λ (o : Option Owned). replay_all (kept.Granted grantee right ∷ [])
        (bare o m.replica m.presence.limit m.log (given_on m.presence) m.made)
        ≡ Ok (bare (Some (record owned { rights = new })) m.replica m.presence.limit m.log (given_on m.presence) m.made)) (sym is)
        (grant_again owned m.replica m.presence.limit m.log (given_on m.presence) m.made grantee right new can (q ∙ same)))

hand_again : (owned : Owned) (replica limit : ℕ) (log : List Op) (given : Given) (made : Made)
    (author : List ℕ) (book : Rights) →
    is_name author ≡ true → hand owned.rights author ≡ (Ok tt, book) →
    replay_all (kept.Handed author ∷ []) (bare (Some owned) replica limit log given made)
    ≡ Ok (bare (Some (record owned { rights = book })) replica limit log given made)
hand_again owned replica limit log given made author book named is =
    ap unless_refused hands_it
  where
    hands_it : restore_hand author (bare (Some owned) replica limit log given made)
        ≡ (Ok tt, bare (Some (record owned { rights = book })) replica limit log given made)
    hands_it = rw named (ap (λ (d : Result (Unit {0}) Refusal × Rights). (let r : Result (Unit {0}) Refusal
        × Machine = (d.0, bare (Some (record owned { rights = d.1 })) replica limit log given made) in r)) is)

hand_overs : (book : Rights) (author : List ℕ) → Grants book (hand book author)
hand_overs book author =
    either (Grants book) (bytes_eq author book.owner) _ _ (inr (_, refl))
    (either (Grants book) (is_full book.grants author (Some Write)) _ _ (inl (_, refl)) (inr (_, refl)))

hands : (owned : Owned) (asker author : List ℕ) (m : Machine) → m.owned ≡ Some owned → is_name author ≡ true →
    Leads (act_records (who.Author asker) (act.Hand author)) m (passed_on (handed (now_of m) asker author owned.rights).0)
    (record m { owned = Some (record owned { rights = (handed (now_of m) asker author owned.rights).1 }) })
hands owned asker author m is named =
    either (λ (done : Result PadReply Refusal × Rights). Leads (act_records (who.Author asker) (act.Hand author)) m (passed_on done.0)
    (record m { owned = Some (record owned { rights = done.1 }) })) (bytes_eq asker owned.rights.owner) _ _
    (at (hand owned.rights author) refl (hand_overs owned.rights author))
    (λ more grown d. quiet 0 m (record m { owned = Some owned }) more (sym is) refl refl refl (same_times 0 m) grown d)
  where
    Goal : Result (Unit {0}) Refusal × Rights → Type 0
    Goal done = Leads (act_records (who.Author asker) (act.Hand author)) m (passed_on (told_done (now_of m) done.0))
        (record m { owned = Some (record owned { rights = done.1 }) })

    at : (done : Result (Unit {0}) Refusal × Rights) → hand owned.rights author ≡ done →
        Grants owned.rights done → Goal done
    at done q (inl (e, same)) = subst Goal (sym same)
        (λ more grown d. quiet 0 m (record m { owned = Some owned }) more (sym is) refl refl refl (same_times 0 m) grown d)
    at done q (inr (new, same)) =
        subst Goal (sym same)
        (λ more grown d. subst (λ (o : Option Owned). replay_all (kept.Handed author ∷ [])
        (bare o m.replica m.presence.limit m.log (given_on m.presence) m.made)
        ≡ Ok (bare (Some (record owned { rights = new })) m.replica m.presence.limit m.log (given_on m.presence) m.made)) (sym is)
        (hand_again owned m.replica m.presence.limit m.log (given_on m.presence) m.made author new named (q ∙ same)))

closed_again : (owned : Owned) (closed : Bool) (m : Machine) → m.owned ≡ Some owned →
    replay_all (kept.Closed closed ∷ []) (bare m.owned m.replica m.presence.limit m.log (given_on m.presence) m.made)
    ≡ Ok (bare (Some (record owned { closed = closed })) m.replica m.presence.limit m.log (given_on m.presence) m.made)
closed_again owned closed m is =
    subst (λ (o : Option Owned). replay_all (kept.Closed closed ∷ [])
    (bare o m.replica m.presence.limit m.log (given_on m.presence) m.made)
    ≡ Ok (bare (Some (record owned { closed = closed })) m.replica m.presence.limit m.log (given_on m.presence) m.made))
    (sym is) refl

-- a pad that was closed, or opened again
closes : (owned : Owned) (name : List ℕ) (closed : Bool) (m : Machine) → m.owned ≡ Some owned →
    Leads (act_records (who.Author name) (act.SetClosed closed)) m
    (passed_on (set_closed (now_of m) closed owned.rights m.presence).0)
    (record m {
      owned = Some (record owned { closed = closed });
      presence = (set_closed (now_of m) closed owned.rights m.presence).1.1;
    })
closes owned name true m is more grown d = closed_again owned true m is
closes owned name false m is more grown d = closed_again owned false m is

-- the operations alone lead from a pad to another
abbrev Moves : Machine → Machine → Type 0
Moves old after = (more : List Op) → after.log ≡ old.log ++ more → IsDelivered after.log →
    replay_all (map (kept.Delivered (now_at old) (visit_at after)) more) (restarted old) ≡ Ok (restarted after)

same : (m : Machine) → Moves m m
same m more grown d = quiet 0 m m more refl refl refl refl (same_times 0 m) grown d

logs : (m : Machine) (visit : ℕ) (log : List Op) → Moves m (record m { log = log; made = timed m.clock visit m.log log m.made })
logs m visit log more grown d = quiet visit m (record m { log = log; made = timed m.clock visit m.log log m.made }) more refl
    refl refl refl refl grown d

present_alone : (m : Machine) (p : Presence) → p.limit ≡ m.presence.limit → given_on p ≡ given_on m.presence →
    Moves m (record m { presence = p })
present_alone m p limit given more grown d = quiet 0 m (record m { presence = p }) more refl refl limit given (same_times 0 m)
    grown d

carets : (rev at visit : ℕ) (log : List Op) (m : Machine) →
    Moves m (record m { presence = (put_caret rev at visit log m.presence).1 })
carets rev at visit log m = present_alone m (put_caret rev at visit log m.presence).1 (keeps (λ p. p.limit) refl)
    (keeps given_on refl)
  where
    keeps : {A : Type 0} (part : Presence → A) →
        part (record m.presence {
          present = with_caret (before_place (characters_at rev log) at) visit
              m.presence.present;
        }) ≡ part m.presence →
        part (put_caret rev at visit log m.presence).1 ≡ part m.presence
    keeps part same_part =
        either (λ (done : Result PadReply Refusal × Presence). part done.1 ≡ part m.presence)
        (ltb (length log) rev) _ _ refl
        (either (λ (done : Result PadReply Refusal × Presence). part done.1 ≡ part m.presence)
        (ltb (length (visible (characters_at rev log))) at) _ _ refl same_part)

-- an author's act
pub author_leads : (owned : Owned) (name : List ℕ) (visit : ℕ) (this : Act) (m : Machine) → m.owned ≡ Some owned →
    ((grantee : Grantee) (right : Option Right) → this ≡ act.Grant grantee right → can_have grantee right ≡ true) →
    ((author : List ℕ) → this ≡ act.Hand author → is_name author ≡ true) →
    is_name name ≡ true →
    Leads (act_records (who.Author name) this) m (passed_on (author_act owned name visit this m).0)
    (author_act owned name visit this m).1
author_leads owned name visit act.Join m is can named good = joins owned name m is
author_leads owned name visit (act.Rejoin old) m is can named good = rejoins owned name old m is
author_leads owned name visit act.Leave m is can named good =
    λ more grown d. quiet 0 m (author_act owned name visit act.Leave m).1 more refl refl refl refl (same_times 0 m)
    grown d
author_leads owned name visit (act.Insert rev at text) m is can named good = logs m visit _
author_leads owned name visit (act.Delete rev at len) m is can named good = logs m visit _
author_leads owned name visit (act.Edit rev changes) m is can named good = logs m visit _
author_leads owned name visit (act.Comment rev at len text) m is can named good = logs m visit _
author_leads owned name visit (act.Resolve resolved) m is can named good = logs m visit _
author_leads owned name visit (act.Caret rev at) m is can named good = carets rev at visit m.log m
author_leads owned name visit (act.Grant grantee right) m is can named good =
    gives owned name grantee right m is (can grantee right refl)
author_leads owned name visit (act.Hand author) m is can named good =
    hands owned name author m is (named author refl)
author_leads owned name visit (act.SetClosed closed) m is can named good = closes owned name closed m is
author_leads owned name visit (act.Mark rev text) m is can named good =
    marks owned name rev text m is good
author_leads owned name visit (act.Introduce display) m is can named good =
    introduces owned name display m is good
author_leads owned name visit other m is can named good = same m

-- a refused act leaves no records, and changes nothing
pub idle : (w : Who) (this : Act) (e : Refusal) (m : Machine) → Leads (act_records w this) m (Err e) m
idle who.Nobody act.Join e m = λ more grown d. refl
idle (who.Author name) act.Join e m = λ more grown d. refl
idle (who.Peer number version) act.Join e m = λ more grown d. refl
idle who.Nobody (act.Rejoin old) e m = λ more grown d. refl
idle (who.Author name) (act.Rejoin old) e m = λ more grown d. refl
idle (who.Peer number version) (act.Rejoin old) e m = λ more grown d. refl
idle who.Nobody (act.Mark rev text) e m = λ more grown d. refl
idle (who.Author name) (act.Mark rev text) e m = λ more grown d. refl
idle (who.Peer number version) (act.Mark rev text) e m = λ more grown d. refl
idle who.Nobody (act.Introduce display) e m = λ more grown d. refl
idle (who.Author name) (act.Introduce display) e m = λ more grown d. refl
idle (who.Peer number version) (act.Introduce display) e m = λ more grown d. refl
idle w other e m = same m

-- an act at a pad of another name
pub elsewhere : (w : Who) (this : Act) (m : Machine) → Leads (act_records w this) m (Ok None) m
elsewhere who.Nobody act.Join m = λ more grown d. refl
elsewhere (who.Author name) act.Join m = λ more grown d. refl
elsewhere (who.Peer number version) act.Join m = λ more grown d. refl
elsewhere who.Nobody (act.Rejoin old) m = λ more grown d. refl
elsewhere (who.Author name) (act.Rejoin old) m = λ more grown d. refl
elsewhere (who.Peer number version) (act.Rejoin old) m = λ more grown d. refl
elsewhere who.Nobody (act.Mark rev text) m = λ more grown d. refl
elsewhere (who.Author name) (act.Mark rev text) m = λ more grown d. refl
elsewhere (who.Peer number version) (act.Mark rev text) m = λ more grown d. refl
elsewhere who.Nobody (act.Introduce display) m = λ more grown d. refl
elsewhere (who.Author name) (act.Introduce display) m = λ more grown d. refl
elsewhere (who.Peer number version) (act.Introduce display) m = λ more grown d. refl
elsewhere w other m = same m

-- an operation that a peer pushes, which a closed pad refuses
pushes : (number : ℕ) (version : Version) (op : Op) (m : Machine) →
    Leads (act_records (who.Peer number version) (act.Push op)) m (passed_on (peer_act version (act.Push op) m).0)
    (peer_act version (act.Push op) m).1
pushes number version op m =
    either (λ (come : Outcome). Leads (act_records (who.Peer number version) (act.Push op)) m
    (passed_on (applied m.owned come m).0) (applied m.owned come m).1) (is_closed m.owned) _ _ (same m)
    (λ more grown d. quiet 0 m (on_delivery m (push m.replica op (m.log, m.held))).1 more refl refl refl refl refl
    grown d)

-- a peer's act
pub peer_leads : (number : ℕ) (version : Version) (this : Act) (m : Machine) →
    Leads (act_records (who.Peer number version) this) m (passed_on (peer_act version this m).0) (peer_act version this m).1
peer_leads number version act.Join m = λ more grown d. refl
peer_leads number version (act.Rejoin old) m = λ more grown d. refl
peer_leads number version (act.Mark rev text) m = λ more grown d. refl
peer_leads number version (act.Introduce display) m = λ more grown d. refl
peer_leads number version (act.Push op) m = pushes number version op m
peer_leads number version other m = same m
