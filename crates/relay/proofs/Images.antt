-- A round over some pads is a round over others, if each call and each look of the first is one of the second.
use Rattle.std.proofs.Common.{◌≡◌, ◌<◌, ℕ, zero, suc, ◌+◌, nat_le, Bool, true, false, List, [], ◌∷◌, Option, None, Some}
use Rattle.std.proofs.Common.{Result, Ok, Err, IfOk, IfErr, refl, sym, ap, ◌∙◌, subst}
use Rattle.std.proofs.lemmas.Bool.{leb-false}
use Rattle.serde_json.specs.Data.{Data}
use Rattle.pad_model.specs.OldWire.{op_in_v1, seen_in_v1}
use Rattle.pad_model.specs.declared.op.Op.{Op}
use Rattle.pad_model.specs.declared.refusal.Refusal.{Refusal}
use Rattle.pad_model.specs.declared.seen.Counted.{Counted}
use Rattle.pad_model.specs.declared.who.Version.{Version}
use Rattle.pad_core.specs.declared.act.Act.{Act}
use Rattle.pad_core.specs.declared.act.Act.TheVariants as act
use Rattle.pad_core.specs.declared.reply.Pushed.{Pushed}
use Rattle.pad_core.specs.declared.request.Request.{Request}
use Rattle.pad_core.specs.declared.request.Request.TheVariants as request
use Rattle.wire_json.specs.declared.peer_answer.Told.{Told}
use Rattle.wire_json.specs.declared.peer_answer.Told.TheVariants.{Said, Refused}
use Rattle.wire_lines.specs.declared.fault.Fault.{Fault}
use Rattle.conversation.specs.Session.{Answer}
use Rattle.wire_json.specs.Peers.{peer_request, vector_request, push_request}
use Rattle.relay.specs.Breaks.{Breaks}
use Rattle.relay.specs.Counts.{with_unsaid}
use Rattle.relay.specs.Kept.{Visited}
use Rattle.relay.specs.Round.{Begins, Stage, World, Goes, Reaches, Heard, Sends, SendsIf, Asks, Choice, counted, with_pads}
use Rattle.relay.specs.Round.{known_at, with_op}
use Rattle.relay.specs.Round.{is_readable, greeted, named, asked, pulled, taken, told_vector, lacked, told_push}
use Rattle.relay.specs.Round.{own_name, own_vector, own_ops, own_count}
use Rattle.relay.specs.Round.{Stage as stage}
use Rattle.relay.specs.Round.Reaches.{here, on}
use Rattle.relay.specs.Wire.{Wire}
use Rattle.relay.specs.declared.exchanged.Exchanged.{Exchanged}
use Rattle.relay.specs.declared.limits.TheConstants.{MAX_PULL_TURNS, MAX_PUSH_TURNS}

-- one of two, and what both leave
choose : {A B C D K : Type 0} (b : Bool) → (b ≡ true → A → C × K) → (b ≡ false → B → D × K) → Choice b A B →
    Choice b C D × K
choose true first second h = first refl h
choose false first second h = second refl h

module _ {P Q : Type 0} (f : P → Q) (Holds : P → Type 0) (cells : ℕ) (calls : P → Request → Answer → P → Type 0)
    (names : P → ℕ → Result (Option (List ℕ)) Refusal → P → Type 0) (calls_to : Q → Request → Answer → Q → Type 0)
    (names_to : Q → ℕ → Result (Option (List ℕ)) Refusal → Q → Type 0)
    (called : (old : P) (request : Request) (said : Answer) (new : P) → Holds old → calls old request said new →
    calls_to (f old) request said (f new) × Holds new)
    (looked : (old : P) (cell : ℕ) (said : Result (Option (List ℕ)) Refusal) (new : P) → Holds old → cell < cells →
    names old cell said new → names_to (f old) cell said (f new) × Holds new) where
  -- a world of the others
  abbrev pub image : World P → World Q
  image w = record { cells = w.cells; cell = w.cell; version = w.version; relayed = w.relayed; known = w.known; pads = f w.pads; wire = w.wire }

  -- what every step keeps
  abbrev pub Keeps : World P → Type 0
  Keeps w = Holds w.pads × (w.cells ≡ cells)

  abbrev step : Stage × World P → Stage × World Q
  step p = (p.0, image p.1)

  keeps_on : (u v : World P) → Keeps u → v.pads ≡ u.pads → v.cells ≡ u.cells → Keeps v
  keeps_on u v (holds, width) pads same = (subst Holds (sym pads) holds, same ∙ width)

  keeps_same : (u v : World P) → Keeps u → v ≡ u → Keeps v
  keeps_same u v k is = keeps_on u v k (ap (λ w. w.pads) is) (ap (λ w. w.cells) is)

  -- what follows a world, for both kinds of pads
  abbrev IsLike : Stage × World P → Stage × World Q → World P → Type 0
  IsLike p q w = (step p ≡ q) × (p.1.pads ≡ w.pads) × (p.1.cells ≡ w.cells)

  then_on : (mid v : World P) (last : Stage) (p : Stage × World P) (q : Stage × World Q) → Keeps mid →
      (last, v) ≡ p → IsLike p q mid → ((last, image v) ≡ q) × Keeps v
  then_on mid v last p q k is (same, pads, width) = (
    ap step is ∙ same,
    keeps_on mid v k (ap (λ x. x.1.pads) is ∙ pads) (ap (λ x. x.1.cells) is ∙ width),
  )

  greeted_like : (said : Option (Told Version)) (w : World P) → IsLike (greeted said w) (greeted said (image w)) w
  greeted_like None w = (refl, refl, refl)
  greeted_like (Some Refused) w = (refl, refl, refl)
  greeted_like (Some (Said version)) w = (refl, refl, refl)

  named_like : (name : Result (Option (List ℕ)) Fault) (w : World P) → IsLike (named name w) (named name (image w)) w
  named_like (Ok None) w = (refl, refl, refl)
  named_like (Ok (Some name)) w = (refl, refl, refl)
  named_like (Err fault) w = (refl, refl, refl)

  pulled_like : (name : List ℕ) (turn : ℕ) (said : Option (Told (List Op))) (w : World P) →
      IsLike (pulled name turn said w) (pulled name turn said (image w)) w
  pulled_like name turn None w = (refl, refl, refl)
  pulled_like name turn (Some Refused) w = (refl, refl, refl)
  pulled_like name turn (Some (Said ops)) w = (refl, refl, refl)

  taken_like : (name : List ℕ) (turn : ℕ) (gained : Bool) (ops : List Op) (said : Result (Option ℕ) Fault)
      (w : World P) → IsLike (taken name turn gained ops said w) (taken name turn gained ops said (image w)) w
  taken_like name turn gained ops (Ok None) w = (refl, refl, refl)
  taken_like name turn gained ops (Ok (Some count)) w = (refl, refl, refl)
  taken_like name turn gained ops (Err fault) w = (refl, refl, refl)

  told_vector_like : (name : List ℕ) (turn : ℕ) (said : Option (Told (List Counted))) (w : World P) →
      IsLike (told_vector name turn said w) (told_vector name turn said (image w)) w
  told_vector_like name turn None w = (refl, refl, refl)
  told_vector_like name turn (Some Refused) w = (refl, refl, refl)
  told_vector_like name turn (Some (Said seen)) w = (refl, refl, refl)

  lacked_like : (name : List ℕ) (turn : ℕ) (seen : List Counted) (said : Result (Option (List Op)) Fault)
      (w : World P) → IsLike (lacked name turn seen said w) (lacked name turn seen said (image w)) w
  lacked_like name turn seen (Ok None) w = (refl, refl, refl)
  lacked_like name turn seen (Ok (Some ops)) w = (refl, refl, refl)
  lacked_like name turn seen (Err fault) w = (refl, refl, refl)

  told_push_like : (name : List ℕ) (turn : ℕ) (seen : List Counted) (due : ℕ) (gained whole all : Bool)
      (said : Option (Told Pushed)) (w : World P) →
      IsLike (told_push name turn seen due gained whole all said w)
      (told_push name turn seen due gained whole all said (image w)) w
  told_push_like name turn seen due gained whole all None w = (refl, refl, refl)
  told_push_like name turn seen due gained whole all (Some told) w = (refl, refl, refl)

  -- the same for a vector that may be sent
  abbrev IsAskedLike : Stage × World P × Option Data → Stage × World Q × Option Data → World P → Type 0
  IsAskedLike p q w = (q ≡ (p.0, image p.1, p.2)) × (p.1.pads ≡ w.pads) × (p.1.cells ≡ w.cells)

  asked_like : (name : List ℕ) (turn : ℕ) (said : Result (Option (List Counted)) Fault) (w : World P) →
      IsAskedLike (asked name turn said w) (asked name turn said (image w)) w
  asked_like name turn (Ok None) w = (refl, refl, refl)
  asked_like name turn (Ok (Some seen)) w = by_version (is_readable w.version (seen_in_v1 seen)) refl
    where
      by_version : (b : Bool) → is_readable w.version (seen_in_v1 seen) ≡ b →
          IsAskedLike (asked name turn (Ok (Some seen)) w) (asked name turn (Ok (Some seen)) (image w)) w
      by_version true is = rw is (refl, refl, refl)
      by_version false is = rw is (refl, refl, refl)
  asked_like name turn (Err fault) w = (refl, refl, refl)

  sent : (d : Data) (u v : World P) → Keeps u → Sends d u v → Sends d (image u) (image v) × Keeps v
  sent d u v k (wrote, is) = ((wrote, ap image is), keeps_on u v k (ap (λ w. w.pads) is) (ap (λ w. w.cells) is))

  sent_if : (d : Option Data) (u v : World P) → Keeps u → SendsIf d u v → SendsIf d (image u) (image v) × Keeps v
  sent_if None u v k is = (ap image is, keeps_same u v k is)
  sent_if (Some d) u v k sends = sent d u v k sends

  heard_too : {A : Type 0} (form : Data → Option A) (said : Option (Told A)) (u mid : World P) → Keeps u →
      Heard form said u mid → Heard form said (image u) (image mid) × Keeps mid
  heard_too form said u mid k (hears, is) =
      ((hears, ap image is), keeps_on u mid k (ap (λ w. w.pads) is) (ap (λ w. w.cells) is))

  asks_too : (name : List ℕ) (what : Act) (said : Answer) (u mid : World P) → Keeps u →
      Asks calls names name what said u mid →
      Asks calls_to names_to name what said (image u) (image mid) × Keeps mid
  asks_too name what said u mid k (asks, is) =
      let so = called u.pads (request.On name what) said mid.pads k.0 asks in
      ((so.0, ap image is), (so.1, ap (λ w. w.cells) is ∙ k.1))

  begins_too : (name : List ℕ) (turn : ℕ) (known : Option (List Counted)) (u : World P) (last : Stage) (v : World P) →
      Keeps u → Begins name turn known u last v → Begins name turn known (image u) last (image v) × Keeps v
  begins_too name turn None u last v k (sends, is) =
      let so = sent (vector_request name) u v k sends in ((so.0, is), so.1)
  begins_too name turn (Some seen) u last v k (is, same) =
      ((is, ap image same), keeps_on u v k (ap (λ w. w.pads) same) (ap (λ w. w.cells) same))

  -- each step is one of the others
  goes_image : (first : Stage) (u : World P) (last : Stage) (v : World P) → Keeps u → Goes calls names first u last v →
      Goes calls_to names_to first (image u) last (image v) × Keeps v
  goes_image (stage.Greeting own token) u last v k (sends, is) =
      let so = sent (peer_request own token) u v k sends in ((so.0, is), so.1)
  goes_image stage.Greeted u last v k (said, mid, heard, is) =
      let h = heard_too _ said u mid k heard in
      let so = then_on mid v last _ _ h.1 is (greeted_like said mid) in ((said, image mid, h.0, so.0), so.1)
  goes_image stage.Next u last v k h = choose (nat_le u.cells u.cell) done next h
    where
      done : nat_le u.cells u.cell ≡ true → (last ≡ stage.Ended) × (v ≡ u) →
          ((last ≡ stage.Ended) × (image v ≡ image u)) × Keeps v
      done over (ended, is) = ((ended, ap image is), keeps_same u v k is)

      next : nat_le u.cells u.cell ≡ false
          → (name : Result (Option (List ℕ)) Refusal) × (mid : World P) × names u.pads u.cell name mid.pads
          × (mid ≡ with_pads mid.pads u) × ((last, v) ≡ named (own_name name) mid)
          → ((name : Result (Option (List ℕ)) Refusal) × (mid : World Q)
          × names_to (f u.pads) u.cell name mid.pads × (mid ≡ with_pads mid.pads (image u))
          × ((last, image v) ≡ named (own_name name) mid)) × Keeps v
      next more (name, mid, tells, same, is) =
          let low : u.cell < u.cells = leb-false u.cells u.cell more in
          let so = looked u.pads u.cell name mid.pads k.0 (subst (λ n. u.cell < n) k.1 low) tells in
          let there = then_on mid v last (named (own_name name) mid) (named (own_name name) (image mid))
          (so.1, ap (λ w. w.cells) same ∙ k.1) is (named_like (own_name name) mid) in
          ((name, image mid, so.0, ap image same, there.0), there.1)
  goes_image (stage.Pulling name turn) u last v k h = choose (nat_le MAX_PULL_TURNS turn) done next h
    where
      done : nat_le MAX_PULL_TURNS turn ≡ true → (last ≡ stage.Pushing name 0) × (v ≡ u) →
          ((last ≡ stage.Pushing name 0) × (image v ≡ image u)) × Keeps v
      done over (ended, is) = ((ended, ap image is), keeps_same u v k is)

      next : nat_le MAX_PULL_TURNS turn ≡ false
          → (said : Answer) × (mid : World P) × Asks calls names name act.Vector said u mid
          × (last ≡ (asked name turn (own_vector said) mid).0)
          × SendsIf (asked name turn (own_vector said) mid).2 (asked name turn (own_vector said) mid).1 v
          → ((said : Answer) × (mid : World Q) × Asks calls_to names_to name act.Vector said (image u) mid
          × (last ≡ (asked name turn (own_vector said) mid).0)
          × SendsIf (asked name turn (own_vector said) mid).2 (asked name turn (own_vector said) mid).1 (image v))
          × Keeps v
      next more (said, mid, asks, is, sends) =
          let a = asks_too name act.Vector said u mid k asks in
          let like = asked_like name turn (own_vector said) mid in
          let w = (asked name turn (own_vector said) mid).1 in
          let s = sent_if (asked name turn (own_vector said) mid).2 w v (keeps_on mid w a.1 like.1 like.2) sends in (
            (
              said,
              image mid,
              a.0,
              is ∙ sym (ap (λ q. q.0) like.0),
              subst (λ q. SendsIf q.2 q.1 (image v)) (sym like.0) s.0,
            ),
            s.1,
          )
  goes_image (stage.Pulled name turn) u last v k (said, mid, heard, is) =
      let h = heard_too _ said u mid k heard in
      let so = then_on mid v last _ _ h.1 is (pulled_like name turn said mid) in ((said, image mid, h.0, so.0), so.1)
  goes_image (stage.Taking name turn gained []) u last v k (ended, is) = ((ended, ap image is), keeps_same u v k is)
  goes_image (stage.Taking name turn gained (op ∷ ops)) u last v k (said, mid, asks, is) =
      let a = asks_too name (act.Push op) said u mid k asks in
      let so = then_on mid v last _ _ a.1 is (taken_like name turn gained ops (own_count said) mid) in
      ((said, image mid, a.0, so.0), so.1)
  goes_image (stage.Pushing name turn) u last v k h = choose (nat_le MAX_PUSH_TURNS turn) done next h
    where
      done : nat_le MAX_PUSH_TURNS turn ≡ true → (last ≡ stage.Over) × (v ≡ u) →
          ((last ≡ stage.Over) × (image v ≡ image u)) × Keeps v
      done over (ended, is) = ((ended, ap image is), keeps_same u v k is)

      next : nat_le MAX_PUSH_TURNS turn ≡ false → Begins name turn (known_at u.known u.cell) u last v →
          Begins name turn (known_at u.known u.cell) (image u) last (image v) × Keeps v
      next more begins = begins_too name turn (known_at u.known u.cell) u last v k begins
  goes_image (stage.Counting name turn) u last v k (said, mid, heard, is) =
      let h = heard_too _ said u mid k heard in
      let so = then_on mid v last _ _ h.1 is (told_vector_like name turn said mid) in
      ((said, image mid, h.0, so.0), so.1)
  goes_image (stage.Lacking name turn seen) u last v k (said, mid, asks, is) =
      let a = asks_too name _ said u mid k asks in
      let so = then_on mid v last _ _ a.1 is (lacked_like name turn seen (own_ops said) mid) in
      ((said, image mid, a.0, so.0), so.1)
  goes_image (stage.Giving name turn seen due []) u last v k (ended, is) = ((ended, ap image is), keeps_same u v k is)
  goes_image (stage.Giving name turn seen due (op ∷ ops)) u last v k h =
      choose (is_readable u.version (op_in_v1 op)) gives stops h
    where
      gives : is_readable u.version (op_in_v1 op) ≡ true
          → Sends (push_request name op) u v × (last ≡ stage.Giving name turn (with_op op seen) (due + 1) ops)
          → (Sends (push_request name op) (image u) (image v)
          × (last ≡ stage.Giving name turn (with_op op seen) (due + 1) ops)) × Keeps v
      gives can (sends, is) = let so = sent (push_request name op) u v k sends in ((so.0, is), so.1)

      stops : is_readable u.version (op_in_v1 op) ≡ false
          → (last ≡ stage.Hearing name turn seen due false false true) × (v ≡ counted with_unsaid u)
          → ((last ≡ stage.Hearing name turn seen due false false true) × (image v ≡ counted with_unsaid (image u)))
          × Keeps v
      stops cannot (ended, is) =
          ((ended, ap image is), keeps_on u v k (ap (λ w. w.pads) is) (ap (λ w. w.cells) is))
  goes_image (stage.Hearing name turn seen zero gained whole all) u last v k (ended, is) =
      ((ended, ap image is), keeps_on u v k (ap (λ w. w.pads) is) (ap (λ w. w.cells) is))
  goes_image (stage.Hearing name turn seen (suc due) gained whole all) u last v k (said, mid, heard, is) =
      let h = heard_too _ said u mid k heard in
      let so = then_on mid v last _ _ h.1 is (told_push_like name turn seen due gained whole all said mid) in
      ((said, image mid, h.0, so.0), so.1)
  goes_image stage.Over u last v k (ended, is) =
      ((ended, ap image is), keeps_on u v k (ap (λ w. w.pads) is) (ap (λ w. w.cells) is))
  goes_image stage.Ended u last v k h = absurd h
  goes_image (stage.Failed fault) u last v k h = absurd h

  -- so are some steps
  pub reaches_image : (first : Stage) (u : World P) (last : Stage) (v : World P) → Keeps u →
      Reaches calls names first u last v →
      Reaches calls_to names_to first (image u) last (image v) × Keeps v
  reaches_image first u last v k here = (here, k)
  reaches_image first u last w k (on {mid = mid} {v = v} goes more) =
      let one = goes_image first u mid v k goes in
      let rest = reaches_image mid v last w one.1 more in (on one.0 rest.0, rest.1)

  -- and a visit
  pub visited_image : (r : Result Exchanged Fault) (u : World P) (wire : Wire) (pads : P) → Keeps u →
      IfOk r (λ done. Visited calls names u done wire pads) →
      IfOk r (λ done. Visited calls_to names_to (image u) done wire (f pads) × Holds pads)
  visited_image (Ok done) u wire pads k (w, reaches, counted, known, wired, left) =
      let so = reaches_image _ u _ w k reaches in
      ((image w, so.0, counted, known, wired, ap f left), subst Holds left so.1.0)
  visited_image (Err fault) u wire pads k visited = tt

  -- and what broke off
  pub breaks_image : (r : Result Exchanged Fault) (first : Stage) (u : World P) (pads : P) (wire : Wire) → Keeps u →
      IfErr r (λ fault. Breaks calls names fault first u pads wire) →
      IfErr r (λ fault. Breaks calls_to names_to fault first (image u) (f pads) wire × Holds pads)
  breaks_image (Ok done) first u pads wire k breaks = tt
  breaks_image (Err fault) first u pads wire k (stage, w, text, rest, reaches, same, app, left, cause) =
      let so = reaches_image first u stage w k reaches in
      ((stage, image w, text, rest, so.0, ap f same, app, left, cause), subst Holds (sym same) so.1.0)
