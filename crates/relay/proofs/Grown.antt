-- A wire only grows: no step of a round takes back what was written, and no write of a step fails.
use Rattle.std.proofs.Common.{◌≡◌, ◌⊎◌, inl, inr, ℕ, zero, suc, ◌+◌, Bool, true, false, List, [], ◌∷◌, ◌++◌, Option}
use Rattle.std.proofs.Common.{None, Some, Result, Ok, Err, refl, sym, ap, ◌∙◌, subst, arith}
use Rattle.std.specs.Io.KnownBytes.{Appends}
use Rattle.std.proofs.KnownBytes.{Appends-nil, Appends-trans}
use Rattle.serde_json.specs.Data.{Data}
use Rattle.pad_model.specs.declared.op.Op.{Op}
use Rattle.pad_model.specs.OldWire.{seen_in_v1}
use Rattle.pad_model.specs.declared.refusal.Refusal.{Refusal}
use Rattle.pad_model.specs.declared.seen.Counted.{Counted}
use Rattle.pad_model.specs.declared.who.Version.{Version}
use Rattle.pad_core.specs.declared.reply.Pushed.{Pushed}
use Rattle.pad_core.specs.declared.request.Request.{Request}
use Rattle.wire_json.specs.declared.peer_answer.Told.{Told}
use Rattle.wire_json.specs.declared.peer_answer.Told.TheVariants.{Said, Refused}
use Rattle.wire_lines.specs.declared.fault.Fault.{Fault}
use Rattle.pad_core.specs.declared.act.Act.TheVariants as act
use Rattle.wire_json.specs.Peers.{push_request}
use Rattle.conversation.specs.Session.{Answer}
use Rattle.relay.specs.Counts.{with_unsaid}
use Rattle.wire_lines.specs.Causes.{with_more}
use Rattle.wire_lines.specs.Device.{one_more}
use Rattle.relay.specs.Round.{Begins, Stage, World, Goes, Reaches, Sends, SendsIf, Asks, Choice, with_pads, counted}
use Rattle.relay.specs.Round.{known_at, with_op}
use Rattle.relay.specs.Round.{is_readable, greeted, named, asked, pulled, taken, told_vector, lacked, told_push}
use Rattle.relay.specs.Round.{own_name, own_vector, own_ops, own_count}
use Rattle.relay.specs.Round.{Stage as stage}
use Rattle.relay.specs.Round.Reaches.{here, on}
use Rattle.relay.specs.Wire.{Wire, AreMade, HearsAs, Writes}

-- reads in two parts
with_more-add : (made counted count : ℕ) → with_more (with_more made counted) count ≡ with_more made (counted + count)
with_more-add made counted zero = let none : counted + 0 ≡ counted = omega arith in ap (with_more made) (sym none)
with_more-add made counted (suc count) =
    let one : counted + suc count ≡ suc (counted + count) = omega arith in
    ap one_more (with_more-add made counted count) ∙ ap (with_more made) (sym one)

-- a wire that grew
pub record Grows (old new : Wire) : Type 0 where
  pub text : List ℕ
  pub appends : Appends old.written new.written text
  pub writes : new.write_failures ≡ old.write_failures
  pub reads : old.stopped ≡ None → (new.stopped ≡ None) × (new.read_failures ≡ old.read_failures) × AreMade old new

pub made_none : (w : Wire) → AreMade w w
made_none w = (0, omega arith, refl)

pub made_then : (a b c : Wire) → AreMade a b → AreMade b c → AreMade a c
made_then a b c (n, spent, reads) (m, spent_then, reads_then) = (
  n + m,
  omega (arith, spent, spent_then),
  reads_then ∙ ap (λ r. with_more r m) reads ∙ with_more-add a.reads n m,
)

pub grows_none : (w : Wire) → Grows w w
grows_none w = record { text = []; appends = Appends-nil w.written; writes = refl; reads = λ none. (none, refl, made_none w) }

pub grows_then : (a b c : Wire) → Grows a b → Grows b c → Grows a c
grows_then a b c p q = record {
  text = p.text ++ q.text;
  appends = Appends-trans a.written b.written c.written p.text q.text p.appends q.appends;
  writes = q.writes ∙ p.writes;
  reads = λ none. let first = p.reads none in let more = q.reads first.0 in
      (more.0, more.1 ∙ first.1, made_then a b c first.2 more.2);
}

either : {A B : Type 0} (b : Bool) → Choice b A B → A ⊎ B
either true x = inl x
either false x = inr x

wrote_grows : (text : List ℕ) (a b : Wire) → Writes text a b → Grows a b
wrote_grows text a b (wrote, is) = record {
  text = text;
  appends = wrote;
  writes = ap (λ w. w.write_failures) is;
  reads = λ none. (
    ap (λ w. w.stopped) is ∙ none,
    ap (λ w. w.read_failures) is,
    (0, ap (λ w. w.spent) is ∙ omega arith, ap (λ w. w.reads) is),
  );
}

pub heard_grows : {A : Type 0} (form : Data → Option A) (said : Option (Told A)) (a b : Wire) → HearsAs form said a b →
    Grows a b
heard_grows form said a b (heard, (next, kept, is), told) = record {
  text = [];
  appends = subst (λ w. Appends a.written w []) (sym (ap (λ w. w.written) is)) (Appends-nil a.written);
  writes = ap (λ w. w.write_failures) is;
  reads = kept;
}

same_grows : (a b : Wire) → b ≡ a → Grows a b
same_grows a b is = subst (Grows a) (sym is) (grows_none a)

module _ {P : Type 0} where
  sent_grows : (d : Option Data) (u v : World P) → SendsIf d u v → Grows u.wire v.wire
  sent_grows None u v is = same_grows u.wire v.wire (ap (λ w. w.wire) is)
  sent_grows (Some d) u v sends = wrote_grows _ u.wire v.wire sends.0

  greeted_wire : (said : Option (Told Version)) (w : World P) → (greeted said w).1.wire ≡ w.wire
  greeted_wire None w = refl
  greeted_wire (Some Refused) w = refl
  greeted_wire (Some (Said version)) w = refl

  named_wire : (name : Result (Option (List ℕ)) Fault) (w : World P) → (named name w).1.wire ≡ w.wire
  named_wire (Ok None) w = refl
  named_wire (Ok (Some name)) w = refl
  named_wire (Err fault) w = refl

  asked_wire : (name : List ℕ) (turn : ℕ) (said : Result (Option (List Counted)) Fault) (w : World P) →
      (asked name turn said w).1.wire ≡ w.wire
  asked_wire name turn (Ok None) w = refl
  asked_wire name turn (Ok (Some seen)) w = by_version (is_readable w.version (seen_in_v1 seen)) refl
    where
      by_version : (b : Bool) → is_readable w.version (seen_in_v1 seen) ≡ b →
          (asked name turn (Ok (Some seen)) w).1.wire ≡ w.wire
      by_version true is = rw is refl
      by_version false is = rw is refl
  asked_wire name turn (Err fault) w = refl

  pulled_wire : (name : List ℕ) (turn : ℕ) (said : Option (Told (List Op))) (w : World P) →
      (pulled name turn said w).1.wire ≡ w.wire
  pulled_wire name turn None w = refl
  pulled_wire name turn (Some Refused) w = refl
  pulled_wire name turn (Some (Said ops)) w = refl

  taken_wire : (name : List ℕ) (turn : ℕ) (gained : Bool) (ops : List Op) (said : Result (Option ℕ) Fault)
      (w : World P) → (taken name turn gained ops said w).1.wire ≡ w.wire
  taken_wire name turn gained ops (Ok None) w = refl
  taken_wire name turn gained ops (Ok (Some count)) w = refl
  taken_wire name turn gained ops (Err fault) w = refl

  told_vector_wire : (name : List ℕ) (turn : ℕ) (said : Option (Told (List Counted))) (w : World P) →
      (told_vector name turn said w).1.wire ≡ w.wire
  told_vector_wire name turn None w = refl
  told_vector_wire name turn (Some Refused) w = refl
  told_vector_wire name turn (Some (Said seen)) w = refl

  lacked_wire : (name : List ℕ) (turn : ℕ) (seen : List Counted) (said : Result (Option (List Op)) Fault)
      (w : World P) → (lacked name turn seen said w).1.wire ≡ w.wire
  lacked_wire name turn seen (Ok None) w = refl
  lacked_wire name turn seen (Ok (Some ops)) w = refl
  lacked_wire name turn seen (Err fault) w = refl

  told_push_wire : (name : List ℕ) (turn : ℕ) (seen : List Counted) (due : ℕ) (gained whole all : Bool)
      (said : Option (Told Pushed)) (w : World P) →
      (told_push name turn seen due gained whole all said w).1.wire ≡ w.wire
  told_push_wire name turn seen due gained whole all None w = refl
  told_push_wire name turn seen due gained whole all (Some told) w = refl

  begins_grows : (name : List ℕ) (turn : ℕ) (known : Option (List Counted)) (u v : World P) (last : Stage) →
      Begins name turn known u last v → Grows u.wire v.wire
  begins_grows name turn None u v last (sends, is) = wrote_grows _ u.wire v.wire sends.0
  begins_grows name turn (Some seen) u v last (is, same) = same_grows u.wire v.wire (ap (λ w. w.wire) same)

  -- a step that leaves the wire of a world between as it is
  after : (u mid v : World P) (stage : Stage) (p : Stage × World P) → Grows u.wire mid.wire → p.1.wire ≡ mid.wire →
      (stage, v) ≡ p → Grows u.wire v.wire
  after u mid v stage p grows same is =
      subst (Grows u.wire) (sym (ap (λ q. q.1.wire) is ∙ same)) grows

module _ {P : Type 0} (calls : P → Request → Answer → P → Type 0) (names : P → ℕ → Result (Option (List ℕ)) Refusal →
    P → Type 0) where
  pads_grow : (u mid : World P) (new : World P) → mid ≡ new → new.wire ≡ u.wire → Grows u.wire mid.wire
  pads_grow u mid new is same = same_grows u.wire mid.wire (ap (λ w. w.wire) is ∙ same)

  -- so does each step
  goes_grows : (first : Stage) (u : World P) (last : Stage) (v : World P) → Goes calls names first u last v →
      Grows u.wire v.wire
  goes_grows (stage.Greeting own token) u last v (sends, is) = wrote_grows _ u.wire v.wire sends.0
  goes_grows stage.Greeted u last v (said, mid, heard, is) =
      after u mid v last _ (heard_grows _ said u.wire mid.wire heard.0) (greeted_wire said mid) is
  goes_grows stage.Next u last v h = next (either _ h)
    where
      next : ((last ≡ stage.Ended) × (v ≡ u))
          ⊎ ((name : Result (Option (List ℕ)) Refusal) × (mid : World P) × names u.pads u.cell name mid.pads
          × (mid ≡ with_pads mid.pads u) × ((last, v) ≡ named (own_name name) mid))
          → Grows u.wire v.wire
      next (inl (ended, is)) = same_grows u.wire v.wire (ap (λ w. w.wire) is)
      next (inr (name, mid, told, same, is)) = after u mid v last _ (pads_grow u mid _ same refl)
          (named_wire (own_name name) mid) is
  goes_grows (stage.Pulling name turn) u last v h = next (either _ h)
    where
      next : ((last ≡ stage.Pushing name 0) × (v ≡ u))
          ⊎ ((said : Answer) × (mid : World P) × Asks calls names name act.Vector said u mid
          × (last ≡ (asked name turn (own_vector said) mid).0) × SendsIf (asked name turn (own_vector said) mid).2
          (asked name turn (own_vector said) mid).1 v)
          → Grows u.wire v.wire
      next (inl (ended, is)) = same_grows u.wire v.wire (ap (λ w. w.wire) is)
      next (inr (said, mid, asks, is, sends)) =
          grows_then u.wire mid.wire v.wire (pads_grow u mid _ asks.1 refl)
          (subst (λ w. Grows w v.wire) (asked_wire name turn (own_vector said) mid)
          (sent_grows _ (asked name turn (own_vector said) mid).1 v sends))
  goes_grows (stage.Pulled name turn) u last v (said, mid, heard, is) =
      after u mid v last _ (heard_grows _ said u.wire mid.wire heard.0) (pulled_wire name turn said mid) is
  goes_grows (stage.Taking name turn gained []) u last v (ended, is) = same_grows u.wire v.wire (ap (λ w. w.wire) is)
  goes_grows (stage.Taking name turn gained (op ∷ ops)) u last v (said, mid, asks, is) =
      after u mid v last _ (pads_grow u mid _ asks.1 refl) (taken_wire name turn gained ops (own_count said) mid) is
  goes_grows (stage.Pushing name turn) u last v h = next (either _ h)
    where
      next : ((last ≡ stage.Over) × (v ≡ u)) ⊎ Begins name turn (known_at u.known u.cell) u last v →
          Grows u.wire v.wire
      next (inl (ended, is)) = same_grows u.wire v.wire (ap (λ w. w.wire) is)
      next (inr begins) = begins_grows name turn (known_at u.known u.cell) u v last begins
  goes_grows (stage.Counting name turn) u last v (said, mid, heard, is) =
      after u mid v last _ (heard_grows _ said u.wire mid.wire heard.0) (told_vector_wire name turn said mid) is
  goes_grows (stage.Lacking name turn seen) u last v (said, mid, asks, is) =
      after u mid v last _ (pads_grow u mid _ asks.1 refl) (lacked_wire name turn seen (own_ops said) mid) is
  goes_grows (stage.Giving name turn seen due []) u last v (ended, is) = same_grows u.wire v.wire (ap (λ w. w.wire) is)
  goes_grows (stage.Giving name turn seen due (op ∷ ops)) u last v h = next (either _ h)
    where
      next : (Sends (push_request name op) u v × (last ≡ stage.Giving name turn (with_op op seen) (due + 1) ops))
          ⊎ ((last ≡ stage.Hearing name turn seen due false false true) × (v ≡ counted with_unsaid u)) →
          Grows u.wire v.wire
      next (inl (sends, is)) = wrote_grows _ u.wire v.wire sends.0
      next (inr (ended, is)) = same_grows u.wire v.wire (ap (λ w. w.wire) is)
  goes_grows (stage.Hearing name turn seen zero gained whole all) u last v (ended, is) =
      same_grows u.wire v.wire (ap (λ w. w.wire) is)
  goes_grows (stage.Hearing name turn seen (suc due) gained whole all) u last v (said, mid, heard, is) =
      after u mid v last _ (heard_grows _ said u.wire mid.wire heard.0)
      (told_push_wire name turn seen due gained whole all said mid) is
  goes_grows stage.Over u last v (ended, is) = same_grows u.wire v.wire (ap (λ w. w.wire) is)
  goes_grows stage.Ended u last v h = absurd h
  goes_grows (stage.Failed fault) u last v h = absurd h

  -- and so do some steps
  pub reaches_grows : (first : Stage) (u : World P) (last : Stage) (v : World P) → Reaches calls names first u last v →
      Grows u.wire v.wire
  reaches_grows first u last v here = grows_none u.wire
  reaches_grows first u last w (on {mid = mid} {v = v} goes more) =
      grows_then u.wire v.wire w.wire (goes_grows first u mid v goes) (reaches_grows mid v last w more)
