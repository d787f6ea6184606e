-- The steps of a pull.
use Rattle.std.proofs.Common.{◌≡◌, inl, inr, ℕ, ◌+◌, ◌<◌, ◌≤◌, Bool, true, false, if◌then◌else◌, ◌||◌, nat_lt, List, []}
use Rattle.std.proofs.Common.{◌∷◌, length, Option, None, Some, Result, Ok, Err, IfOk, IfErr, refl, sym, ap, ◌∙◌, subst}
use Rattle.std.proofs.lemmas.Bool.{le-leb, lt-leb}
use Rattle.pad_model.specs.OldWire.{seen_in_v1}
use Rattle.pad_model.specs.declared.op.Op.{Op}
use Rattle.pad_model.specs.declared.refusal.Refusal.{Refusal}
use Rattle.pad_model.specs.declared.seen.Counted.{Counted}
use Rattle.pad_core.specs.declared.act.Act.{Act}
use Rattle.pad_core.specs.declared.act.Act.TheVariants as act
use Rattle.pad_core.specs.declared.exchange.TheConstants.{MAX_BATCH}
use Rattle.pad_core.specs.declared.request.Request.{Request}
use Rattle.pad_core.specs.declared.request.Request.TheVariants as request
use Rattle.serde_json.specs.Data.{Data}
use Rattle.wire_json.specs.Peers.{pull_answer, pull_request}
use Rattle.wire_json.specs.declared.peer_answer.Told.{Told}
use Rattle.wire_json.specs.declared.peer_answer.Told.TheVariants.{Said, Refused}
use Rattle.wire_lines.specs.declared.fault.Fault.{Fault}
use Rattle.wire_lines.specs.declared.fault.Fault.TheVariants.{PeerReply, Memory}
use Rattle.conversation.specs.Session.{Answer}
use Rattle.relay.specs.Breaks.{Breaks}
use Rattle.relay.specs.Counts.{with_unsaid, with_pull, with_pulled, with_refused}
use Rattle.relay.specs.Kept.{AsksFor, IsUnsent, Lacks, SendsPull, after_turn, counts, world}
use Rattle.relay.specs.Round.{Stage, World, Choice, Goes, Reaches, SendsIf, asked, pulled, taken, is_readable, line_of}
use Rattle.relay.specs.Round.{own_vector, own_count, counted}
use Rattle.relay.specs.Round.Stage.{Failed, Over, Pulled, Pulling, Pushing, Taking}
use Rattle.relay.specs.Round.Reaches.{here}
use Rattle.relay.specs.Wire.{Wire, HearsAs}
use Rattle.relay.specs.declared.limits.TheConstants.{MAX_OPS, MAX_PULL_TURNS}
use Rattle.relay.specs.declared.pull.PullTurn.{PullTurn}
use Rattle.relay.specs.declared.talk.Talk.{Talk}
use Rattle.relay.proofs.Steps.{at_ok, join, one, later, unsent, wrong, lacks}

pub chosen_false : (A B : Type 0) (b : Bool) → b ≡ false → B → Choice b A B
chosen_false A B true is x = absurd (cc)
chosen_false A B false is x = x

pub chosen_true : (A B : Type 0) (b : Bool) → b ≡ true → A → Choice b A B
chosen_true A B true is x = x
chosen_true A B false is x = absurd (cc)

-- whether any operation was delivered so far, with one more answer
abbrev pub is_gained : Bool → Option ℕ → Bool
is_gained gained None = gained
is_gained gained (Some count) = gained || nat_lt 0 count

-- the state that counts an operation that was delivered here, or refused
abbrev pub after_count : Option ℕ → Talk → Talk
after_count None talk = counts with_refused talk
after_count (Some count) talk = counts (with_pulled count) talk

-- a call was made, and the round reads its answer so
pub was_asked : {P A : Type 0} (calls : P → Request → Answer → P → Type 0) (name : List ℕ) (does : Act)
    (own : Answer → Result A Fault) (r : Result A Fault) (x : A) (old new : P)
    → r ≡ Ok x → AsksFor calls name does own r old new → (said : Answer) × calls old (request.On name does) said new
    × (own said ≡ Ok x)
was_asked calls name does own r x old new is (inl (said, call, told)) = (said, call, sym told ∙ is)
was_asked calls name does own r x old new is (inr (none, same)) = absurd (cc)

module _ {P : Type 0} (calls : P → Request → Answer → P → Type 0) (names : P → ℕ → Result (Option (List ℕ)) Refusal →
    P → Type 0) where
  -- the call of a pull turn, and what is sent then
  pull_goes : (name : List ℕ) (turn : ℕ) (talk : Talk) (old new : P) (wire : Wire)
      (r : Result (Option (List Counted)) Fault) (said : Answer) (stage : Stage) (w v : World P) (d : Option Data)
      → turn < MAX_PULL_TURNS → calls old (request.On name act.Vector) said new → own_vector said ≡ r
      → asked name turn r (world talk new wire) ≡ (stage, w, d) → SendsIf d w v → Goes calls names (Pulling name turn)
      (world talk old wire) stage v
  pull_goes name turn talk old new wire r said stage w v d low call told is sends =
      let so : asked name turn (own_vector said) (world talk new wire) ≡ (stage, w, d) =
      ap (λ x. asked name turn x (world talk new wire)) told ∙ is in
      chosen_false _ _ _ (lt-leb MAX_PULL_TURNS turn low)
      (said, world talk new wire, (call, refl), sym (ap (λ p. p.0) so), subst (λ p. SendsIf p.2 p.1 v) (sym so) sends)

  readable : (name : List ℕ) (turn : ℕ) (seen : List Counted) (w : World P) (b : Bool) →
      is_readable w.version (seen_in_v1 seen) ≡ b
      → asked name turn (Ok (Some seen)) w ≡ (if b then (Pulled name turn, w, Some (pull_request name seen MAX_OPS (Some MAX_BATCH)))
      else (Over, counted with_unsaid w, None))
  readable name turn seen w b is = rw is refl

  -- this server's vector was sent, or the peer cannot read it
  pub asked_sent : (name : List ℕ) (seen : List Counted) (r : Result (Option (List Counted)) Fault)
      (answer : Result Bool Fault) (talk new_talk : Talk) (old new : P) (wire new_wire : Wire)
      → r ≡ Ok (Some seen) → AsksFor calls name act.Vector own_vector r old new
      → IfOk answer (λ sent. SendsPull name seen sent talk wire new_talk new_wire)
      → IfOk answer (λ sent. (turn : ℕ) → turn < MAX_PULL_TURNS → Reaches calls names (Pulling name turn)
      (world talk old wire) (if sent then Pulled name turn else Over) (world new_talk new new_wire))
  asked_sent name seen r (Ok true) talk new_talk old new wire new_wire is asks (can, wrote, same) = λ turn low.
      let (said, call, told) = was_asked calls name act.Vector own_vector r (Some seen) old new is asks in
      subst (λ t. Reaches calls names (Pulling name turn) (world talk old wire) (Pulled name turn)
      (world t new new_wire)) (sym same)
      (one calls names _ _ _ _ (pull_goes name turn talk old new wire (Ok (Some seen)) said (Pulled name turn)
      (world talk new wire) (world talk new new_wire) (Some (pull_request name seen MAX_OPS (Some MAX_BATCH))) low call told
      (readable name turn seen (world talk new wire) true can) (wrote, refl)))
  asked_sent name seen r (Ok false) talk new_talk old new wire new_wire is asks (can, same_wire, same) = λ turn low.
      let (said, call, told) = was_asked calls name act.Vector own_vector r (Some seen) old new is asks in
      subst (λ t. Reaches calls names (Pulling name turn) (world talk old wire) Over (world t new new_wire)) (sym same)
      (subst (λ x. Reaches calls names (Pulling name turn) (world talk old wire) Over
      (world (counts with_unsaid talk) new x)) (sym same_wire)
      (one calls names _ _ _ _ (pull_goes name turn talk old new wire (Ok (Some seen)) said Over
      (world (counts with_unsaid talk) new wire) (world (counts with_unsaid talk) new wire) None low call told
      (readable name turn seen (world talk new wire) false can) refl)))
  asked_sent name seen r (Err fault) talk new_talk old new wire new_wire is asks so = tt

  -- it was not sent, or in part
  pub asked_unsent : (name : List ℕ) (seen : List Counted) (r : Result (Option (List Counted)) Fault)
      (answer : Result Bool Fault) (talk new_talk : Talk) (old new : P) (wire new_wire : Wire)
      → r ≡ Ok (Some seen) → AsksFor calls name act.Vector own_vector r old new
      → IfErr answer (λ fault. (is_readable talk.version (seen_in_v1 seen) ≡ true) × (new_talk ≡ talk)
      × IsUnsent fault (line_of (pull_request name seen MAX_OPS (Some MAX_BATCH))) wire new_wire)
      → IfErr answer (λ fault. (turn : ℕ) → turn < MAX_PULL_TURNS → Breaks calls names fault (Pulling name turn)
      (world talk old wire) new new_wire)
  asked_unsent name seen r (Ok sent) talk new_talk old new wire new_wire is asks so = tt
  asked_unsent name seen r (Err fault) talk new_talk old new wire new_wire is asks (can, same, un) = λ turn low.
      let (said, call, told) = was_asked calls name act.Vector own_vector r (Some seen) old new is asks in
      unsent calls names fault (pull_request name seen MAX_OPS (Some MAX_BATCH)) (Pulling name turn) (Pulled name turn)
      (world talk old wire) (world talk new wire) new_wire refl
      (λ v sends. pull_goes name turn talk old new wire (Ok (Some seen)) said (Pulled name turn) (world talk new wire) v
      (Some (pull_request name seen MAX_OPS (Some MAX_BATCH))) low call told
      (readable name turn seen (world talk new wire) true can) sends) un

  -- this server refuses
  pub asked_over : (name : List ℕ) (r : Result (Option (List Counted)) Fault) (talk : Talk) (old new : P) (wire : Wire)
      → r ≡ Ok None → AsksFor calls name act.Vector own_vector r old new → (turn : ℕ) → turn < MAX_PULL_TURNS
      → Reaches calls names (Pulling name turn) (world talk old wire) Over (world talk new wire)
  asked_over name r talk old new wire is asks turn low =
      let (said, call, told) = was_asked calls name act.Vector own_vector r None old new is asks in
      one calls names _ _ _ _ (pull_goes name turn talk old new wire (Ok None) said Over (world talk new wire)
      (world talk new wire) None low call told refl refl)

  -- a call to this server that runs out of memory breaks a round off
  pub no_memory : {A : Type 0} (name : List ℕ) (does : Act) (own : Answer → Result A Fault) (r : Result A Fault)
      (fault : Fault) (first : Stage) (talk : Talk) (old new : P) (wire : Wire)
      → r ≡ Err fault → fault ≡ Memory → AsksFor calls name does own r old new
      → ((said : Answer) → calls old (request.On name does) said new → own said ≡ Err fault →
      Goes calls names first (world talk old wire) (Failed fault) (world talk new wire))
      → Lacks calls names fault first (world talk old wire) new
  no_memory name does own r fault first talk old new wire is memory (inl (said, call, told)) goes =
      (memory, Failed fault, world talk new wire, one calls names _ _ _ _ (goes said call (sym told ∙ is)), refl, refl)
  no_memory name does own r fault first talk old new wire is memory (inr (none, same)) goes =
      (memory, first, world talk old wire, here, same, refl)

  -- out of memory for a vector
  pub asked_none : (name : List ℕ) (r : Result (Option (List Counted)) Fault) (fault : Fault) (talk : Talk)
      (old new : P) (wire : Wire)
      → r ≡ Err fault → fault ≡ Memory → AsksFor calls name act.Vector own_vector r old new → (turn : ℕ) →
      turn < MAX_PULL_TURNS
      → Breaks calls names fault (Pulling name turn) (world talk old wire) new wire
  asked_none name r fault talk old new wire is memory asks turn low =
      lacks calls names fault (Pulling name turn) (world talk old wire) new
      (no_memory name act.Vector own_vector r fault (Pulling name turn) talk old new wire is memory asks
      (λ said call told. pull_goes name turn talk old new wire (Err fault) said (Failed fault) (world talk new wire)
      (world talk new wire) None low call told refl refl))

  -- one more operation was delivered here, or refused
  taken_one : (name : List ℕ) (others : List Op) (gained : Bool) (count : Option ℕ) (talk : Talk) (new : P) (turn : ℕ)
      (wire : Wire)
      → taken name turn gained others (Ok count) (world talk new wire)
      ≡ (Taking name turn (is_gained gained count) others, world (after_count count talk) new wire)
  taken_one name others gained None talk new turn wire = refl
  taken_one name others gained (Some count) talk new turn wire = refl

  takes : (name : List ℕ) (op : Op) (ops others : List Op) (gained : Bool) (r : Result (Option ℕ) Fault)
      (count : Option ℕ) (talk : Talk) (old new : P)
      → ops ≡ op ∷ others → r ≡ Ok count → AsksFor calls name (act.Push op) own_count r old new
      → (turn : ℕ) (wire : Wire) → Reaches calls names (Taking name turn gained ops) (world talk old wire)
      (Taking name turn (is_gained gained count) others) (world (after_count count talk) new wire)
  takes name op ops others gained r count talk old new items is asks turn wire =
      let (said, call, told) = was_asked calls name (act.Push op) own_count r count old new is asks in
      subst (λ l. Reaches calls names (Taking name turn gained l) (world talk old wire)
      (Taking name turn (is_gained gained count) others) (world (after_count count talk) new wire)) (sym items)
      (one calls names (Taking name turn gained (op ∷ others)) _ _ _ (
        said,
        world talk new wire,
        (call, refl),
        sym (ap (λ x. taken name turn gained others x (world talk new wire)) told
            ∙ taken_one name others gained count talk new turn wire),
      ))

  -- and the steps before
  pub takes_more : (name : List ℕ) (op : Op) (all ops others : List Op) (gained then_gained : Bool)
      (r : Result (Option ℕ) Fault) (count : Option ℕ) (first talk next : Talk) (start old new : P)
      → ops ≡ op ∷ others → r ≡ Ok count → AsksFor calls name (act.Push op) own_count r old new → is_gained gained count
      ≡ then_gained → next ≡ after_count count talk
      → ((turn : ℕ) (wire : Wire) → Reaches calls names (Taking name turn false all) (world first start wire)
      (Taking name turn gained ops) (world talk old wire))
      → (turn : ℕ) (wire : Wire) → Reaches calls names (Taking name turn false all) (world first start wire)
      (Taking name turn then_gained others) (world next new wire)
  takes_more name op all ops others gained then_gained r count first talk next start old new items is asks so same
      before turn wire =
      subst (λ b. Reaches calls names (Taking name turn false all) (world first start wire) (Taking name turn b others)
      (world next new wire)) so
      (subst (λ t. Reaches calls names (Taking name turn false all) (world first start wire)
      (Taking name turn (is_gained gained count) others) (world t new wire)) (sym same)
      (join calls names _ _ _ _ _ _ (before turn wire)
      (takes name op ops others gained r count talk old new items is asks turn wire)))

  -- out of memory for one
  pub takes_none : (name : List ℕ) (op : Op) (all ops others : List Op) (gained : Bool) (r : Result (Option ℕ) Fault)
      (fault : Fault) (first talk : Talk) (start old new : P)
      → ops ≡ op ∷ others → r ≡ Err fault → fault ≡ Memory → AsksFor calls name (act.Push op) own_count r old new
      → ((turn : ℕ) (wire : Wire) → Reaches calls names (Taking name turn false all) (world first start wire)
      (Taking name turn gained ops) (world talk old wire))
      → (turn : ℕ) (wire : Wire) → Lacks calls names fault (Taking name turn false all) (world first start wire) new
  takes_none name op all ops others gained r fault first talk start old new items is memory asks before turn wire =
      let more = no_memory name (act.Push op) own_count r fault (Taking name turn gained (op ∷ others)) talk old new
      wire is memory asks
      (λ said call told. (
        said,
        world talk new wire,
        (call, refl),
        sym (ap (λ x. taken name turn gained others x (world talk new wire)) told),
      )) in (
        more.0,
        more.1,
        more.2,
        join calls names _ _ _ _ _ _ (before turn wire)
            (subst (λ l. Reaches calls names (Taking name turn gained l) (world talk old wire) more.1 more.2)
            (sym items) more.3),
        more.4,
        more.5,
      )

  -- no operation is left
  pub takes_end : (name : List ℕ) (all ops : List Op) (gained : Bool) (first talk : Talk) (start old : P) → length ops
      ≡ 0
      → ((turn : ℕ) (wire : Wire) → Reaches calls names (Taking name turn false all) (world first start wire)
      (Taking name turn gained ops) (world talk old wire))
      → (turn : ℕ) (wire : Wire) → Reaches calls names (Taking name turn false all) (world first start wire)
      (Taking name turn gained []) (world talk old wire)
  takes_end name all [] gained first talk start old none before turn wire = before turn wire
  takes_end name all (op ∷ ops) gained first talk start old none before turn wire = absurd (cc)

  -- the peer refuses the pull
  pub pulled_over : (name : List ℕ) (turn : ℕ) (r : Option (Told (List Op))) (talk : Talk) (pads : P)
      (wire new : Wire) → r ≡ Some Refused → HearsAs pull_answer r wire new
      → Reaches calls names (Pulled name turn) (world talk pads wire) Over (world talk pads new)
  pulled_over name turn r talk pads wire new is heard =
      one calls names (Pulled name turn) _ _ _ (
        r,
        world talk pads new,
        (heard, refl),
        sym (ap (λ x. pulled name turn x (world talk pads new)) is),
      )

  -- its line is not an answer to a pull
  pub pulled_wrong : (name : List ℕ) (turn : ℕ) (r : Option (Told (List Op))) (talk : Talk) (pads : P)
      (wire new : Wire) → r ≡ None → HearsAs pull_answer r wire new
      → Breaks calls names PeerReply (Pulled name turn) (world talk pads wire) pads new
  pulled_wrong name turn r talk pads wire new is heard =
      wrong calls names pull_answer r (Pulled name turn) (world talk pads wire) new heard
      (r, world talk pads new, (heard, refl), sym (ap (λ x. pulled name turn x (world talk pads new)) is))

  -- it sends operations
  pub pulled_ops : (name : List ℕ) (turn : ℕ) (r : Option (Told (List Op))) (ops : List Op) (talk : Talk) (pads : P)
      (wire new : Wire) → r ≡ Some (Said ops) → HearsAs pull_answer r wire new
      → Reaches calls names (Pulled name turn) (world talk pads wire) (Taking name turn false ops)
      (world (counts (with_pull turn) talk) pads new)
  pulled_ops name turn r ops talk pads wire new is heard =
      one calls names (Pulled name turn) _ _ _ (
        r,
        world talk pads new,
        (heard, refl),
        sym (ap (λ x. pulled name turn x (world talk pads new)) is),
      )

  -- all of them were delivered
  pub pulled_taken : (name : List ℕ) (turn : ℕ) (r : Option (Told (List Op))) (ops : List Op)
      (taken : Result Bool Fault) (gained : Bool) (came : PullTurn) (talk mid last : Talk) (pads then_pads : P)
      (wire new : Wire)
      → r ≡ Some (Said ops) → HearsAs pull_answer r wire new → mid ≡ counts (with_pull turn) talk → taken ≡ Ok gained
      → IfOk taken (λ gained. (turn : ℕ) (wire : Wire) → Reaches calls names (Taking name turn false ops)
      (world mid pads wire) (Taking name turn gained []) (world last then_pads wire))
      → (if gained then Pulling name (turn + 1) else Pushing name 0) ≡ after_turn name turn came
      → Reaches calls names (Pulled name turn) (world talk pads wire) (after_turn name turn came)
      (world last then_pads new)
  pulled_taken name turn r ops (Err fault) gained came talk mid last pads then_pads wire new is heard same so goes end =
      absurd (cc)
  pulled_taken name turn r ops (Ok any) gained came talk mid last pads then_pads wire new is heard same so goes end =
      let is_gained : any ≡ gained = cc in
      let first = pulled_ops name turn r ops talk pads wire new is heard in
      let taken_all = subst (λ t. Reaches calls names (Taking name turn false ops) (world t pads new)
      (Taking name turn any []) (world last then_pads new)) same (goes turn new) in
      join calls names _ _ _ _ _ _ first (join calls names _ _ _ _ _ _ taken_all
      (one calls names (Taking name turn any []) _ _ _
      (sym end ∙ ap (λ b. if b then Pulling name (turn + 1) else Pushing name 0) (sym is_gained), refl)))

  -- out of memory for one of them
  pub pulled_none : (name : List ℕ) (turn : ℕ) (r : Option (Told (List Op))) (ops : List Op) (fault : Fault)
      (talk mid : Talk) (pads then_pads : P) (wire new : Wire)
      → r ≡ Some (Said ops) → HearsAs pull_answer r wire new → mid ≡ counts (with_pull turn) talk
      → ((turn : ℕ) (wire : Wire) → Lacks calls names fault (Taking name turn false ops)
      (world mid pads wire) then_pads)
      → Breaks calls names fault (Pulled name turn) (world talk pads wire) then_pads new
  pulled_none name turn r ops fault talk mid pads then_pads wire new is heard same so =
      later calls names fault _ _ _ _ then_pads new (pulled_ops name turn r ops talk pads wire new is heard)
      (subst (λ t. Breaks calls names fault (Taking name turn false ops) (world t pads new) then_pads new) same
      (lacks calls names fault _ (world mid pads new) then_pads (so turn new)))

  -- a turn whose pull was sent, or after which the exchange of the pad is over
  pub turn_asked : (name : List ℕ) (turn : ℕ) (r : Result Bool Fault) (asked : Bool) (u v : World P) → r ≡ Ok asked →
      turn < MAX_PULL_TURNS
      → IfOk r (λ asked. (turn : ℕ) → turn < MAX_PULL_TURNS →
      Reaches calls names (Pulling name turn) u (if asked then Pulled name turn else Over) v)
      → Reaches calls names (Pulling name turn) u (if asked then Pulled name turn else Over) v
  turn_asked name turn r asked u v is low goes =
      at_ok (λ asked. (turn : ℕ) → turn < MAX_PULL_TURNS →
      Reaches calls names (Pulling name turn) u (if asked then Pulled name turn else Over) v) r asked is goes turn low

  -- all turns were made
  pub turns_spent : (name : List ℕ) (turn : ℕ) (w : World P) → MAX_PULL_TURNS ≤ turn →
      Reaches calls names (Pulling name turn) w (Pushing name 0) w
  turns_spent name turn w spent = one calls names (Pulling name turn) w _ _
      (chosen_true _ _ _ (le-leb MAX_PULL_TURNS turn spent) (refl, refl))
