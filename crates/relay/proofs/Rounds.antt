-- The steps from pad to pad.
use Rattle.std.proofs.Common.{◌≡◌, ◌⊎◌, inl, inr, ℕ, ◌+◌, ◌<◌, ◌≤◌, List, [], Option, None, Some, Result, Ok, Err, refl}
use Rattle.std.proofs.Common.{sym, ap, ◌∙◌, subst, is_some, true, false}
use Rattle.std.proofs.lemmas.Bool.{le-leb, lt-leb}
use Rattle.pad_model.specs.declared.refusal.Refusal.{Refusal}
use Rattle.pad_model.specs.declared.seen.Counted.{Counted}
use Rattle.pad_model.specs.declared.who.Version.{Version}
use Rattle.pad_core.specs.declared.request.Request.{Request}
use Rattle.wire_json.specs.Peers.{peer_answer, peer_request}
use Rattle.wire_json.specs.declared.peer_answer.Told.{Told}
use Rattle.wire_json.specs.declared.peer_answer.Told.TheVariants.{Said, Refused}
use Rattle.wire_lines.specs.declared.fault.Fault.{Fault}
use Rattle.wire_lines.specs.declared.fault.Fault.TheVariants.{PeerReply, Memory}
use Rattle.conversation.specs.Session.{Answer}
use Rattle.relay.specs.Breaks.{Breaks}
use Rattle.relay.specs.Kept.{Greets, IsUnsent, Made, MissesGreeting, Visited, begun, ready, world}
use Rattle.relay.specs.Round.{Stage, World, Goes, Reaches, first_of, greeted, known_at, line_of, named, own_name, with_version}
use Rattle.relay.specs.Round.Stage.{Ended, Failed, Greeted, Greeting, Next, Over, Pulling, Pushing}
use Rattle.relay.specs.Wire.{Wire, HearsAs, Writes}
use Rattle.relay.specs.declared.exchanged.Exchanged.{Exchanged}
use Rattle.relay.specs.declared.talk.Talk.{Talk}
use Rattle.relay.proofs.Pulls.{chosen_false, chosen_true}
use Rattle.relay.proofs.Steps.{join, lacks, later, one, unheard, unsent, wrong}

-- how the exchange of a pad begins, by whether it is known what the peer has
pub first_known : (name : List ℕ) (known : Option (List Counted)) → is_some known ≡ true → first_of name known ≡ Pushing name 0
first_known name None is = absurd (cc)
first_known name (Some seen) is = refl

pub first_unknown : (name : List ℕ) (known : Option (List Counted)) → is_some known ≡ false →
    first_of name known ≡ Pulling name 0
first_unknown name None is = refl
first_unknown name (Some seen) is = absurd (cc)

module _ {P : Type 0} (calls : P → Request → Answer → P → Type 0) (names : P → ℕ → Result (Option (List ℕ)) Refusal →
    P → Type 0) where
  -- the peer is greeted
  pub greeting_sent : (own : ℕ) (token : List ℕ) (cells : ℕ) (pads : P) (wire new : Wire) →
      Writes (line_of (peer_request own token)) wire new
      → Reaches calls names (Greeting own token) (begun cells pads wire) Greeted (begun cells pads new)
  greeting_sent own token cells pads wire new wrote = one calls names _ _ _ _ ((wrote, refl), refl)

  -- or not
  pub greeting_unsent : (own : ℕ) (token : List ℕ) (fault : Fault) (cells : ℕ) (pads : P) (wire new : Wire) →
      IsUnsent fault (line_of (peer_request own token)) wire new
      → Breaks calls names fault (Greeting own token) (begun cells pads wire) pads new
  greeting_unsent own token fault cells pads wire new un =
      unsent calls names fault (peer_request own token) (Greeting own token) Greeted (begun cells pads wire)
      (begun cells pads wire) new refl (λ v sends. (sends, refl)) un

  -- it answers, with its version
  pub greeted_then : (cells : ℕ) (r : Option (Told Version)) (its : Version) (pads : P) (wire new : Wire) →
      r ≡ Some (Said its) → HearsAs peer_answer r wire new
      → Reaches calls names Greeted (begun cells pads wire) Next (with_version its (begun cells pads new))
  greeted_then cells r its pads wire new is heard =
      one calls names Greeted _ _ _ (
        r,
        begun cells pads new,
        (heard, refl),
        sym (ap (λ x. greeted x (begun cells pads new)) is),
      )

  -- it refuses, or does neither
  pub greeted_wrong : (cells : ℕ) (r : Option (Told Version)) (pads : P) (wire new : Wire) → (r ≡ Some Refused)
      ⊎ (r ≡ None) → HearsAs peer_answer r wire new
      → Breaks calls names PeerReply Greeted (begun cells pads wire) pads new
  greeted_wrong cells r pads wire new (inl is) heard =
      wrong calls names peer_answer r Greeted (begun cells pads wire) new heard (
        r,
        begun cells pads new,
        (heard, refl),
        sym (ap (λ x. greeted x (begun cells pads new)) is),
      )
  greeted_wrong cells r pads wire new (inr is) heard =
      wrong calls names peer_answer r Greeted (begun cells pads wire) new heard (
        r,
        begun cells pads new,
        (heard, refl),
        sym (ap (λ x. greeted x (begun cells pads new)) is),
      )

  -- the first two stages: the peer was greeted
  pub greets_then : (own : ℕ) (token : List ℕ) (its : Version) (cells : ℕ) (pads : P) (wire new : Wire) →
      Greets own token its wire new
      → Reaches calls names (Greeting own token) (begun cells pads wire) Next (ready its cells [] pads new)
  greets_then own token its cells pads wire new (mid, wrote, heard) =
      join calls names _ _ _ _ _ _ (greeting_sent own token cells pads wire mid wrote)
      (greeted_then cells (Some (Said its)) its pads mid new refl heard)

  -- or they broke off
  pub misses_then : (own : ℕ) (token : List ℕ) (fault : Fault) (cells : ℕ) (pads : P) (wire new : Wire) →
      MissesGreeting own token fault wire new
      → Breaks calls names fault (Greeting own token) (begun cells pads wire) pads new
  misses_then own token fault cells pads wire new (inl un) =
      greeting_unsent own token fault cells pads wire new un
  misses_then own token fault cells pads wire new (inr (mid, wrote, inl missed)) =
      later calls names fault _ (begun cells pads wire) _ (begun cells pads mid) pads new
      (greeting_sent own token cells pads wire mid wrote)
      (unheard calls names fault Greeted (begun cells pads mid) new missed)
  misses_then own token fault cells pads wire new (inr (mid, wrote, inr (is, said, which, heard))) =
      later calls names fault _ (begun cells pads wire) _ (begun cells pads mid) pads new
      (greeting_sent own token cells pads wire mid wrote)
      (subst (λ f. Breaks calls names f Greeted (begun cells pads mid) pads new) (sym is)
      (greeted_wrong cells said pads mid new which heard))

  -- a visit after a greeting is a round
  pub made_then : (own : ℕ) (token : List ℕ) (done : Exchanged) (u v : World P) (wire : Wire) (pads : P) →
      Reaches calls names (Greeting own token) u Next v → Visited calls names v done wire pads
      → Made calls names own token u done.relayed wire pads
  made_then own token done u v wire pads before (w, more, counted, known, wired, left) = (
    w,
    join calls names _ u _ v _ w before more,
    counted,
    wired,
    left,
  )

  -- a cell is looked at
  looked : (talk : Talk) (old new : P) (wire : Wire) (said : Result (Option (List ℕ)) Refusal)
      (r : Result (Option (List ℕ)) Fault) (stage : Stage) (w : World P)
      → talk.cell < talk.cells → names old talk.cell said new → own_name said ≡ r → named r (world talk new wire)
      ≡ (stage, w) → Goes calls names Next (world talk old wire) stage w
  looked talk old new wire said r stage w low told is ends =
      chosen_false _ _ _ (lt-leb talk.cells talk.cell low) (
        said,
        world talk new wire,
        told,
        refl,
        sym (ap (λ x. named x (world talk new wire)) is ∙ ends),
      )

  pub looked_pad : (talk : Talk) (old new : P) (wire : Wire) (said : Result (Option (List ℕ)) Refusal)
      (r : Result (Option (List ℕ)) Fault) (name : List ℕ)
      → talk.cell < talk.cells → names old talk.cell said new → r ≡ own_name said → r ≡ Ok (Some name)
      → Reaches calls names Next (world talk old wire) (first_of name (known_at talk.known talk.cell))
      (world talk new wire)
  looked_pad talk old new wire said r name low told own is =
      one calls names Next _ _ _ (looked talk old new wire said (Ok (Some name)) _ _ low told (sym own ∙ is) refl)

  pub looked_past : (talk : Talk) (old new : P) (wire : Wire) (said : Result (Option (List ℕ)) Refusal)
      (r : Result (Option (List ℕ)) Fault)
      → talk.cell < talk.cells → names old talk.cell said new → r ≡ own_name said → r ≡ Ok None
      → Reaches calls names Next (world talk old wire) Over (world talk new wire)
  looked_past talk old new wire said r low told own is =
      one calls names Next _ _ _ (looked talk old new wire said (Ok None) _ _ low told (sym own ∙ is) refl)

  pub looked_none : (talk : Talk) (old new : P) (wire : Wire) (said : Result (Option (List ℕ)) Refusal)
      (r : Result (Option (List ℕ)) Fault) (fault : Fault)
      → talk.cell < talk.cells → names old talk.cell said new → r ≡ own_name said → r ≡ Err fault → fault ≡ Memory
      → Breaks calls names fault Next (world talk old wire) new wire
  looked_none talk old new wire said r fault low told own is memory =
      lacks calls names fault Next (world talk old wire) new (
        memory,
        Failed fault,
        world talk new wire,
        one calls names Next _ _ _ (looked talk old new wire said (Err fault) _ _ low told (sym own ∙ is) refl),
        refl,
        refl,
      )

  -- the next cell
  pub past_one : (first : Stage) (u : World P) (talk mid next : Talk) (pads new : P) (wire last : Wire) →
      Reaches calls names first u Next (world talk pads wire)
      → Reaches calls names Next (world talk pads wire) Over (world mid new last)
      → next ≡ record { cells = mid.cells; cell = mid.cell + 1; version = mid.version; relayed = mid.relayed; known = mid.known }
      → Reaches calls names first u Next (world next new last)
  past_one first u talk mid next pads new wire last before more is =
      subst (λ t. Reaches calls names first u Next (world t new last)) (sym is)
      (join calls names _ _ _ _ _ _ before
      (join calls names _ _ _ _ _ _ more (one calls names Over (world mid new last) _ _ (refl, refl))))

  -- no more cells
  pub ends : (first : Stage) (u : World P) (talk : Talk) (pads : P) (wire : Wire) →
      Reaches calls names first u Next (world talk pads wire) → talk.cells ≤ talk.cell
      → Reaches calls names first u Ended (world talk pads wire)
  ends first u talk pads wire before over =
      join calls names _ _ _ _ _ _ before (one calls names Next (world talk pads wire) _ _
      (chosen_true _ _ _ (le-leb talk.cells talk.cell over) (refl, refl)))
