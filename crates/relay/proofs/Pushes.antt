-- The steps of a push.
use Rattle.std.proofs.Common.{◌≡◌, ◌⊎◌, inl, inr, ℕ, suc, ◌+◌, ◌-◌, ◌<◌, ◌≤◌, Bool, true, false, if◌then◌else◌, ◌||◌}
use Rattle.std.proofs.Common.{◌&&◌, List, [], ◌∷◌, drop, length, get_or, Option, None, Some, Result, Ok, Err, IfOk}
use Rattle.std.proofs.Common.{IfErr, refl, sym, ap, ◌∙◌, subst, add-one, drop-cons}
use Rattle.std.proofs.lemmas.Bool.{le-leb, lt-leb}
use Rattle.pad_model.specs.OldWire.{op_in_v1}
use Rattle.pad_model.specs.declared.op.Op.{Op}
use Rattle.pad_model.specs.declared.refusal.Refusal.{Refusal}
use Rattle.pad_model.specs.declared.seen.Counted.{Counted}
use Rattle.pad_core.specs.declared.act.Act.TheVariants as act
use Rattle.pad_core.specs.declared.reply.Pushed.{Pushed}
use Rattle.pad_core.specs.declared.exchange.TheConstants.{MAX_BATCH}
use Rattle.pad_core.specs.declared.request.Request.{Request}
use Rattle.wire_json.specs.Peers.{push_answer, push_request, vector_answer, vector_request}
use Rattle.wire_json.specs.declared.peer_answer.Told.{Told}
use Rattle.wire_json.specs.declared.peer_answer.Told.TheVariants.{Said, Refused}
use Rattle.wire_lines.specs.declared.fault.Fault.{Fault}
use Rattle.wire_lines.specs.declared.fault.Fault.TheVariants.{PeerReply, Memory}
use Rattle.conversation.specs.Session.{Answer}
use Rattle.relay.specs.Breaks.{Breaks, BreaksGiving, BreaksHearing}
use Rattle.relay.specs.Counts.{with_unsaid}
use Rattle.relay.specs.Kept.{AsksFor, Gives, HearsAll, IsUnsent, counts, notes, world}
use Rattle.relay.specs.Round.{Begins, Stage, World, Reaches, after_push, if_all, is_delivered, is_had, is_readable, known_at}
use Rattle.relay.specs.Round.{lacked, line_of, noted, own_ops, told_vector, with_op}
use Rattle.relay.specs.Round.Stage.{Counting, Giving, Hearing, Lacking, Over, Pushing}
use Rattle.relay.specs.Wire.{Wire, HearsAs, MissesAnswer, Writes}
use Rattle.relay.specs.declared.limits.TheConstants.{MAX_OPS, MAX_PUSH_TURNS}
use Rattle.relay.specs.declared.push.GivenBatch.{GivenBatch}
use Rattle.relay.specs.declared.push.HeardBatch.{HeardBatch}
use Rattle.relay.specs.declared.talk.Talk.{Talk}
use Rattle.relay.proofs.Pulls.{chosen_false, chosen_true, no_memory, was_asked}
use Rattle.relay.specs.Round.Reaches.{here}
use Rattle.relay.proofs.Steps.{at_ok, join, lacks, later, one, unheard, unsent, wrong}

-- the item at a place is the first of those that are left
pub at_front : {A : Type 0} (items : List A) (i : ℕ) (x : A) → i < length items → x ≡ get_or items i x → drop i items
    ≡ x ∷ drop (i + 1) items
at_front items i x inside is = rw add-one (drop-cons items i x inside ∙ ap (λ y. y ∷ drop (suc i) items) (sym is))

-- a test that is made step by step
pub and_so : (a b c : Bool) → a ≡ true → c ≡ b → (a && b) ≡ c
and_so a b c is so = rw (is, so) refl

pub and_else : (a b c : Bool) → a ≡ false → c ≡ false → (a && b) ≡ c
and_else a b c is so = rw (is, so) refl

module _ {P : Type 0} (calls : P → Request → Answer → P → Type 0) (names : P → ℕ → Result (Option (List ℕ)) Refusal →
    P → Type 0) where
  -- a turn begins with what the peer is known to have
  pub begins_known : (name : List ℕ) (turn : ℕ) (seen : List Counted) (talk next : Talk) (pads : P) (wire : Wire) →
      turn < MAX_PUSH_TURNS → known_at talk.known talk.cell ≡ Some seen → next ≡ notes None talk
      → Reaches calls names (Pushing name turn) (world talk pads wire) (Lacking name turn seen) (world next pads wire)
  begins_known name turn seen talk next pads wire low is same =
      one calls names _ _ _ _ (chosen_false _ _ _ (lt-leb MAX_PUSH_TURNS turn low)
      (subst (λ k. Begins name turn k (world talk pads wire) (Lacking name turn seen) (world next pads wire)) (sym is)
      (refl, ap (λ t. world t pads wire) same)))

  -- the peer's vector was asked for
  pub vector_sent : (name : List ℕ) (turn : ℕ) (talk next : Talk) (pads : P) (wire new : Wire) → turn < MAX_PUSH_TURNS →
      known_at talk.known talk.cell ≡ None → next ≡ talk → Writes (line_of (vector_request name)) wire new
      → Reaches calls names (Pushing name turn) (world talk pads wire) (Counting name turn) (world next pads new)
  vector_sent name turn talk next pads wire new low is same wrote =
      one calls names _ _ _ _ (chosen_false _ _ _ (lt-leb MAX_PUSH_TURNS turn low)
      (subst (λ k. Begins name turn k (world talk pads wire) (Counting name turn) (world next pads new)) (sym is)
      ((wrote, ap (λ t. world t pads new) same), refl)))

  -- or not
  pub vector_unsent : (name : List ℕ) (turn : ℕ) (fault : Fault) (talk : Talk) (pads : P) (wire new : Wire) →
      turn < MAX_PUSH_TURNS → known_at talk.known talk.cell ≡ None
      → IsUnsent fault (line_of (vector_request name)) wire new
      → Breaks calls names fault (Pushing name turn) (world talk pads wire) pads new
  vector_unsent name turn fault talk pads wire new low is un =
      unsent calls names fault (vector_request name) (Pushing name turn) (Counting name turn) (world talk pads wire)
      (world talk pads wire) new refl
      (λ v sends. chosen_false _ _ _ (lt-leb MAX_PUSH_TURNS turn low)
      (subst (λ k. Begins name turn k (world talk pads wire) (Counting name turn) v) (sym is) (sends, refl))) un

  -- all turns were made
  pub pushes_spent : (name : List ℕ) (turn : ℕ) (w : World P) → MAX_PUSH_TURNS ≤ turn →
      Reaches calls names (Pushing name turn) w Over w
  pushes_spent name turn w spent = one calls names (Pushing name turn) w _ _
      (chosen_true _ _ _ (le-leb MAX_PUSH_TURNS turn spent) (refl, refl))

  -- the peer answers with its vector, or refuses, or neither
  pub counted_then : (name : List ℕ) (turn : ℕ) (r : Option (Told (List Counted))) (seen : List Counted) (talk : Talk)
      (pads : P) (wire new : Wire) → r ≡ Some (Said seen) → HearsAs vector_answer r wire new
      → Reaches calls names (Counting name turn) (world talk pads wire) (Lacking name turn seen) (world talk pads new)
  counted_then name turn r seen talk pads wire new is heard =
      one calls names (Counting name turn) _ _ _ (
        r,
        world talk pads new,
        (heard, refl),
        sym (ap (λ x. told_vector name turn x (world talk pads new)) is),
      )

  pub counted_over : (name : List ℕ) (turn : ℕ) (r : Option (Told (List Counted))) (talk : Talk) (pads : P)
      (wire new : Wire) → r ≡ Some Refused → HearsAs vector_answer r wire new
      → Reaches calls names (Counting name turn) (world talk pads wire) Over (world talk pads new)
  counted_over name turn r talk pads wire new is heard =
      one calls names (Counting name turn) _ _ _ (
        r,
        world talk pads new,
        (heard, refl),
        sym (ap (λ x. told_vector name turn x (world talk pads new)) is),
      )

  pub counted_wrong : (name : List ℕ) (turn : ℕ) (r : Option (Told (List Counted))) (talk : Talk) (pads : P)
      (wire new : Wire) → r ≡ None → HearsAs vector_answer r wire new
      → Breaks calls names PeerReply (Counting name turn) (world talk pads wire) pads new
  counted_wrong name turn r talk pads wire new is heard =
      wrong calls names vector_answer r (Counting name turn) (world talk pads wire) new heard
      (r, world talk pads new, (heard, refl), sym (ap (λ x. told_vector name turn x (world talk pads new)) is))

  -- this server answers with what the peer lacks
  pub lacks_ops : (name : List ℕ) (seen : List Counted) (r : Result (Option (List Op)) Fault) (ops : List Op)
      (talk : Talk) (old new : P) (wire : Wire)
      → r ≡ Ok (Some ops) → AsksFor calls name (act.Pull seen MAX_OPS (Some MAX_BATCH)) own_ops r old new → (turn : ℕ)
      → Reaches calls names (Lacking name turn seen) (world talk old wire) (Giving name turn seen 0 ops)
      (world talk new wire)
  lacks_ops name seen r ops talk old new wire is asks turn =
      let (said, call, told) = was_asked calls name (act.Pull seen MAX_OPS (Some MAX_BATCH)) own_ops r (Some ops) old new is asks in
      one calls names (Lacking name turn seen) _ _ _ (
        said,
        world talk new wire,
        (call, refl),
        sym (ap (λ x. lacked name turn seen x (world talk new wire)) told),
      )

  -- or refuses
  pub lacks_over : (name : List ℕ) (seen : List Counted) (r : Result (Option (List Op)) Fault) (talk : Talk)
      (old new : P) (wire : Wire)
      → r ≡ Ok None → AsksFor calls name (act.Pull seen MAX_OPS (Some MAX_BATCH)) own_ops r old new → (turn : ℕ)
      → Reaches calls names (Lacking name turn seen) (world talk old wire) Over (world talk new wire)
  lacks_over name seen r talk old new wire is asks turn =
      let (said, call, told) = was_asked calls name (act.Pull seen MAX_OPS (Some MAX_BATCH)) own_ops r None old new is asks in
      one calls names (Lacking name turn seen) _ _ _ (
        said,
        world talk new wire,
        (call, refl),
        sym (ap (λ x. lacked name turn seen x (world talk new wire)) told),
      )

  -- or runs out of memory
  pub lacks_none : (name : List ℕ) (seen : List Counted) (r : Result (Option (List Op)) Fault) (fault : Fault)
      (talk : Talk) (old new : P) (wire : Wire)
      → r ≡ Err fault → fault ≡ Memory → AsksFor calls name (act.Pull seen MAX_OPS (Some MAX_BATCH)) own_ops r old new → (turn : ℕ)
      → Breaks calls names fault (Lacking name turn seen) (world talk old wire) new wire
  lacks_none name seen r fault talk old new wire is memory asks turn =
      lacks calls names fault (Lacking name turn seen) (world talk old wire) new
      (no_memory calls names name (act.Pull seen MAX_OPS (Some MAX_BATCH)) own_ops r fault (Lacking name turn seen) talk old new wire is
      memory asks
      (λ said call told. (
        said,
        world talk new wire,
        (call, refl),
        sym (ap (λ x. lacked name turn seen x (world talk new wire)) told),
      )))

  -- there is no memory for the peer's vector
  pub lacks_room : (name : List ℕ) (seen : List Counted) (fault : Fault) (talk : Talk) (pads : P) (wire : Wire)
      → fault ≡ Memory → (turn : ℕ) → Breaks calls names fault (Lacking name turn seen) (world talk pads wire) pads wire
  lacks_room name seen fault talk pads wire memory turn =
      lacks calls names fault (Lacking name turn seen) (world talk pads wire) pads
      (memory, Lacking name turn seen, world talk pads wire, here, refl, refl)

  -- operations were written, so far
  abbrev pub GivenSo : List ℕ → List Op → List Counted → List Counted → ℕ → List Op → Talk → Wire → Talk → Wire → Type 0
  GivenSo name ops seen after due left talk old last new = (turn : ℕ) (pads : P) →
      Reaches calls names (Giving name turn seen 0 ops) (world talk pads old) (Giving name turn after due left)
      (world last pads new)

  pub gives_more : (name : List ℕ) (all : List Op) (seen after next : List Counted) (due i : ℕ) (op : Op) (first talk : Talk)
      (old wire new : Wire)
      → i < length all → op ≡ get_or all i op → is_readable talk.version (op_in_v1 op) ≡ true →
      next ≡ with_op op after → Writes (line_of (push_request name op)) wire new
      → GivenSo name all seen after due (drop i all) first old talk wire
      → GivenSo name all seen next (due + 1) (drop (i + 1) all) first old talk new
  gives_more name all seen after next due i op first talk old wire new inside is can covers wrote before turn pads =
      let at = subst (λ l. Reaches calls names (Giving name turn seen 0 all) (world first pads old)
      (Giving name turn after due l) (world talk pads wire)) (at_front all i op inside is) (before turn pads) in
      subst (λ s. Reaches calls names (Giving name turn seen 0 all) (world first pads old)
      (Giving name turn s (due + 1) (drop (i + 1) all)) (world talk pads new)) (sym covers)
      (join calls names _ _ _ _ _ _ at (one calls names (Giving name turn after due (op ∷ drop (i + 1) all))
      (world talk pads wire) _ _ (chosen_true _ _ _ can ((wrote, refl), refl))))

  -- one was not written, or in part
  pub gives_none : (name : List ℕ) (fault : Fault) (all : List Op) (seen after : List Counted) (due i : ℕ) (op : Op)
      (first talk : Talk) (old wire new : Wire)
      → i < length all → op ≡ get_or all i op → is_readable talk.version (op_in_v1 op) ≡ true →
      IsUnsent fault (line_of (push_request name op)) wire new
      → GivenSo name all seen after due (drop i all) first old talk wire
      → BreaksGiving calls names fault name all seen first old new
  gives_none name fault all seen after due i op first talk old wire new inside is can un before turn pads =
      let at = subst (λ l. Reaches calls names (Giving name turn seen 0 all) (world first pads old)
      (Giving name turn after due l) (world talk pads wire)) (at_front all i op inside is) (before turn pads) in
      later calls names fault _ _ _ _ pads new at
      (unsent calls names fault (push_request name op) (Giving name turn after due (op ∷ drop (i + 1) all))
      (Giving name turn (with_op op after) (due + 1) (drop (i + 1) all)) (world talk pads wire) (world talk pads wire) new
      refl (λ v sends. chosen_true _ _ _ can (sends, refl)) un)

  -- there is no memory for the vector with one
  pub gives_room : (name : List ℕ) (fault : Fault) (all : List Op) (seen after : List Counted) (due i : ℕ)
      (first talk : Talk) (old wire : Wire) → fault ≡ Memory
      → GivenSo name all seen after due (drop i all) first old talk wire
      → BreaksGiving calls names fault name all seen first old wire
  gives_room name fault all seen after due i first talk old wire memory before turn pads =
      later calls names fault _ _ _ _ pads wire (before turn pads)
      (lacks calls names fault (Giving name turn after due (drop i all)) (world talk pads wire) pads
      (memory, Giving name turn after due (drop i all), world talk pads wire, here, refl, refl))

  -- the peer's version cannot express one
  pub gives_unsaid : (name : List ℕ) (all : List Op) (seen after : List Counted) (due i : ℕ) (op : Op)
      (first talk next : Talk) (old wire : Wire)
      → i < length all → op ≡ get_or all i op → is_readable talk.version (op_in_v1 op) ≡ false →
      next ≡ counts with_unsaid talk → GivenSo name all seen after due (drop i all) first old talk wire
      → Gives calls names name all (record { due = due; whole = false }) seen after first old next wire
  gives_unsaid name all seen after due i op first talk next old wire inside is can same before turn pads =
      let at = subst (λ l. Reaches calls names (Giving name turn seen 0 all) (world first pads old)
      (Giving name turn after due l) (world talk pads wire)) (at_front all i op inside is) (before turn pads) in
      subst (λ t. Reaches calls names (Giving name turn seen 0 all) (world first pads old)
      (Hearing name turn after due false false true) (world t pads wire)) (sym same)
      (join calls names _ _ _ _ _ _ at (one calls names (Giving name turn after due (op ∷ drop (i + 1) all))
      (world talk pads wire) _ _ (chosen_false _ _ _ can (refl, refl))))

  -- all were written
  pub gives_end : (name : List ℕ) (all : List Op) (seen after : List Counted) (due i : ℕ) (first talk : Talk)
      (old wire : Wire) → drop i all ≡ [] → GivenSo name all seen after due (drop i all) first old talk wire
      → Gives calls names name all (record { due = due; whole = true }) seen after first old talk wire
  gives_end name all seen after due i first talk old wire none before turn pads =
      let at = subst (λ l. Reaches calls names (Giving name turn seen 0 all) (world first pads old)
      (Giving name turn after due l) (world talk pads wire)) none (before turn pads) in
      join calls names _ _ _ _ _ _ at (one calls names (Giving name turn after due []) (world talk pads wire) _ _ (
        refl,
        refl,
      ))

  -- answers to pushes were heard, so far
  abbrev pub HeardSo : ℕ → ℕ → Bool → Bool → Talk → Wire → Talk → Wire → Type 0
  HeardSo due left gained all talk old last new =
      (name : List ℕ) (turn : ℕ) (seen : List Counted) (whole : Bool) (pads : P) →
      Reaches calls names (Hearing name turn seen due false whole true) (world talk pads old)
      (Hearing name turn seen left gained whole all) (world last pads new)

  -- none yet
  pub hears_begin : (due left : ℕ) (first : Talk) (old : Wire) → left ≡ due → HeardSo due left false true first old first old
  hears_begin due left first old is name turn seen whole pads =
      subst (λ n. Reaches calls names (Hearing name turn seen due false whole true) (world first pads old)
      (Hearing name turn seen n false whole true) (world first pads old)) (sym is) here

  pub hears_more : (due heard_so left : ℕ) (gained all : Bool) (r : Result (Told Pushed) Fault)
      (told : Told Pushed) (first talk next : Talk) (old wire new : Wire)
      → due - heard_so ≡ suc left → r ≡ Ok told
      → IfOk r (λ told. HearsAs push_answer (Some told) wire new × (next ≡ counts (after_push told) talk))
      → HeardSo due (due - heard_so) gained all first old talk wire
      → HeardSo due left (gained || is_delivered told) (all && is_had told) first old next new
  hears_more due heard_so left gained all r told first talk next old wire new is so heard before name turn seen whole pads =
      let (hears, same) = at_ok (λ t. HearsAs push_answer (Some t) wire new × (next ≡ counts (after_push t) talk)) r told
      so heard in
      let at = subst (λ n. Reaches calls names (Hearing name turn seen due false whole true) (world first pads old)
      (Hearing name turn seen n gained whole all) (world talk pads wire)) is (before name turn seen whole pads) in
      subst (λ t. Reaches calls names (Hearing name turn seen due false whole true) (world first pads old)
      (Hearing name turn seen left (gained || is_delivered told) whole (all && is_had told)) (world t pads new)) (sym same)
      (join calls names _ _ _ _ _ _ at (one calls names (Hearing name turn seen (suc left) gained whole all) _ _ _ (
        Some told,
        world talk pads new,
        (hears, refl),
        refl,
      )))

  -- or none
  pub hears_none : (fault : Fault) (due heard_so left : ℕ) (gained all : Bool) (first talk : Talk) (old wire new : Wire)
      → due - heard_so ≡ suc left → (MissesAnswer fault wire new
      ⊎ ((fault ≡ PeerReply) × HearsAs push_answer None wire new))
      → HeardSo due (due - heard_so) gained all first old talk wire → BreaksHearing calls names fault due first old new
  hears_none fault due heard_so left gained all first talk old wire new is (inl misses) before name turn seen whole pads =
      later calls names fault _ _ _ _ pads new (before name turn seen whole pads)
      (unheard calls names fault (Hearing name turn seen (due - heard_so) gained whole all) (world talk pads wire) new
      misses)
  hears_none fault due heard_so left gained all first talk old wire new is (inr (wrong_so, heard)) before name turn seen
      whole pads =
      let at = subst (λ n. Reaches calls names (Hearing name turn seen due false whole true) (world first pads old)
      (Hearing name turn seen n gained whole all) (world talk pads wire)) is (before name turn seen whole pads) in
      subst (λ f. Breaks calls names f (Hearing name turn seen due false whole true) (world first pads old) pads new)
      (sym wrong_so)
      (later calls names PeerReply _ _ _ _ pads new at
      (wrong calls names push_answer None (Hearing name turn seen (suc left) gained whole all) (world talk pads wire) new
      heard (None, world talk pads new, (heard, refl), refl)))

  -- all were heard
  pub hears_end : (due left : ℕ) (gained all : Bool) (first talk : Talk) (old wire : Wire) → left ≡ 0
      → HeardSo due left gained all first old talk wire
      → HearsAll calls names due (record { gained = gained; all = all }) first old talk wire
  hears_end due left gained all first talk old wire none before name turn seen whole pads =
      subst (λ n. Reaches calls names (Hearing name turn seen due false whole true) (world first pads old)
      (Hearing name turn seen n gained whole all) (world talk pads wire)) none (before name turn seen whole pads)

  -- this server answers with what the peer lacks, and it is to be given
  pub lacks_given : (name : List ℕ) (seen start : List Counted) (r : Result (Option (List Op)) Fault) (ops items : List Op)
      (talk : Talk) (old new : P) (wire : Wire)
      → r ≡ Ok (Some ops) → AsksFor calls name (act.Pull seen MAX_OPS (Some MAX_BATCH)) own_ops r old new
      → items ≡ ops → start ≡ seen → (turn : ℕ)
      → Reaches calls names (Lacking name turn seen) (world talk old wire) (Giving name turn start 0 items)
      (world talk new wire)
  lacks_given name seen start r ops items talk old new wire is asks same covers turn =
      subst (λ s. Reaches calls names (Lacking name turn seen) (world talk old wire) (Giving name turn s 0 items)
      (world talk new wire)) (sym covers)
      (subst (λ l. Reaches calls names (Lacking name turn seen) (world talk old wire) (Giving name turn seen 0 l)
      (world talk new wire)) (sym same) (lacks_ops name seen r ops talk old new wire is asks turn))

  -- giving it breaks off
  pub given_breaks : (name : List ℕ) (fault : Fault) (seen start : List Counted) (ops : List Op) (first : Talk) (old pads : P)
      (a b : Wire)
      → ((turn : ℕ) → Reaches calls names (Lacking name turn seen) (world first old a) (Giving name turn start 0 ops)
      (world first pads a))
      → BreaksGiving calls names fault name ops start first a b
      → (turn : ℕ) → Breaks calls names fault (Lacking name turn seen) (world first old a) pads b
  given_breaks name fault seen start ops first old pads a b lacks_so breaks turn =
      later calls names fault _ _ _ _ pads b (lacks_so turn) (breaks turn pads)

  -- or hearing the answers does
  pub heard_breaks : (name : List ℕ) (fault : Fault) (seen start after : List Counted) (ops : List Op) (given : GivenBatch)
      (first mid : Talk) (old pads : P) (a b c : Wire)
      → ((turn : ℕ) → Reaches calls names (Lacking name turn seen) (world first old a) (Giving name turn start 0 ops)
      (world first pads a))
      → Gives calls names name ops given start after first a mid b → BreaksHearing calls names fault given.due mid b c
      → (turn : ℕ) → Breaks calls names fault (Lacking name turn seen) (world first old a) pads c
  heard_breaks name fault seen start after ops given first mid old pads a b c lacks_so gives breaks turn =
      later calls names fault _ _ _ _ pads c (join calls names _ _ _ _ _ _ (lacks_so turn) (gives turn pads))
      (breaks name turn after given.whole pads)

  -- all was given and heard: it is known what the peer has, if it has all
  pub pushed_all : (name : List ℕ) (seen start after : List Counted) (ops : List Op) (given : GivenBatch) (heard : HeardBatch)
      (first mid last next : Talk) (old pads : P) (a b c : Wire) (known : Option (List Counted)) (more : Bool)
      → ((turn : ℕ) → Reaches calls names (Lacking name turn seen) (world first old a) (Giving name turn start 0 ops)
      (world first pads a))
      → Gives calls names name ops given start after first a mid b → HearsAll calls names given.due heard mid b last c
      → known ≡ if_all heard.all after → next ≡ notes known last → (heard.gained && given.whole) ≡ more
      → (turn : ℕ) → Reaches calls names (Lacking name turn seen) (world first old a)
      (if more then Pushing name (turn + 1) else Over) (world next pads c)
  pushed_all name seen start after ops given heard first mid last next old pads a b c known more lacks_so gives hears is same
      ends turn =
      join calls names _ _ _ _ _ _ (join calls names _ _ _ _ _ _ (lacks_so turn)
      (join calls names _ _ _ _ _ _ (gives turn pads) (hears name turn after given.whole pads)))
      (one calls names (Hearing name turn after 0 heard.gained given.whole heard.all) (world last pads c) _ _ (
        ap (λ b. if b then Pushing name (turn + 1) else Over) (sym ends),
        ap (λ t. world t pads c) same ∙ ap (λ k. noted k (world last pads c)) is,
      ))

  -- a turn of pushes
  pub turn_pushed : (name : List ℕ) (turn : ℕ) (seen : List Counted) (r : Result Bool Fault) (u v w : World P) →
      Reaches calls names (Pushing name turn) u (Lacking name turn seen) v
      → IfOk r (λ more. (turn : ℕ) → Reaches calls names (Lacking name turn seen) v
      (if more then Pushing name (turn + 1) else Over) w)
      → IfOk r (λ more. Reaches calls names (Pushing name turn) u (if more then Pushing name (turn + 1) else Over) w)
  turn_pushed name turn seen (Ok more) u v w before goes = join calls names _ _ _ _ _ _ before (goes turn)
  turn_pushed name turn seen (Err fault) u v w before goes = tt

  pub turn_broken : (name : List ℕ) (turn : ℕ) (seen : List Counted) (r : Result Bool Fault) (u v : World P) (pads : P)
      (wire : Wire) → Reaches calls names (Pushing name turn) u (Lacking name turn seen) v
      → IfErr r (λ fault. (turn : ℕ) → Breaks calls names fault (Lacking name turn seen) v pads wire)
      → IfErr r (λ fault. Breaks calls names fault (Pushing name turn) u pads wire)
  turn_broken name turn seen (Ok more) u v pads wire before breaks = tt
  turn_broken name turn seen (Err fault) u v pads wire before breaks = later calls names fault _ _ _ _ pads wire before
      (breaks turn)
