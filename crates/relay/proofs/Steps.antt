-- Steps of a round, one after another, and how they break off.
use Rattle.std.proofs.Common.{◌≡◌, ◌⊎◌, inl, inr, ℕ, List, [], ◌++◌, take, drop, Option, None, Some, Result, Ok, Err}
use Rattle.std.proofs.Common.{IfOk, IfErr, refl, sym, ap, ◌∙◌, subst, append_assoc, take-append-drop}
use Rattle.std.specs.Io.KnownBytes.{Appends}
use Rattle.std.proofs.KnownBytes.{Appends-nil, Appends-trans}
use Rattle.serde_json.specs.Data.{Data}
use Rattle.pad_model.specs.declared.refusal.Refusal.{Refusal}
use Rattle.pad_core.specs.declared.request.Request.{Request}
use Rattle.wire_json.specs.declared.peer_answer.Told.{Told}
use Rattle.wire_lines.specs.Causes.{most_reads}
use Rattle.wire_lines.specs.Device.{one_more}
use Rattle.wire_lines.specs.declared.fault.Fault.{Fault}
use Rattle.wire_lines.specs.declared.fault.Fault.TheVariants.{ReadFault, WriteFault, PeerReply, Memory}
use Rattle.conversation.specs.Session.{Answer}
use Rattle.relay.specs.Breaks.{Breaks, IsCause}
use Rattle.relay.specs.Kept.{IsUnsent, Lacks}
use Rattle.relay.specs.Round.{Stage, World, Goes, Reaches, Sends, with_wire, line_of}
use Rattle.relay.specs.Round.Stage.{Failed}
use Rattle.relay.specs.Round.Reaches.{here, on}
use Rattle.relay.specs.Wire.{Wire, Writes, HearsAs, IsUnheard, Misses, MissesAnswer, wrote}
use Rattle.relay.proofs.Grown.{Grows, made_then, reaches_grows, heard_grows}

-- what is left of a text after a prefix of it was written
whole_after : (a b : Option (List ℕ)) (text : List ℕ) (count : ℕ) → Appends a b (take count text) →
    (full : Option (List ℕ)) × Appends a full text × Appends b full (drop count text)
whole_after None None text count app = (None, tt, tt)
whole_after None (Some b) text count app = (Some (b ++ drop count text), tt, refl)
whole_after (Some a) None text count app = absurd app
whole_after (Some a) (Some b) text count app = (
  Some (a ++ text),
  refl,
  ap (λ l. a ++ l) (sym (take-append-drop count text))
      ∙ sym (append_assoc a (take count text) (drop count text)) ∙ ap (λ l. l ++ drop count text) (sym app),
)

-- a cause at a wire is one at a wire before
cause_before : (fault : Fault) (stage : Stage) (rest : List ℕ) (a b c : Wire) → Grows a b →
    (b.stopped ≡ None → IsCause fault stage rest b c) → a.stopped ≡ None → IsCause fault stage rest a c
cause_before ReadFault stage rest a b c grows cause none =
    let kept = grows.reads none in
    let so = cause kept.0 in (
      so.0,
      (failed_before a.read_failures b.read_failures kept.1 so.1.0, made_then a b c kept.2 so.1.1),
      so.2 ∙ grows.writes,
    )
  where
    failed_before : (old mid : ℕ) → mid ≡ old →
        ((c.read_failures ≡ one_more mid) ⊎ ((c.read_failures ≡ mid) × (c.spent ≡ most_reads)))
        → ((c.read_failures ≡ one_more old) ⊎ ((c.read_failures ≡ old) × (c.spent ≡ most_reads)))
    failed_before old mid is (inl failed) = inl (failed ∙ ap one_more is)
    failed_before old mid is (inr (same, spent)) = inr (same ∙ is, spent)
cause_before WriteFault stage rest a b c grows cause none =
    let kept = grows.reads none in let so = cause kept.0 in (so.0 ∙ ap one_more grows.writes, so.1 ∙ kept.1)
cause_before PeerReply stage rest a b c grows cause none =
    let kept = grows.reads none in let so = cause kept.0 in (so.0, so.1, so.2 ∙ kept.1, so.3 ∙ grows.writes)
cause_before Memory stage rest a b c grows cause none =
    let kept = grows.reads none in let so = cause kept.0 in (so.0 ∙ kept.1, so.1 ∙ grows.writes)

module _ {P : Type 0} (calls : P → Request → Answer → P → Type 0) (names : P → ℕ → Result (Option (List ℕ)) Refusal →
    P → Type 0) where
  -- steps after steps
  pub join : (first : Stage) (u : World P) (mid : Stage) (v : World P) (last : Stage) (w : World P)
      → Reaches calls names first u mid v → Reaches calls names mid v last w → Reaches calls names first u last w
  join first u mid v last w here more = more
  join first u mid v last w (on {mid = next} {v = x} goes then_on) more =
      on goes (join next x mid v last w then_on more)

  -- one step
  pub one : (first : Stage) (u : World P) (last : Stage) (v : World P) → Goes calls names first u last v →
      Reaches calls names first u last v
  one first u last v goes = on goes here

  -- what breaks off later breaks off
  pub later : (fault : Fault) (first : Stage) (u : World P) (mid : Stage) (v : World P) (pads : P) (wire : Wire)
      → Reaches calls names first u mid v → Breaks calls names fault mid v pads wire →
      Breaks calls names fault first u pads wire
  later fault first u mid v pads wire reaches (stage, w, text, rest, more, same, app, left, cause) =
      let grows = reaches_grows calls names first u mid v reaches in (
        stage,
        w,
        grows.text ++ text,
        rest,
        join first u mid v stage w reaches more,
        same,
        Appends-trans u.wire.written v.wire.written wire.written grows.text text grows.appends app,
        left,
        cause_before fault stage rest u.wire v.wire wire grows cause,
      )

  -- after a call here, a line was not written, or in part
  pub unsent : (fault : Fault) (d : Data) (first last : Stage) (u mid : World P) (wire : Wire) → mid.wire ≡ u.wire →
      ((v : World P) → Sends d mid v → Goes calls names first u last v)
      → IsUnsent fault (line_of d) u.wire wire → Breaks calls names fault first u mid.pads wire
  unsent fault d first last u mid wire same_wire goes (inl (is, (count, part, same))) =
      let full = whole_after u.wire.written wire.written (line_of d) count part in
      let v : World P = with_wire (wrote full.0 u.wire.write_failures u.wire) mid in (
        last,
        v,
        take count (line_of d),
        drop count (line_of d),
        one first u last v (goes v (subst (λ w. Writes (line_of d) w v.wire) (sym same_wire) (full.1, refl), refl)),
        refl,
        part,
        full.2,
        λ none. subst (λ f. IsCause f last (drop count (line_of d)) u.wire wire) (sym is)
            (ap (λ w. w.write_failures) same, ap (λ w. w.read_failures) same),
      )
  unsent fault d first last u mid wire same_wire goes (inr (is, same)) =
      let full = whole_after u.wire.written u.wire.written (line_of d) 0 (Appends-nil u.wire.written) in
      let v : World P = with_wire (wrote full.0 u.wire.write_failures u.wire) mid in (
        last,
        v,
        [],
        line_of d,
        one first u last v (goes v (subst (λ w. Writes (line_of d) w v.wire) (sym same_wire) (full.1, refl), refl)),
        refl,
        subst (λ w. Appends u.wire.written w.written []) (sym same) (Appends-nil u.wire.written),
        subst (λ w. Appends w.written full.0 (line_of d)) (sym same) full.2,
        λ none. subst (λ f. IsCause f last (line_of d) u.wire wire) (sym is) (
          ap (λ w. w.read_failures) same,
          ap (λ w. w.write_failures) same,
        ),
      )

  -- no line was heard
  missed : (fault : Fault) (first : Stage) (u : World P) (wire : Wire) → Misses fault u.wire wire →
      Breaks calls names fault first u u.pads wire
  missed fault first u wire (cause, same, kept) = (
    first,
    u,
    [],
    [],
    here,
    refl,
    subst (λ w. Appends u.wire.written w []) (sym same) (Appends-nil u.wire.written),
    subst (λ w. Appends w u.wire.written []) (sym same) (Appends-nil u.wire.written),
    λ none. caused fault (cause none),
  )
    where
      caused : (f : Fault) → IsUnheard f u.wire wire → IsCause f first [] u.wire wire
      caused ReadFault un = (refl, un, kept)
      caused WriteFault un = absurd un
      caused PeerReply un = absurd un
      caused Memory un = (un, kept)

  -- no answer was heard
  pub unheard : (fault : Fault) (first : Stage) (u : World P) (wire : Wire) → MissesAnswer fault u.wire wire →
      Breaks calls names fault first u u.pads wire
  unheard fault first u wire (inl misses) = missed fault first u wire misses
  unheard fault first u wire (inr (is, heard, (next, kept, same))) =
      let written = ap (λ w. w.written) same in (
        first,
        u,
        [],
        [],
        here,
        refl,
        subst (λ w. Appends u.wire.written w []) (sym written) (Appends-nil u.wire.written),
        subst (λ w. Appends w u.wire.written []) (sym written) (Appends-nil u.wire.written),
        λ none. subst (λ f. IsCause f first [] u.wire wire) (sym is) ((kept none).1, ap (λ w. w.write_failures) same),
      )

  -- an answer was heard that ends the round
  pub wrong : {A : Type 0} (form : Data → Option A) (said : Option (Told A)) (first : Stage) (u : World P) (wire : Wire)
      → HearsAs form said u.wire wire → Goes calls names first u (Failed PeerReply) (with_wire wire u) →
      Breaks calls names PeerReply first u u.pads wire
  wrong form said first u wire heard goes =
      let grows = heard_grows form said u.wire wire heard in
      let same = ap (λ w. w.written) heard.1.2 in (
        Failed PeerReply,
        with_wire wire u,
        [],
        [],
        one first u (Failed PeerReply) (with_wire wire u) goes,
        refl,
        subst (λ w. Appends u.wire.written w []) (sym same) (Appends-nil u.wire.written),
        Appends-nil wire.written,
        λ none. (refl, refl, (grows.reads none).1, grows.writes),
      )

  -- memory ran out, apart from the peer
  pub lacks : (fault : Fault) (first : Stage) (u : World P) (pads : P) → Lacks calls names fault first u pads →
      Breaks calls names fault first u pads u.wire
  lacks fault first u pads (is, stage, w, reaches, same, wire) = (
    stage,
    w,
    [],
    [],
    reaches,
    same,
    Appends-nil u.wire.written,
    subst (λ x. Appends u.wire.written x.written []) (sym wire) (Appends-nil u.wire.written),
    λ none. subst (λ f. IsCause f stage [] u.wire u.wire) (sym is) (refl, refl),
  )

  -- some steps, and then those that end as a result says, end so too
  pub join_ok : {A : Type 0} (r : Result A Fault) (end : A → Stage) (first : Stage) (u : World P) (mid : Stage)
      (v w : World P)
      → Reaches calls names first u mid v → IfOk r (λ x. Reaches calls names mid v (end x) w) →
      IfOk r (λ x. Reaches calls names first u (end x) w)
  join_ok (Ok x) end first u mid v w before goes = join first u mid v (end x) w before goes
  join_ok (Err fault) end first u mid v w before goes = tt

  -- or breaks off
  pub join_err : {A : Type 0} (r : Result A Fault) (first : Stage) (u : World P) (mid : Stage) (v : World P) (pads : P)
      (wire : Wire)
      → Reaches calls names first u mid v → IfErr r (λ fault. Breaks calls names fault mid v pads wire) →
      IfErr r (λ fault. Breaks calls names fault first u pads wire)
  join_err (Ok x) first u mid v pads wire before breaks = tt
  join_err (Err fault) first u mid v pads wire before breaks = later fault first u mid v pads wire before breaks

  -- the same for the value that arrived
  pub join_at : {A : Type 0} (r : Result A Fault) (x : A) (end : A → Stage) (first : Stage) (u : World P) (mid : Stage)
      (v w : World P)
      → Reaches calls names first u mid v → r ≡ Ok x → IfOk r (λ x. Reaches calls names mid v (end x) w) →
      Reaches calls names first u (end x) w
  join_at (Ok y) x end first u mid v w before is goes = subst (λ z. Reaches calls names first u (end z) w) (cc)
      (join first u mid v (end y) w before goes)
  join_at (Err fault) x end first u mid v w before is goes = absurd (cc)

-- what holds for a value holds for the one that arrived
pub at_ok : {A E : Type 0} (Holds : A → Type 0) (r : Result A E) (x : A) → r ≡ Ok x → IfOk r Holds → Holds x
at_ok Holds (Ok y) x is holds = subst Holds (cc) holds
at_ok Holds (Err e) x is holds = absurd (cc)
