-- The course of a browser is one of its socket and one of its conversation.
use Rattle.std.proofs.Common.{◌≡◌, ℕ, true, List, [], ◌∷◌, ◌++◌, ap, ◌∙◌, sym, subst, append-nil, append_assoc}
use Rattle.pad_core.specs.declared.request.Request.{Request}
use Rattle.wire_lines.specs.Served.{LinesLaw}
use Rattle.web_wire.specs.Laws.{Follows, PiecesLaw}
use Rattle.web_wire.specs.Laws.Follows.{begun, received, gone_on}
use Rattle.web_wire.specs.Messages.{is_line, with_feed}
use Rattle.web_wire.specs.Socket.{Socket}
use Rattle.conversation.specs.Laws.{CourseLaw, Course as Conversing}
use Rattle.conversation.specs.Laws.Course.{begins as talk_begins, came as talk_came, answered as talk_answered}
use Rattle.conversation.specs.Laws.Course.{was_long as talk_was_long, written as talk_written, passed as talk_passed}
use Rattle.conversation.specs.Session.{Answer}
use Rattle.conversation.specs.Talk.{Talk, heard}
use Rattle.event_loop.specs.Laws.{AreLines, BrowserLaw, Course, joined}
use Rattle.event_loop.specs.Laws.Course.{begins, came, quiet, spoke, answered, was_long, said, passed}
use Rattle.event_loop.proofs.Spoken.{spoken_lines}

joined_more : (texts : List (List ℕ)) (text : List ℕ) → joined (texts ++ text ∷ []) ≡ joined texts ++ with_feed text
joined_more [] text = append-nil (with_feed text)
joined_more (first ∷ texts) text =
    ap (λ l. with_feed first ++ l) (joined_more texts text)
    ∙ sym (append_assoc (with_feed first) (joined texts) (with_feed text))

lines_more : (texts : List (List ℕ)) (text : List ℕ) → AreLines texts → is_line text ≡ true
    → AreLines (texts ++ text ∷ [])
lines_more [] text each is = (is, tt)
lines_more (first ∷ texts) text each is = (each.0, lines_more texts text each.1 is)

module _ {P : Type 0} (calls : P → Request → Answer → P → Type 0) (others : P → P → Type 0) where
  abbrev Parts : P → Socket → List ℕ → List (List ℕ) → List ℕ → List ℕ → P → Socket → Talk → Type 0
  Parts old start all texts sent out now socket talk =
      Follows start all texts sent socket × Conversing calls others old (joined texts) out now talk × AreLines texts

  parts : (old : P) (start : Socket) (all : List ℕ) (texts : List (List ℕ)) (sent out : List ℕ) (now : P)
      (socket : Socket) (talk : Talk) → Course calls others old start all texts sent out now socket talk
      → Parts old start all texts sent out now socket talk
  parts old start _ _ _ _ _ _ _ begins = (begun, talk_begins, tt)
  parts old start _ _ _ _ _ _ _ (came all texts sent out now socket talk bytes course) =
      let (follows, talks, each) = parts old start all texts sent out now socket talk course in
      (received all texts sent socket bytes follows, talks, each)
  parts old start _ _ _ _ _ _ _ (quiet all texts sent out now socket next talk put course comes) =
      let (follows, talks, each) = parts old start all texts sent out now socket talk course in (
        subst (λ l. Follows start all l (sent ++ put) next) (append-nil texts)
            (gone_on all texts sent socket next [] put follows comes),
        talks,
        each,
      )
  parts old start _ _ _ _ _ _ _ (spoke all texts sent out now socket next talk text put course is comes) =
      let (follows, talks, each) = parts old start all texts sent out now socket talk course in (
        gone_on all texts sent socket next (text ∷ []) put follows comes,
        subst (λ b. Conversing calls others old b out now (heard talk (with_feed text))) (sym (joined_more texts text))
            (talk_came (joined texts) out (with_feed text) now talk talks),
        lines_more texts text each is,
      )
  parts old start _ _ _ _ _ _ _ (answered all texts sent out now new socket talk after course uncut first) =
      let (follows, talks, each) = parts old start all texts sent out now socket talk course in
      (follows, talk_answered (joined texts) out now new talk after talks uncut first, each)
  parts old start _ _ _ _ _ _ _ (was_long all texts sent out now socket talk after course uncut long) =
      let (follows, talks, each) = parts old start all texts sent out now socket talk course in
      (follows, talk_was_long (joined texts) out now talk after talks uncut long, each)
  parts old start _ _ _ _ _ _ _ (said all texts sent out now socket talk count course) =
      let (follows, talks, each) = parts old start all texts sent out now socket talk course in
      (follows, talk_written (joined texts) out now talk count talks, each)
  parts old start _ _ _ _ _ _ _ (passed all texts sent out now new socket talk course other) =
      let (follows, talks, each) = parts old start all texts sent out now socket talk course in
      (follows, talk_passed (joined texts) out now new talk talks other, each)

  pub browsers : (serves : P → List (List ℕ) → List Answer → P → Type 0) → LinesLaw → PiecesLaw
      → CourseLaw calls others serves → BrowserLaw calls others serves
  browsers serves in_lines in_pieces conversing old now start socket all texts sent out talk course =
      let (follows, talks, each) = parts old start all texts sent out now socket talk course in (
        in_pieces start socket all texts sent follows,
        conversing old now (joined texts) out talk talks,
        spoken_lines in_lines texts each,
      )
