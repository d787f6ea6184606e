-- What a conversation outputs, by its course.
use Rattle.std.proofs.Common.{◌≡◌, inl, inr, ℕ, Bool, true, false, List, [], ◌∷◌, ◌++◌, take, drop}
use Rattle.std.proofs.Common.{Err, refl, sym, ap, ◌∙◌, subst, append-nil, append_assoc, take-append-drop, Some}
use Rattle.pad_model.specs.declared.refusal.Refusal.TheVariants.{TooLong}
use Rattle.pad_core.specs.declared.request.Request.{Request}
use Rattle.wire_lines.specs.Buffer.{ShowsBefore}
use Rattle.wire_lines.specs.Served.{lines, is_cut}
use Rattle.wire_lines.specs.declared.buffer.FoundLine.TheVariants as found
use Rattle.wire_lines.proofs.InOrder.{lines_in_order}
use Rattle.conversation.specs.Delivered.{IsCount}
use Rattle.conversation.specs.Laws.{CourseLaw, Follows, IsLong, LastLaw, ServesApart, long_told}
use Rattle.conversation.specs.Laws.Course.{begins, came, answered, was_long, written, passed}
use Rattle.conversation.specs.Laws.ServesApart.{nothing, line as one_line, between}
use Rattle.conversation.specs.Session.{Answer, Serves, texts}
use Rattle.conversation.specs.Talk.{Talk}
use Rattle.conversation.proofs.Serving.{count_more}
use Rattle.conversation.proofs.Turns.{serves_then, texts-append}

-- nothing was answered yet
follows_none : (bytes : List ℕ) → Follows bytes [] bytes
follows_none bytes more = (refl, refl)

-- more bytes
follows_more : (bytes more rest : List ℕ) (asked : List (List ℕ)) → Follows bytes asked rest →
    Follows (bytes ++ more) asked (rest ++ more)
follows_more bytes more rest asked so behind = (
  ap lines (append_assoc bytes more behind) ∙ (so (more ++ behind)).0
      ∙ ap (λ l. asked ++ lines l) (sym (append_assoc rest more behind)),
  ap is_cut (append_assoc bytes more behind) ∙ (so (more ++ behind)).1 ∙ ap is_cut (sym (append_assoc rest more behind)),
)

-- one more line
follows_line : (bytes rest line last : List ℕ) (asked : List (List ℕ)) → Follows bytes asked rest →
    ShowsBefore found.Text rest line last → Follows bytes (asked ++ line ∷ []) last
follows_line bytes rest line last asked so shows behind =
    let law = lines_in_order found.Text (rest ++ behind) line (last ++ behind) (shows behind) in (
      (so behind).0 ∙ ap (λ l. asked ++ l) law.0 ∙ sym (append_assoc asked (line ∷ []) (lines (last ++ behind))),
      (so behind).1 ∙ law.1,
    )

-- a line that is too long stays too long
follows_long : (bytes rest line last : List ℕ) (asked : List (List ℕ)) → Follows bytes asked rest →
    ShowsBefore found.TooLong rest line last → Follows bytes asked last × IsLong last
follows_long bytes rest line last asked so shows = (
  (λ behind. (
    (so behind).0 ∙ ap (λ l. asked ++ lines l) (sym (shows behind).1),
    (so behind).1 ∙ ap is_cut (sym (shows behind).1),
  )),
  (λ behind.
      let law = lines_in_order found.TooLong (rest ++ behind) line (last ++ behind) (shows behind) in
      (ap lines (shows behind).1 ∙ law.0, ap is_cut (shows behind).1 ∙ law.1)),
)

long_more : (bytes more : List ℕ) → IsLong bytes → IsLong (bytes ++ more)
long_more bytes more long behind =
    subst (λ l. (lines l ≡ []) × (is_cut l ≡ true)) (sym (append_assoc bytes more behind)) (long (more ++ behind))

-- replies that are written are output unchanged
out_written : (out replies text : List ℕ) (count : ℕ) → out ++ replies ≡ text →
    (out ++ take count replies) ++ drop count replies ≡ text
out_written out replies text count is =
    append_assoc out (take count replies) (drop count replies) ∙ ap (λ l. out ++ l) (take-append-drop count replies) ∙ is

-- one more reply
out_more : (out replies new : List ℕ) (answers more : List Answer) → out ++ replies ≡ texts answers →
    new ≡ replies ++ texts more → out ++ new ≡ texts (answers ++ more)
out_more out replies new answers more is says =
    ap (λ l. out ++ l) says ∙ sym (append_assoc out replies (texts more)) ∙ ap (λ l. l ++ texts more) is
    ∙ sym (texts-append answers more)

-- if no line was too long so far
none_long : (answers : List Answer) (cut : Bool) → cut ≡ false → answers ++ long_told cut ≡ answers
none_long answers false uncut = append-nil answers
none_long answers true uncut = absurd (cc)

one_long : (answers : List Answer) (cut : Bool) → cut ≡ true → answers ++ long_told cut ≡ answers ++ Err TooLong ∷ []
one_long answers true is = refl
one_long answers false is = absurd (cc)

never : (waiting : List ℕ) (cut : Bool) → cut ≡ false → cut ≡ true → IsLong waiting
never waiting true uncut cut = absurd (cc)
never waiting false uncut cut = absurd (cc)

module _ {P : Type 0} (calls : P → Request → Answer → P → Type 0) (others : P → P → Type 0) where
  pub gave_out : CourseLaw calls others (ServesApart calls others)
  gave_out old _ _ _ _ begins =
      ([], [], nothing, follows_none [], never [] false refl, (refl, refl), refl)
  gave_out old _ _ _ _ (came before out more now before_talk course) =
      let (asked, answers, serves, follows, long, count, gave) = gave_out old now before out before_talk course in (
        asked,
        answers,
        serves,
        follows_more before more before_talk.waiting asked follows,
        (λ cut. long_more before_talk.waiting more (long cut)),
        count,
        gave,
      )
  gave_out old _ _ _ _ (answered bytes out now new talk talked course uncut
      (line, shows, (told, more, serves, tells, says, cut))) =
      let (asked, answers, served, follows, long, count, gave) = gave_out old now bytes out talk course in
      let same = none_long answers talk.cut uncut in
      let still : talked.cut ≡ false = cut ∙ uncut in
      let all = none_long (answers ++ more) talked.cut still in (
        asked ++ line ∷ [],
        answers ++ more,
        one_line asked answers more now new line served serves,
        follows_line bytes talk.waiting line talked.waiting asked follows shows,
        never talked.waiting talked.cut still,
        subst (λ l. IsCount talked.served l) (sym all) (subst (λ s. IsCount s (answers ++ more)) (sym says.1)
            (count_more talk.served told answers more (subst (λ l. IsCount talk.served l) same count) tells)),
        out_more out talk.replies talked.replies answers more (gave ∙ ap texts same) says.0 ∙ ap texts (sym all),
      )
  gave_out old _ _ _ _ (was_long bytes out now talk talked course uncut (line, shows, says, cut)) =
      let (asked, answers, served, follows, long, count, gave) = gave_out old now bytes out talk course in
      let same = none_long answers talk.cut uncut in
      let all = one_long answers talked.cut cut in
      let stays = follows_long bytes talk.waiting line talked.waiting asked follows shows in (
        asked,
        answers,
        served,
        stays.0,
        (λ is. stays.1),
        subst (λ l. IsCount talked.served l) (sym all) (subst (λ s. IsCount s (answers ++ Err TooLong ∷ [])) (sym says.1)
            (count_more talk.served (Some 0) answers (Err TooLong ∷ [])
            (subst (λ l. IsCount talk.served l) same count) (Err TooLong, refl, refl))),
        out_more out talk.replies talked.replies answers (Err TooLong ∷ []) (gave ∙ ap texts same) says.0
            ∙ ap texts (sym all),
      )
  gave_out old _ _ _ _ (written bytes before now before_talk count course) =
      let (asked, answers, serves, follows, long, is_count, gave) = gave_out old now bytes before before_talk course in (
        asked,
        answers,
        serves,
        follows,
        long,
        is_count,
        out_written before before_talk.replies _ count gave,
      )
  gave_out old _ _ _ _ (passed bytes out now new talk course other) =
      let (asked, answers, serves, follows, long, count, gave) = gave_out old now bytes out talk course in
      (asked, answers, between asked answers now new serves other, follows, long, count, gave)

  -- the lines of bytes after which nothing arrives
  follows_end : (bytes rest : List ℕ) (asked : List (List ℕ)) → Follows bytes asked rest →
      (lines bytes ≡ asked ++ lines rest) × (is_cut bytes ≡ is_cut rest)
  follows_end bytes rest asked so =
      subst (λ b. (lines b ≡ asked ++ lines rest) × (is_cut b ≡ is_cut rest)) (append-nil bytes)
      (subst (λ r. (lines (bytes ++ []) ≡ asked ++ lines r) × (is_cut (bytes ++ []) ≡ is_cut r)) (append-nil rest)
      (so []))

  pub gave_all : LastLaw calls others (ServesApart calls others)
  gave_all old now new bytes out talk talked course uncut (inl (
    line,
    shows,
    none,
    (
      told,
      more,
      serves,
      tells,
      says,
      cut,
    ),
  )) =
      let (asked, answers, served, follows, long, count, gave) = gave_out old now bytes out talk course in
      let law = lines_in_order found.Text talk.waiting line [] shows in
      let whole = follows_end bytes talk.waiting asked follows in
      let same = none_long answers talk.cut uncut in (
        answers ++ more,
        subst (λ l. ServesApart calls others old l (answers ++ more) new)
            (sym (whole.0 ∙ ap (λ l. asked ++ l) law.0))
            (one_line asked answers more now new line served serves),
        whole.1 ∙ law.1,
        subst (λ s. IsCount s (answers ++ more)) (sym says.1)
            (count_more talk.served told answers more (subst (λ l. IsCount talk.served l) same count) tells),
        out_more out talk.replies talked.replies answers more (gave ∙ ap texts same) says.0,
      )
  gave_all old now new bytes out talk talked course uncut (inr (none, still, is)) =
      let (asked, answers, served, follows, long, count, gave) = gave_out old now bytes out talk course in
      let whole = follows_end bytes [] asked (subst (Follows bytes asked) none follows) in
      let same = none_long answers talk.cut uncut in (
        answers,
        subst (λ l. ServesApart calls others old l answers new) (sym (whole.0 ∙ append-nil asked))
            (subst (ServesApart calls others old asked answers) (sym is) served),
        whole.1,
        subst (λ (t : Talk). IsCount t.served answers) (sym still) (subst (λ l. IsCount talk.served l) same count),
        ap (λ (t : Talk). out ++ t.replies) still ∙ gave ∙ ap texts same,
      )

-- if nobody else uses the pads in between
module _ {P : Type 0} (calls : P → Request → Answer → P → Type 0) where
  served_alone : (old now : P) (asked : List (List ℕ)) (answers : List Answer) →
      ServesApart calls (λ before after. after ≡ before) old asked answers now → Serves calls old asked answers now
  served_alone old _ _ _ nothing = refl
  served_alone old _ _ _ (one_line asked answers more now new text so serves) =
      serves_then calls old now new asked (text ∷ []) answers more (served_alone old now asked answers so) serves
  served_alone old _ _ _ (between asked answers now new so same) =
      subst (Serves calls old asked answers) (sym same) (served_alone old now asked answers so)

  pub gave_out_alone : CourseLaw calls (λ before after. after ≡ before) (Serves calls)
  gave_out_alone old now bytes out talk course =
      let (asked, answers, served, follows, long, count, gave) = gave_out calls (λ before after. after ≡ before) old now bytes out talk course in
      (asked, answers, served_alone old now asked answers served, follows, long, count, gave)

  pub gave_all_alone : LastLaw calls (λ before after. after ≡ before) (Serves calls)
  gave_all_alone old now new bytes out talk talked course uncut last =
      let (answers, served, uncut_all, count, gave) =
      gave_all calls (λ before after. after ≡ before) old now new bytes out talk talked course uncut last in
      (answers, served_alone old new (lines bytes) answers served, uncut_all, count, gave)
