-- A connection, by the progress of its conversation.
use Rattle.std.proofs.Common.{◌≡◌, ℕ, Bool, true, false, cond, List, [], ◌∷◌, ◌++◌, take, Option, Some, Err}
use Rattle.std.proofs.Common.{refl, sym, ap, ◌∙◌, subst, append-nil}
use Rattle.std.specs.Io.KnownBytes.{Appends, Keeps, prepend_known}
use Rattle.pad_model.specs.declared.refusal.Refusal.TheVariants.{TooLong}
use Rattle.pad_core.specs.declared.request.Request.{Request}
use Rattle.wire_lines.specs.Buffer.{Finds, IsPart, Shows}
use Rattle.wire_lines.specs.declared.buffer.FoundLine.TheVariants as found
use Rattle.conversation.specs.Connection.{BreaksOff, ServesAll, ServesRead}
use Rattle.conversation.specs.Delivered.{IsCount}
use Rattle.conversation.specs.Session.{Answer, texts}
use Rattle.conversation.specs.Talk.{Talk, AnswersFirst, AnswersLast, AnswersNext, Says, TellsLong, ahead}
use Rattle.conversation.proofs.Serving.{IsServing, at_cut, at_end, breaks_in, cut_in_part, goes_on, kept_left, served_read}
use Rattle.conversation.proofs.Talks.{finds_before}
use Rattle.conversation.proofs.Turns.{text_of_one}

-- no bytes are yet to be answered
finds_end : (waiting : List ℕ) (ended : Bool) (remaining : Option (List ℕ)) → ended ≡ true → waiting ≡ [] →
    Finds found.End (prepend_known waiting (cond ended (Some []) remaining)) [] (Some [])
finds_end [] true remaining is none = (refl, refl)
finds_end [] false remaining is none = absurd (cc)
finds_end (byte ∷ waiting) ended remaining is none = absurd (cc)

-- an answer that is the only reply
only_told : (old new : Talk) (told : Option ℕ) (answers : List Answer) → old.replies ≡ [] → Says old told answers new →
    new.replies ≡ texts answers
only_told old new told answers none says = says.0 ∙ ap (λ l. l ++ texts answers) none

module _ {P : Type 0} (calls : P → Request → Answer → P → Type 0) (old now : P) (known remaining : Option (List ℕ))
    (talk : Talk) (ended : Bool) (before after : Option (List ℕ))
    (so : IsServing calls old now known (ahead talk ended remaining) talk.served before after) where
  -- the next line was answered, and the reply was written
  pub next_served : (new : P) (talked : Talk) (last : Option (List ℕ)) → talk.replies ≡ [] →
      AnswersNext calls ended now talk new talked → Appends after last talked.replies →
      IsServing calls old new known (ahead talked ended remaining) talked.served before last
  next_served new talked last none (line, finds, (told, answers, serves, tells, says, uncut)) wrote =
      subst (λ s. IsServing calls old new known (ahead talked ended remaining) s before last) (sym says.1)
      (goes_on calls old now known (ahead talk ended remaining) talk.served before after so new told
      (ahead talked ended remaining) last line (finds remaining)
      (answers, serves, tells, subst (Appends after last) (only_told talk talked told answers none says) wrote))

  -- the next line was answered, and a prefix of the reply was written
  pub next_breaks : (new : P) (talked : Talk) (last : Option (List ℕ)) → talk.replies ≡ [] →
      AnswersNext calls ended now talk new talked → (count : ℕ) × Appends after last (take count talked.replies) →
      BreaksOff calls old known before last new
  next_breaks new talked last none (line, finds, (told, answers, serves, tells, says, uncut)) (count, wrote) =
      breaks_in calls old now known (ahead talk ended remaining) talk.served before after so new
      (ahead talked ended remaining) last line (finds remaining) (
        line ∷ [],
        [],
        answers,
        count,
        refl,
        serves,
        subst (λ t. Appends after last (take count t)) (only_told talk talked told answers none says) wrote,
      )

  -- the next line is too long, and the reply that says so was written
  pub cut_served : (talked : Talk) (last : Option (List ℕ)) → talk.replies ≡ [] → TellsLong talk talked →
      Appends after last talked.replies → ServesAll calls old known talked.served before last now
  cut_served talked last none (line, shows, says, cut) wrote =
      subst (λ s. ServesAll calls old known s before last now) (sym says.1)
      (at_cut calls old now known (ahead talk ended remaining) talk.served before after so
      (ahead talked ended remaining) last line
      (finds_before found.TooLong talk.waiting line talked.waiting (cond ended (Some []) remaining) shows)
      (subst (Appends after last)
      (only_told talk talked (Some 0) (Err TooLong ∷ []) none says ∙ text_of_one (Err TooLong)) wrote))

  -- the next line is too long, and a prefix of the reply that says so was written
  pub cut_breaks : (talked : Talk) (last : Option (List ℕ)) → talk.replies ≡ [] → TellsLong talk talked →
      (count : ℕ) × Appends after last (take count talked.replies) → BreaksOff calls old known before last now
  cut_breaks talked last none (line, shows, says, cut) (count, wrote) =
      cut_in_part calls old now known (ahead talk ended remaining) talk.served before after so
      (ahead talked ended remaining) last line
      (finds_before found.TooLong talk.waiting line talked.waiting (cond ended (Some []) remaining) shows) (
        count,
        subst (λ t. Appends after last (take count t))
            (only_told talk talked (Some 0) (Err TooLong ∷ []) none says ∙ text_of_one (Err TooLong)) wrote,
      )

  -- no more bytes arrive, and none wait
  pub all_served : ended ≡ true → talk.waiting ≡ [] → ServesAll calls old known talk.served before after now
  all_served is none =
      at_end calls old now known (ahead talk ended remaining) talk.served before after so (Some []) []
      (finds_end talk.waiting ended remaining is none)

  -- bytes were read
  pub more_came : (talked : Talk) (last : Bool) (left : Option (List ℕ)) → ended ≡ false → talked.served ≡ talk.served →
      Keeps (ahead talk false remaining) (ahead talked last left) →
      IsServing calls old now known (ahead talked last left) talked.served before after
  more_came talked last left going same keeps =
      let kept : Keeps (ahead talk ended remaining) (ahead talked last left) =
      subst (λ e. Keeps (ahead talk e remaining) (ahead talked last left)) (sym going) keeps in
      record {
        asked = so.asked;
        answers = so.answers;
        serves = so.serves;
        written = so.written;
        stays = kept_left known (ahead talk ended remaining) (ahead talked last left) so.asked so.stays kept;
        count = subst (λ s. IsCount s so.answers) (sym same) so.count;
      }

  -- no more bytes can be read
  pub read_off : (unread : Option (List ℕ)) → ended ≡ false → IsPart talk.waiting →
      Keeps (ahead talk false remaining) (prepend_known talk.waiting unread) →
      ServesRead calls old known unread before after now
  read_off unread going part keeps =
      served_read calls old now known (ahead talk ended remaining) talk.served before after so talk.waiting unread
      (subst (λ e. Keeps (ahead talk e remaining) (prepend_known talk.waiting unread)) (sym going) keeps) part.0
