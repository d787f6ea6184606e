-- A connection at any point, and how it ends.
use Rattle.std.proofs.Common.{◌≡◌, inl, inr, ℕ, ◌+◌, cond, List, [], ◌∷◌, ◌++◌, length, take, Option, None, Some, Err}
use Rattle.std.proofs.Common.{refl, sym, ap, ◌∙◌, subst, append-nil, append_assoc, arith, length-append}
use Rattle.std.specs.Io.KnownBytes.{Appends, Keeps, prepend_known}
use Rattle.std.proofs.KnownBytes.{Appends-nil, Appends-trans}
use Rattle.std.proofs.Math.Seq.{take-append-add, take-length}
use Rattle.pad_model.specs.declared.refusal.Refusal.TheVariants.{TooLong}
use Rattle.pad_model.specs.declared.refusal.Refusal.TheVariants as Refusal
use Rattle.pad_core.specs.declared.request.Request.{Request}
use Rattle.wire_json.specs.Replies.{line_of}
use Rattle.wire_lines.specs.Lines.{line_end}
use Rattle.wire_lines.specs.declared.fault.Fault.{Fault}
use Rattle.wire_lines.specs.declared.fault.Fault.TheVariants.{ReadFault, WriteFault, PeerReply, Memory}
use Rattle.wire_lines.specs.Buffer.{Finds}
use Rattle.wire_lines.specs.Served.{lines, is_cut}
use Rattle.wire_lines.specs.declared.buffer.FoundLine.TheVariants as found
use Rattle.wire_lines.proofs.InOrder.{lines_in_order}
use Rattle.conversation.specs.Session.{Answer, Serves, ServesSome, texts, no_memory, IsWhole, IsFront, IsBefore}
use Rattle.conversation.specs.Connection.{ServesOne, ServesAll, BreaksOff, RunsOut, ServesRead, TellsFault}
use Rattle.std.specs.Prelude.{sum_by}
use Rattle.std.proofs.lemmas.List.Sums.{sum_by-append}
use Rattle.conversation.specs.Delivered.{IsCount, Tells, counted, delivered_of, up_to}
use Rattle.conversation.specs.declared.served.Served.{Served}
use Rattle.conversation.proofs.Turns.{serves_then, texts-append, text_of_one}

-- the lines so far were answered and the answers written, and these bytes are not read yet
pub record IsServing {P : Type 0} (calls : P → Request → Answer → P → Type 0) (old now : P)
    (known left : Option (List ℕ)) (served : Served) (before after : Option (List ℕ)) : Type 0 where
  pub asked : List (List ℕ)
  pub answers : List Answer
  pub serves : Serves calls old asked answers now
  pub written : Appends before after (texts answers)
  pub stays : IsBefore known asked left
  pub count : IsCount served answers

lines_more : (lines count : ℕ) → lines ≡ up_to count → up_to (lines + 1) ≡ up_to (count + 1)
lines_more lines count is = rw is (omega arith)

total_more : (total sum more : ℕ) → total ≡ up_to sum → up_to (total + more) ≡ up_to (sum + more)
total_more total sum more is = rw is (omega arith)

sum_one : (answer : Answer) → sum_by delivered_of (answer ∷ []) ≡ delivered_of answer
sum_one answer = omega arith

-- one more answer is counted
pub count_more : (served : Served) (told : Option ℕ) (answers others : List Answer) → IsCount served answers →
    Tells told others → IsCount (counted served told) (answers ++ others)
count_more served None answers others count none = subst (λ l. IsCount served (answers ++ l)) (sym none)
    (subst (IsCount served) (sym (append-nil answers)) count)
count_more served (Some more) answers others count (answer, one, told) =
    subst (λ l. IsCount (counted served (Some more)) (answers ++ l)) (sym one) (
      lines_more served.lines (length answers) count.0 ∙ ap up_to (sym (length-append answers (answer ∷ []))),
      total_more served.delivered (sum_by delivered_of answers) more count.1
          ∙ ap (λ n. up_to (sum_by delivered_of answers + n)) (told ∙ sym (sum_one answer))
          ∙ ap up_to (sym (sum_by-append delivered_of answers (answer ∷ []))),
    )

-- before the first line
pub start_left : (known : Option (List ℕ)) → IsBefore known [] (prepend_known [] known)
start_left None = tt
start_left (Some bytes) = (refl, refl)

-- at the end of the bytes
end_whole : (known left rest : Option (List ℕ)) (asked : List (List ℕ)) (line : List ℕ) → IsBefore known asked left →
    Finds found.End left line rest → IsWhole known asked []
end_whole None left rest asked line stays finds = inl refl
end_whole (Some bytes) None rest asked line stays finds = absurd stays
end_whole (Some bytes) (Some more) None asked line stays finds = absurd finds
end_whole (Some bytes) (Some more) (Some rest) asked line stays finds =
    let law = lines_in_order found.End more line rest finds in (
      sym (stays.0 ∙ ap (λ l. asked ++ l) law.0 ∙ append-nil asked),
      sym (ap (λ b. cond b (Err TooLong ∷ []) []) (stays.1 ∙ law.1)),
    )

-- at a line that is too long
cut_whole : (known left rest : Option (List ℕ)) (asked : List (List ℕ)) (line : List ℕ) → IsBefore known asked left →
    Finds found.TooLong left line rest → IsWhole known asked (Err TooLong ∷ [])
cut_whole None left rest asked line stays finds = inr refl
cut_whole (Some bytes) None rest asked line stays finds = absurd stays
cut_whole (Some bytes) (Some more) None asked line stays finds = absurd finds
cut_whole (Some bytes) (Some more) (Some rest) asked line stays finds =
    let law = lines_in_order found.TooLong more line rest finds in (
      sym (stays.0 ∙ ap (λ l. asked ++ l) law.0 ∙ append-nil asked),
      sym (ap (λ b. cond b (Err TooLong ∷ []) []) (stays.1 ∙ law.1)),
    )

-- after a line
line_left : (known left rest : Option (List ℕ)) (asked : List (List ℕ)) (line : List ℕ) → IsBefore known asked left →
    Finds found.Text left line rest → IsBefore known (asked ++ line ∷ []) rest
line_left None left rest asked line stays finds = tt
line_left (Some bytes) None rest asked line stays finds = absurd stays
line_left (Some bytes) (Some more) None asked line stays finds = absurd finds
line_left (Some bytes) (Some more) (Some rest) asked line stays finds =
    let law = lines_in_order found.Text more line rest finds in
    (stays.0 ∙ ap (λ l. asked ++ l) law.0 ∙ sym (append_assoc asked (line ∷ []) (lines rest)), stays.1 ∙ law.1)

-- what remains is kept
pub kept_left : (known left rest : Option (List ℕ)) (asked : List (List ℕ)) → IsBefore known asked left → Keeps left rest →
    IsBefore known asked rest
kept_left None left rest asked stays keeps = tt
kept_left (Some bytes) None rest asked stays keeps = absurd stays
kept_left (Some bytes) (Some more) None asked stays keeps = absurd keeps
kept_left (Some bytes) (Some more) (Some rest) asked stays keeps =
    (stays.0 ∙ ap (λ l. asked ++ lines l) (sym keeps), stays.1 ∙ ap is_cut (sym keeps))

-- the remaining lines follow
front_left : (known left : Option (List ℕ)) (asked : List (List ℕ)) → IsBefore known asked left → IsFront known asked []
front_left None left asked stays = inl refl
front_left (Some bytes) None asked stays = absurd stays
front_left (Some bytes) (Some more) asked stays = (lines more, stays.0, inl refl)

-- there is no memory for a line
front_told : (known left : Option (List ℕ)) (asked : List (List ℕ)) → IsBefore known asked left →
    IsFront known asked no_memory
front_told None left asked stays = inr (inr refl)
front_told (Some bytes) None asked stays = absurd stays
front_told (Some bytes) (Some more) asked stays = (lines more, stays.0, inr (inr refl))

-- all lines were answered
front_whole : (known : Option (List ℕ)) (asked : List (List ℕ)) (tail : List Answer) → IsWhole known asked tail →
    IsFront known asked tail
front_whole None asked tail (inl none) = inl none
front_whole None asked tail (inr cut) = inr (inl cut)
front_whole (Some bytes) asked tail whole = ([], sym (append-nil asked ∙ whole.0), inr (inl (refl, whole.1)))

-- some of the next line and of those after it remain
front_some : (known rest : Option (List ℕ)) (asked some more : List (List ℕ)) (line : List ℕ) → line ∷ [] ≡ some
    ++ more → IsBefore known (asked ++ line ∷ []) rest → IsFront known (asked ++ some) []
front_some None rest asked some more line parts stays = inl refl
front_some (Some bytes) None asked some more line parts stays = absurd stays
front_some (Some bytes) (Some rest) asked some more line parts stays = (
  more ++ lines rest,
  stays.0 ∙ ap (λ l. (asked ++ l) ++ lines rest) parts ∙ ap (λ l. l ++ lines rest) (sym (append_assoc asked some more))
      ∙ append_assoc (asked ++ some) more (lines rest),
  inl refl,
)

-- all of a text
pub whole_text : (text : List ℕ) (before after : Option (List ℕ)) → Appends before after text →
    Appends before after (take (length text) text)
whole_text text before after wrote = subst (Appends before after) (sym (take-length text)) wrote

-- a text, followed by a prefix of another
pub front_text : (text other : List ℕ) (count : ℕ) (a b c : Option (List ℕ)) → Appends a b text →
    Appends b c (take count other) → Appends a c (take (length text + count) (text ++ other))
front_text text other count a b c first then = subst (Appends a c) (sym (take-append-add text other count))
    (Appends-trans a b c text (take count other) first then)

module _ {P : Type 0} (calls : P → Request → Answer → P → Type 0) (old now : P) (known left : Option (List ℕ))
    (served : Served) (before after : Option (List ℕ)) (so : IsServing calls old now known left served before after)
  where
    -- the end of the bytes is found
    pub at_end : (rest : Option (List ℕ)) (line : List ℕ) → Finds found.End left line rest →
        ServesAll calls old known served before after now
    at_end rest line finds = (
      so.asked,
      so.answers,
      [],
      so.serves,
      end_whole known left rest so.asked line so.stays finds,
      subst (IsCount served) (sym (append-nil so.answers)) so.count,
      subst (λ l. Appends before after (texts l)) (sym (append-nil so.answers)) so.written,
    )

    -- a line is too long, and the reply says so
    pub at_cut : (rest last : Option (List ℕ)) (line : List ℕ) → Finds found.TooLong left line rest →
        Appends after last (line_of (Err TooLong)) → ServesAll calls old known (counted served (Some 0)) before last now
    at_cut rest last line finds wrote = (
      so.asked,
      so.answers,
      Err TooLong ∷ [],
      so.serves,
      cut_whole known left rest so.asked line so.stays finds,
      count_more served (Some 0) so.answers (Err TooLong ∷ []) so.count (Err TooLong, refl, refl),
      subst (Appends before last) (sym (texts-append so.answers (Err TooLong ∷ []) ∙ ap (λ t. texts so.answers ++ t)
          (text_of_one (Err TooLong))))
          (Appends-trans before after last (texts so.answers) (line_of (Err TooLong)) so.written wrote),
    )

    -- a prefix of the reply that a line is too long is written
    pub cut_in_part : (rest last : Option (List ℕ)) (line : List ℕ) → Finds found.TooLong left line rest → (count : ℕ)
        × Appends after last (take count (line_of (Err TooLong)))
        → BreaksOff calls old known before last now
    cut_in_part rest last line finds wrote = (
      so.asked,
      so.answers,
      Err TooLong ∷ [],
      length (texts so.answers) + wrote.0,
      so.serves,
      front_whole known so.asked (Err TooLong ∷ []) (cut_whole known left rest so.asked line so.stays finds),
      subst (λ t. Appends before last (take (length (texts so.answers) + wrote.0) t))
          (sym (texts-append so.answers (Err TooLong ∷ []) ∙ ap (λ t. texts so.answers ++ t) (text_of_one (Err TooLong))))
          (front_text (texts so.answers) (line_of (Err TooLong)) wrote.0 before after last so.written wrote.1),
    )

    -- no line is found
    pub breaks_off : BreaksOff calls old known before after now
    breaks_off = (
      so.asked,
      so.answers,
      [],
      length (texts so.answers),
      so.serves,
      front_left known left so.asked so.stays,
      subst (λ l. Appends before after (take (length (texts so.answers)) (texts l))) (sym (append-nil so.answers))
          (whole_text (texts so.answers) before after so.written),
    )

    -- the reply that there is no memory for a line is written, or a prefix of it
    memory_told : (count : ℕ) (last : Option (List ℕ)) → Appends after last (take count (line_of (Err Refusal.Memory))) →
        BreaksOff calls old known before last now
    memory_told count last wrote = (
      so.asked,
      so.answers,
      no_memory,
      length (texts so.answers) + count,
      so.serves,
      front_told known left so.asked so.stays,
      subst (λ t. Appends before last (take (length (texts so.answers) + count) t))
          (sym (texts-append so.answers no_memory ∙ ap (λ t. texts so.answers ++ t) (text_of_one (Err Refusal.Memory))))
          (front_text (texts so.answers) (line_of (Err Refusal.Memory)) count before after last so.written wrote),
    )

    -- no line is found, and out of memory is reported if it is the cause
    pub told_off : (fault told : Fault) (failed failed_then : ℕ) (last : Option (List ℕ)) →
        TellsFault fault told failed failed_then after last → BreaksOff calls old known before last now
    told_off ReadFault told failed failed_then last tells = subst (λ l. BreaksOff calls old known before l now)
        (sym tells.2) breaks_off
    told_off WriteFault told failed failed_then last tells = subst (λ l. BreaksOff calls old known before l now)
        (sym tells.2) breaks_off
    told_off PeerReply told failed failed_then last tells = subst (λ l. BreaksOff calls old known before l now)
        (sym tells.2) breaks_off
    told_off Memory told failed failed_then last (inl (memory, none, wrote)) =
        memory_told (length (line_of (Err Refusal.Memory))) last
        (whole_text (line_of (Err Refusal.Memory)) after last wrote)
    told_off Memory told failed failed_then last (inr (write, more, count, wrote)) = memory_told count last wrote

    -- no line is found because memory ran out, and that was reported in a whole line
    pub runs_out : (fault told : Fault) (failed failed_then : ℕ) (last : Option (List ℕ)) →
        TellsFault fault told failed failed_then after last → told ≡ Memory → RunsOut calls old known before last now
    runs_out ReadFault told failed failed_then last tells memory = let same : told ≡ ReadFault = tells.0 in absurd (cc)
    runs_out WriteFault told failed failed_then last tells memory = let same : told ≡ WriteFault = tells.0 in
        absurd (cc)
    runs_out PeerReply told failed failed_then last tells memory = let same : told ≡ PeerReply = tells.0 in absurd (cc)
    runs_out Memory told failed failed_then last (inr (write, none, count, more)) memory = absurd (cc)
    runs_out Memory told failed failed_then last (inl (same, none, wrote)) memory = (
      so.asked,
      so.answers,
      so.serves,
      front_told known left so.asked so.stays,
      subst (λ t. Appends before last t)
          (sym (texts-append so.answers no_memory ∙ ap (λ t. texts so.answers ++ t) (text_of_one (Err Refusal.Memory))))
          (Appends-trans before after last (texts so.answers) (line_of (Err Refusal.Memory)) so.written wrote),
    )

    -- no line is found in what was read
    pub served_read : (part : List ℕ) (unread : Option (List ℕ)) → Keeps left (prepend_known part unread) → line_end part
        ≡ length part → ServesRead calls old known unread before after now
    served_read part unread keeps none = (
      so.asked,
      so.answers,
      part,
      so.serves,
      kept_left known left (prepend_known part unread) so.asked so.stays keeps,
      none,
      so.written,
    )

    -- one more line
    pub goes_on : (new : P) (told : Option ℕ) (rest last : Option (List ℕ)) (line : List ℕ) →
        Finds found.Text left line rest → ServesOne calls now line told after last new
        → IsServing calls old new known rest (counted served told) before last
    goes_on new told rest last line finds one = record {
      asked = so.asked ++ line ∷ [];
      answers = so.answers ++ one.0;
      serves = serves_then calls old now new so.asked (line ∷ []) so.answers one.0 so.serves one.1;
      written = subst (Appends before last) (sym (texts-append so.answers one.0))
          (Appends-trans before after last (texts so.answers) (texts one.0) so.written one.3);
      count = count_more served told so.answers one.0 so.count one.2;
      stays = line_left known left rest so.asked line so.stays finds;
    }

    -- one more line, or a prefix of its reply
    pub breaks_in : (new : P) (rest last : Option (List ℕ)) (line : List ℕ) → Finds found.Text left line rest →
        ServesSome calls now (line ∷ []) after last new → BreaksOff calls old known before last new
    breaks_in new rest last line finds (asked, more, answers, count, parts, serves, wrote) = (
      so.asked ++ asked,
      so.answers ++ answers,
      [],
      length (texts so.answers) + count,
      serves_then calls old now new so.asked asked so.answers answers so.serves serves,
      front_some known rest so.asked asked more line parts (line_left known left rest so.asked line so.stays finds),
      subst (λ l. Appends before last (take (length (texts so.answers) + count) (texts l)))
          (sym (append-nil (so.answers ++ answers)))
          (subst (λ t. Appends before last (take (length (texts so.answers) + count) t))
          (sym (texts-append so.answers answers))
          (front_text (texts so.answers) (texts answers) count before after last so.written wrote)),
    )

-- nothing was answered yet
pub begins : {P : Type 0} (calls : P → Request → Answer → P → Type 0) (old : P) (known before : Option (List ℕ)) →
    IsServing calls old old known (prepend_known [] known) (record { lines = 0; delivered = 0 }) before before
begins calls old known before = record { asked = []; answers = []; serves = refl; written = Appends-nil before; stays = start_left known; count = (refl, refl) }
