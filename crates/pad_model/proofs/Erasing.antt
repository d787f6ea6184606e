-- The spans of a stretch of the visible text: what they name, and that they are within the limits.
use Rattle.std.proofs.Common.{◌≡◌, ℕ, suc, ◌+◌, ◌≤◌, true, leb, List, [], ◌∷◌, ◌++◌, length, refl, sym, ap, ◌∙◌}
use Rattle.std.proofs.Common.{flat_map, sum_by, arith, le-leb, leb-true}
use Rattle.std.proofs.lemmas.Bool.{and_parts, and_from}
use Rattle.std.proofs.lemmas.List.Sums.{sum_by-cons}
use Rattle.std.specs.List.{AllByRecursion, list_all}
use Rattle.pad_model.specs.Stamp.{Stamp, same_stamp}
use Rattle.pad_model.specs.Character.{next}
use Rattle.pad_model.specs.Checked.{is_span}
use Rattle.pad_model.specs.Operation.{stamps_from, span_stamps}
use Rattle.pad_model.specs.Visible.{join_span, spans}
use Rattle.pad_model.specs.declared.limits.TheConstants.{MAX_COUNTER}
use Rattle.pad_model.specs.declared.op.Span.{Span}
use Rattle.pad_model.proofs.Newer.{split, same_stamp-true}

-- joining a stamp to spans puts it before their stamps
join_span-stamps : (s : Stamp) (ss : List Span) → flat_map span_stamps (join_span s ss) ≡ s ∷ flat_map span_stamps ss
join_span-stamps s [] = refl
join_span-stamps s (span ∷ ss) =
    split (same_stamp (next s) span.first)
    (λ e. rw e (longer s span ss (same_stamp-true (next s) span.first e)))
    (λ e. rw e refl)
  where
    longer : (s : Stamp) (span : Span) (ss : List Span) → next s ≡ span.first → stamps_from s (span.len + 1)
        ++ flat_map span_stamps ss ≡ s ∷ stamps_from span.first span.len ++ flat_map span_stamps ss
    longer s span ss e = ap (λ n. stamps_from s n ++ flat_map span_stamps ss)
        (let m : span.len + 1 ≡ suc span.len = omega arith in m)
        ∙ ap (λ f. s ∷ stamps_from f span.len ++ flat_map span_stamps ss) e

-- the spans of stamps name exactly these, in their order
pub spans-stamps : (stamps : List Stamp) → flat_map span_stamps (spans stamps) ≡ stamps
spans-stamps [] = refl
spans-stamps (s ∷ stamps) = join_span-stamps s (spans stamps) ∙ ap (λ l. s ∷ l) (spans-stamps stamps)

join_span-len : (s : Stamp) (ss : List Span) → sum_by (λ span. span.len) (join_span s ss) ≡ sum_by (λ span. span.len) ss
    + 1
join_span-len s [] = refl
join_span-len s (span ∷ ss) =
    let rest = sum_by-cons (λ (x : Span). x.len) span ss in
    split (same_stamp (next s) span.first)
    (λ e. rw e (sum_by-cons (λ (x : Span). x.len) (record { first = s; len = span.len + 1 }) ss
    ∙ (let m : span.len + 1 + sum_by (λ (x : Span). x.len) ss ≡ span.len + sum_by (λ (x : Span). x.len) ss
    + 1 = omega arith in m) ∙ ap (λ n. n + 1) (sym rest)))
    (λ e. rw e (sum_by-cons (λ (x : Span). x.len) (record { first = s; len = 1 }) (span ∷ ss)
    ∙ (let m : 1 + sum_by (λ (x : Span). x.len) (span ∷ ss) ≡ sum_by (λ (x : Span). x.len) (span ∷ ss)
    + 1 = omega arith in m)))

-- they have as many characters as there are stamps
pub spans-len : (stamps : List Stamp) → sum_by (λ span. span.len) (spans stamps) ≡ length stamps
spans-len [] = refl
spans-len (s ∷ stamps) = join_span-len s (spans stamps) ∙ ap (λ n. n + 1) (spans-len stamps)
    ∙ (let m : length stamps + 1 ≡ suc (length stamps) = omega arith in m)

span_checked : (first : Stamp) (len : ℕ) → 1 ≤ len → first.counter + len ≤ MAX_COUNTER + 1 →
    is_span (record { first = first; len = len }) ≡ true
span_checked first len some low = and_from _ _ (le-leb 1 len some) (le-leb (first.counter + len) (MAX_COUNTER + 1) low)

join_span-checked : (s : Stamp) (ss : List Span) → s.counter ≤ MAX_COUNTER → list_all is_span ss ≡ true →
    list_all is_span (join_span s ss) ≡ true
join_span-checked s [] low h = and_from _ _ (span_checked s 1 (omega arith) (omega arith)) refl
join_span-checked s (span ∷ ss) low h =
    let both = and_parts (is_span span) (list_all is_span ss) h in
    let one = and_parts (leb 1 span.len) (leb (span.first.counter + span.len) (MAX_COUNTER + 1)) both.0 in
    let low_span : span.first.counter + span.len ≤ MAX_COUNTER + 1 = leb-true (span.first.counter + span.len)
    (MAX_COUNTER + 1) one.1 in
    split (same_stamp (next s) span.first)
    (λ e. let follows : s.counter + 1 ≡ span.first.counter = ap (λ t. t.counter)
    (same_stamp-true (next s) span.first e) in
    rw e (and_from _ _ (span_checked s (span.len + 1) (omega arith) (omega arith)) both.1))
    (λ e. rw e (and_from _ _ (span_checked s 1 (omega arith) (omega arith)) h))

-- and each is within the limits if the stamps are
pub spans-checked : (stamps : List Stamp) → AllByRecursion (λ s. s.counter ≤ MAX_COUNTER) stamps →
    list_all is_span (spans stamps) ≡ true
spans-checked [] h = refl
spans-checked (s ∷ stamps) h = join_span-checked s (spans stamps) h.0 (spans-checked stamps h.1)

join_span-some : (s : Stamp) (ss : List Span) → 1 ≤ length (join_span s ss)
join_span-some s [] = omega arith
join_span-some s (span ∷ ss) = split (same_stamp (next s) span.first) (λ e. rw e (omega arith))
    (λ e. rw e (omega arith))

pub spans-some : (stamps : List Stamp) → 1 ≤ length stamps → 1 ≤ length (spans stamps)
spans-some [] h = absurd (omega arith)
spans-some (s ∷ stamps) h = join_span-some s (spans stamps)
