-- What a part of the bytes shows about all of them.
use Rattle.std.proofs.Common.{◌≡◌, ℕ, ◌+◌, ◌<◌, ◌≤◌, true, false, cond, ltb, List, ◌++◌, length, length-append}
use Rattle.std.proofs.Common.{inl, inr, slice_index, take, drop, refl, ap, ◌∙◌, sym, subst, arith}
use Rattle.std.proofs.lemmas.Bool.{cases_lt, eqb-true}
use Rattle.std.proofs.lemmas.List.{take-append-le, take-take, drop-append-le}
use Rattle.std.proofs.lemmas.List.Sums.{passes_at_first}
use Rattle.wire_lines.specs.Lines.{is_feed, line_end, first_line, behind_line, without_return}
use Rattle.wire_lines.specs.Buffer.{ShowsBefore}
use Rattle.wire_lines.specs.declared.buffer.FoundLine.TheVariants.{Text, TooLong}
use Rattle.wire_lines.specs.declared.feed.TheConstants.{MAX_LINE}
use Rattle.wire_lines.specs.Inside.{IsSearched}
use Rattle.wire_lines.proofs.Feeds.{line_end-found, line_end-more, line_end-from}

-- the first line of bytes that have a line feed
pub first-of : (bytes : List ℕ) → line_end bytes < length bytes → first_line bytes
    ≡ without_return (take (line_end bytes) bytes)
first-of bytes lt = pick (line_end bytes) (length bytes) (without_return (take (line_end bytes) bytes)) lt
  where
    pick : (end len : ℕ) (line : List ℕ) → end < len → cond (ltb end len) line bytes ≡ line
    pick end len line lt = grind arith

-- the first line of bytes that have none
pub first-whole : (bytes : List ℕ) → line_end bytes ≡ length bytes → first_line bytes ≡ bytes
first-whole bytes is = pick (line_end bytes) (length bytes) (without_return (take (line_end bytes) bytes)) is
  where
    pick : (end len : ℕ) (line : List ℕ) → end ≡ len → cond (ltb end len) line bytes ≡ bytes
    pick end len line is = grind arith

not-above : (end most : ℕ) → end ≤ most → ltb most end ≡ false
not-above end most le = grind arith

above : (end most : ℕ) → most < end → ltb most end ≡ true
above end most lt = grind arith

-- a line feed was found within the limit
pub shows_text : (bytes : List ℕ) → line_end bytes < length bytes → line_end bytes ≤ MAX_LINE
    → ShowsBefore Text bytes (without_return (take (line_end bytes) bytes)) (drop (line_end bytes + 1) bytes)
shows_text bytes lt few more =
    let same : line_end (bytes ++ more) ≡ line_end bytes = line_end-found bytes more lt in
    let longer : length bytes ≤ length (bytes ++ more) = omega (arith, length-append bytes more) in (
      omega arith,
      ap (ltb MAX_LINE) same ∙ not-above (line_end bytes) MAX_LINE few,
      ap without_return (sym (ap (λ n. take n (bytes ++ more)) same ∙ take-append-le (line_end bytes) bytes more
          (omega arith))) ∙ sym (first-of (bytes ++ more) (omega arith)),
      sym (ap (λ n. drop (n + 1) (bytes ++ more)) same ∙ drop-append-le (line_end bytes + 1) bytes more (omega arith)),
    )

-- too much of the first line is there, with its line feed or without
pub shows_too_long : (bytes line : List ℕ) → MAX_LINE < line_end bytes → ShowsBefore TooLong bytes line bytes
shows_too_long bytes line many more =
    let longer : line_end bytes ≤ line_end (bytes ++ more) = line_end-more bytes more in
    (above (line_end (bytes ++ more)) MAX_LINE (omega arith), refl)

-- the first line of what waits shows, whatever follows
pub first_shows : (waiting : List ℕ) (end to : ℕ) → end ≡ line_end waiting → end < length waiting → end ≤ MAX_LINE
    → take to waiting ≡ without_return (take end waiting) → ShowsBefore Text waiting (take to waiting) (behind_line waiting)
first_shows waiting end to at there few line =
    subst (λ l. ShowsBefore Text waiting l (behind_line waiting))
    (sym (line ∙ ap (λ n. without_return (take n waiting)) at))
    (shows_text waiting (omega arith) (omega arith))

-- the same once it was taken with its line feed
pub taken_shows : (waiting taken rest : List ℕ) (end to : ℕ) → end ≡ line_end waiting → end < length waiting → end ≤ MAX_LINE
    → to ≤ end → take to waiting ≡ without_return (take end waiting) → taken ≡ take (end + 1) waiting
    → rest ≡ drop (end + 1) waiting → ShowsBefore Text waiting (take to taken) rest
taken_shows waiting taken rest end to at there few short line front behind =
    subst (λ r. ShowsBefore Text waiting (take to taken) r) (sym (behind ∙ ap (λ n. drop (n + 1) waiting) at))
    (subst (λ l. ShowsBefore Text waiting l (behind_line waiting))
    (sym (ap (take to) front ∙ take-take to (end + 1) waiting (omega arith)))
    (first_shows waiting end to at there few line))

-- after more bytes came the search has gone on to the end of the first line
pub after_more : (waiting new more : List ℕ) (end later : ℕ) → end ≡ line_end waiting → new ≡ waiting ++ more
    → later ≡ end + line_end (drop end new) → later ≡ line_end new
after_more waiting new more end later at is on =
    let most : line_end waiting ≤ line_end new =
    subst (λ l. line_end waiting ≤ line_end l) (sym is) (line_end-more waiting more) in
    on ∙ sym (line_end-from new end (omega arith))

-- the end of the first line is where a search for it ended
pub is_searched : (waiting : List ℕ) (end : ℕ) → end ≡ line_end waiting → end ≤ length waiting → IsSearched waiting end
is_searched waiting end at within = elim (cases_lt end (length waiting)) [
  | inl before ↦ inr (feed before)
  | inr behind ↦ inl (omega arith)
]
  where
    feed : end < length waiting → slice_index waiting end ≡ 10
    feed before =
        let here = passes_at_first is_feed waiting 0 (omega arith) in
        ap (λ i. slice_index waiting i) at ∙ eqb-true _ 10 here
