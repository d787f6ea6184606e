-- The first line followed by the others gives all lines.
use Rattle.std.proofs.Common.{◌≡◌, ℕ, ◌+◌, ◌<◌, suc, ◌⊎◌, ⊎_elim, Bool, true, false, ◌||◌, not, cond, ltb, eqb, List}
use Rattle.std.proofs.Common.{[], ◌∷◌, length, take, refl, ap, ◌∙◌, sym, subst, arith}
use Rattle.std.proofs.Math.Nat.{eq-or-lt_of_le}
use Rattle.std.proofs.Math.ListN.{drop_of_length-le}
use Rattle.std.proofs.lemmas.List.{length-take-le}
use Rattle.std.proofs.lemmas.List.Splits.{slice_split_first}
use Rattle.std.specs.List.{slice_split, onto_first, list_any}
use Rattle.wire_lines.specs.Lines.{is_feed, line_end, first_line, behind_line, is_too_long, without_return}
use Rattle.wire_lines.specs.Served.{is_long, lines_of, lines, is_cut, LinesLaw}
use Rattle.wire_lines.specs.declared.feed.TheConstants.{MAX_LINE}
use Rattle.wire_lines.specs.declared.buffer.FoundLine.TheVariants.{Text, TooLong, End}
use Rattle.wire_lines.proofs.Feeds.{line_end-le}
use Rattle.wire_lines.proofs.Taken.{first-of, first-whole}

-- bytes without a line feed are one part
pub parts_none : (bytes : List ℕ) → line_end bytes ≡ length bytes → slice_split is_feed bytes ≡ bytes ∷ []
parts_none [] is = refl
parts_none (b ∷ bytes) is = next (is_feed b) (line_end bytes) (parts_none bytes) is
  where
    next : (feed : Bool) (end : ℕ) → (end ≡ length bytes → slice_split is_feed bytes ≡ bytes ∷ []) →
        cond (not feed) (1 + end) 0 ≡ suc (length bytes)
        → cond feed ([] ∷ slice_split is_feed bytes) (onto_first b (slice_split is_feed bytes)) ≡ (b ∷ bytes) ∷ []
    next true end go is = absurd (omega (arith, is))
    next false end go is = ap (onto_first b) (go (omega (arith, is)))

-- after a line feed there is a part
some_part : (bytes : List ℕ) → (part : List ℕ) × (parts : List (List ℕ)) × (slice_split is_feed bytes ≡ part ∷ parts)
some_part [] = ([], [], refl)
some_part (b ∷ bytes) = next (is_feed b) (some_part bytes)
  where
    next : (feed : Bool) → (part : List ℕ) × (parts : List (List ℕ)) × (slice_split is_feed bytes ≡ part ∷ parts)
        → (part : List ℕ) × (parts : List (List ℕ))
        × (cond feed ([] ∷ slice_split is_feed bytes) (onto_first b (slice_split is_feed bytes)) ≡ part ∷ parts)
    next true some = ([], slice_split is_feed bytes, refl)
    next false some = (b ∷ some.0, some.1, ap (onto_first b) some.2)

lines_behind : (part : List ℕ) (bytes : List ℕ) → is_long part ≡ false → lines_of (part ∷ slice_split is_feed bytes)
    ≡ without_return part ∷ lines bytes
lines_behind part bytes short =
    let some = some_part bytes in
    subst (λ parts. lines_of (part ∷ parts) ≡ without_return part ∷ lines_of parts) (sym some.2)
    (ap (λ long. cond long [] (without_return part ∷ lines_of (some.0 ∷ some.1))) short)

lines_cut : (part : List ℕ) (parts : List (List ℕ)) → is_long part ≡ true → lines_of (part ∷ parts) ≡ []
lines_cut part [] long = ap (λ b. cond (b || eqb (length part) 0) [] (part ∷ [])) long
lines_cut part (next ∷ parts) long = ap (λ b. cond b [] (without_return part ∷ lines_of (next ∷ parts))) long

any_behind : (part : List ℕ) (parts : List (List ℕ)) (long : Bool) → is_long part ≡ long →
    list_any is_long (part ∷ parts) ≡ long || list_any is_long parts
any_behind part parts long is = ap (λ b. b || list_any is_long parts) is

-- the first part has as many bytes as the first line
part_length : (bytes : List ℕ) → length (take (line_end bytes) bytes) ≡ line_end bytes
part_length bytes = length-take-le (line_end bytes) bytes (line_end-le bytes)

-- with a line feed: the first part, and those after it
split_at : (bytes : List ℕ) → line_end bytes < length bytes → slice_split is_feed bytes ≡ take (line_end bytes) bytes
    ∷ slice_split is_feed (behind_line bytes)
split_at bytes lt = slice_split_first is_feed bytes 0 lt

text_with_feed : (bytes : List ℕ) → line_end bytes < length bytes → is_too_long bytes ≡ false
    → (lines bytes ≡ first_line bytes ∷ lines (behind_line bytes)) × (is_cut bytes ≡ is_cut (behind_line bytes))
text_with_feed bytes lt short =
    let part = take (line_end bytes) bytes in
    let fits : is_long part ≡ false = ap (ltb MAX_LINE) (part_length bytes) ∙ short in (
      ap lines_of (split_at bytes lt) ∙ lines_behind part (behind_line bytes) fits
          ∙ ap (λ l. l ∷ lines (behind_line bytes)) (sym (first-of bytes lt)),
      ap (list_any is_long) (split_at bytes lt) ∙ any_behind part (slice_split is_feed (behind_line bytes)) false fits,
    )

last_line : (bytes : List ℕ) → line_end bytes ≡ length bytes → 0 < length bytes → is_too_long bytes ≡ false
    → (lines bytes ≡ first_line bytes ∷ lines (behind_line bytes)) × (is_cut bytes ≡ is_cut (behind_line bytes))
last_line bytes is some short =
    let fits : is_long bytes ≡ false = ap (ltb MAX_LINE) (sym is) ∙ short in
    let none : behind_line bytes ≡ [] = drop_of_length-le bytes (omega (arith, is)) in
    let there : eqb (length bytes) 0 ≡ false = not_none (length bytes) some in
    let one : lines_of (bytes ∷ []) ≡ bytes ∷ [] = ap (λ b. cond (b || eqb (length bytes) 0) [] (bytes ∷ [])) fits
    ∙ ap (λ b. cond b [] (bytes ∷ [])) there in (
      ap lines_of (parts_none bytes is) ∙ one ∙ ap (λ l. l ∷ []) (sym (first-whole bytes is))
          ∙ ap (λ r. first_line bytes ∷ lines r) (sym none),
      ap (list_any is_long) (parts_none bytes is) ∙ any_behind bytes [] false fits ∙ ap is_cut (sym none),
    )
  where
    not_none : (n : ℕ) → 0 < n → eqb n 0 ≡ false
    not_none n lt = grind arith

long_with_feed : (bytes : List ℕ) → line_end bytes < length bytes → is_too_long bytes ≡ true → (lines bytes ≡ [])
    × (is_cut bytes ≡ true)
long_with_feed bytes lt long =
    let part = take (line_end bytes) bytes in
    let too : is_long part ≡ true = ap (ltb MAX_LINE) (part_length bytes) ∙ long in (
      ap lines_of (split_at bytes lt) ∙ lines_cut part (slice_split is_feed (behind_line bytes)) too,
      ap (list_any is_long) (split_at bytes lt) ∙ any_behind part (slice_split is_feed (behind_line bytes)) true too,
    )

long_last : (bytes : List ℕ) → line_end bytes ≡ length bytes → is_too_long bytes ≡ true → (lines bytes ≡ [])
    × (is_cut bytes ≡ true)
long_last bytes is long =
    let too : is_long bytes ≡ true = ap (ltb MAX_LINE) (sym is) ∙ long in (
      ap lines_of (parts_none bytes is) ∙ lines_cut bytes [] too,
      ap (list_any is_long) (parts_none bytes is)
          ∙ any_behind bytes [] true too,
    )

end_cases : (bytes : List ℕ) → (line_end bytes ≡ length bytes) ⊎ (line_end bytes < length bytes)
end_cases bytes = eq-or-lt_of_le (line_end-le bytes)

pub lines_in_order : LinesLaw
lines_in_order Text bytes line rest shows =
    subst (λ l. (lines bytes ≡ l ∷ lines rest) × (is_cut bytes ≡ is_cut rest)) (sym shows.2)
    (subst (λ r. (lines bytes ≡ first_line bytes ∷ lines r) × (is_cut bytes ≡ is_cut r)) (sym shows.3)
    (⊎_elim (λ is. last_line bytes is shows.0 shows.1) (λ lt. text_with_feed bytes lt shows.1) (end_cases bytes)))
lines_in_order TooLong bytes line rest shows =
    ⊎_elim (λ is. long_last bytes is shows.0) (λ lt. long_with_feed bytes lt shows.0) (end_cases bytes)
lines_in_order End bytes line rest shows = subst (λ b. (lines b ≡ []) × (is_cut b ≡ false)) (sym shows.0) (refl, refl)
