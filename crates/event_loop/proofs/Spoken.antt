-- The lines of messages are the lines of their bytes.
use Rattle.std.proofs.Common.{◌≡◌, ℕ, ◌+◌, ◌<◌, Bool, true, false, ◌&&◌, ◌||◌, not, cond, ltb, suc, List, [], ◌∷◌, ◌++◌, length, take, drop}
use Rattle.std.proofs.Common.{refl, ap, ◌∙◌, sym, append_assoc, arith}
use Rattle.std.proofs.lemmas.List.{take_at, drop_at, length-append}
use Rattle.std.specs.List.{list_any}
use Rattle.wire_lines.specs.Lines.{behind_line, first_line, is_too_long, line_end, without_return}
use Rattle.wire_lines.specs.Served.{LinesLaw, is_long, lines}
use Rattle.wire_lines.specs.declared.feed.TheConstants.{MAX_LINE}
use Rattle.wire_lines.specs.declared.buffer.FoundLine.TheVariants.{Text, TooLong}
use Rattle.web_wire.specs.Messages.{is_feed, is_line}
use Rattle.event_loop.specs.Laws.{AreLines, joined, spoken}

neither : (a b : Bool) → a || b ≡ false → (a ≡ false) × (b ≡ false)
neither true b e = absurd (cc)
neither false b e = (refl, e)

-- a line has no line feed
no_feed : (text : List ℕ) → is_line text ≡ true → list_any is_feed text ≡ false
no_feed text e = both (ltb 0 (length text)) (list_any is_feed text) e
  where
    both : (a b : Bool) → a && not b ≡ true → b ≡ false
    both true true e = absurd (cc)
    both true false e = refl
    both false b e = absurd (cc)

-- a line ends where its text does
end_at : (text rest : List ℕ) → list_any is_feed text ≡ false → line_end (text ++ 10 ∷ rest) ≡ length text
end_at [] rest e = refl
end_at (b ∷ text) rest e =
    let none = neither (is_feed b) (list_any is_feed text) e in
    ap (λ f. cond (not f) (1 + line_end (text ++ 10 ∷ rest)) 0) none.0
    ∙ one_more (line_end (text ++ 10 ∷ rest)) (length text) (end_at text rest none.1)
  where
    one_more : (a b : ℕ) → a ≡ b → 1 + a ≡ suc b
    one_more a b is = omega (arith, is)

-- the first line of a text with a line feed, and what follows it
module _ (text rest : List ℕ) (e : list_any is_feed text ≡ false) where
  end_is : line_end (text ++ 10 ∷ rest) ≡ length text
  end_is = end_at text rest e

  inside : line_end (text ++ 10 ∷ rest) < length (text ++ 10 ∷ rest)
  inside = omega (arith, end_is, length-append text (10 ∷ rest))

  first_is : first_line (text ++ 10 ∷ rest) ≡ without_return text
  first_is =
      ap (λ b. cond b (without_return (take (line_end (text ++ 10 ∷ rest)) (text ++ 10 ∷ rest))) (text ++ 10 ∷ rest))
      (is_less (line_end (text ++ 10 ∷ rest)) (length (text ++ 10 ∷ rest)) inside)
      ∙ ap without_return (take_at text (10 ∷ rest) (line_end (text ++ 10 ∷ rest)) (sym end_is))
    where
      is_less : (a b : ℕ) → a < b → ltb a b ≡ true
      is_less a b lt = grind arith

  behind_is : behind_line (text ++ 10 ∷ rest) ≡ rest
  behind_is =
      ap (λ l. drop (line_end (text ++ 10 ∷ rest) + 1) l) (sym (append_assoc text (10 ∷ []) rest))
      ∙ drop_at (text ++ 10 ∷ []) rest (line_end (text ++ 10 ∷ rest) + 1)
      (omega (arith, end_is, length-append text (10 ∷ [])))

  long_is : is_too_long (text ++ 10 ∷ rest) ≡ is_long text
  long_is = ap (ltb MAX_LINE) end_is

module _ (law : LinesLaw) where
  one : (text rest : List ℕ) (long : Bool) → list_any is_feed text ≡ false → is_long text ≡ long →
      lines (text ++ 10 ∷ rest) ≡ cond long [] (without_return text ∷ lines rest)
  one text rest true e is =
      (law TooLong (text ++ 10 ∷ rest) [] (text ++ 10 ∷ rest) (long_is text rest e ∙ is, refl)).0
  one text rest false e is =
      (law Text (text ++ 10 ∷ rest) (without_return text) rest
      (omega (arith, inside text rest e), long_is text rest e ∙ is, sym (first_is text rest e), sym (behind_is text rest e))).0

  pub spoken_lines : (texts : List (List ℕ)) → AreLines texts → lines (joined texts) ≡ spoken texts
  spoken_lines [] each = refl
  spoken_lines (text ∷ texts) each =
      ap lines (append_assoc text (10 ∷ []) (joined texts))
      ∙ one text (joined texts) (is_long text) (no_feed text each.0) refl
      ∙ ap (λ l. cond (is_long text) [] (without_return text ∷ l)) (spoken_lines texts each.1)
