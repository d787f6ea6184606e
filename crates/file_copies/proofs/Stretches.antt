-- Stretches of whole lines, each linked to the one before it.
use Rattle.std.proofs.Common.{◌≡◌, ℕ, suc, ◌-◌, nat_lt, Bool, true, false, List, []}
use Rattle.std.proofs.Common.{◌∷◌, ◌++◌, length, take, drop, bytes_eq, Option, Some, None, refl, sym, ap, ◌∙◌, subst, arith}
use Rattle.std.proofs.Common.{cond, append-nil, option_and_then}
use Rattle.std.specs.List.{position}
use Rattle.std.proofs.lemmas.Bool.{cond-true, cond-false, eqb-true}
use Rattle.std.proofs.lemmas.List.{length-append, length-take, take_rest}
use Rattle.std.proofs.lemmas.Slice.Eq.{bytes_eq-Decides}
use Rattle.std.specs.List.{AllByRecursion}
use Rattle.store_format.specs.Laws.{IsLine, last_sum}
use Rattle.store_format.specs.Lines.{bytes_of, is_feed, line_text, lines_behind, sum_after, text_behind, whole_lines, with_byte}
use Rattle.store_format.proofs.Crashes.{with_tail}
use Rattle.store_format.proofs.Feeds.{first_whole, none_whole}
use Rattle.store_format.proofs.Fronts.{text_found}
use Rattle.file_copies.specs.Stretches.{are_whole, stretch_sum, sum_behind}

-- bytes after a line feed say whether all are whole
pub whole_behind : (front more : List ℕ) → are_whole (front ++ 10 ∷ more) ≡ are_whole more
whole_behind [] [] = refl
whole_behind [] (byte ∷ more) = refl
whole_behind (byte ∷ []) more = whole_behind [] more
whole_behind (byte ∷ next ∷ front) more = whole_behind (next ∷ front) more

-- a first whole line is followed by a line feed and the other lines
pub first_there : (bytes line : List ℕ) (lines : List (List ℕ)) → whole_lines bytes ≡ line ∷ lines →
    (more : List ℕ) × (bytes ≡ line ++ 10 ∷ more) × (whole_lines more ≡ lines)
first_there [] line lines is = absurd (nothing is)
  where
    nothing : (let none : List (List ℕ) = [] in none) ≡ line ∷ lines → ⊥
    nothing e = cc
first_there (byte ∷ bytes) line lines is = at (is_feed byte) refl (λ first others e. first_there bytes first others e)
  where
    feed : (n : ℕ) → is_feed n ≡ true → n ≡ 10
    feed n e = eqb-true n 10 e

    heads : (a b : List ℕ) (more others : List (List ℕ)) → a ∷ more ≡ b ∷ others → (a ≡ b) × (more ≡ others)
    heads a b more others e = (cc, cc)

    at : (b : Bool) → is_feed byte ≡ b →
        ((first : List ℕ) (others : List (List ℕ)) → whole_lines bytes ≡ first ∷ others →
        (more : List ℕ) × (bytes ≡ first ++ 10 ∷ more) × (whole_lines more ≡ others)) →
        (more : List ℕ) × (byte ∷ bytes ≡ line ++ 10 ∷ more) × (whole_lines more ≡ lines)
    at true h on = here (heads [] line (whole_lines bytes) lines (sym (rw h refl) ∙ is))
      where
        here : ([] ≡ line) × (whole_lines bytes ≡ lines) →
            (more : List ℕ) × (byte ∷ bytes ≡ line ++ 10 ∷ more) × (whole_lines more ≡ lines)
        here (empty, rest) = (
          bytes,
          ap (λ (n : ℕ). n ∷ bytes) (feed byte h) ∙ ap (λ (l : List ℕ). l ++ 10 ∷ bytes) empty,
          rest,
        )
    at false h on = behind (whole_lines bytes) refl (sym (rw h refl) ∙ is)
      where
        behind : (found : List (List ℕ)) → whole_lines bytes ≡ found → with_byte byte found ≡ line ∷ lines →
            (more : List ℕ) × (byte ∷ bytes ≡ line ++ 10 ∷ more) × (whole_lines more ≡ lines)
        behind [] e none = absurd (nothing none)
          where
            nothing : (let none : List (List ℕ) = [] in none) ≡ line ∷ lines → ⊥
            nothing e = cc
        behind (first ∷ others) e one = found (on first others e)
          where
            found : ((more : List ℕ) × (bytes ≡ first ++ 10 ∷ more) × (whole_lines more ≡ others)) →
                (more : List ℕ) × (byte ∷ bytes ≡ line ++ 10 ∷ more) × (whole_lines more ≡ lines)
            found (more, there, rest) = (
              more,
              ap (λ (bs : List ℕ). byte ∷ bs) there
                  ∙ ap (λ (l : List ℕ). l ++ 10 ∷ more) (heads (byte ∷ first) line others lines one).0,
              rest ∙ (heads (byte ∷ first) line others lines one).1,
            )

drop_behind : (front more : List ℕ) → drop (suc (length front)) (front ++ 10 ∷ more) ≡ more
drop_behind [] more = refl
drop_behind (byte ∷ front) more = drop_behind front more

-- the bytes before and behind the first line feed
split : (bytes : List ℕ) (end : ℕ) → Some end ≡ position is_feed bytes →
    bytes ≡ take end bytes ++ 10 ∷ drop (suc end) bytes
split bytes end is = at (first_there bytes (take end bytes) (whole_lines (drop (suc end) bytes)) (first_whole bytes end (sym is)))
  where
    at : ((more : List ℕ) × (bytes ≡ take end bytes ++ 10 ∷ more) × (whole_lines more ≡ whole_lines (drop (suc end) bytes))) →
        bytes ≡ take end bytes ++ 10 ∷ drop (suc end) bytes
    at (more, there, same) = there ∙ ap (λ (m : List ℕ). take end bytes ++ 10 ∷ m) (sym behind)
      where
        short : length (take end bytes) ≡ end
        short = omega (
          arith,
          length-take end bytes,
          ap length there ∙ length-append (take end bytes) (10 ∷ more),
        )

        behind : drop (suc end) bytes ≡ more
        behind = ap (drop (suc end)) there
            ∙ (ap (λ (n : ℕ). drop (suc n) (take end bytes ++ 10 ∷ more)) (sym short) ∙ drop_behind (take end bytes) more)

-- the sum of all lines is that of the lines behind the first, from its own sum on
pub goes_on : (sum bytes rest text after : List ℕ) (end next : ℕ) (found : Option (List ℕ)) → next ≡ suc end →
    take (length bytes - next) (drop next bytes) ≡ rest → Some end ≡ position is_feed bytes →
    text_behind sum (take end bytes) ≡ Some text → after ≡ sum_after sum text → stretch_sum sum bytes ≡ found →
    stretch_sum after rest ≡ found
goes_on sum bytes rest text after end next found one left is linked then leads =
    ap (stretch_sum after) (sym left ∙ (take_rest bytes next ∙ ap (λ (n : ℕ). drop n bytes) one))
    ∙ (ap (λ (s : List ℕ). stretch_sum s (drop (suc end) bytes)) then ∙ (sym same ∙ leads))
  where
    whole : are_whole bytes ≡ are_whole (drop (suc end) bytes)
    whole = ap are_whole (split bytes end is) ∙ whole_behind (take end bytes) (drop (suc end) bytes)

    lines : sum_behind sum (whole_lines bytes) ≡ sum_behind (sum_after sum text) (whole_lines (drop (suc end) bytes))
    lines = ap (sum_behind sum) (first_whole bytes end (sym is))
        ∙ ap (option_and_then (λ t. sum_behind (sum_after sum t) (whole_lines (drop (suc end) bytes)))) linked

    same : stretch_sum sum bytes ≡ stretch_sum (sum_after sum text) (drop (suc end) bytes)
    same = ap (λ (b : Bool). cond b (sum_behind sum (whole_lines bytes)) None) whole
        ∙ ap (λ (o : Option (List ℕ)). cond (are_whole (drop (suc end) bytes)) o None) lines

-- a first line that is not linked leads to no sum
pub stops : (sum bytes : List ℕ) (end : ℕ) → Some end ≡ position is_feed bytes → text_behind sum (take end bytes) ≡ None →
    stretch_sum sum bytes ≡ None
stops sum bytes end is unlinked = ap (λ (o : Option (List ℕ)). cond (are_whole bytes) o None) none ∙ both (are_whole bytes)
  where
    none : sum_behind sum (whole_lines bytes) ≡ None
    none = ap (sum_behind sum) (first_whole bytes end (sym is))
        ∙ ap (option_and_then (λ t. sum_behind (sum_after sum t) (whole_lines (drop (suc end) bytes)))) unlinked

    both : (b : Bool) → cond b (let o : Option (List ℕ) = None in o) None ≡ None
    both true = refl
    both false = refl

no_lines : (line : List ℕ) (lines : List (List ℕ)) → line ∷ lines ≡ [] → ⊥
no_lines line lines e = cc

-- bytes of which no line is whole end within a line
part_of_line : (byte : ℕ) (bytes : List ℕ) → whole_lines (byte ∷ bytes) ≡ [] → are_whole (byte ∷ bytes) ≡ false
part_of_line byte [] none = at (is_feed byte) refl
  where
    at : (b : Bool) → is_feed byte ≡ b → is_feed byte ≡ false
    at false h = h
    at true h = absurd (no_lines [] [] (sym (rw h refl) ∙ none))
part_of_line byte (next ∷ bytes) none = part_of_line next bytes (at (is_feed byte) refl)
  where
    at : (b : Bool) → is_feed byte ≡ b → whole_lines (next ∷ bytes) ≡ []
    at true h = absurd (no_lines [] (whole_lines (next ∷ bytes)) (sym (rw h refl) ∙ none))
    at false h = empty (whole_lines (next ∷ bytes)) (sym (rw h refl) ∙ none)
      where
        empty : (lines : List (List ℕ)) → with_byte byte lines ≡ [] → lines ≡ []
        empty [] e = refl
        empty (line ∷ lines) e = absurd (no_lines (byte ∷ line) lines e)

-- without a line feed, there is a sum only where there are no bytes
pub ends : (sum bytes : List ℕ) → None ≡ position is_feed bytes → (bytes ≡ [] → ⊥) → stretch_sum sum bytes ≡ None
ends sum [] is some = absurd (some refl)
ends sum (byte ∷ bytes) is some =
    cond-false _ _ _ (part_of_line byte bytes (none_whole (byte ∷ bytes) (sym is)))

-- a linked line is the line of its text
text_is : (before line text : List ℕ) → text_behind before line ≡ Some text → line ≡ line_text before text
text_is before line text is = at (nat_lt (length line) 69) refl is
  where
    inner : List ℕ
    inner = take (length line - 69) (drop 1 line)

    none : (let o : Option (List ℕ) = None in o) ≡ Some text → ⊥
    none e = cc

    at : (b : Bool) → nat_lt (length line) 69 ≡ b →
        cond b None (cond (bytes_eq line (line_text before inner)) (Some inner) None) ≡ Some text → line ≡ line_text before text
    at true h e = absurd (none e)
    at false h e = same (bytes_eq line (line_text before inner)) refl e
      where
        some : Some inner ≡ Some text → inner ≡ text
        some e = cc

        same : (b : Bool) → bytes_eq line (line_text before inner) ≡ b → cond b (Some inner) None ≡ Some text →
            line ≡ line_text before text
        same false h e = absurd (none e)
        same true h e = (bytes_eq-Decides line (line_text before inner)).0 h ∙ ap (line_text before) (some e)

-- linked lines are those of some texts
texts_of : (before : List ℕ) (lines : List (List ℕ)) (sum : List ℕ) → sum_behind before lines ≡ Some sum →
    (texts : List (List ℕ)) × (lines ≡ lines_behind before texts) × (sum ≡ last_sum before texts)
texts_of before [] sum is = ([], refl, same is)
  where
    same : Some before ≡ Some sum → sum ≡ before
    same e = cc
texts_of before (line ∷ lines) sum is = at (text_behind before line) refl is (λ text e. texts_of (sum_after before text) lines sum e)
  where
    none : (let o : Option (List ℕ) = None in o) ≡ Some sum → ⊥
    none e = cc

    at : (o : Option (List ℕ)) → text_behind before line ≡ o →
        option_and_then (λ text. sum_behind (sum_after before text) lines) o ≡ Some sum →
        ((text : List ℕ) → sum_behind (sum_after before text) lines ≡ Some sum →
        (texts : List (List ℕ)) × (lines ≡ lines_behind (sum_after before text) texts)
        × (sum ≡ last_sum (sum_after before text) texts)) →
        (texts : List (List ℕ)) × (line ∷ lines ≡ lines_behind before texts) × (sum ≡ last_sum before texts)
    at None h e on = absurd (none e)
    at (Some text) h e on = found (on text e)
      where
        found : ((texts : List (List ℕ)) × (lines ≡ lines_behind (sum_after before text) texts)
            × (sum ≡ last_sum (sum_after before text) texts)) →
            (texts : List (List ℕ)) × (line ∷ lines ≡ lines_behind before texts) × (sum ≡ last_sum before texts)
        found (texts, there, last) = (
          text ∷ texts,
          ap (λ (l : List ℕ). l ∷ lines) (text_is before line text h)
              ∙ ap (λ (ls : List (List ℕ)). line_text before text ∷ ls) there,
          last,
        )

-- whole bytes are their lines, each with a line feed
pub whole_bytes : (bytes : List ℕ) → are_whole bytes ≡ true → bytes ≡ bytes_of (whole_lines bytes)
whole_bytes [] is = refl
whole_bytes (byte ∷ []) is = ap (λ (n : ℕ). n ∷ []) (eqb-true byte 10 is) ∙ sym (rw is refl)
whole_bytes (byte ∷ next ∷ bytes) is = at (is_feed byte) refl (whole_bytes (next ∷ bytes) is)
  where
    Goal : List (List ℕ) → Type 0
    Goal lines = byte ∷ next ∷ bytes ≡ bytes_of lines

    at : (b : Bool) → is_feed byte ≡ b → next ∷ bytes ≡ bytes_of (whole_lines (next ∷ bytes)) →
        Goal (cond (is_feed byte) ([] ∷ whole_lines (next ∷ bytes)) (with_byte byte (whole_lines (next ∷ bytes))))
    at true h more = subst Goal (sym (cond-true _ _ _ h))
        (ap (λ (n : ℕ). n ∷ next ∷ bytes) (eqb-true byte 10 h) ∙ ap (λ (bs : List ℕ). 10 ∷ bs) more)
    at false h more = subst Goal (sym (cond-false _ _ _ h)) (behind (whole_lines (next ∷ bytes)) more)
      where
        behind : (lines : List (List ℕ)) → next ∷ bytes ≡ bytes_of lines → Goal (with_byte byte lines)
        behind [] e = absurd (some e)
          where
            some : next ∷ bytes ≡ [] → ⊥
            some e = cc
        behind (line ∷ lines) e = ap (λ (bs : List ℕ). byte ∷ bs) e

pub stretch_texts : (before bytes sum : List ℕ) → stretch_sum before bytes ≡ Some sum →
    (texts : List (List ℕ)) × (bytes ≡ bytes_of (lines_behind before texts)) × (sum ≡ last_sum before texts)
stretch_texts before bytes sum is = at (are_whole bytes) refl is
  where
    none : (let o : Option (List ℕ) = None in o) ≡ Some sum → ⊥
    none e = cc

    at : (b : Bool) → are_whole bytes ≡ b → cond b (sum_behind before (whole_lines bytes)) None ≡ Some sum →
        (texts : List (List ℕ)) × (bytes ≡ bytes_of (lines_behind before texts)) × (sum ≡ last_sum before texts)
    at false h e = absurd (none e)
    at true h e = found (texts_of before (whole_lines bytes) sum e)
      where
        found : ((texts : List (List ℕ)) × (whole_lines bytes ≡ lines_behind before texts) × (sum ≡ last_sum before texts)) →
            (texts : List (List ℕ)) × (bytes ≡ bytes_of (lines_behind before texts)) × (sum ≡ last_sum before texts)
        found (texts, lines, last) = (texts, whole_bytes bytes h ∙ ap bytes_of lines, last)

lines_are_whole : (lines : List (List ℕ)) → are_whole (bytes_of lines) ≡ true
lines_are_whole [] = refl
lines_are_whole (line ∷ lines) = whole_behind line (bytes_of lines) ∙ lines_are_whole lines

linked_sum : (before : List ℕ) (texts : List (List ℕ)) → sum_behind before (lines_behind before texts)
    ≡ Some (last_sum before texts)
linked_sum before [] = refl
linked_sum before (text ∷ texts) =
    ap (option_and_then (λ t. sum_behind (sum_after before t) (lines_behind (sum_after before text) texts)))
    (text_found before text) ∙ linked_sum (sum_after before text) texts

pub lines_linked : (before : List ℕ) (texts : List (List ℕ)) → AllByRecursion IsLine texts →
    stretch_sum before (bytes_of (lines_behind before texts)) ≡ Some (last_sum before texts)
lines_linked before texts plain =
    cond-true _ _ _ (lines_are_whole (lines_behind before texts))
    ∙ (ap (sum_behind before) lines ∙ linked_sum before texts)
  where
    lines : whole_lines (bytes_of (lines_behind before texts)) ≡ lines_behind before texts
    lines = ap whole_lines (sym (append-nil (bytes_of (lines_behind before texts))))
        ∙ (with_tail before texts [] plain ∙ append-nil (lines_behind before texts))
