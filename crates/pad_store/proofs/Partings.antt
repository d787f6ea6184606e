-- The last line whose sum two files have, found line by line; and the whole lines of a file, one after the other.
use Rattle.std.proofs.Common.{◌≡◌, ◌⊎◌, inr, ℕ, suc, ◌+◌, ◌-◌, ◌≤◌, ◌<◌, Bool, true, false, List, [], ◌∷◌, ◌++◌}
use Rattle.std.proofs.Common.{append-nil, length, take, drop, map, get_or, Some, None, Bor, sym, ap, ◌∙◌, subst, arith}
use Rattle.std.specs.List.{position}
use Rattle.std.proofs.lemmas.List.{get_or-map, length-drop, map_push, append_assoc, take_rest}
use Rattle.store_format.specs.Lines.{is_feed, whole_lines}
use Rattle.store_format.proofs.Feeds.{first_whole, none_whole}
use Rattle.pad_store.specs.Partings.{have_one_sum, is_shared_at}

-- so many of the first lines end with the last one that is shared
abbrev pub Ends : (ℕ → Bool) → ℕ → ℕ → Type 0
Ends at shared place = (shared ≤ place) × ((shared ≡ 0) ⊎ (at (shared - 1) ≡ true))
    × ((p : ℕ) → shared ≤ p → p < place → at p ≡ false)

-- a line that is shared is the last one
pub ends_here : (at : ℕ → Bool) (place : ℕ) → at place ≡ true → Ends at (place + 1) (place + 1)
ends_here at place is = (
  omega arith,
  inr (subst (λ (p : ℕ). at p ≡ true) (omega arith) is),
  λ p low high. absurd (omega (arith, low, high)),
)

-- one that is not shared changes nothing
pub ends_before : (at : ℕ → Bool) (shared place : ℕ) → Ends at shared place → at place ≡ false →
    Ends at shared (place + 1)
ends_before at shared place (low, last, beyond) not_shared = (
  omega (arith, low),
  last,
  λ p from to. grind (arith, beyond p, not_shared, from, to),
)

-- the lines that are compared are those in this place
pub compared : (olds news : List (Bor (List ℕ))) (place : ℕ) (d e : Bor (List ℕ)) → place < length olds →
    place < length news →
    is_shared_at (map (λ line. line.now) olds) (map (λ line. line.now) news) place
    ≡ have_one_sum (get_or olds place d).now (get_or news place e).now
compared olds news place d e old new =
    ap (λ (l : List ℕ). have_one_sum l (get_or (map (λ (line : Bor (List ℕ)). line.now) news) place []))
    (get_or-map (λ (line : Bor (List ℕ)). line.now) olds place d [] old)
    ∙ ap (have_one_sum (get_or olds place d).now) (get_or-map (λ (line : Bor (List ℕ)). line.now) news place e [] new)

-- after one more line, the lines so far and those of the rest are those of all bytes
pub goes_on : (lines : List (Bor (List ℕ))) (line : Bor (List ℕ)) (bytes rest : List ℕ) (end next : ℕ) (all : List (List ℕ)) →
    next ≡ suc end → take (length bytes - next) (drop next bytes) ≡ rest → line.now ≡ take end bytes
    → Some end ≡ position is_feed bytes →
    map (λ l. l.now) lines ++ whole_lines bytes ≡ all →
    map (λ l. l.now) (lines ++ line ∷ []) ++ whole_lines rest ≡ all
goes_on lines line bytes rest end next all one left first is before =
    ap (λ (front : List (List ℕ)). front ++ whole_lines rest) (map_push (λ (l : Bor (List ℕ)). l.now) lines line)
    ∙ (append_assoc (map (λ (l : Bor (List ℕ)). l.now) lines) (line.now ∷ []) (whole_lines rest)
    ∙ (ap (λ (more : List (List ℕ)). map (λ (l : Bor (List ℕ)). l.now) lines ++ more) (sym same) ∙ before))
  where
    behind : drop (suc end) bytes ≡ rest
    behind = ap (λ (n : ℕ). drop n bytes) (sym one) ∙ (sym (take_rest bytes next) ∙ left)

    same : whole_lines bytes ≡ line.now ∷ whole_lines rest
    same = first_whole bytes end (sym is)
        ∙ (ap (λ (l : List ℕ). l ∷ whole_lines (drop (suc end) bytes)) (sym first)
        ∙ ap (λ (r : List ℕ). line.now ∷ whole_lines r) behind)

-- without a line feed, no line is left
pub ends : (lines : List (List ℕ)) (bytes : List ℕ) (all : List (List ℕ)) → None ≡ position is_feed bytes →
    lines ++ whole_lines bytes ≡ all → lines ≡ all
ends lines bytes all is before =
    sym (append-nil lines) ∙ (ap (λ (more : List (List ℕ)). lines ++ more) (sym (none_whole bytes (sym is))) ∙ before)

-- the rest is never longer than all bytes
pub shorter : (bytes all : List ℕ) (next : ℕ) → length bytes ≤ length all →
    length (take (length bytes - next) (drop next bytes)) ≤ length all
shorter bytes all next low = rw (take_rest bytes next) (omega (arith, length-drop next bytes, low))
