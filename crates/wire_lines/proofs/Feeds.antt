-- Where the first line ends, in a part of the bytes and with more of them.
use Rattle.std.proofs.Common.{◌≡◌, ℕ, ◌+◌, ◌-◌, ◌<◌, ◌≤◌, zero, suc, Bool, true, false, not, cond, eqb, List, [], ◌∷◌}
use Rattle.std.proofs.Common.{◌++◌, length, take, drop, ap, ◌∙◌, sym, subst, arith, None, Some, length-drop}
use Rattle.std.proofs.Common.{ltb}
use Rattle.std.proofs.lemmas.List.Folds.{prefix_len-append}
use Rattle.std.proofs.lemmas.List.Sums.{prefix_len-le-length}
use Rattle.std.specs.List.{position}
use Rattle.std.proofs.lemmas.List.{take_all}
use Rattle.wire_lines.specs.Lines.{line_end, is_feed}

pub line_end-le : (bytes : List ℕ) → line_end bytes ≤ length bytes
line_end-le bytes = prefix_len-le-length (λ b. not (is_feed b)) bytes

-- what was searched need not be searched again
pub line_end-from : (bytes : List ℕ) (place : ℕ) → place ≤ line_end bytes → line_end bytes ≡ place
    + line_end (drop place bytes)
line_end-from bytes zero le = omega arith
line_end-from [] (suc place) le = omega arith
line_end-from (b ∷ bytes) (suc place) le = next (is_feed b) (line_end bytes) le (line_end-from bytes place)
  where
    next : (feed : Bool) (end : ℕ) → suc place ≤ cond (not feed) (1 + end) 0 →
        (place ≤ end → end ≡ place + line_end (drop place bytes))
        → cond (not feed) (1 + end) 0 ≡ suc place + line_end (drop place bytes)
    next true end le go = absurd (omega (arith, le))
    next false end le go = let h : end ≡ place + line_end (drop place bytes) = go (omega (arith, le)) in
        omega (arith, h)

-- a line feed that is there stays the first
pub line_end-found : (bytes more : List ℕ) → line_end bytes < length bytes → line_end (bytes ++ more) ≡ line_end bytes
line_end-found bytes more lt = prefix_len-append (λ b. not (is_feed b)) bytes more ∙ pick (line_end bytes)
    (length bytes) (length bytes + line_end more) lt
  where
    pick : (end len other : ℕ) → end < len → cond (eqb end len) other end ≡ end
    pick end len other lt = grind arith

-- with more bytes the first line ends no earlier
pub line_end-more : (bytes more : List ℕ) → line_end bytes ≤ line_end (bytes ++ more)
line_end-more bytes more =
    subst (λ n. line_end bytes ≤ n) (sym (prefix_len-append (λ b. not (is_feed b)) bytes more))
    (pick (line_end bytes) (length bytes) (line_end more) (line_end-le bytes))
  where
    pick : (end len other : ℕ) → end ≤ len → end ≤ cond (eqb end len) (len + other) end
    pick end len other le = grind arith

place-none : (end len : ℕ) → cond (ltb end len) (Some end) None ≡ None → len ≤ end
place-none end len is = grind arith

-- everything from a place on
behind : (held : List ℕ) (place : ℕ) → take (length held - place) (drop place held) ≡ drop place held
behind held place = ap (λ n. take n (drop place held)) (sym (length-drop place held))
    ∙ take_all (length (drop place held)) (drop place held) (omega arith)

-- if there is no line feed, the line ends with the bytes
pub end-none : (held : List ℕ) (from : ℕ) → from ≤ length held
    → position is_feed (take (length held - from) (drop from held)) ≡ None → length held ≡ from
    + line_end (drop from held)
end-none held from in_range found =
    let there : position is_feed (drop from held) ≡ None = ap (position is_feed) (sym (behind held from)) ∙ found in
    let ge : length (drop from held) ≤ line_end (drop from held) = place-none (line_end (drop from held))
    (length (drop from held)) there in
    omega (arith, line_end-le (drop from held), length-drop from held)
