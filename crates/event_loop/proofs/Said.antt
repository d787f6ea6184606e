-- The first reply, up to its line feed.
use Rattle.std.proofs.Common.{◌≡◌, ℕ, ◌-◌, min, ◌+◌, ◌<◌, ◌≤◌, suc, true, false, ◌||◌, List, [], ◌∷◌, ◌++◌, length, take, drop}
use Rattle.std.proofs.Common.{Option, Some, None, get_or, refl, ap, ◌∙◌, sym, append_assoc, take-append-drop, drop-drop, arith}
use Rattle.std.proofs.lemmas.List.{drop_more, get_or-take, length-drop, length-take, take_all}
use Rattle.std.proofs.lemmas.List.Quantifiers.{position-Some}
use Rattle.std.specs.List.{list_any, position}
use Rattle.std.specs.Option.{IfSome}
use Rattle.std.specs.Io.KnownBytes.{Appends, Keeps, append_known}
use Rattle.web_wire.specs.Messages.{is_feed, message_bytes, with_feed}
use Rattle.event_loop.specs.Messages.{IsFirst, SaysFirst}

-- bytes none of which is a line feed contain no line feed
none_inside : (bytes : List ℕ) → ((k : ℕ) → k < length bytes → is_feed (get_or bytes k 0) ≡ false)
    → list_any is_feed bytes ≡ false
none_inside [] each = refl
none_inside (b ∷ bytes) each =
    ap (λ f. f || list_any is_feed bytes) (each 0 (omega arith))
    ∙ none_inside bytes (λ k lt. each (suc k) (omega (arith, lt)))

is_ten : (byte : ℕ) → is_feed byte ≡ true → byte ≡ 10
is_ten byte e = grind arith

-- the first line feed ends the first line
pub first_said : (bytes : List ℕ) (free end : ℕ) → position is_feed (take free bytes) ≡ Some end → IsFirst bytes end
first_said bytes free end found =
    let at = position-Some is_feed (take free bytes) end 0 found in
    let inside : (end < free) × (end < length bytes) = bounds (length-take free bytes) at.0 in
    let same : (k : ℕ) → k ≤ end → get_or (take free bytes) k 0 ≡ get_or bytes k 0 =
    λ k le. get_or-take free bytes k 0 (omega (arith, le, inside.0)) in
    let none : list_any is_feed (take end bytes) ≡ false = none_inside (take end bytes) (λ k lt.
    let before : k < end = shorter k end (length-take end bytes) lt in
    ap is_feed (get_or-take end bytes k 0 before ∙ sym (same k (omega (arith, before)))) ∙ at.2 k before) in
    let feed : get_or bytes end 0 ≡ 10 = sym (same end (omega arith)) ∙ is_ten (get_or (take free bytes) end 0) at.1 in (
      none,
      sym (take-append-drop end bytes)
          ∙ ap (λ l. take end bytes ++ l) (drop_more bytes end 0 inside.1 ∙ ap (λ b. b ∷ drop (end + 1) bytes) feed)
          ∙ sym (append_assoc (take end bytes) (10 ∷ []) (drop (end + 1) bytes)),
    )
  where
    bounds : {n : ℕ} → n ≡ min free (length bytes) → end < n → (end < free) × (end < length bytes)
    bounds is lt = (grind (arith, is, lt), grind (arith, is, lt))

    shorter : (k end : ℕ) {n : ℕ} → n ≡ min end (length bytes) → k < n → k < end
    shorter k end is lt = grind (arith, is, lt)

pub first_of : (bytes : List ℕ) (free : ℕ) (found : Option ℕ) → found ≡ position is_feed (take free bytes)
    → IfSome found (IsFirst bytes)
first_of bytes free None is = tt
first_of bytes free (Some end) is = first_said bytes free end (sym is)

pub inside : (bytes : List ℕ) (free : ℕ) (found : Option ℕ) → found ≡ position is_feed (take free bytes)
    → IfSome found (λ end. end < free)
inside bytes free None is = tt
inside bytes free (Some end) is =
    less (length-take free bytes) (position-Some is_feed (take free bytes) end 0 (sym is)).0
  where
    less : {n : ℕ} → n ≡ min free (length bytes) → end < n → end < free
    less is lt = grind (arith, is, lt)

-- a reply is sent up to its line feed
pub says_first : (replies output put rest : List ℕ) (end : ℕ) → IsFirst replies end
    → rest ≡ drop (end + 1) replies → put ≡ output ++ message_bytes (take end replies)
    → SaysFirst replies output rest put
says_first replies output put rest end first behind said =
    (take end replies, first.0, first.1 ∙ ap (λ l. with_feed (take end replies) ++ l) (sym behind), said)

-- everything from a place on
pub behind : (bytes : List ℕ) (from : ℕ) → take (length bytes - from) (drop from bytes) ≡ drop from bytes
behind bytes from = take_all (length bytes - from) (drop from bytes) (omega (arith, length-drop from bytes))
