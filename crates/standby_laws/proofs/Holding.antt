-- The invariant of the two servers, and its parts.
use Rattle.std.proofs.Common.{◌≡◌, ◌⊎◌, inl, inr, ℕ, zero, suc, ◌+◌, ◌≤◌, min}
use Rattle.std.proofs.Common.{List, [], ◌∷◌, ◌++◌, length, take, sym, ap, ◌∙◌, arith, append_assoc}
use Rattle.std.specs.List.{Contains}
use Rattle.std.proofs.lemmas.List.{length-append, length-take, take-append-le, take-take, take_at, take_min}
use Rattle.store_format.specs.Laws.{HasSynced, file_of}
use Rattle.file_copies.specs.Laws.{Stretch}
use Rattle.standby_laws.specs.Servers.{IsWithin, Servers}
use Rattle.standby_laws.proofs.Files.{IsFront, Stays, lines_front, lines_short, stays_below}

-- the synced bytes of the main server's file end with a line
abbrev pub EndsLine : List (List ℕ) → ℕ → Type 0
EndsLine texts synced = (lines : ℕ) × (lines ≤ length texts) × (synced ≡ length (file_of (take lines texts)))

-- a stretch stands in a file at its place, within the synced bytes
abbrev pub IsAt : List ℕ → ℕ → Stretch → Type 0
IsAt file synced stretch =
    (before : List ℕ) × (length before ≡ stretch.from) × (stretch.from + length stretch.lines ≤ synced)
    × (take (stretch.from + length stretch.lines) file ≡ before ++ stretch.lines)

-- the invariant of the two servers
pub record Holds (now : Servers) : Type 0 where
  pub ends : EndsLine now.texts now.synced
  pub stretches : (stretch : Stretch) → Contains now.sent stretch → IsAt (file_of now.texts) now.synced stretch
  pub front : IsFront (file_of now.texts) now.copy
  pub copied : length now.copy ≤ now.synced
  pub kept : now.kept ≤ length now.copy
  pub said : (mark : ℕ) → Contains now.marks mark → mark ≤ now.kept
  pub confirmed : now.confirmed ≤ now.kept

pub contains_none : {X : Type 0} (x : X) → Contains [] x → ⊥
contains_none x (k, few, is) = omega (arith, few)

pub contains_first : {X : Type 0} (y x : X) (xs : List X) → Contains (y ∷ xs) x → (y ≡ x) ⊎ Contains xs x
contains_first y x xs (zero, few, is) = inl is
contains_first y x xs (suc k, few, is) = inr (k, omega (arith, few), is)

-- the bytes of the first lines end with a line
pub ends_at : (lines : ℕ) (texts : List (List ℕ)) → EndsLine texts (length (file_of (take lines texts)))
ends_at lines texts = (
  min lines (length texts),
  omega arith,
  ap (λ (ts : List (List ℕ)). length (file_of ts)) (sym (take_min lines texts)),
)

-- synced bytes still end with a line when the main server writes more, and when it crashes and keeps them
pub ends_grown : (texts more : List (List ℕ)) (synced : ℕ) → EndsLine texts synced → EndsLine (texts ++ more) synced
ends_grown texts more synced (lines, few, is) = (
  lines,
  omega (arith, few, length-append texts more),
  is ∙ ap (λ (ts : List (List ℕ)). length (file_of ts)) (sym (take-append-le lines texts more few)),
)

pub ends_cut : (texts : List (List ℕ)) (synced left : ℕ) →
    HasSynced (record { written = file_of texts; synced = synced }) texts left → EndsLine texts synced →
    EndsLine (take left texts) synced × Stays (file_of texts) synced (file_of (take left texts)) synced
ends_cut texts synced left has (lines, few, is) = (ends, (omega arith, same))
  where
    low : lines ≤ left
    low = has lines few (omega (arith, is))

    first : file_of (take lines (take left texts)) ≡ file_of (take lines texts)
    first = ap file_of (take-take lines left texts low)

    ends : EndsLine (take left texts) synced
    ends = (lines, omega (arith, low, few, length-take left texts), is ∙ ap length (sym first))

    short : synced ≤ length (file_of (take left texts))
    short = omega (arith, is, ap length first, lines_short lines (take left texts))

    same : take synced (file_of (take left texts)) ≡ take synced (file_of texts)
    same = ap (take synced) (sym (lines_front left texts))
        ∙ take-take synced (length (file_of (take left texts))) (file_of texts) short

-- a stretch that is sent stands in the file at its place
pub is_at : (file : List ℕ) (synced : ℕ) (stretch : Stretch) → IsWithin file synced stretch → IsAt file synced stretch
is_at file synced stretch (before, rest, is, place, short) = (
  before,
  place,
  short,
  ap (take (stretch.from + length stretch.lines)) (is ∙ sym (append_assoc before stretch.lines rest))
      ∙ take_at (before ++ stretch.lines) rest (stretch.from + length stretch.lines)
      (omega (arith, place, length-append before stretch.lines)),
)

pub at_stays : (file next : List ℕ) (synced more : ℕ) (stretch : Stretch) → Stays file synced next more →
    IsAt file synced stretch → IsAt next more stretch
at_stays file next synced more stretch (low, same) (before, place, short, is) = (
  before,
  place,
  omega (arith, low, short),
  stays_below file next (stretch.from + length stretch.lines) synced short same ∙ is,
)

-- a copy is continued by a stretch that stands in the file where the copy ends
pub taken_front : (file copy : List ℕ) (synced : ℕ) (stretch : Stretch) → IsFront file copy → IsAt file synced stretch →
    stretch.from ≡ length copy →
    IsFront file (copy ++ stretch.lines) × (length (copy ++ stretch.lines) ≤ synced)
taken_front file copy synced stretch front (before, place, short, is) here = (
  sym (ap (λ (n : ℕ). take n file) long ∙ (is ∙ ap (λ (b : List ℕ). b ++ stretch.lines) same)),
  omega (arith, long, short),
)
  where
    long : length (copy ++ stretch.lines) ≡ stretch.from + length stretch.lines
    long = omega (arith, here, length-append copy stretch.lines)

    same : before ≡ copy
    same = sym (take_at before stretch.lines stretch.from place)
        ∙ (ap (take stretch.from) (sym is)
        ∙ (take-take stretch.from (stretch.from + length stretch.lines) file (omega arith)
        ∙ (ap (λ (n : ℕ). take n file) here ∙ sym front)))
