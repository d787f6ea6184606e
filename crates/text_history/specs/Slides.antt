-- The changes between two revisions, and how they move the characters that stay visible.
use Rattle.std.specs.Prelude.{◌≡◌, ℕ, ◌+◌, ◌≤◌, List, [], ◌∷◌, ◌++◌, length, drop, slice_get, nat_le, if◌then◌else◌}
use Rattle.std.specs.Prelude.{Some}
use Rattle.std.specs.List.{prefix_len}
use Rattle.pad_model.specs.Operation.{stamps_from}
use Rattle.pad_model.specs.Stamp.{Stamp}
use Rattle.pad_model.specs.declared.limits.TheConstants.{MAX_CHARACTERS, MAX_COUNTER}
use Rattle.text_history.specs.Slide.{Slide}
use Rattle.text_history.specs.declared.past.Carried.{Carried}
use Rattle.text_history.specs.declared.past.Carried.TheVariants.{At, Hidden}

-- a slide inserts its stretch after the characters before it, or hides the stretch there
pub record Moves (s : Slide) (old new : List Stamp) : Type 0 where
  pub front : List Stamp
  pub back : List Stamp
  pub place : length front ≡ s.at
  pub small : s.at + s.len + length back ≤ MAX_CHARACTERS
  pub sized : s.first.counter + s.len ≤ MAX_COUNTER + 1
  pub before : old ≡ front ++ (if s.shows then back else stamps_from s.first s.len ++ back)
  pub after : new ≡ front ++ (if s.shows then stamps_from s.first s.len ++ back else back)

-- the slides lead, one after another, from the visible characters of one moment to those of a later one
abbrev pub Leads : List Slide → List Stamp → List Stamp → Type 0
Leads [] old new = old ≡ new
Leads (s ∷ slides) old new = (next : List Stamp) × Moves s old next × Leads slides next new

-- the slides lead to this many visible characters
pub record LeadTo (slides : List Slide) (many : ℕ) : Type 0 where
  pub old : List Stamp
  pub new : List Stamp
  pub leads : Leads slides old new
  pub size : length new ≡ many

-- the revisions never fall, and start at low or later
abbrev pub IsSorted : ℕ → List Slide → Type 0
IsSorted low [] = Unit {0}
IsSorted low (s ∷ slides) = (low ≤ s.rev) × IsSorted s.rev slides

-- the slides after a revision
abbrev pub since : ℕ → List Slide → List Slide
since rev slides = drop (prefix_len (λ s. nat_le s.rev rev) slides) slides

-- a character at this place of the old text is at this place now, or it is hidden and has this stamp
abbrev pub IsCarried : Carried → List Stamp → ℕ → List Stamp → Type 0
IsCarried (At now) old place new = slice_get new now ≡ slice_get old place
IsCarried (Hidden stamp) old place new = slice_get old place ≡ Some stamp
