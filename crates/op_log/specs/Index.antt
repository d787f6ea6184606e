-- How a log keeps its operations by their origins, so that an origin's next one is found without a walk.
use Rattle.std.specs.Prelude.{◌≡◌, ℕ, ◌+◌, ◌<◌, Bool, true, false, ◌==◌, min, if◌then◌else◌, Option, Some, None, List}
use Rattle.std.specs.Prelude.{[], ◌∷◌, vec_len}
use Rattle.std.specs.List.{AllByRecursion, list_any}
use Rattle.std.specs.Vec.{vec_capacity}
use Rattle.pad_model.specs.declared.op.Op.{Op}
use Rattle.pad_model.specs.declared.seen.Counted.{Counted}
use Rattle.op_log.specs.Log.{is_missing}
use Rattle.op_log.specs.Track.{marks_of, rises_from}
use Rattle.op_log.specs.declared.track.Mark.{Mark}
use Rattle.op_log.specs.declared.track.Track.{Track}

-- the marks of an origin, and whether their numbers are said to rise
pub record Kept : Type 0 where
  pub origin : ℕ
  pub rises : Bool
  pub marks : List Mark

-- what a track keeps
abbrev pub kept : Track → Kept
kept track = record { origin = track.origin; rises = track.rises; marks = track.marks.items }

-- whether marks are an origin's
abbrev pub has_origin : ℕ → Kept → Bool
has_origin origin k = origin == k.origin

-- no two have one origin
abbrev pub AreApart : List Kept → Type 0
AreApart [] = Unit {0}
AreApart (k ∷ ks) = AllByRecursion (λ later. has_origin later.origin k ≡ false) ks × AreApart ks

-- whether the numbers rise is as it is said
abbrev pub IsTold : Kept → Type 0
IsTold k = k.rises ≡ rises_from 0 k.marks

-- each has the marks of its origin's operations and tells whether they rise, each origin is there, and only once
pub record IsIndex (ks : List Kept) (ops : List Op) : Type 0 where
  pub marks : AllByRecursion (λ k. k.marks ≡ marks_of k.origin ops) ks
  pub told : AllByRecursion IsTold ks
  pub known : AllByRecursion (λ op. list_any (has_origin op.name.origin) ks ≡ true) ops
  pub apart : AreApart ks

-- a mark fits a track without memory
abbrev pub HasRoom : Track → Type 0
HasRoom track = vec_len track.marks < vec_capacity track.marks

-- the first place whose operation passes a test of both, in a log that begins at a place
abbrev pub first_place : (ℕ → Op → Bool) → ℕ → List Op → Option ℕ
first_place test place [] = None
first_place test place (op ∷ ops) = if test place op then Some place
    else first_place test (place + 1) ops

-- whether there is an operation, and it is above the counts
abbrev pub is_missing_in : List Counted → Option Op → Bool
is_missing_in seen None = false
is_missing_in seen (Some op) = is_missing seen op

-- the lesser of two places, if any
abbrev pub earlier : Option ℕ → Option ℕ → Option ℕ
earlier None b = b
earlier (Some a) None = Some a
earlier (Some a) (Some b) = Some (min a b)

-- the places of the operations that pass a test, in a log that begins at a place
abbrev pub places_of : (Op → Bool) → ℕ → List Op → List ℕ
places_of test place [] = []
places_of test place (op ∷ ops) = if test op then place ∷ places_of test (place + 1) ops
    else places_of test (place + 1) ops
