-- The statements of the laws of version vectors.
use Rattle.std.specs.Prelude.{◌≡◌, ◌≢◌, ℕ, List}
use Rattle.pad_model.specs.declared.seen.Counted.{Counted}
use Rattle.pad_model.specs.Seen.{IsVector, count_in, with_count}

-- reading a count returns the one that was set
abbrev pub CountLaw : Type 0
CountLaw = (v : List Counted) → IsVector v → (origin count : ℕ)
    → count_in (with_count v origin count) origin ≡ count

-- setting a count leaves every other count unchanged
abbrev pub OthersLaw : Type 0
OthersLaw = (v : List Counted) (origin count other : ℕ) → other ≢ origin
    → count_in (with_count v origin count) other
    ≡ count_in v other

-- setting a count of a vector gives a vector
abbrev pub ShapeLaw : Type 0
ShapeLaw = (v : List Counted) → IsVector v → (origin count : ℕ)
    → IsVector (with_count v origin count)

-- vectors with the same counts are equal
abbrev pub CountsLaw : Type 0
CountsLaw = (v w : List Counted) → IsVector v → IsVector w
    → ((origin : ℕ) → count_in v origin ≡ count_in w origin) →
    v ≡ w
