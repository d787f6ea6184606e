-- Bytes that go from a socket to whatever takes them, and those that go to it.
use Rattle.std.specs.Prelude.{◌≡◌, ℕ, List, ◌++◌, Option}
use Rattle.std.specs.Io.KnownBytes.{Appends, Consumes}

-- some bytes were taken from a socket, and stand behind those that waited: what it gives, if that is known, has lost just
-- these
abbrev pub Gives : Option (List ℕ) → List ℕ → Option (List ℕ) → List ℕ → Type 0
Gives unread waiting left waits = (bytes : List ℕ) × Consumes unread left bytes
    × (waits ≡ waiting ++ bytes)

-- the first of the bytes that were to be written went to a socket: what it got, if that is known, has just these more
abbrev pub Gets : Option (List ℕ) → List ℕ → Option (List ℕ) → List ℕ → Type 0
Gets written waiting grown waits = (bytes : List ℕ) × (waiting ≡ bytes ++ waits)
    × Appends written grown bytes
