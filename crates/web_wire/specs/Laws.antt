-- What a socket gives out, whatever pieces its bytes arrive in.
use Rattle.std.specs.Prelude.{◌≡◌, ℕ, List, [], ◌++◌}
use Rattle.web_wire.specs.Course.{before}
use Rattle.web_wire.specs.Socket.{Socket, fed, course, Comes}

-- a socket after some calls: all bytes that arrived, the lines that were given out, and what was sent
pub data Follows (start : Socket) : List ℕ → List (List ℕ) → List ℕ → Socket → Type 0 where
  begun : Follows start [] [] [] start
  received : (all : List ℕ) (lines : List (List ℕ)) (sent : List ℕ) (old : Socket) (bytes : List ℕ)
      → Follows start all lines sent old → Follows start (all ++ bytes) lines sent (fed old bytes)
  gone_on : (all : List ℕ) (lines : List (List ℕ)) (sent : List ℕ) (old new : Socket)
      (next : List (List ℕ)) (put : List ℕ)
      → Follows start all lines sent old → Comes next put old new
      → Follows start all (lines ++ next) (sent ++ put) new

-- what was given out and sent is a prefix of what all bytes lead to, and the waiting bytes lead to the rest
abbrev pub PiecesLaw : Type 0
PiecesLaw = (start now : Socket) (all : List ℕ) (lines : List (List ℕ)) (sent : List ℕ)
    → Follows start all lines sent now
    → (more : List ℕ) → course start (all ++ more) ≡ before lines sent (course now more)
