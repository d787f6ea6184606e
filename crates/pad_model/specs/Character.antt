-- What an operation inserts and erases, character by character (RGA: Roh, Jeon, Kim and Lee 2011).
use Rattle.std.specs.Prelude.{ℕ, ◌+◌, List, [], ◌∷◌, Option, Some}
use Rattle.pad_model.specs.Stamp.{Stamp}
use Rattle.pad_model.specs.declared.who.Author.{Author}

-- one inserted character: its stamp, the character after which it was inserted, if any, and who typed it
pub record Character : Type 0 where
  pub stamp : Stamp
  pub parent : Option Stamp
  pub character : ℕ
  pub author : Author

-- the stamp that follows on the same replica
abbrev pub next : Stamp → Stamp
next s = record s { counter = s.counter + 1 }

-- the characters of a text that was inserted at once: each was inserted after the one before it
abbrev pub run_characters : Stamp → Option Stamp → List ℕ → Author → List Character
run_characters first parent [] author = []
run_characters first parent (c ∷ text) author =
    record { stamp = first; parent = parent; character = c; author = author }
    ∷ run_characters (next first)
    (Some first) text author
