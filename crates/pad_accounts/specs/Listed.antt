-- What `list` prints.
use Rattle.std.specs.Prelude.{ℕ, List, [], ◌∷◌, ◌++◌, Option, None, Some, codes}
use Rattle.pad_accounts.specs.Lines.{first_word, stripped, without_end}

-- a text with a line behind it, without its end, if it is a person's
abbrev pub with_person : List ℕ → List ℕ → Option (List ℕ) → List ℕ
with_person text line None = text
with_person text line (Some rest) = text ++ without_end line ++ (10 ∷ [])

-- a text with a peer's number behind it, or otherwise with what is shown of a person
abbrev pub with_peer_or : List ℕ → List ℕ → Option (List ℕ) → List ℕ
with_peer_or text line None = with_person text line (stripped (codes "person ") line)
with_peer_or text line (Some rest) = text ++ codes "peer " ++ first_word rest ++ (10 ∷ [])

-- a text with the name of an author with a hash behind it, or otherwise with what is shown of a peer or a person
abbrev pub with_hash_or : List ℕ → List ℕ → Option (List ℕ) → List ℕ
with_hash_or text line None = with_peer_or text line (stripped (codes "peer ") line)
with_hash_or text line (Some rest) = text ++ codes "hash " ++ first_word rest ++ (10 ∷ [])

-- a text with the name of an author with a token behind it, or otherwise with what is shown of another line
abbrev pub with_author_or : List ℕ → List ℕ → Option (List ℕ) → List ℕ
with_author_or text line None = with_hash_or text line (stripped (codes "hash ") line)
with_author_or text line (Some rest) = text ++ codes "author " ++ first_word rest ++ (10 ∷ [])

-- a text with what is shown of a line behind it: `author NAME`, `hash NAME`, `peer NUMBER`, the line of a person, or nothing
abbrev pub with_line : List ℕ → List ℕ → List ℕ
with_line text line = with_author_or text line (stripped (codes "author ") line)

-- a text with what is shown of these lines behind it, in their order
abbrev pub with_shown : List ℕ → List (List ℕ) → List ℕ
with_shown text [] = text
with_shown text (line ∷ rest) = with_shown (with_line text line) rest
