-- The difference between two revisions, in the order with tombstones.
use Rattle.std.specs.Prelude.{◌≡◌, ℕ, ◌+◌, ◌<◌, Bool, true, false, if◌then◌else◌, List, [], ◌∷◌, ◌++◌, length, take, drop}
use Rattle.std.specs.Prelude.{map, flat_map}
use Rattle.pad_model.specs.Cell.{Cell, character_of, shown_at}
use Rattle.pad_model.specs.Character.{Character}
use Rattle.pad_model.specs.Visible.{same_author}
use Rattle.pad_model.specs.declared.piece.Piece.{Piece}
use Rattle.pad_model.specs.declared.piece.Piece.TheVariants.{Keep, Drop, Insert}
use Rattle.pad_model.specs.declared.who.Author.{Author}
use Rattle.pad_model.specs.declared.who.AuthorRun.{AuthorRun}

-- a cell that both revisions show is kept, one that only the first shows is dropped, one that only the second shows is
-- inserted with its author, and any other is skipped
abbrev pub piece_of : ℕ → ℕ → Cell → List Piece
piece_of rev to cell =
    if shown_at rev cell then (if shown_at to cell then Keep 1 else Drop 1) ∷ []
    else if shown_at to cell then Insert cell.author (cell.character ∷ []) ∷ []
    else []

-- whether two pieces are alike: both keep, both drop, or both insert, by one author
abbrev pub are_alike : Piece → Piece → Bool
are_alike (Keep n) (Keep m) = true
are_alike (Drop n) (Drop m) = true
are_alike (Insert author text) (Insert other more) = same_author author other
are_alike one another = false

-- two pieces that are alike, joined to one
abbrev pub together : Piece → Piece → Piece
together (Keep n) (Keep m) = Keep (n + m)
together (Drop n) (Drop m) = Drop (n + m)
together (Insert author text) (Insert other more) = Insert author (text ++ more)
together one another = one

-- the pieces with one more in front, joined to the first if they are alike
abbrev pub join_piece : Piece → List Piece → List Piece
join_piece piece [] = piece ∷ []
join_piece piece (first ∷ pieces) =
    if are_alike piece first then together piece first ∷ pieces else piece ∷ first ∷ pieces

-- the pieces with neighbours that are alike joined, so that they are as few as possible
abbrev pub fewest : List Piece → List Piece
fewest [] = []
fewest (piece ∷ pieces) = join_piece piece (fewest pieces)

-- the difference between two revisions, in the fewest pieces
abbrev pub changes : ℕ → ℕ → List Cell → List Piece
changes rev to cells = fewest (flat_map (piece_of rev to) cells)

-- a character as a reader sees it: with its author
abbrev pub written : Character → ℕ × Author
written c = (c.character, c.author)

-- the characters of cells as readers see them
abbrev pub written_in : List Cell → List (ℕ × Author)
written_in cells = map (λ c. written (character_of c)) cells

-- a text by one author
abbrev pub written_by : Author → List ℕ → List (ℕ × Author)
written_by author text = map (λ c. (c, author)) text

-- a text after pieces, as a client applies them from front to back: it keeps some characters, skips some, and inserts
-- others
abbrev pub patched : List Piece → List (ℕ × Author) → List (ℕ × Author)
patched [] text = text
patched (Keep n ∷ pieces) text = take n text ++ patched pieces (drop n text)
patched (Drop n ∷ pieces) text = patched pieces (drop n text)
patched (Insert author more ∷ pieces) text = written_by author more ++ patched pieces text

-- how many characters of the older text a piece keeps or drops
abbrev pub old_len : Piece → ℕ
old_len (Keep n) = n
old_len (Drop n) = n
old_len (Insert author text) = 0

-- how many characters of the newer text a piece keeps or inserts
abbrev pub new_len : Piece → ℕ
new_len (Keep n) = n
new_len (Drop n) = 0
new_len (Insert author text) = length text

-- a text as insertions, one for each author run
abbrev pub insertions : List AuthorRun → List ℕ → List Piece
insertions [] text = []
insertions (run ∷ runs) text = Insert run.author (take run.len text)
    ∷ insertions runs (drop run.len text)

-- no two neighbours are alike
abbrev pub AreApart : List Piece → Type 0
AreApart [] = Unit {0}
AreApart (piece ∷ []) = Unit {0}
AreApart (piece ∷ next ∷ pieces) = (are_alike piece next ≡ false) × AreApart (next ∷ pieces)
