-- Pieces in lists that grow at their end, and what blocks are in the difference of two revisions.
use Rattle.std.specs.Prelude.{ℕ, Option, Some, None, ◌++◌, List, [], ◌∷◌, if◌then◌else◌}
use Rattle.pad_model.specs.Pieces.{are_alike, together}
use Rattle.pad_model.specs.declared.piece.Piece.{Piece}
use Rattle.pad_model.specs.declared.piece.Piece.TheVariants.{Keep, Drop, Insert}
use Rattle.pad_model.specs.declared.who.Author.{Author}
use Rattle.blocks.specs.Cells.{author_at, stretch}
use Rattle.blocks.specs.declared.block.Block.{Block}
use Rattle.block_seq.specs.Rows.{shows}

-- how many characters a piece keeps, if it keeps some
abbrev pub kept_in : Piece → Option ℕ
kept_in (Keep n) = Some n
kept_in (Drop n) = None
kept_in (Insert author text) = None

-- how many characters a piece drops, if it drops some
abbrev pub dropped_in : Piece → Option ℕ
dropped_in (Keep n) = None
dropped_in (Drop n) = Some n
dropped_in (Insert author text) = None

-- an insertion with more characters
abbrev pub longer_by : Piece → List ℕ → Piece
longer_by (Keep n) more = Keep n
longer_by (Drop n) more = Drop n
longer_by (Insert author text) more = Insert author (text ++ more)

-- pieces with one more behind them
abbrev pub with_piece : List Piece → Piece → List Piece
with_piece [] piece = piece ∷ []
with_piece (last ∷ []) piece = if are_alike last piece then together last piece ∷ []
    else last ∷ piece ∷ []
with_piece (one ∷ next ∷ pieces) piece = one ∷ with_piece (next ∷ pieces) piece

-- pieces with more behind them, one after the other
abbrev pub with_pieces : List Piece → List Piece → List Piece
with_pieces pieces [] = pieces
with_pieces pieces (one ∷ more) = with_pieces (with_piece pieces one) more

-- a block that both revisions show is kept, one that only the first shows is dropped, one that only the second shows is
-- inserted with its author, and any other is passed over
abbrev pub block_pieces : ℕ → ℕ → List Author → List ℕ → Block → List Piece
block_pieces rev to authors text b =
    if shows rev b then (if shows to b then Keep b.len else Drop b.len) ∷ []
    else if shows to b then Insert (author_at authors b.author) (stretch text b) ∷ []
    else []
