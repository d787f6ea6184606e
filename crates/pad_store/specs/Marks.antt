-- A text with marks around what was deleted and what was inserted.
use Rattle.std.specs.Prelude.{ℕ, List, [], ◌∷◌, ◌++◌, drop, take}
use Rattle.pad_model.specs.Pieces.{old_len}
use Rattle.pad_model.specs.declared.piece.Piece.{Piece}
use Rattle.pad_model.specs.declared.piece.Piece.TheVariants.{Keep, Drop, Insert}
use Rattle.pad_store.specs.declared.pieces.Marks.{Marks}

-- what a piece shows at the front of an older text: kept characters as they are, and deleted and inserted ones between
-- marks
abbrev pub shown_piece : Marks → Piece → List ℕ → List ℕ
shown_piece marks (Keep n) text = take n text
shown_piece marks (Drop n) text = marks.before_gone ++ take n text ++ marks.behind_gone
shown_piece marks (Insert author more) text = marks.before_come ++ more ++ marks.behind_come

-- what all pieces show of an older text, from front to back
abbrev pub marked : Marks → List Piece → List ℕ → List ℕ
marked marks [] text = []
marked marks (piece ∷ pieces) text = shown_piece marks piece text
    ++ marked marks pieces (drop (old_len piece) text)
