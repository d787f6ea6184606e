-- Which blocks slides touched, and what became of those that they did not touch.
use Rattle.std.specs.Prelude.{◌≡◌, ℕ, Bool, true, List, [], ◌∷◌, Some, slice_get, ◌==◌, if◌then◌else◌, Contains}
use Rattle.std.specs.List.{list_any}
use Rattle.pad_model.specs.Operation.{stamps_from}
use Rattle.pad_model.specs.Stamp.{Stamp}
use Rattle.pad_model.specs.Visible.{is_erased}
use Rattle.pad_model.specs.declared.piece.Piece.{Piece}
use Rattle.pad_model.specs.declared.piece.Piece.TheVariants.{Keep}
use Rattle.blocks.specs.declared.block.Block.{Block}
use Rattle.text_history.specs.Slide.{Slide}

-- whether a stamp is of the stretch of a slide
abbrev pub is_of : Stamp → Slide → Bool
is_of s slide = is_erased (stamps_from slide.first slide.len) s

-- whether one of the slides showed or hid a stamp
abbrev pub is_touched : List Slide → Stamp → Bool
is_touched slides s = list_any (is_of s) slides

-- the ranks have each block that begins with a stamp that the slides showed or hid
abbrev pub HasTouched : List Slide → List Block → List ℕ → Type 0
HasTouched slides bs ranks = (r : ℕ) (b : Block) → slice_get bs r ≡ Some b
    → is_touched slides b.first ≡ true → Contains ranks r

-- so many characters that stay, if any
abbrev pub kept_pieces : ℕ → List Piece
kept_pieces n = if n == 0 then [] else Keep n ∷ []
