-- What the cells of blocks are in the difference of two revisions.
use Rattle.std.proofs.Common.{◌≡◌, ℕ, ◌+◌, ◌≤◌, Bool, true, false, ◌&&◌, List, [], ◌∷◌, ◌++◌, length}
use Rattle.std.proofs.Common.{flat_map, Option, Some, nat_le, refl, ap, ap₂, ◌∙◌, arith, sum_by}
use Rattle.std.specs.List.{AllByRecursion}
use Rattle.std.proofs.lemmas.List.Concat.{flat_map-append}
use Rattle.pad_model.specs.Cell.{is_after}
use Rattle.pad_model.specs.Pieces.{piece_of, changes, fewest, join_piece, old_len}
use Rattle.pad_model.specs.Character.{next}
use Rattle.pad_model.specs.Stamp.{Stamp}
use Rattle.pad_model.specs.declared.piece.Piece.{Piece}
use Rattle.pad_model.specs.declared.piece.Piece.TheVariants.{Keep, Drop, Insert}
use Rattle.pad_model.specs.declared.who.Author.{Author}
use Rattle.pad_model.proofs.Newer.{split}
use Rattle.pad_model.proofs.Pieces.{fewest-append, fewest-together, same_author-refl}
use Rattle.blocks.specs.Blocks.{IsSized}
use Rattle.blocks.specs.Cells.{IsWithin, author_at, block_cells, cells_of, run_cells, stretch}
use Rattle.blocks.specs.declared.block.Block.{Block}
use Rattle.block_seq.specs.PieceLists.{block_pieces}
use Rattle.block_seq.specs.Plain.{cell_of, is_shown}
use Rattle.block_seq.specs.declared.place.PlainCell.{PlainCell}
use Rattle.block_seq.specs.Rows.{shows}
use Rattle.block_seq.proofs.BlockCells.{length-stretch}

-- what one character is that the one revision shows, or does not, and the other shows, or does not
piece : Bool → Bool → Author → ℕ → List Piece
piece true true author c = Keep 1 ∷ []
piece true false author c = Drop 1 ∷ []
piece false true author c = Insert author (c ∷ []) ∷ []
piece false false author c = []

-- and of a text of such
pieces : Bool → Bool → Author → List ℕ → List Piece
pieces true true author text = Keep (length text) ∷ []
pieces true false author text = Drop (length text) ∷ []
pieces false true author text = Insert author text ∷ []
pieces false false author text = []

run_pieces : (rev to : ℕ) (author : Author) (born : ℕ) (died : Option ℕ) (first : Stamp) (p : Option Stamp)
    (text : List ℕ) → flat_map (piece_of rev to) (run_cells author born died first p text)
    ≡ flat_map (piece (nat_le born rev && is_after rev died) (nat_le born to && is_after to died) author) text
unfolding piece
run_pieces rev to author born died first p [] = refl
run_pieces rev to author born died first p (c ∷ text) =
    ap₂ (λ x y. x ++ y)
    (let one : piece_of rev to (record { stamp = first; parent = p; character = c; author = author; born = born; died = died })
    ≡ piece (nat_le born rev && is_after rev died) (nat_le born to && is_after to died) author c =
    split (nat_le born rev && is_after rev died)
    (λ e. split (nat_le born to && is_after to died) (λ f. rw (e, f) refl) (λ f. rw (e, f) refl))
    (λ e. split (nat_le born to && is_after to died) (λ f. rw (e, f) refl) (λ f. rw (e, f) refl)) in one)
    (run_pieces rev to author born died (next first) (Some first) text)

fewest_pieces : (shown stays : Bool) (author : Author) (c : ℕ) (text : List ℕ) (zs : List Piece) →
    fewest (flat_map (piece shown stays author) (c ∷ text) ++ zs) ≡ fewest (pieces shown stays author (c ∷ text) ++ zs)
unfolding piece pieces
fewest_pieces true true author c [] zs = refl
fewest_pieces true true author c (d ∷ text) zs =
    ap (join_piece (Keep 1)) (fewest_pieces true true author d text zs)
    ∙ fewest-together (Keep 1) (Keep (length (d ∷ text))) zs refl
    ∙ ap (λ n. fewest (Keep n ∷ zs)) (let e : 1 + length (d ∷ text) ≡ length (c ∷ d ∷ text) = omega arith in e)
fewest_pieces true false author c [] zs = refl
fewest_pieces true false author c (d ∷ text) zs =
    ap (join_piece (Drop 1)) (fewest_pieces true false author d text zs)
    ∙ fewest-together (Drop 1) (Drop (length (d ∷ text))) zs refl
    ∙ ap (λ n. fewest (Drop n ∷ zs)) (let e : 1 + length (d ∷ text) ≡ length (c ∷ d ∷ text) = omega arith in e)
fewest_pieces false true author c [] zs = refl
fewest_pieces false true author c (d ∷ text) zs =
    ap (join_piece (Insert author (c ∷ []))) (fewest_pieces false true author d text zs)
    ∙ fewest-together (Insert author (c ∷ [])) (Insert author (d ∷ text)) zs (same_author-refl author)
fewest_pieces false false author c [] zs = refl
fewest_pieces false false author c (d ∷ text) zs = fewest_pieces false false author d text zs

some_pieces : (shown stays : Bool) (author : Author) (text : List ℕ) (n : ℕ) (zs : List Piece) → length text ≡ n →
    1 ≤ n → fewest (flat_map (piece shown stays author) text ++ zs) ≡ fewest (pieces shown stays author text ++ zs)
some_pieces shown stays author [] n zs l h = absurd (omega arith)
some_pieces shown stays author (c ∷ text) n zs l h = fewest_pieces shown stays author c text zs

block_piece : (rev to : ℕ) (authors : List Author) (text : List ℕ) (b : Block) → length (stretch text b) ≡ b.len →
    pieces (shows rev b) (shows to b) (author_at authors b.author) (stretch text b)
    ≡ block_pieces rev to authors text b
unfolding pieces
block_piece rev to authors text b l =
    split (shows rev b)
    (λ e. split (shows to b)
    (λ f. rw (e, f) (ap (λ n. Keep n ∷ []) l))
    (λ f. rw (e, f) (ap (λ n. Drop n ∷ []) l)))
    (λ e. split (shows to b) (λ f. rw (e, f) refl) (λ f. rw (e, f) refl))

-- what the cells of blocks are is what the blocks are
pub pieces-blocks : (rev to : ℕ) (authors : List Author) (text : List ℕ) (bs : List Block) →
    AllByRecursion (IsWithin (length authors) (length text)) bs → AllByRecursion IsSized bs
    → changes rev to (cells_of authors text bs) ≡ fewest (flat_map (block_pieces rev to authors text) bs)
pieces-blocks rev to authors text [] w z = refl
pieces-blocks rev to authors text (b ∷ bs) w z =
    let size = length-stretch text b w.0.1 in
    let rest = flat_map (piece_of rev to) (cells_of authors text bs) in
    ap fewest (flat_map-append (piece_of rev to) (block_cells authors text b) (cells_of authors text bs))
    ∙ ap (λ l. fewest (l ++ rest))
    (run_pieces rev to (author_at authors b.author) b.born b.died b.first b.parent (stretch text b))
    ∙ some_pieces (shows rev b) (shows to b) (author_at authors b.author) (stretch text b) b.len rest size z.0.0
    ∙ ap (λ l. fewest (l ++ rest)) (block_piece rev to authors text b size)
    ∙ fewest-append (block_pieces rev to authors text b) rest (flat_map (block_pieces rev to authors text) bs)
    (pieces-blocks rev to authors text bs w.1 z.1)

-- a block passes no more of the older text than it is long
pub block-small : (rev to : ℕ) (authors : List Author) (text : List ℕ) (b : Block) →
    sum_by old_len (block_pieces rev to authors text b) ≤ b.len
block-small rev to authors text b =
    split (shows rev b)
    (λ e. split (shows to b) (λ f. rw (e, f) (omega arith)) (λ f. rw (e, f) (omega arith)))
    (λ e. split (shows to b) (λ f. rw (e, f) (omega arith)) (λ f. rw (e, f) (omega arith)))

-- ---- kept cells
pub cell-kept : (rev to : ℕ) (authors : List Author) (c : PlainCell) → is_shown rev c ≡ true → is_shown to c ≡ true →
    piece_of rev to (cell_of authors c) ≡ Keep 1 ∷ []
cell-kept rev to authors c e f = rw (e, f) refl

pub cell-dropped : (rev to : ℕ) (authors : List Author) (c : PlainCell) → is_shown rev c ≡ true → is_shown to c ≡ false →
    piece_of rev to (cell_of authors c) ≡ Drop 1 ∷ []
cell-dropped rev to authors c e f = rw (e, f) refl

pub cell-inserted : (rev to : ℕ) (authors : List Author) (c : PlainCell) → is_shown rev c ≡ false → is_shown to c ≡ true →
    piece_of rev to (cell_of authors c) ≡ Insert (author_at authors c.author) (c.character ∷ []) ∷ []
cell-inserted rev to authors c e f = rw (e, f) refl

pub cell-passed : (rev to : ℕ) (authors : List Author) (c : PlainCell) → is_shown rev c ≡ false → is_shown to c ≡ false →
    piece_of rev to (cell_of authors c) ≡ []
cell-passed rev to authors c e f = rw (e, f) refl

pub cell-small : (rev to : ℕ) (authors : List Author) (c : PlainCell) → sum_by old_len (piece_of rev to (cell_of authors c)) ≤ 1
cell-small rev to authors c =
    split (is_shown rev c)
    (λ e. split (is_shown to c) (λ f. rw (e, f) (omega arith)) (λ f. rw (e, f) (omega arith)))
    (λ e. split (is_shown to c) (λ f. rw (e, f) (omega arith)) (λ f. rw (e, f) (omega arith)))
