-- The place of the author of each visible character, and what slides do to these places.
use Rattle.std.specs.Prelude.{◌≡◌, ℕ, ◌+◌, ◌≤◌, List, [], ◌∷◌, ◌++◌, length, take, drop, replicate, flat_map}
use Rattle.std.specs.List.{IsDistinct}
use Rattle.pad_model.specs.Visible.{same_author}
use Rattle.pad_model.specs.declared.limits.TheConstants.{MAX_CHARACTERS}
use Rattle.pad_model.specs.declared.who.Author.{Author}
use Rattle.ident_index.specs.Index.{Index}
use Rattle.blocks.specs.Blocks.{weight_of}
use Rattle.blocks.specs.declared.block.Block.{Block}
use Rattle.text_history.specs.Slide.{Slide}
use Rattle.block_seq.specs.Rows.{IsBlockSeq}
use Rattle.block_seq.specs.RowSlides.{IsSlid}

-- the place of the author of each character of a block that is alive
abbrev pub live_by : Block → List ℕ
live_by b = replicate (weight_of b) b.author

-- the place of the author of each visible character
abbrev pub live_authors : List Block → List ℕ
live_authors bs = flat_map live_by bs

-- the places with one for each character that a slide shows
abbrev pub with_shown : ℕ → List ℕ → Slide → List ℕ
with_shown author ps s = take s.at ps ++ replicate s.len author ++ drop s.at ps

-- the places without those of the characters that a slide hides
abbrev pub without_hidden : List ℕ → Slide → List ℕ
without_hidden ps s = take s.at ps ++ drop (s.at + s.len) ps

-- a slide shows its characters at a place that is there, and not too many
abbrev pub MayShow : List ℕ → Slide → Type 0
MayShow ps s = (s.at ≤ length ps) × (length ps + s.len ≤ MAX_CHARACTERS)

-- a slide hides characters that are there
abbrev pub MayHide : List ℕ → Slide → Type 0
MayHide ps s = s.at + s.len ≤ length ps

-- places become others by slides, one after the other, each of which may do its step
abbrev pub Goes : (List ℕ → Slide → List ℕ) → (List ℕ → Slide → Type 0) → List ℕ → List Slide
    → List ℕ → Type 0
Goes step May old [] new = old ≡ new
Goes step May old (s ∷ slides) new = May old s × Goes step May (step old s) slides new

-- the slides that came show characters by one author, and lead from what was visible to what is
abbrev pub Shows : ℕ → List Slide → List Slide → List Block → List Block → Type 0
Shows author known slides old new = (more : List Slide) × (slides ≡ known ++ more)
    × Goes (with_shown author) MayShow (live_authors old) more (live_authors new)

-- the slides that came hide characters, and lead from what was visible to what is
abbrev pub Hides : List Slide → List Slide → List Block → List Block → Type 0
Hides known slides old new = (more : List Slide) × (slides ≡ known ++ more)
    × Goes without_hidden MayHide (live_authors old) more (live_authors new)

-- what a row keeps, its slides and the places of the visible characters' authors, and the table of authors has none
-- twice
pub record IsAuthoredRow (latest clock : ℕ) (authors : List Author) (text : List ℕ)
    (slides : List Slide) (m : Index) (bs : List Block) (places : List ℕ) : Type 0 where
  pub row : IsBlockSeq latest clock authors text m bs
  pub slid : IsSlid slides bs
  pub once : IsDistinct same_author authors
  pub runs : places ≡ live_authors bs
