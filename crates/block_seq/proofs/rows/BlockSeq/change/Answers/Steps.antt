-- What a change leaves of the row before its runs are put: cuts, one more author, other labels.
use Rattle.std.proofs.Common.{◌≡◌, sym, ap, ◌∙◌}
use Rattle.std.proofs.Common.{subst}
use Rattle.ident_index.specs.Index.{Index}
use Rattle.blocks.specs.Blocks.{IsKept}
use Rattle.blocks.specs.Cells.{cells_of, SameCells}
use Rattle.blocks.proofs.Cells.{same_then}
use Rattle.block_seq.specs.Rows.{IsBlockSeq}
use Rattle.block_seq.specs.RowAuthors.{IsAuthoredRow, live_authors}
use Rattle.block_seq.specs.RowSlides.{IsSlid}
use Rattle.block_seq.proofs.RowAuthors.{authored_cut}
use Rattle.block_seq.proofs.RowSlides.{slid_cut}
use Rattle.block_seq.proofs.RowSteps.{unchanged}
use Rattle.block_seq.proofs.Views.{cells_seen}
use Rattle.block_seq.proofs.rows.BlockSeq.change.Goals.{After-cut_parents, After-place_author}

-- what a cut, one more author or other labels leave
pub moved : (c : After-place_author) (text : _) (n : Index) (after : _) → text ≡ c.self.inside.text.items → IsKept n after →
    SameCells c.self.inside.tree.items after →
    IsBlockSeq c.self.inside.latest c.self.inside.clock c.place_author.new.authors.items text n after
    × (cells_of c.place_author.new.authors.items text after ≡ c.args.self.now.cells)
moved c text n after is kept same =
    let done = unchanged c.self.inside.authors.items c.place_author.new.authors.items c.args.author.now
    c.self.inside.text.items c.self.inside.index n c.self.inside.tree.items after c.self.invariant.row
    c.place_author.ensures.more kept same in (
      subst (λ t. IsBlockSeq c.self.inside.latest c.self.inside.clock c.place_author.new.authors.items t n after)
          (sym is) done.0,
      ap (λ t. cells_of c.place_author.new.authors.items t after) is ∙ done.1
          ∙ (cells_seen c.self.view_is),
    )

-- the cells stay
pub stays : (c : After-place_author) (text : _) → text ≡ c.self.inside.text.items → SameCells c.self.inside.tree.items
    c.cut_parents.new.tree.items
    → cells_of c.place_author.new.authors.items text c.cut_parents.new.tree.items ≡ c.args.self.now.cells
stays c text is same =
    (moved c text c.cut_parents.new.index c.cut_parents.new.tree.items is c.cut_parents.ensures.kept same).1

-- and of the slides, of the table of authors and of the places of the visible characters' authors
pub whole : (c : After-place_author) (text : _) (slides : _) (n : Index) (after : _) → text ≡ c.self.inside.text.items →
    slides ≡ c.self.inside.slides.items → IsKept n after → SameCells c.self.inside.tree.items after
    → c.reserve.new.self.places ≡ live_authors after → IsAuthoredRow c.self.inside.latest c.self.inside.clock
    c.place_author.new.authors.items text slides n after c.reserve.new.self.places
whole c text slides n after text_is slides_is kept same runs = record {
  row = (moved c text n after text_is kept same).0;
  slid = subst (λ l. IsSlid l after) (sym slides_is)
      (slid_cut c.self.inside.slides.items c.self.inside.authors.items c.self.inside.text.items c.self.inside.index n
      c.self.inside.tree.items after c.self.invariant.row kept same c.self.invariant.slid);
  once = c.place_author.ensures.once c.self.invariant.once;
  runs = runs;
}

-- the row that is cut
pub cut : (c : After-cut_parents) → SameCells c.self.inside.tree.items c.cut_parents.new.tree.items
cut c = same_then c.self.inside.tree.items c.cut_spans.new.tree.items c.cut_parents.new.tree.items
    c.cut_spans.ensures.cells c.cut_parents.ensures.cells

-- what it keeps
pub cut_row : (c : After-cut_parents) → IsAuthoredRow c.self.inside.latest c.self.inside.clock c.self.inside.authors.items
    c.self.inside.text.items c.self.inside.slides.items c.cut_parents.new.index c.cut_parents.new.tree.items
    c.reserve.new.self.places
cut_row c =
    let old = c.self.invariant in
    authored_cut c.self.inside.authors.items c.self.inside.text.items c.self.inside.slides.items c.self.inside.index
    c.cut_parents.new.index c.self.inside.tree.items c.cut_parents.new.tree.items c.reserve.new.self.places
    (record { row = old.row; slid = old.slid; once = old.once; runs = c.reserve.ensures.places ∙ old.runs })
    c.cut_parents.ensures.kept (cut c)
