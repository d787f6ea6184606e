use Rattle.std.proofs.Common.{◌≡◌, ◌+◌, ◌-◌, ◌++◌, max, inl, ℕ, None, true, length, sym, ap, ap₂, ◌∙◌, refl, subst}
use Rattle.std.proofs.Common.{arith}
use Rattle.std.specs.List.{AllByRecursion, remove}
use Rattle.pad_model.specs.Cell.{character_of, with_run}
use Rattle.pad_model.proofs.Cells.{RunMayJoin-from_test}
use Rattle.blocks.specs.declared.block.Block.{Block}
use Rattle.blocks.specs.Blocks.{without_labels}
use Rattle.blocks.specs.Cells.{author_at, cells_of}
use Rattle.blocks.proofs.Cells.{same_itself, length-without_labels}
use Rattle.text_history.specs.Slide.{Slide}
use Rattle.block_seq.specs.Rows.{IsBlockSeq, IsDated}
use Rattle.block_seq.specs.RowSlides.{IsSlid}
use Rattle.block_seq.proofs.RowAuthors.{shown_put}
use Rattle.block_seq.proofs.RowNow.{dated_blocks}
use Rattle.block_seq.proofs.RowSlides.{slid_put, one_more}
use Rattle.block_seq.proofs.BlockCells.{length-cells}
use Rattle.block_seq.proofs.RowChange.{run_sized}
use Rattle.block_seq.proofs.RowPast.{weight_small}
use Rattle.block_seq.proofs.RowRuns.{remove-insert}
use Rattle.block_seq.proofs.RowSteps.{run_is_new, run_put}
use Rattle.block_seq.proofs.run_put.put_run.Goals as goal
use Rattle.block_seq.proofs.run_put.put_run.Goals.{After-len, After-push_shown}

-- the cells fill the text
size : (c : After-len) → length (cells_of c.args.batch.now.authors.now c.args.text.now.items c.args.tree.now.items)
    ≡ length c.args.text.now.items
size c = length-cells c.args.batch.now.authors.now c.args.text.now.items c.args.tree.now.items c.requires.row.row.within
    ∙ sym c.requires.row.row.full

pub put_block-requires-clause-sized : goal.put_block-requires-clause-sized
put_block-requires-clause-sized c =
    let full = size (goal.at.put_block-requires-clause-sized c).After-len in
    let run = run_sized (author_at c.args.batch.now.authors.now c.args.batch.now.author).origin 0 c.args.run.now
    c.requires.run in
    let start : c.len-start.result ≡ length c.args.text.now.items = c.len-start.ensures ∙ c.args.text.now.ok.0 in (
      omega (arith, run.0, c.len.ensures),
      omega (arith, run.1, c.len.ensures),
      omega (arith, start, full, c.len.ensures, c.requires.room),
    )

pub put_block-requires-clause-fresh : goal.put_block-requires-clause-fresh
put_block-requires-clause-fresh c =
    run_is_new c.args.batch.now.authors.now c.args.text.now.items c.args.index.now c.args.tree.now.items
    c.args.run.now.first c.args.run.now.after c.len.result c.requires.row.row.kept.listed c.requires.row.row.within
    c.requires.fits

pub put_block-requires-clause-room : goal.put_block-requires-clause-room
put_block-requires-clause-room c =
    let full = c.requires.row.row.full in
    let all = size (goal.at.put_block-requires-clause-room c).After-len in
    omega (arith, full, all, c.requires.room, c.len.ensures)

pub push_shown-requires-clause-small : goal.push_shown-requires-clause-small
push_shown-requires-clause-small c =
    let bs = c.args.tree.now.items in
    let all = length-cells c.args.batch.now.authors.now c.args.text.now.items bs c.requires.row.row.within in
    let front = weight_small bs c.find_place-rank.result in
    omega (arith, all, front, c.before-at.ensures.sum, c.requires.room)

-- the run's block
abbrev new : (c : After-push_shown) → Block
new c = record { first = c.args.run.now.first; parent = c.args.run.now.after; author = c.args.batch.now.author; born = c.args.batch.now.rev; died = None; label = 0; start = c.len-start.result; len = c.len.result }

-- the row with the run's block, by the run's slide
shown : (c : After-push_shown) → IsSlid c.push_shown.new.slides.items c.put_block.new.tree.items
    × AllByRecursion (IsDated c.args.batch.now.rev) c.put_block.new.tree.items
shown c =
    let mid = c.args.tree.now.items in
    let row = c.requires.row.row in
    let dated = dated_blocks c.args.batch.now.rev c.args.batch.now.authors.now c.args.text.now.items mid row.within
    row.kept.listed.sized row.dated in
    let run = run_sized (author_at c.args.batch.now.authors.now c.args.batch.now.author).origin 0 c.args.run.now
    c.requires.run in
    let s : Slide = record { rev = c.args.batch.now.rev; at = c.before-at.result; first = c.args.run.now.first; len = length c.args.run.now.text; shows = true } in
    let all = length-cells c.args.batch.now.authors.now c.args.text.now.items mid row.within in
    let done = slid_put c.args.slides.now.items s mid c.put_block.new.tree.items c.find_place-rank.result
    (new c) c.in_ok-put_block.ensures.ok c.requires.row.slid dated refl refl c.before-at.ensures.sum refl
    (sym c.len.ensures) refl (omega (arith, run.1, c.len.ensures)) (omega (arith, all, c.requires.room, c.len.ensures))
    in
    (subst (λ l. IsSlid l c.put_block.new.tree.items) (sym c.push_shown.ensures.items) done.0, done.1)

-- the counter of the run's last character
abbrev last : (c : After-push_shown) → ℕ
last c = c.args.run.now.first.counter + (length c.args.run.now.text - 1)

-- the row with the run's block
there : (c : After-push_shown) → IsBlockSeq c.args.batch.now.rev (max c.args.batch.now.clock (last c))
    c.args.batch.now.authors.now c.push_text.new.text.items c.put_block.new.index c.put_block.new.tree.items
    × (cells_of c.args.batch.now.authors.now c.push_text.new.text.items c.put_block.new.tree.items
    ≡ with_run c.args.batch.now.rev c.args.run.now (author_at c.args.batch.now.authors.now c.args.batch.now.author)
    (cells_of c.args.batch.now.authors.now c.args.text.now.items c.args.tree.now.items))
there c =
    let authors = c.args.batch.now.authors.now in
    let author = author_at authors c.args.batch.now.author in
    let text = c.args.text.now.items in
    let bs = c.args.tree.now.items in
    let row = c.requires.row.row in
    let run = run_sized author.origin 0 c.args.run.now c.requires.run in
    let text_is : c.push_text.new.text.items ≡ text ++ c.args.run.now.text = c.push_text.ensures.items
    ∙ ap (λ l. text ++ l) c.as_slice.ensures in
    let start : c.len-start.result ≡ length text = c.len-start.ensures ∙ c.args.text.now.ok.0 in
    let len : c.len.result ≡ length c.args.run.now.text = c.len.ensures in
    let b_is : new c ≡ record { first = c.args.run.now.first; parent = c.args.run.now.after; author = c.args.batch.now.author; born = c.args.batch.now.rev; died = None; label = 0; start = length text; len = length c.args.run.now.text } =
    ap₂ (λ s n. let it : Block = record { first = c.args.run.now.first; parent = c.args.run.now.after; author = c.args.batch.now.author; born = c.args.batch.now.rev; died = None; label = 0; start = s; len = n } in it) start len
    in
    let joins = RunMayJoin-from_test character_of (cells_of authors text bs) c.args.run.now.first c.args.run.now.after
    c.requires.fits in
    let place = c.find_place-rank.ensures.place authors text row.within joins.rooted in
    let left = run_put c.args.batch.now.rev (last c) authors authors author text c.args.index.now c.args.index.now
    c.put_block.new.index bs bs c.put_block.new.tree.items (cells_of authors text bs) c.args.run.now
    c.find_place-rank.result c.args.batch.now.rev c.args.batch.now.author (new c)
    (omega arith) (omega arith) run.0 refl row refl (inl refl) (c.requires.author, refl) c.requires.fits
    (same_itself bs) place c.put_block.ensures.kept b_is c.in_ok-put_block.ensures.ok
    in (
      subst (λ t. IsBlockSeq c.args.batch.now.rev (max c.args.batch.now.clock (last c)) authors t c.put_block.new.index
          c.put_block.new.tree.items) (sym text_is) left.0,
      ap (λ t. cells_of authors t c.put_block.new.tree.items) text_is
          ∙ left.1,
    )

pub returns-clause-row : goal.returns-clause-row
returns-clause-row c =
    let g = (goal.at.returns-clause-row c).After-push_shown in
    record { row = (there g).0; slid = (shown g).0 }

pub returns-clause-cells : goal.returns-clause-cells
returns-clause-cells c = (there (goal.at.returns-clause-cells c).After-push_shown).1

pub returns-clause-block : goal.returns-clause-block
returns-clause-block c =
    let within = c.find_place-rank.ensures.within in
    let len = length-without_labels c.args.tree.now.items in
    ap (λ l. remove l c.find_place-rank.result) c.in_ok-put_block.ensures.ok
    ∙ remove-insert (without_labels c.args.tree.now.items) c.find_place-rank.result _ (omega (arith, within, len))

pub returns-clause-live : goal.returns-clause-live
returns-clause-live c = one_more c.args.tree.now.items c.put_block.new.tree.items c.find_place-rank.result
    (new (goal.at.returns-clause-live c).After-push_shown) c.in_ok-put_block.ensures.ok

pub returns-clause-authors : goal.returns-clause-authors
returns-clause-authors c =
    let mid = c.args.tree.now.items in
    let s : Slide = record { rev = c.args.batch.now.rev; at = c.before-at.result; first = c.args.run.now.first; len = length c.args.run.now.text; shows = true } in
    let all = length-cells c.args.batch.now.authors.now c.args.text.now.items mid c.requires.row.row.within in
    shown_put c.args.batch.now.author c.args.slides.now.items c.push_shown.new.slides.items s mid
    c.put_block.new.tree.items c.find_place-rank.result (new (goal.at.returns-clause-authors c).After-push_shown)
    c.in_ok-put_block.ensures.ok refl refl c.before-at.ensures.sum (sym c.len.ensures)
    (omega (arith, all, c.requires.room, c.len.ensures)) c.push_shown.ensures.items
