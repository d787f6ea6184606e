use Rattle.std.proofs.Common.{◌≡◌, ◌++◌, [], sum_by, sym, ap, ◌∙◌, refl, arith, subst, flat_map, length, replicate}
use Rattle.std.specs.List.{AllByRecursion}
use Rattle.pad_model.specs.declared.who.AuthorRun.{AuthorRun}
use Rattle.blocks.specs.Blocks.{IsSized}
use Rattle.blocks.specs.Cells.{IsWithin}
use Rattle.block_seq.specs.RowLists.{shown_by, with_more}
use Rattle.block_seq.specs.Rows.{shown_len}
use Rattle.block_seq.proofs.RowReads.{shown_small}
use Rattle.block_seq.proofs.RowLists.{shown_first, runs-more, sum-more}
use Rattle.block_seq.proofs.row_lists.read_authors.Goals as goal
use Rattle.block_seq.proofs.RowLists.{author_here, authors_go_on}
use Rattle.block_seq.specs.Rows.{shows}
use Rattle.std.proofs.Common.{true}

pub loop-block-init : goal.loop-block-init
loop-block-init c =
    let all = c.into_iter-block-iterator.ensures.into_iter_gives ∙ c.iter-block-items.ensures in
    let small = shown_small c.args.rev c.args.tree.now.items in
    record {
      done = [];
      runs = c.new-runs.ensures.items;
      all = ap (flat_map (shown_by c.args.rev c.args.authors.now)) all;
      within = subst (AllByRecursion (IsWithin (length c.args.authors.now) c.args.text_len))
          (sym all) c.requires.within;
      sized = subst (AllByRecursion IsSized) (sym all) c.requires.sized;
      small = (let none = ap (sum_by (λ (r : AuthorRun). r.len)) c.new-runs.ensures.items in
          let same = ap (sum_by (shown_len c.args.rev)) all in omega (arith, none, same, small, c.requires.small));
    }

pub loop-block-preserved-in-Continue-1 : goal.loop-block-preserved-in-Continue-1
loop-block-preserved-in-Continue-1 c =
    let inv = c.loop-block.invariant in
    let b = c.in-Some.block.now in
    let steps = c.in-Some.ensures.steps in
    let within = subst (AllByRecursion (IsWithin (length c.args.authors.now) c.args.text_len)) steps inv.within in
    let sized = subst (AllByRecursion IsSized) steps inv.sized in
    let first = shown_first c.args.rev b c.loop-block.block-iterator c.next.new.self steps in
    let here : shows c.args.rev b ≡ true = sym c.is_visible.ensures ∙ c.if-is_visible.true in
    let size : shown_len c.args.rev b ≡ b.len = rw here refl in
    let who = author_here c.args.authors.now b.author c.index-authors-block.result within.0.0
    c.index-authors-block.is in
    let made = c.in_ok-add_run.ensures in
    record {
      done = inv.done ++ replicate b.len c.index-authors-block.result;
      runs = made ∙ ap (λ l. with_more l c.index-authors-block.result b.len) inv.runs
          ∙ sym (runs-more inv.done c.index-authors-block.result b.len sized.0.0);
      all = authors_go_on c.args.rev c.args.authors.now b c.loop-block.block-iterator c.next.new.self inv.done _
          c.index-authors-block.result steps here who inv.all;
      within = within.1;
      sized = sized.1;
      small = (let sum = ap (sum_by (λ (r : AuthorRun). r.len)) made
          ∙ sum-more c.loop-block.runs.items c.index-authors-block.result b.len in
          omega (arith, sum, first, size, inv.small));
    }
