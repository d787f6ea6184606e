use Rattle.std.proofs.Common.{◌≡◌, inl, inr, length, refl, sym, ap, ◌∙◌, subst, arith, sum_by}
use Rattle.std.specs.List.{insert}
use Rattle.blocks.specs.declared.block.Block.{Block}
use Rattle.blocks.specs.Blocks.{IsKept, without_labels, unlabelled}
use Rattle.blocks.proofs.Cells.{length-without_labels}
use Rattle.blocks.proofs.Entries.{count_small, weight_fits_insert, edges_kept}
use Rattle.ident_index.specs.Index.{Holds}
use Rattle.ident_index.proofs.Sound.{holds_insert}
use Rattle.blocks.proofs.Parts.{put_leaves, insert-without_labels, sum-without_labels}
use Rattle.blocks.proofs.edit.put_block.Goals as goal
use Rattle.blocks.proofs.edit.put_block.Goals.{After-free_label-label}

size : (c : After-free_label-label) → length c.free_label-label.new.tree.items ≡ length c.args.tree.now.items
size c = sym (length-without_labels c.free_label-label.new.tree.items) ∙ ap length c.free_label-label.ensures.labels
    ∙ length-without_labels c.args.tree.now.items

sum : (c : After-free_label-label) → sum_by (λ (x : Block). x.len) c.free_label-label.new.tree.items
    ≡ sum_by (λ (x : Block). x.len) c.args.tree.now.items
sum c = sym (sum-without_labels c.free_label-label.new.tree.items)
    ∙ ap (sum_by (λ (x : Block). x.len)) c.free_label-label.ensures.labels ∙ sum-without_labels c.args.tree.now.items

pub insert-requires-clause-in_range : goal.insert-requires-clause-in_range
insert-requires-clause-in_range c = let same =
    size (goal.at.insert-requires-clause-in_range c).After-free_label-label in omega (arith, same, c.requires.within)

pub insert-requires-clause-size_fits : goal.insert-requires-clause-size_fits
insert-requires-clause-size_fits c = let small =
    count_small c.free_label-label.new.index c.free_label-label.new.tree.items c.free_label-label.ensures.kept.listed in
    omega (arith, small)

pub insert-requires-clause-weight_fits : goal.insert-requires-clause-weight_fits
insert-requires-clause-weight_fits c =
    let room = c.requires.room in
    rw c.in_ok-node.ensures (weight_fits_insert c.free_label-label.new.index c.free_label-label.new.tree.items
    (record c.args.block { label = c.free_label-label.result }) c.free_label-label.ensures.kept.listed
    (omega (arith, room)))

pub returns-clause-kept : goal.returns-clause-kept
returns-clause-kept c =
    let a = (goal.at.returns-clause-kept c).After-free_label-label in
    let same = size a in
    let total = sum a in
    subst (IsKept c.add.new.self) (sym (c.insert.ensures.items ∙ (rw c.in_ok-node.ensures refl)))
    (put_leaves c.free_label-label.new.index c.add.new.self c.free_label-label.new.tree.items c.args.rank
    (record c.args.block { label = c.free_label-label.result }) c.note_sound.ensures c.free_label-label.ensures.kept
    (omega (arith, same, c.requires.within)) c.requires.sized (λ s covers first held. c.requires.fresh s covers first
    (c.free_label-label.ensures.held first s held)) (omega (arith, total, c.requires.room))
    c.free_label-label.ensures.above c.free_label-label.ensures.below c.in_ok-add.ensures.ok)

pub returns-clause-ok : goal.returns-clause-ok
returns-clause-ok c =
    let b : Block = record c.args.block { label = c.free_label-label.result } in
    ap without_labels (c.insert.ensures.items ∙ (rw c.in_ok-node.ensures refl))
    ∙ insert-without_labels c.free_label-label.new.tree.items c.args.rank b
    ∙ ap (λ l. insert l c.args.rank (unlabelled b)) c.free_label-label.ensures.labels

pub returns-clause-edges : goal.returns-clause-edges
returns-clause-edges c = λ s edge joins first held.
    let label = c.free_label-label.result in
    elim (holds_insert c.free_label-label.new.index c.args.block.first
    (record { len = c.args.block.len; label = label }) first s
    (subst (λ m. Holds m first s) c.in_ok-add.ensures.ok held)) [
      | inl here ↦ here.0 ∙ joins here.1
      | inr beside ↦ edges_kept c.args.index.now c.free_label-label.new.index c.free_label-label.ensures.held s edge
          first beside.1
    ]
