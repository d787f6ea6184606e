use Rattle.std.proofs.Common.{◌≡◌, ◌+◌, ◌<◌, length, refl, sym, ap, ◌∙◌, subst, Some, arith, slice_get}
use Rattle.std.specs.FinMap.{get}
use Rattle.std.proofs.lemmas.Option.{slice_get_within}
use Rattle.std.proofs.Math.ListN.{length-set}
use Rattle.std.proofs.lemmas.List.Edits.{length-insert}
use Rattle.ident_index.specs.Index.{stamp_behind}
use Rattle.blocks.specs.declared.block.Block.{Block}
use Rattle.blocks.specs.Blocks.{entry, IsSized, IsEdge, left_part, unlabelled}
use Rattle.blocks.proofs.Cells.{same_unlabelled, same_then, unlabelled_at, length-without_labels}
use Rattle.blocks.proofs.Entries.{entry_here, each_get, weight_fits_set, len_small, count_small, edges_kept}
use Rattle.blocks.proofs.Parts.{some_block, IsCutBlock, cut_leaves, room_for_part}
use Rattle.blocks.proofs.edit.cut_block.Goals as goal
use Rattle.blocks.proofs.edit.cut_block.Goals.{After-free_label-label, After-get-whole, After-insert}

pub overflow_add-rank : goal.overflow_add-rank
overflow_add-rank c =
    let b = some_block _ _ c.requires.inside in
    let within = slice_get_within c.args.tree.now.items c.args.rank b.0 b.1 in
    let small = count_small c.args.index.now c.args.tree.now.items c.requires.kept.listed in
    omega (arith, within, small)

pub free_label-label-requires-clause-within : goal.free_label-label-requires-clause-within
free_label-label-requires-clause-within c =
    let b = some_block _ _ c.requires.inside in
    let within = slice_get_within c.args.tree.now.items c.args.rank b.0 b.1 in
    omega (arith, within)

-- the block at the rank has kept its place, under another label perhaps
size : (c : After-free_label-label) → length c.free_label-label.new.tree.items ≡ length c.args.tree.now.items
size c = sym (length-without_labels c.free_label-label.new.tree.items) ∙ ap length c.free_label-label.ensures.labels
    ∙ length-without_labels c.args.tree.now.items

in_range : (c : After-free_label-label) → c.args.rank < length c.free_label-label.new.tree.items
in_range c =
    let b = some_block _ _ c.requires.inside in
    let within = slice_get_within c.args.tree.now.items c.args.rank b.0 b.1 in
    let same = size c in
    omega (arith, within, same)

pub get-whole-requires : goal.get-whole-requires
get-whole-requires c = record { in_range = in_range (goal.at.get-whole-requires c).After-free_label-label }

same_block : (c : After-get-whole) (b : Block) → slice_get c.args.tree.now.items c.args.rank ≡ Some b →
    unlabelled c.get-whole.result.now ≡ unlabelled b
same_block c b e =
    let d = unlabelled_at c.args.tree.now.items c.free_label-label.new.tree.items c.args.rank b
    c.free_label-label.ensures.labels e in
    let same : d.0 ≡ c.get-whole.result.now = cc (d.1, c.get-whole.ensures.item) in
    ap unlabelled (sym same) ∙ d.2

inside : (c : After-get-whole) → (0 < c.args.offset) × (c.args.offset < c.get-whole.result.now.len)
inside c =
    let b = some_block _ _ c.requires.inside in
    let len : c.get-whole.result.now.len ≡ b.0.len = ap (λ (x : Block). x.len) (same_block c b.0 b.1) in
    let p = b.2 in
    (omega arith, omega arith)

pub right_of-right-requires-clause-sized : goal.right_of-right-requires-clause-sized
right_of-right-requires-clause-sized c =
    each_get IsSized c.free_label-label.new.tree.items c.args.rank c.get-whole.result.now
    c.free_label-label.ensures.kept.listed.sized c.get-whole.ensures.item

pub right_of-right-requires-clause-inside : goal.right_of-right-requires-clause-inside
right_of-right-requires-clause-inside c = inside (goal.at.right_of-right-requires-clause-inside c).After-get-whole

pub returns-in_err-node-clause-cells : goal.returns-in_err-node-clause-cells
returns-in_err-node-clause-cells c = same_unlabelled c.args.tree.now.items c.free_label-label.new.tree.items
    c.free_label-label.ensures.labels

there : (c : After-get-whole) → get c.free_label-label.new.index c.get-whole.result.now.first
    ≡ Some (entry c.get-whole.result.now)
there c = c.free_label-label.ensures.kept.listed.index c.get-whole.result.now.first
    ∙ entry_here c.free_label-label.new.tree.items c.args.rank c.get-whole.result.now
    c.free_label-label.ensures.kept.listed.apart c.get-whole.ensures.item

pub cut-requires : goal.cut-requires
cut-requires c = let a = (goal.at.cut-requires c).After-get-whole in rw (there a) (inside a)

pub returns-in_err-cut-clause-cells : goal.returns-in_err-cut-clause-cells
returns-in_err-cut-clause-cells c = same_unlabelled c.args.tree.now.items c.free_label-label.new.tree.items
    c.free_label-label.ensures.labels

pub replace-requires-clause-in_range : goal.replace-requires-clause-in_range
replace-requires-clause-in_range c = in_range (goal.at.replace-requires-clause-in_range c).After-free_label-label

pub replace-requires-clause-weight_fits : goal.replace-requires-clause-weight_fits
replace-requires-clause-weight_fits c =
    let small = len_small c.free_label-label.new.tree.items c.args.rank c.get-whole.result.now
    c.get-whole.ensures.item in
    let p = inside (goal.at.replace-requires-clause-weight_fits c).After-get-whole in
    rw c.left_of-left.ensures (weight_fits_set c.free_label-label.new.index c.free_label-label.new.tree.items
    c.args.rank (left_part c.get-whole.result.now c.args.offset) c.free_label-label.ensures.kept.listed
    (omega (arith, small, c.free_label-label.ensures.kept.listed.small)))

pub overflow_add-rank-2 : goal.overflow_add-rank-2
overflow_add-rank-2 c =
    let within = in_range (goal.at.overflow_add-rank-2 c).After-free_label-label in
    let small = count_small c.free_label-label.new.index c.free_label-label.new.tree.items
    c.free_label-label.ensures.kept.listed in
    omega (arith, within, small)

pub insert-requires-clause-in_range : goal.insert-requires-clause-in_range
insert-requires-clause-in_range c =
    let within = in_range (goal.at.insert-requires-clause-in_range c).After-free_label-label in
    let same = ap length c.replace.ensures.items ∙ length-set c.free_label-label.new.tree.items c.args.rank
    c.left_of-left.result in
    omega (arith, within, same)

pub insert-requires-clause-size_fits : goal.insert-requires-clause-size_fits
insert-requires-clause-size_fits c =
    let small = count_small c.free_label-label.new.index c.free_label-label.new.tree.items
    c.free_label-label.ensures.kept.listed in
    let same = ap length c.replace.ensures.items ∙ length-set c.free_label-label.new.tree.items c.args.rank
    c.left_of-left.result in
    omega (arith, small, same)

pub insert-requires-clause-weight_fits : goal.insert-requires-clause-weight_fits
insert-requires-clause-weight_fits c =
    let p = inside (goal.at.insert-requires-clause-weight_fits c).After-get-whole in
    let fits = room_for_part c.free_label-label.new.index c.free_label-label.new.tree.items c.args.rank
    c.get-whole.result.now c.args.offset c.free_label-label.result c.free_label-label.ensures.kept.listed
    c.get-whole.ensures.item p.1 in
    rw (c.replace.ensures.items, c.left_of-left.ensures, c.in_ok-node.ensures, c.right_of-right.ensures) fits

left : (c : After-insert) → (0 < c.args.offset) × (c.args.offset < c.get-whole.result.now.len) →
    get c.free_label-label.new.index c.get-whole.result.now.first ≡ Some (entry c.get-whole.result.now) → c.args.rank
    < length c.free_label-label.new.tree.items
    → IsCutBlock c.free_label-label.new.index c.cut.new.self c.free_label-label.new.tree.items c.insert.new.self.items
    (stamp_behind c.get-whole.result.now.first c.args.offset)
left c p is within =
    let cut = rw is at c.in_ok-cut.ensures.ok in
    subst (λ l. IsCutBlock c.free_label-label.new.index c.cut.new.self c.free_label-label.new.tree.items l
    (stamp_behind c.get-whole.result.now.first c.args.offset))
    (sym (c.insert.ensures.items ∙ (rw (
      c.replace.ensures.items,
      c.left_of-left.ensures,
      c.in_ok-node.ensures,
      c.right_of-right.ensures,
    ) refl)))
    (cut_leaves c.free_label-label.new.index c.cut.new.self c.free_label-label.new.tree.items c.args.rank
    (c.args.rank + 1) c.get-whole.result.now c.args.offset c.free_label-label.result
    c.note_sound.ensures c.free_label-label.ensures.kept c.get-whole.ensures.item (omega arith) within p.0 p.1
    c.free_label-label.ensures.above c.free_label-label.ensures.below cut)

pub returns-clause-kept : goal.returns-clause-kept
returns-clause-kept c =
    let a = goal.at.returns-clause-kept c in
    (left a.After-insert (inside a.After-get-whole) (there a.After-get-whole) (in_range a.After-free_label-label)).kept

pub returns-clause-cells : goal.returns-clause-cells
returns-clause-cells c =
    let a = goal.at.returns-clause-cells c in
    same_then c.args.tree.now.items c.free_label-label.new.tree.items c.insert.new.self.items
    (same_unlabelled c.args.tree.now.items c.free_label-label.new.tree.items c.free_label-label.ensures.labels)
    (left a.After-insert (inside a.After-get-whole) (there a.After-get-whole) (in_range a.After-free_label-label)).cells

pub returns-clause-edges : goal.returns-clause-edges
returns-clause-edges c =
    let a = goal.at.returns-clause-edges c in
    λ s edge. (left a.After-insert (inside a.After-get-whole) (there a.After-get-whole)
    (in_range a.After-free_label-label)).edges s
    (edges_kept c.args.index.now c.free_label-label.new.index c.free_label-label.ensures.held s edge)

pub returns-clause-edge : goal.returns-clause-edge
returns-clause-edge c =
    let a = goal.at.returns-clause-edge c in
    λ b e.
    let same = ap (λ (x : Block). x.first) (same_block a.After-get-whole b e) in
    subst (λ f. IsEdge c.cut.new.self (stamp_behind f c.args.offset)) same
    (left a.After-insert (inside a.After-get-whole) (there a.After-get-whole) (in_range a.After-free_label-label)).edge

pub returns-clause-more : goal.returns-clause-more
returns-clause-more c =
    let a = goal.at.returns-clause-more c in
    let within = in_range a.After-free_label-label in
    let same = size a.After-free_label-label in
    let set = ap length c.replace.ensures.items ∙ length-set c.free_label-label.new.tree.items c.args.rank
    c.left_of-left.result in
    let more = ap length c.insert.ensures.items ∙ length-insert c.replace.new.self.items
    (c.args.rank + 1) c.in_ok-node.node (omega (arith, within, set)) in
    omega (arith, same, set, more)

pub returns-in_err-node-clause-more : goal.returns-in_err-node-clause-more
returns-in_err-node-clause-more c = let same =
    size (goal.at.returns-in_err-node-clause-more c).After-free_label-label in omega (arith, same)

pub returns-in_err-cut-clause-more : goal.returns-in_err-cut-clause-more
returns-in_err-cut-clause-more c = let same = size (goal.at.returns-in_err-cut-clause-more c).After-free_label-label in
    omega (arith, same)
