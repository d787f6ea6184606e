use Rattle.std.proofs.Common.{◌≡◌, ◌≤◌, false, [], ◌∷◌, ◌++◌, Some, None, refl, sym, ap, ◌∙◌, subst, arith, slice_set}
use Rattle.std.specs.List.{AllByRecursion}
use Rattle.text_history.specs.Slide.{Slide}
use Rattle.block_seq.specs.Rows.{IsDated}
use Rattle.block_seq.specs.RowSlides.{IsSlid, live_blocks}
use Rattle.block_seq.proofs.RowAuthors.{hidden_killed, hides_nothing}
use Rattle.block_seq.proofs.RowSlides.{slid_killed, fewer_alive, none_of}
use Rattle.std.proofs.lemmas.Option.{slice_get_within}
use Rattle.blocks.specs.Blocks.{IsSized}
use Rattle.blocks.specs.declared.block.Block.{Block}
use Rattle.blocks.proofs.Entries.{each_get}
use Rattle.blocks.proofs.Parts.{holds_here}
use Rattle.block_seq.proofs.BlockCells.{spot_block}
use Rattle.block_seq.proofs.RowKills.{none_killed, none_hidden, none_named, edge_behind, edge_behind_none}
use Rattle.block_seq.proofs.RowPast.{weight_small}
use Rattle.block_seq.proofs.RowRanks.{block-room}
use Rattle.block_seq.proofs.RowKills.{no_edge_inside, dead_block, alive_block}
use Rattle.block_seq.specs.Rows.{span_from}
use Rattle.block_seq.proofs.row_kills.kill_from.Goals as goal
use Rattle.block_seq.proofs.row_kills.kill_from.Goals.{In-Some, After-get-block, After-kill}

pub returns-in_default-clause-items : goal.returns-in_default-clause-items
returns-in_default-clause-items c =
    let bs = c.args.tree.now.items in
    none_killed c.args.rev (span_from c.args.stamp 1) bs
    (none_named c.args.index.now bs c.in_default.ensures.sound c.requires.kept.listed c.args.stamp
    c.in_default.ensures.spot)

pub returns-in_default-clause-hidden : goal.returns-in_default-clause-hidden
returns-in_default-clause-hidden c =
    let bs = c.args.tree.now.items in
    none_hidden (span_from c.args.stamp 1) bs
    (none_named c.args.index.now bs c.in_default.ensures.sound c.requires.kept.listed c.args.stamp
    c.in_default.ensures.spot)

pub returns-in_default-clause-ends : goal.returns-in_default-clause-ends
returns-in_default-clause-ends c = edge_behind_none c.args.index.now c.args.tree.now.items c.in_default.ensures.sound
    c.requires.kept.listed c.args.stamp c.in_default.ensures.spot

pub get-block-requires : goal.get-block-requires
get-block-requires c =
    let found = spot_block c.args.tree.now.items c.args.stamp c.in-Some.spot.rank c.in-Some.spot.offset
    c.in-Some.ensures.spot in
    record { in_range = slice_get_within c.args.tree.now.items c.in-Some.spot.rank found.0 found.1 }

-- the block that was found begins with the stamp
begins : (c : After-get-block) → c.get-block.result.now.first ≡ c.args.stamp
begins c =
    let bs = c.args.tree.now.items in
    let rank = c.in-Some.spot.rank in
    let found = spot_block bs c.args.stamp rank c.in-Some.spot.offset c.in-Some.ensures.spot in
    let same : found.0 ≡ c.get-block.result.now = cc (found.1, c.get-block.ensures.item) in
    ap (λ (b : Block). b.first) (sym same)
    ∙ c.requires.begins found.0.first (holds_here c.args.index.now bs rank found.0 c.args.stamp c.requires.kept.listed
    found.1 found.2)

some : (c : After-get-block) → 1 ≤ c.get-block.result.now.len
some c =
    let sized = each_get IsSized c.args.tree.now.items c.in-Some.spot.rank c.get-block.result.now
    c.requires.kept.listed.sized c.get-block.ensures.item in
    sized.0

pub returns-then-is_some-clause-some : goal.returns-then-is_some-clause-some
returns-then-is_some-clause-some c = let h = some (goal.at.returns-then-is_some-clause-some c).After-get-block in
    omega (arith, h)

pub returns-then-is_some-clause-items : goal.returns-then-is_some-clause-items
returns-then-is_some-clause-items c =
    (dead_block c.args.index.now c.args.tree.now.items c.in-Some.ensures.sound c.requires.kept.listed c.args.rev
    c.in-Some.spot.rank c.get-block.result.now c.args.stamp c.get-block.ensures.item
    (begins (goal.at.returns-then-is_some-clause-items c).After-get-block)
    (sym c.is_some.ensures ∙ c.if-is_some.true)).0

pub returns-then-is_some-clause-hidden : goal.returns-then-is_some-clause-hidden
returns-then-is_some-clause-hidden c =
    (dead_block c.args.index.now c.args.tree.now.items c.in-Some.ensures.sound c.requires.kept.listed c.args.rev
    c.in-Some.spot.rank c.get-block.result.now c.args.stamp c.get-block.ensures.item
    (begins (goal.at.returns-then-is_some-clause-hidden c).After-get-block)
    (sym c.is_some.ensures ∙ c.if-is_some.true)).1

pub returns-then-is_some-clause-ends : goal.returns-then-is_some-clause-ends
returns-then-is_some-clause-ends c =
    let g = goal.at.returns-then-is_some-clause-ends c in
    edge_behind c.args.index.now c.args.tree.now.items c.in-Some.ensures.sound c.requires.kept.listed
    c.in-Some.spot.rank c.get-block.result.now c.args.stamp c.get-block.ensures.item (begins g.After-get-block)
    (some g.After-get-block)

pub returns-then-is_some-clause-whole : goal.returns-then-is_some-clause-whole
returns-then-is_some-clause-whole c = λ k lo hi.
    no_edge_inside c.args.index.now c.args.tree.now.items c.in-Some.ensures.sound c.requires.kept.listed
    c.in-Some.spot.rank c.get-block.result.now c.args.stamp k c.get-block.ensures.item
    (begins (goal.at.returns-then-is_some-clause-whole c).After-get-block) lo hi

pub kill-requires-clause-within : goal.kill-requires-clause-within
kill-requires-clause-within c = slice_get_within c.args.tree.now.items c.in-Some.spot.rank c.get-block.result.now
    c.get-block.ensures.item

pub returns-clause-some : goal.returns-clause-some
returns-clause-some c = let h = some (goal.at.returns-clause-some c).After-get-block in omega (arith, h)

pub returns-clause-items : goal.returns-clause-items
returns-clause-items c =
    c.kill.ensures.dead c.get-block.result.now c.get-block.ensures.item
    ∙ (alive_block c.args.index.now c.args.tree.now.items c.in-Some.ensures.sound c.requires.kept.listed c.args.rev
    c.in-Some.spot.rank c.get-block.result.now c.args.stamp c.get-block.ensures.item
    (begins (goal.at.returns-clause-items c).After-get-block) (sym c.is_some.ensures ∙ c.if-is_some.false)).0

pub returns-clause-hidden : goal.returns-clause-hidden
returns-clause-hidden c =
    (alive_block c.args.index.now c.args.tree.now.items c.in-Some.ensures.sound c.requires.kept.listed c.args.rev
    c.in-Some.spot.rank c.get-block.result.now c.args.stamp c.get-block.ensures.item
    (begins (goal.at.returns-clause-hidden c).After-get-block) (sym c.is_some.ensures ∙ c.if-is_some.false)).1

pub returns-clause-ends : goal.returns-clause-ends
returns-clause-ends c =
    let g = goal.at.returns-clause-ends c in
    edge_behind c.args.index.now c.args.tree.now.items c.in-Some.ensures.sound c.requires.kept.listed
    c.in-Some.spot.rank c.get-block.result.now c.args.stamp c.get-block.ensures.item (begins g.After-get-block)
    (some g.After-get-block)

pub returns-clause-whole : goal.returns-clause-whole
returns-clause-whole c = λ k lo hi.
    no_edge_inside c.args.index.now c.args.tree.now.items c.in-Some.ensures.sound c.requires.kept.listed
    c.in-Some.spot.rank c.get-block.result.now c.args.stamp k c.get-block.ensures.item
    (begins (goal.at.returns-clause-whole c).After-get-block) lo hi

-- the death of the block, by its slide
died : (c : After-kill) → c.get-block.result.now.died ≡ None
died c = none_of c.get-block.result.now.died (sym c.is_some.ensures ∙ c.if-is_some.false)

pub new-slide-requires-clause-place : goal.new-slide-requires-clause-place
new-slide-requires-clause-place c =
    let front = weight_small c.args.tree.now.items c.in-Some.spot.rank in
    omega (arith, front, c.before-at.ensures.sum, c.requires.kept.listed.small)

pub new-slide-requires-clause-len : goal.new-slide-requires-clause-len
new-slide-requires-clause-len c =
    let one = block-room c.args.tree.now.items c.in-Some.spot.rank 0 c.get-block.result.now c.get-block.ensures.item
    (omega arith) in
    omega (arith, one, c.requires.kept.listed.small)

pub push_reserved-requires : goal.push_reserved-requires
push_reserved-requires c =
    let fewer = fewer_alive c.args.tree.now.items c.in-Some.spot.rank c.args.rev c.get-block.result.now
    c.get-block.ensures.item (none_of c.get-block.result.now.died (sym c.is_some.ensures ∙ c.if-is_some.false)) in
    c.requires.room (omega (arith, fewer))

killed : (c : After-kill) → IsSlid c.push_reserved.new.self.items c.kill.new.tree.items
    × AllByRecursion (IsDated c.args.rev) c.kill.new.tree.items
killed c =
    let bs = c.args.tree.now.items in
    let b = c.get-block.result.now in
    let s : Slide = record { rev = c.args.rev; at = c.before-at.result; first = b.first; len = b.len; shows = false } in
    let done = slid_killed c.args.slides.now.items s bs c.in-Some.spot.rank b c.get-block.ensures.item c.requires.slid
    c.requires.dated (died c) c.before-at.ensures.sum refl refl refl
    (each_get IsSized bs c.in-Some.spot.rank b c.requires.kept.listed.sized c.get-block.ensures.item)
    c.requires.kept.listed.small
    in
    let items = c.kill.ensures.dead b c.get-block.ensures.item in (
      subst (λ l. IsSlid l c.kill.new.tree.items)
          (sym (c.push_reserved.ensures.items ∙ ap (λ s. c.args.slides.now.items ++ s ∷ []) c.new-slide.ensures))
          (subst (IsSlid (c.args.slides.now.items ++ s ∷ [])) (sym items) done.0),
      subst (AllByRecursion (IsDated c.args.rev))
          (sym items) done.1,
    )

pub returns-clause-slid : goal.returns-clause-slid
returns-clause-slid c = (killed (goal.at.returns-clause-slid c).After-kill).0

pub returns-clause-dated : goal.returns-clause-dated
returns-clause-dated c = (killed (goal.at.returns-clause-dated c).After-kill).1

pub returns-clause-spent : goal.returns-clause-spent
returns-clause-spent c =
    let bs = c.args.tree.now.items in
    let rank = c.in-Some.spot.rank in
    let b = c.get-block.result.now in
    let fewer = fewer_alive bs rank c.args.rev b c.get-block.ensures.item
    (died (goal.at.returns-clause-spent c).After-kill) in
    let same : live_blocks c.kill.new.tree.items
    ≡ live_blocks (slice_set bs rank (record b { died = Some c.args.rev })) =
    ap live_blocks (c.kill.ensures.dead b c.get-block.ensures.item) in
    omega (arith, fewer, same, c.push_reserved.ensures.len)

pub returns-in_default-clause-authors : goal.returns-in_default-clause-authors
returns-in_default-clause-authors c = hides_nothing c.args.slides.now.items c.args.tree.now.items

pub returns-then-is_some-clause-authors : goal.returns-then-is_some-clause-authors
returns-then-is_some-clause-authors c = hides_nothing c.args.slides.now.items c.args.tree.now.items

pub returns-clause-authors : goal.returns-clause-authors
returns-clause-authors c =
    let b = c.get-block.result.now in
    let s : Slide = record { rev = c.args.rev; at = c.before-at.result; first = b.first; len = b.len; shows = false } in
    hidden_killed c.args.slides.now.items c.push_reserved.new.self.items s c.args.tree.now.items c.kill.new.tree.items
    c.in-Some.spot.rank b c.get-block.ensures.item (died (goal.at.returns-clause-authors c).After-kill)
    c.before-at.ensures.sum refl (c.kill.ensures.dead b c.get-block.ensures.item)
    (c.push_reserved.ensures.items ∙ ap (λ s. c.args.slides.now.items ++ s ∷ []) c.new-slide.ensures)
