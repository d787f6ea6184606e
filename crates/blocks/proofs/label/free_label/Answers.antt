use Rattle.std.proofs.Common.{◌≡◌, ◌+◌, ◌-◌, ◌*◌, ◌≤◌, length, sym, ap, subst, ◌∙◌, arith}
use Rattle.blocks.specs.Blocks.{Rises, below, above, without_labels}
use Rattle.blocks.specs.declared.block.TheConstants.{LAST_LABEL}
use Rattle.blocks.proofs.Entries.{count_small}
use Rattle.blocks.proofs.Labels.{above_under, rises_front, gap_front, length-front, unlabelled-front}
use Rattle.blocks.proofs.label.free_label.Goals as goal
use Rattle.blocks.proofs.label.free_label.Goals.{After-window_round-window, After-respace}

pub window_round-window-requires-clause-small : goal.window_round-window-requires-clause-small
window_round-window-requires-clause-small c = count_small c.args.index.now c.args.tree.now.items c.requires.kept.listed

-- the window's labels stay below the last
pub respace-requires-clause-room : goal.respace-requires-clause-room
respace-requires-clause-room c =
    let w = c.window_round-window.ensures.window in
    let under = above_under 0 LAST_LABEL c.window_round-window.result.to c.args.tree.now.items c.requires.kept.rises in
    omega (arith, w.fits, under)

-- from the window to its end
fits : (c : After-respace) → c.window_round-window.result.low + c.window_round-window.result.step
    * (c.window_round-window.result.to - c.window_round-window.result.from + 1)
    ≤ above c.args.tree.now.items (c.window_round-window.result.from
    + (c.window_round-window.result.to - c.window_round-window.result.from)) LAST_LABEL
fits c =
    let w = c.window_round-window.ensures.window in
    let end : c.window_round-window.result.from + (c.window_round-window.result.to - c.window_round-window.result.from)
    ≡ c.window_round-window.result.to = omega (arith, w.before, w.behind) in
    rw end w.fits

rises : (c : After-respace) → Rises 1 0 c.respace.new.tree.items LAST_LABEL
rises c =
    let r = c.window_round-window.result in
    let w = c.window_round-window.ensures.window in
    subst (λ l. Rises 1 0 l LAST_LABEL) (sym c.respace.ensures.respaced)
    (rises_front r.step 0 r.low LAST_LABEL r.from (r.to - r.from) c.args.tree.now.items
    (omega (arith, c.window_round-window.ensures.room)) c.requires.kept.rises
    (omega (arith, w.before, w.behind, w.within)) w.low (fits c))

size : (c : After-respace) → length c.respace.new.tree.items ≡ length c.args.tree.now.items
size c =
    let r = c.window_round-window.result in
    ap length c.respace.ensures.respaced ∙ length-front r.step r.low r.from (r.to - r.from) c.args.tree.now.items

-- there is room at the rank now
room : (c : After-respace) → below 0 c.respace.new.tree.items c.args.rank + 2
    ≤ above c.respace.new.tree.items c.args.rank LAST_LABEL
room c =
    let r = c.window_round-window.result in
    let w = c.window_round-window.ensures.window in
    let gap = gap_front r.step 0 r.low LAST_LABEL r.from (r.to - r.from) c.args.rank c.args.tree.now.items
    c.requires.kept.rises (omega (arith, w.before, w.behind, w.within)) w.low (fits c) w.before
    (omega (arith, w.before, w.behind)) in
    rw c.respace.ensures.respaced (omega (arith, gap, c.window_round-window.ensures.room))

pub label_between-requires-2-clause-rises : goal.label_between-requires-2-clause-rises
label_between-requires-2-clause-rises c = rises (goal.at.label_between-requires-2-clause-rises c).After-respace

pub label_between-requires-2-clause-within : goal.label_between-requires-2-clause-within
label_between-requires-2-clause-within c = let same =
    size (goal.at.label_between-requires-2-clause-within c).After-respace in omega (arith, same, c.requires.within)

pub unreachable-requires : goal.unreachable-requires
unreachable-requires c =
    let apart = room (goal.at.unreachable-requires c).After-respace in
    let none = c.in_default-label_between.ensures in
    omega (arith, apart, none)

pub returns-clause-kept : goal.returns-clause-kept
returns-clause-kept c = record { listed = c.respace.ensures.listed; rises = rises (goal.at.returns-clause-kept c).After-respace }

pub returns-clause-labels : goal.returns-clause-labels
returns-clause-labels c =
    let r = c.window_round-window.result in
    ap without_labels c.respace.ensures.respaced ∙ unlabelled-front r.step r.low r.from
    (r.to - r.from) c.args.tree.now.items
