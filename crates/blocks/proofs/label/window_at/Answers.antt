use Rattle.std.proofs.Common.{◌≡◌, ◌+◌, ◌-◌, ◌≤◌, length, ap, ◌∙◌, arith}
use Rattle.std.proofs.Math.Nat.{div-mul-le_self}
use Rattle.blocks.specs.Blocks.{below}
use Rattle.blocks.specs.declared.block.TheConstants.{LAST_LABEL}
use Rattle.blocks.proofs.Labels.{low_under_high, two_fit, below-zero, above-end}
use Rattle.blocks.proofs.label.window_at.Goals as goal
use Rattle.blocks.proofs.label.window_at.Goals.{After-label_from}

apart : (c : After-label_from) → c.label_before-low.result ≤ c.label_from.result
apart c =
    let h = low_under_high 0 LAST_LABEL c.saturating_sub-from.result c.min-to.result c.args.tree.now.items
    c.requires.rises
    (omega (
      arith,
      c.saturating_sub-from.ensures,
      c.min-to.ensures,
      c.saturating_add.ensures,
      c.len.ensures.len,
      c.requires.within,
      c.requires.small,
    )) (omega (arith, c.min-to.ensures, c.len.ensures.len)) in
    omega (arith, h, c.label_before-low.ensures, c.label_from.ensures)

pub overflow_sub-gap : goal.overflow_sub-gap
overflow_sub-gap c = apart c

pub returns-clause-window : goal.returns-clause-window
returns-clause-window c =
    let n = c.min-to.result - c.saturating_sub-from.result in
    let gap = c.label_from.result - c.label_before-low.result in
    let fits = div-mul-le_self gap (n + 1) in
    let over = apart c in
    record {
      before = omega (arith, c.saturating_sub-from.ensures);
      behind = omega (
        arith,
        c.min-to.ensures,
        c.saturating_add.ensures,
        c.len.ensures.len,
        c.requires.within,
        c.requires.small,
      );
      within = omega (arith, c.min-to.ensures, c.len.ensures.len);
      low = c.label_before-low.ensures;
      fits = omega (arith, fits, over, c.label_from.ensures);
    }

pub returns-clause-whole : goal.returns-clause-whole
returns-clause-whole c = λ whole.
    let bs = c.args.tree.now.items in
    let from : c.saturating_sub-from.result ≡ 0 = omega (
      arith,
      whole,
      c.saturating_sub-from.ensures,
      c.requires.within,
    ) in
    let to : c.min-to.result ≡ length bs = omega (
      arith,
      whole,
      c.min-to.ensures,
      c.saturating_add.ensures,
      c.len.ensures.len,
      c.requires.small,
    ) in
    let low : c.label_before-low.result ≡ 0 = c.label_before-low.ensures ∙ ap (below 0 bs) from ∙ below-zero 0 bs in
    let high : c.label_from.result ≡ LAST_LABEL = c.label_from.ensures ∙ above-end bs c.min-to.result LAST_LABEL to in
    let all : length bs - 0 ≡ length bs = omega arith in
    rw (low, high, from, to, all) (two_fit (length bs) c.requires.small)
