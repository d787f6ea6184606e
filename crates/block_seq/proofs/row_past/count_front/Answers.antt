use Rattle.std.proofs.Common.{◌∙◌, arith}
use Rattle.blocks.specs.Blocks.{IsSized}
use Rattle.blocks.proofs.Entries.{each_get}
use Rattle.block_seq.proofs.RowPast.{alive_front, shown_front-most, some_there}
use Rattle.block_seq.proofs.row_past.count_front.Goals as goal

pub count_alive-alive-requires-clause-inside : goal.count_alive-alive-requires-clause-inside
count_alive-alive-requires-clause-inside c =
    let bs = c.args.row.tree.now.items in
    let b = some_there bs c.args.spot.rank c.requires.within in
    let sized = each_get IsSized bs c.args.spot.rank b.0 c.requires.kept.listed.sized b.1 in
    let small = sized.2 in
    let inside = c.requires.inside b.0 b.1 in
    omega arith

pub returns-then-row-rev : goal.returns-then-row-rev
returns-then-row-rev c = λ b e.
    c.count_alive-alive.ensures b e
    ∙ alive_front c.args.row.latest c.args.rev c.args.row.tree.now.items c.args.spot.rank c.args.spot.offset b
    c.if-row-rev.true c.requires.dated e

pub loop-low-init : goal.loop-low-init
loop-low-init c =
    let all = c.count_visible-high.ensures in
    record {
      between = λ b e. (
        omega arith,
        (let most = shown_front-most c.args.rev c.args.row.tree.now.items c.args.spot.rank
            c.args.spot.offset b e (c.requires.inside b e) in omega arith),
      );
      top = omega arith;
    }
