use Rattle.std.proofs.Common.{◌∙◌, sym}
use Rattle.block_seq.proofs.RowPast.{none-shown, spot-shown, stamp-shown}
use Rattle.block_seq.proofs.row_past.find_spot.Goals as goal

pub returns : goal.returns
returns c =
    let bs = c.args.row.tree.now.items in
    spot-shown c.args.row.index.now bs c.args.rev c.args.place c.in_ok-stamp.stamp c.find_block.result
    c.requires.kept.listed c.find_block.ensures.sound
    (sym (c.in_ok-stamp.ensures ∙ stamp-shown c.args.rev bs c.args.place)) c.find_block.ensures.spot

pub returns-in_err-stamp : goal.returns-in_err-stamp
returns-in_err-stamp c = rw c.from_residual.ensures (none-shown c.args.rev c.args.row.tree.now.items c.args.place
    (sym c.in_err-stamp.ensures))
