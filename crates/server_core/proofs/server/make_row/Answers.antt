use Rattle.std.proofs.Common.{◌∙◌, ◌++◌, ◌∷◌, [], ap, arith}
use Rattle.server_core.specs.Machine.{unnamed}
use Rattle.server_core.proofs.Rows.{repeat-more}
use Rattle.server_core.proofs.server.make_row.Goals as goal

pub loop-preserved : goal.loop-preserved
loop-preserved g c = rw (c.in_ok-push.ensures.items, c.loop.invariant, c.in_ok-new.ensures)
    (repeat-more c.loop.counter (unnamed c.args.replica c.args.present))
