use denote.Param.Send.{sendable}
use Rattle.std.proofs.Crossing.{crosses}
use Rattle.std.proofs.MapsCrossing as maps
use Rattle.weight_tree.proofs.tree.WeightTree.TheLaws.TheKnot as TheKnot
use Rattle.block_seq.proofs.Sends.{BlockSeq-send}
use Rattle.tcp_server.proofs.listen.fn.serve.scope.Goals as goal

pub serve_all-requires-send-S : goal.serve_all-requires-send-S
serve_all-requires-send-S g c κs within =
    search (BlockSeq-send, crosses, maps.crosses, TheKnot.crosses, sendable) depth 60 fits 20000
