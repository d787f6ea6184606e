-- Parts of a text in blocks may go to another thread. The search for all of it at once stops at its limit.
use denote.Param.Send.{IsSend, sendable}
use Rattle.std.proofs.Crossing.{crosses}
use Rattle.std.proofs.MapsCrossing as maps
use Rattle.weight_tree.proofs.tree.WeightTree.TheLaws.TheKnot as TheKnot
use Rattle.ident_index.specs.contracts.index.IdentIndex as IdentIndex
use Rattle.authorship.specs.contracts.run_tree.RunTree as RunTree
use Rattle.block_seq.specs.contracts.rows.BlockSeq as BlockSeq

pub IdentIndex-send : IsSend IdentIndex.the_row
IdentIndex-send = search (maps.crosses, crosses, sendable) depth 60 fits 20000

pub RunTree-send : IsSend RunTree.the_row
RunTree-send = search (crosses, TheKnot.crosses, sendable) depth 60 fits 20000

pub BlockSeq-send : IsSend BlockSeq.the_row
BlockSeq-send = search (RunTree-send, IdentIndex-send, crosses, maps.crosses, TheKnot.crosses, sendable) depth 60 fits 20000
