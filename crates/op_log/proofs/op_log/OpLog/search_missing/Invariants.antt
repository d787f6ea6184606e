-- The loop of `search_missing`: the place so far is that of the first operation that is missing by the tracks passed.
use Rattle.std.proofs.Common.{◌≡◌, map, take}
use Rattle.op_log.specs.Index.{kept, first_place}
use Rattle.op_log.proofs.Next.{is_next}
use Rattle.op_log.proofs.op_log.OpLog.search_missing.Given as goal

abbrev pub invariant-loop-track : goal.invariant-loop-track
invariant-loop-track l =
    l.next ≡ first_place (is_next l.seen l.from (map kept (take l.track-index l.track-items))) 0 l.self.operations
