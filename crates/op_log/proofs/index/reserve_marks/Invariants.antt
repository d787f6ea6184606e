-- The loop of `reserve_marks`: the tracks passed so far have room for one more mark, and all keep their marks.
use Rattle.std.proofs.Common.{◌≡◌, take, map}
use Rattle.std.specs.List.{AllByRecursion}
use Rattle.op_log.specs.Index.{kept, HasRoom}
use Rattle.op_log.proofs.index.reserve_marks.Given as goal

abbrev pub invariant-loop-track : goal.invariant-loop-track
invariant-loop-track l = record {
  same : map kept l.tracks ≡ map kept l.initial.tracks;
  room : AllByRecursion HasRoom (take l.track-index l.tracks);
}
