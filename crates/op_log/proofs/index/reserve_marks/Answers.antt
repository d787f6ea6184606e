use Rattle.std.proofs.Common.{◌<◌, length, ap, ◌∙◌, arith, List, get_or}
use Rattle.std.proofs.Math.Seq.{map-set_same}
use Rattle.std.proofs.lemmas.List.{take_more_set}
use Rattle.pad_model.proofs.Each.{each-append}
use Rattle.op_log.specs.declared.track.Mark.{Mark}
use Rattle.op_log.specs.Index.{Kept, kept, HasRoom}
use Rattle.op_log.proofs.index.reserve_marks.Goals as goal

-- the marks are as they were, whatever the call answered
pub returns-in_err-reserve-clause-same : goal.returns-in_err-reserve-clause-same
returns-in_err-reserve-clause-same c =
    let track = get_or c.loop-track.tracks c.loop-track.track-index c.track-item.result in
    map-set_same kept c.loop-track.tracks c.loop-track.track-index _ c.track-item.result
    (ap (λ (ms : List Mark). let k : Kept = record { origin = track.origin; rises = track.rises; marks = ms } in
    k) c.in_err-reserve.ensures.items)
    ∙ c.loop-track.invariant.same

pub loop-track-preserved : goal.loop-track-preserved
loop-track-preserved c =
    let track = get_or c.loop-track.tracks c.loop-track.track-index c.track-item.result in
    let roomy = c.in_ok-reserve.ensures.ok in
    let lt : c.loop-track.track-index < length c.loop-track.tracks = omega arith in
    record {
      same = map-set_same kept c.loop-track.tracks c.loop-track.track-index _ c.track-item.result
          (ap (λ (ms : List Mark). let k : Kept = record { origin = track.origin; rises = track.rises; marks = ms } in
          k) c.in_ok-reserve.ensures.items)
          ∙ c.loop-track.invariant.same;
      room = rw take_more_set (each-append HasRoom _ _ c.loop-track.invariant.room (omega arith, tt));
    }
