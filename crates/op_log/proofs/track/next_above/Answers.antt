use Rattle.std.proofs.Common.{rules, ltb, leb, ◌||◌, ap, ◌∙◌, sym, option_map, List}
use Rattle.std.specs.List.{find}
use Rattle.std.proofs.lemmas.List.{take_rest}
use Rattle.std.proofs.lemmas.List.Sorted.{IsPartitionPoint-from_clause}
use Rattle.op_log.specs.declared.track.Mark.{Mark}
use Rattle.op_log.specs.Track.{is_above}
use Rattle.op_log.proofs.Marks.{partitioned_above, find_behind, passed_above}
use Rattle.op_log.proofs.track.next_above.Goals as goal

-- what is found behind the marks that are passed over is found among all
pub returns-then-track : goal.returns-then-track
returns-then-track c =
    let from = c.args.from in
    let count = c.args.count in
    let marks = c.as_slice-marks.result.now in
    let start = c.partition_point-start.result in
    let facts = c.partition_point-start.ensures in
    let parts = IsPartitionPoint-from_clause (λ m. ltb m.place from || leb m.number count) marks start
    facts.partitioned (partitioned_above marks from count (rw c.as_slice-marks.ensures.value (c.requires c.if-track.true)))
    (λ a r f' called. search rules) in
    let found = find_behind (λ m. ltb m.place from || leb m.number count) (is_above from count)
    (passed_above from count) marks start facts.bound parts.0 in
    c.first_above.ensures ∙ ap (λ (ms : List Mark). option_map (λ (m : Mark). m.place)
    (find (is_above from count) ms)) (take_rest marks start) ∙ ap (option_map (λ (m : Mark). m.place)) (sym found)
    ∙ ap (λ (ms : List Mark). option_map (λ (m : Mark). m.place) (find (is_above from count) ms)) c.as_slice-marks.ensures.value
