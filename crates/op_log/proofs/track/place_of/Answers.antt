use Rattle.std.proofs.Common.{rules, eqb, ltb, ap, ◌∙◌, sym, option_map, List}
use Rattle.std.specs.List.{find}
use Rattle.std.proofs.lemmas.List.{take_rest}
use Rattle.std.proofs.lemmas.List.Sorted.{IsPartitionPoint-from_clause}
use Rattle.op_log.specs.declared.track.Mark.{Mark}
use Rattle.op_log.proofs.Marks.{partitioned_low, find_behind, passed_numbered}
use Rattle.op_log.proofs.track.place_of.Goals as goal

-- what is found behind the marks that are passed over is found among all
pub returns-then-track : goal.returns-then-track
returns-then-track c =
    let number = c.args.number in
    let marks = c.as_slice-marks.result.now in
    let start = c.partition_point-start.result in
    let facts = c.partition_point-start.ensures in
    let parts = IsPartitionPoint-from_clause (λ m. ltb m.number number) marks start facts.partitioned
    (partitioned_low marks number (rw c.as_slice-marks.ensures.value (c.requires c.if-track.true))) (λ a r f' called. search rules) in
    let found = find_behind (λ m. ltb m.number number) (λ m. eqb m.number number) (passed_numbered number) marks start
    facts.bound parts.0 in
    c.first_numbered.ensures ∙ ap (λ (ms : List Mark). option_map (λ (m : Mark). m.place)
    (find (λ m. eqb m.number number) ms)) (take_rest marks start) ∙ ap (option_map (λ (m : Mark). m.place)) (sym found)
    ∙ ap (λ (ms : List Mark). option_map (λ (m : Mark). m.place) (find (λ m. eqb m.number number) ms)) c.as_slice-marks.ensures.value
