use Rattle.std.proofs.Common.{◌≡◌, nat_le, take, drop, sym, ap, ◌∙◌, true, arith, rules, of_calls}
use Rattle.std.specs.List.{prefix_len}
use Rattle.std.proofs.Math.Seq.{take-length}
use Rattle.std.proofs.lemmas.List.{length-drop}
use Rattle.std.proofs.lemmas.List.Sorted.{IsPartitionPoint-from_clause, IsPartitionedBy-leb}
use Rattle.std.proofs.lemmas.List.Sums.{prefix_len_is}
use Rattle.pad_model.specs.Stamp.{Stamp}
use Rattle.text_history.specs.Slide.{Slide}
use Rattle.text_history.proofs.Slides.{rises}
use Rattle.text_history.proofs.past.since.Goals as goal

-- stands where a list of slides has none
no_slide : Slide
no_slide = record { rev = 0; at = 0; first = (let first : Stamp = record { counter = 0; replica = 0 } in first); len = 0; shows = true }

pub returns : goal.returns
returns c =
    let slides = c.args.slides.now in
    let seen = c.partition_point-seen.result in
    let rev = c.args.rev in
    let point =
    IsPartitionPoint-from_clause (λ (s : Slide). nat_le s.rev rev) slides seen
    c.partition_point-seen.ensures.partitioned
    (IsPartitionedBy-leb (λ (s : Slide). s.rev) slides rev (rises 0 slides c.requires))
    (λ a r f k. search (rules, of_calls)) in
    let many : prefix_len (λ (s : Slide). nat_le s.rev rev) slides ≡ seen =
    prefix_len_is (λ (s : Slide). nat_le s.rev rev) slides seen no_slide c.partition_point-seen.ensures.bound
    (λ k l. point.0 k no_slide (omega arith) l) (λ l. point.1 seen no_slide (omega arith) l) in
    ap (λ n. take n (drop seen slides)) (sym (length-drop seen slides)) ∙ take-length (drop seen slides)
    ∙ ap (λ n. drop n slides) (sym many)
