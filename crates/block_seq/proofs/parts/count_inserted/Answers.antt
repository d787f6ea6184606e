use Rattle.std.proofs.Common.{◌≡◌, sym, ap, ◌∙◌, get_or, length, arith}
use Rattle.std.proofs.lemmas.List.Sums.{sum_by_more_le_part, sum_by-take-le, sum_by-le-sum_by}
use Rattle.pad_model.specs.Checked.{part_size}
use Rattle.block_seq.specs.KeptParts.{inserted_size}
use Rattle.block_seq.proofs.PartSteps.{inserted-le-size}
use Rattle.block_seq.proofs.parts.count_inserted.Goals as goal

pub overflow_add-count : goal.overflow_add-count
overflow_add-count c =
    let bounded = sum_by_more_le_part inserted_size part_size c.args.parts.now c.loop-part.part-index c.part-item.result
    c.loop-part-test.true inserted-le-size in
    let size : part_size (get_or c.args.parts.now c.loop-part.part-index c.part-item.result)
    ≡ length c.in-Insert.run'.text = ap part_size (sym c.part-item.is ∙ c.in-Insert.is) in
    omega (arith, bounded, size, c.loop-part.invariant, c.len-count.ensures, c.requires)

pub returns-clause-within : goal.returns-clause-within
returns-clause-within c = omega (
  arith,
  sum_by-take-le inserted_size c.args.parts.now c.loop-part.part-index,
  sum_by-le-sum_by inserted_size part_size c.args.parts.now inserted-le-size,
  c.loop-part.invariant,
  c.requires,
)
