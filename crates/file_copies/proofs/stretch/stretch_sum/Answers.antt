use Rattle.std.proofs.Common.{rules, ◌+◌, ◌∙◌, refl, sym, arith, string_bytes}
use Rattle.file_copies.proofs.Stretches.{ends, goes_on, stops}
use Rattle.file_copies.proofs.stretch.stretch_sum.Goals as goal

pub returns-in_default-2 : goal.returns-in_default-2
returns-in_default-2 c =
    sym (stops (string_bytes c.loop-end.sum) c.loop-end.rest.now c.in-Some.end c.in-Some.ensures (search rules))
    ∙ c.loop-end.invariant

pub loop-end-preserved : goal.loop-end-preserved
loop-end-preserved c =
    goes_on (string_bytes c.loop-end.sum) c.loop-end.rest.now _ c.in-Some-2._text.now (string_bytes c.in-Some-2.next)
    c.in-Some.end (c.in-Some.end + 1) _ (omega arith) refl c.in-Some.ensures (search rules) (search rules) c.loop-end.invariant

pub returns-else-is_empty : goal.returns-else-is_empty
returns-else-is_empty c = sym (ends (string_bytes c.loop-end.sum) c.loop-end.rest.now c.in_default.ensures
    (search rules)) ∙ c.loop-end.invariant
