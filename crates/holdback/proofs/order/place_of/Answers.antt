use Rattle.std.proofs.Common.{sym, ap, ◌∙◌, arith}
use Rattle.std.proofs.lemmas.Bool.{ltb-true, ltb-false}
use Rattle.std.proofs.lemmas.Option.{slice_get_within}
use Rattle.holdback.specs.Held.{has_name}
use Rattle.holdback.proofs.Places.{gap_at, found_at, read_at, same_op}
use Rattle.holdback.proofs.order.place_of.Goals as goal

-- the operation there has the name
pub returns-in-Some-clause-found : goal.returns-in-Some-clause-found
returns-in-Some-clause-found c =
    let lt = ltb-true _ _ (sym c.in-Some.ensures.lookup.0) in
    found_at c.args.held.now c.args.name c.place_for-place.result c.in-Some.op.now c.requires c.place_for-place.ensures
    (read_at c.args.held.now c.place_for-place.result c.in-Some.op.now lt c.in-Some.ensures.lookup.1)
    (sym c.eq.ensures ∙ c.if-eq.true) lt

-- it has another
pub returns-in_default-clause-absent : goal.returns-in_default-clause-absent
returns-in_default-clause-absent c =
    let lt = ltb-true _ _ (sym c.in-Some.ensures.lookup.0) in
    let is = read_at c.args.held.now c.place_for-place.result c.in-Some.op.now lt c.in-Some.ensures.lookup.1 in
    gap_at c.args.held.now c.args.name c.place_for-place.result c.requires c.place_for-place.ensures
    (λ x at. ap (has_name c.args.name) (same_op x c.in-Some.op.now (sym at ∙ is)) ∙ sym c.eq.ensures ∙ c.if-eq.false)

-- there is none
pub returns-in_default-2-clause-absent : goal.returns-in_default-2-clause-absent
returns-in_default-2-clause-absent c =
    gap_at c.args.held.now c.args.name c.place_for-place.result c.requires c.place_for-place.ensures
    (λ x at. absurd (omega (
      arith,
      slice_get_within c.args.held.now c.place_for-place.result x at,
      ltb-false _ _ (sym (rw c.in_default.is at c.get.ensures.lookup.0)),
    )))
