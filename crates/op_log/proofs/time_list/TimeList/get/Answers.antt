use Rattle.std.proofs.Common.{◌≡◌, ◌+◌, ◌≤◌, ◌<◌, length, List, ℕ, sym, ap, ap₂, ◌∙◌, subst, arith, slice_get, get_or, Some, None}
use Rattle.op_log.specs.Times.{Times, base_at, last_time, times_from}
use Rattle.op_log.proofs.TimeLists.{none_there, some_there, none_above}
use Rattle.op_log.proofs.time_list.TimeList.get.Goals as goal

pub returns-in_err-step : goal.returns-in_err-step
returns-in_err-step c =
    let got = c.in_err-step.ensures.lookup in
    c.from_residual.ensures
    ∙ sym (ap (λ (t : Times). slice_get t.times c.args.place) (sym c.self.view_is)
    ∙ none_there c.self.inside.eras.items c.self.inside.past.items c.args.place
    (subst (λ (ss : List ℕ). length ss ≤ c.args.place) c.deref.ensures.value got.3))

pub overflow_add-result : goal.overflow_add-result
overflow_add-result c =
    let got = c.in_ok-step.ensures.lookup in
    let there : slice_get (times_from c.self.inside.eras.items 0 c.self.inside.past.items) c.args.place
    ≡ Some (base_at c.self.inside.eras.items c.args.place + c.in_ok-step.step.now) =
    some_there c.self.inside.eras.items c.self.inside.past.items c.args.place c.in_ok-step.step.now
    (subst (λ (ss : List ℕ). c.args.place < length ss) c.deref.ensures.value got.3.0)
    (subst (λ (ss : List ℕ). c.in_ok-step.step.now ≡ get_or ss c.args.place c.in_ok-step.step.now) c.deref.ensures.value
    (got.3.1 c.in_ok-step.step.now)) in
    let most = none_above 0 (times_from c.self.inside.eras.items 0 c.self.inside.past.items) c.args.place _
    c.self.invariant.rising there in
    let base : c.era_base.result ≡ base_at c.self.inside.eras.items c.args.place =
    c.era_base.ensures ∙ ap (λ es. base_at es c.args.place) c.deref-2.ensures.value in
    let last = c.self.invariant.last in
    let small = c.self.invariant.small in
    omega (arith, most, base, last, small)

pub returns : goal.returns
returns c =
    let got = c.in_ok-step.ensures.lookup in
    let base : c.era_base.result ≡ base_at c.self.inside.eras.items c.args.place =
    c.era_base.ensures ∙ ap (λ es. base_at es c.args.place) c.deref-2.ensures.value in
    ap (λ b. Some (b + c.in_ok-step.step.now)) base
    ∙ sym (ap (λ (t : Times). slice_get t.times c.args.place) (sym c.self.view_is)
    ∙ some_there c.self.inside.eras.items c.self.inside.past.items c.args.place c.in_ok-step.step.now
    (subst (λ (ss : List ℕ). c.args.place < length ss) c.deref.ensures.value got.3.0)
    (subst (λ (ss : List ℕ). c.in_ok-step.step.now ≡ get_or ss c.args.place c.in_ok-step.step.now) c.deref.ensures.value
    (got.3.1 c.in_ok-step.step.now)))
