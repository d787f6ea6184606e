use Rattle.std.proofs.Common.{◌≡◌, ◌-◌, ◌+◌, ◌++◌, List, ℕ, ap, suc, sym, ◌∙◌, arith, subst}
use Rattle.pad_core.specs.Reads.{places_from, times_at}
use Rattle.pad_core.proofs.TimesRead.{nearer, with_found, with_none}
use Rattle.pad_core.proofs.reads.times_at.Goals as goal
use Rattle.pad_core.proofs.reads.times_at.Goals.{in-Some+in_ok-push, in_default}

pub loop-n-preserved : goal.loop-n-preserved
loop-n-preserved c =
    let times = c.args.times.now.times in
    let rest = c.args.count - (c.loop-n._n + 1) in
    let test = c.loop-n-test.true in
    let left : c.args.count - c.loop-n._n ≡ suc rest = omega (arith, test) in
    let all = times_at times (places_from c.args.from c.args.step c.args.count) in
    let is = subst
    (λ n. c.loop-n.list.items ++ times_at times (places_from c.loop-n.place c.args.step n) ≡ all) left c.loop-n.invariant in
    let sum = c.saturating_add.ensures in
    let least = c.min-place.ensures in
    let end = c.len-end.ensures.len in
    let small = c.len-end.type_inv in
    let same = nearer times (c.loop-n.place + c.args.step) c.min-place.result c.args.step rest
    (λ low. omega (arith, low, sum, least, end, small)) (λ high. omega (arith, high, sum, least, end, small)) in
    let after = times_at times (places_from c.min-place.result c.args.step rest) in
    elim c.match-get.branch [
      | in-Some+in_ok-push w ↦
          ap (λ (ts : List ℕ). ts ++ after) (ap (λ l. l.items) w.list-is ∙ w.in_ok-push.ensures.items)
          ∙ with_found times c.loop-n.list.items all w.in-Some.time c.loop-n.place c.min-place.result c.args.step rest
          (sym c.get.ensures ∙ w.in-Some.is) is same
      | in_default w ↦
          ap (λ (ts : List ℕ). ts ++ after) (ap (λ l. l.items) w.list-is)
          ∙ with_none times c.loop-n.list.items all c.loop-n.place c.min-place.result c.args.step rest
          (sym c.get.ensures ∙ w.in_default.is) is same
    ]
