use Rattle.std.proofs.Common.{◌≡◌, ◌≤◌, ◌+◌, ℕ, min, eqb, length, slice_get, ap, ◌∙◌, arith}
use Rattle.op_log.specs.Log.{Log, is_unsayable}
use Rattle.op_log.proofs.Ranges.{one_sayable}
use Rattle.op_log.proofs.op_log.OpLog.is_in_v1.Goals as goal

pub returns : goal.returns
returns c op there =
    let ops = c.self.inside.operations.operations in
    let long = ap (λ (l : Log). length l.operations) c.self.view_is in
    let fits : length ops ≤ 18446744073709551615 = omega (arith, long, c.len.ensures, c.len.type_inv) in
    let end : c.min-end.result ≡ min (length ops) (min (c.args.place + 1) 18446744073709551615) =
    omega (arith, long, c.len.ensures, c.min-end.ensures, c.saturating_add.ensures) in
    ap (λ (n : ℕ). eqb n 0) (c.count_between.ensures is_unsayable ops (c.deref.ensures.value
    ∙ c.self.invariant.unsayable))
    ∙ one_sayable ops c.args.place 18446744073709551615 c.min-end.result op
    (ap (λ (l : Log). slice_get l.operations c.args.place) c.self.view_is ∙ there) fits end
