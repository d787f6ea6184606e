use Rattle.std.proofs.Common.{◌≡◌, ◌≤◌, Bool, true, false, not, eqb, get_or, cond, arith, refl, ◌∙◌}
use mir.Val.{bool_byte}
use Rattle.sessions.proofs.Tokens.{differences_more}
use Rattle.sessions.proofs.word.count_differences.Goals as goal

byte_of : (same : Bool) → bool_byte (not same) ≡ cond same 0 1
byte_of true = refl
byte_of false = refl

at_most_one : (same : Bool) → cond same 0 1 ≤ 1
at_most_one true = omega arith
at_most_one false = omega arith

pub loop-i-preserved : goal.loop-i-preserved
loop-i-preserved c =
    let a = c.args.a.now in
    let b = c.args.b.now in
    let i = c.loop-i.i in
    let same = eqb (get_or a i 0) (get_or b i 0) in
    let one = c.from-count.ensures ∙ byte_of same in
    record {
      counted = omega (arith, c.loop-i.invariant.counted, one, differences_more a b i c.loop-i-test.true (omega arith));
      few = omega (arith, c.loop-i.invariant.few, one, at_most_one same);
    }
