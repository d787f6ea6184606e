use Rattle.std.proofs.Common.{rules, arith, ◌-◌, length}
use Rattle.store_format.proofs.Frames.{within_found, within_none}
use Rattle.store_format.proofs.line.text_within_line.Goals as goal

pub returns-then-is_framed : goal.returns-then-is_framed
returns-then-is_framed c =
    within_found c.args.line.now _ (length c.args.line.now - 68 - 1)
    (length c.args.line.now - 2 - (length c.args.line.now - 66)) (omega (arith, c.if-line-lt-AROUND.false))
    (omega (arith, c.if-line-lt-AROUND.false)) (omega (arith, c.if-line-lt-AROUND.false)) c.in_ok-framed.ensures
    (search rules)

pub returns : goal.returns
returns c =
    within_none c.args.line.now _ (length c.args.line.now - 68 - 1)
    (length c.args.line.now - 2 - (length c.args.line.now - 66)) (omega (arith, c.if-line-lt-AROUND.false))
    (omega (arith, c.if-line-lt-AROUND.false)) (omega (arith, c.if-line-lt-AROUND.false)) c.in_ok-framed.ensures
    (search rules)
