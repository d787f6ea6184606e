use Rattle.std.proofs.Common.{ap, length, arith}
use Rattle.wire_lines.proofs.Taken.{taken_shows, shows_too_long}
use Rattle.wire_lines.proofs.splitter.LineSplitter.next_line.Goals as goal

pub returns-then-is_long-clause-found : goal.returns-then-is_long-clause-found
returns-then-is_long-clause-found c =
    let is = ap (λ s. s.waiting) c.self.view_is in
    shows_too_long c.args.self.now.waiting c.args.self.now.line
    (omega (arith, c.if-is_long.true, rw is at c.self.invariant.ends))

pub returns-clause-found : goal.returns-clause-found
returns-clause-found c =
    let is = ap (λ s. s.waiting) c.self.view_is in
    taken_shows c.args.self.now.waiting _ _ c.self.inside.end _ (rw is at c.self.invariant.ends)
    (omega (arith, c.if-is_part.false, c.len.ensures, ap length is, c.self.invariant.end_in)) c.if-is_long.false
    c.end_without_return-self-inside.ensures.bound
    (rw (c.waiting.ensures, is) at c.end_without_return-self-inside.ensures.line) (rw is at c.take.ensures.taken)
    (rw is at c.take.ensures.waiting)
