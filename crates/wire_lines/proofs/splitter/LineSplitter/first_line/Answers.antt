use Rattle.std.proofs.Common.{ap, ◌∙◌, sym, subst, length, take, arith}
use Rattle.wire_lines.specs.Buffer.{ShowsBefore}
use Rattle.wire_lines.specs.Lines.{behind_line}
use Rattle.wire_lines.specs.declared.buffer.FoundLine.TheVariants.{Text}
use Rattle.wire_lines.proofs.Taken.{first_shows}
use Rattle.wire_lines.proofs.splitter.LineSplitter.first_line.Goals as goal

pub returns-then-fits-clause-some : goal.returns-then-fits-clause-some
returns-then-fits-clause-some c =
    let is = ap (λ s. s.waiting) c.self.view_is in
    let bytes = c.args.self.now.waiting in
    subst (λ w. ShowsBefore Text bytes (take c.end_without_return-to.result w) (behind_line bytes))
    (sym (c.waiting-then-fits.ensures ∙ is))
    (first_shows bytes c.self.inside.end c.end_without_return-to.result (rw is at c.self.invariant.ends)
    (omega (arith, c.if-has_feed.true, c.len.ensures, ap length is, c.self.invariant.end_in)) c.if-fits.true
    (rw (c.waiting.ensures, is) at c.end_without_return-to.ensures.line))
