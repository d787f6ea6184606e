use Rattle.std.proofs.Common.{ap, sym, ◌∙◌, arith}
use Rattle.authorship.specs.declared.stored_run.StoredRun.{StoredRun}
use Rattle.authorship.proofs.At.{read, touch_here, touch_before}
use Rattle.authorship.proofs.insert.touching.Goals as goal
use Rattle.authorship.proofs.insert.touching.Goals.{else-index-len-via-then-index-len+else-get-author}
use Rattle.authorship.proofs.insert.touching.Goals.{else-index-len-via-else-index-len}
use Rattle.authorship.proofs.insert.touching.Goals.{else-place-eq0-via-then-place-eq0+then-index-gt0+else-get-author-2}
use Rattle.authorship.proofs.insert.touching.Goals.{else-place-eq0-via-then-place-eq0+else-index-gt0}
use Rattle.authorship.proofs.insert.touching.Goals.{else-place-eq0-via-else-place-eq0}

pub returns-then-get-author-clause-found : goal.returns-then-get-author-clause-found
returns-then-get-author-clause-found c = touch_here c.args.runs.now.items c.args.place c.get.result.now c.args.author
    c.requires c.get.ensures.item c.if-get-author.true

pub returns-then-get-author-2-clause-found : goal.returns-then-get-author-2-clause-found
returns-then-get-author-2-clause-found c =
    touch_before c.args.runs.now.items c.args.place _ c.get-then-index-gt0.result.now c.args.author c.if-place-eq0.true
    (omega (arith, c.if-index-gt0.true)) c.get-then-index-gt0.ensures.item c.if-get-author-2.true

pub returns-clause-none : goal.returns-clause-none
returns-clause-none c = record {
  here = λ h.
      elim c.else-index-len.branch [
        | else-index-len-via-then-index-len+else-get-author w ↦
            let there = read c.args.runs.now.items c.args.place.index w.get.result.now w.get.ensures.item in
            λ e. w.if-get-author.false (ap (λ (r : StoredRun). r.author) (sym there.1) ∙ e)
        | else-index-len-via-else-index-len w ↦ absurd (omega (arith, w.if-index-len.false))
      ];
  before = λ none some.
      elim c.else-place-eq0.branch [
        | else-place-eq0-via-then-place-eq0+then-index-gt0+else-get-author-2 w ↦
            let there = read c.args.runs.now.items _ w.get-then-index-gt0.result.now
            w.get-then-index-gt0.ensures.item in
            λ e. w.if-get-author-2.false (ap (λ (r : StoredRun). r.author) (sym there.1) ∙ e)
        | else-place-eq0-via-then-place-eq0+else-index-gt0 w ↦ absurd (omega (arith, w.if-index-gt0.false))
        | else-place-eq0-via-else-place-eq0 w ↦ absurd (w.if-place-eq0.false none)
      ];
}
