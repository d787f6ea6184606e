use Rattle.std.proofs.Common.{◌≡◌, ◌-◌, ap, sym, ◌∙◌, arith, slice_get}
use Rattle.authorship.specs.declared.stored_run.StoredRun.{StoredRun}
use Rattle.authorship.specs.StoredRuns.{places, IsProper}
use Rattle.authorship.proofs.At.{read}
use Rattle.authorship.proofs.Takes.{proper-apart, joined-seam}
use Rattle.authorship.proofs.delete.join.Goals as goal
use Rattle.authorship.proofs.delete.join.Goals.{After-merge}
use Rattle.authorship.proofs.delete.join.Goals.{else-seam-gt0-via-then-seam-gt0+then-seam-len+else-get}
use Rattle.authorship.proofs.delete.join.Goals.{else-seam-gt0-via-then-seam-gt0+else-seam-len}
use Rattle.authorship.proofs.delete.join.Goals.{else-seam-gt0-via-else-seam-gt0}

merged : (c : After-merge) → (places c.merge.new.runs.items ≡ places c.args.runs.now.items)
    × IsProper c.merge.new.runs.items
merged c =
    joined-seam c.args.runs.now.items c.merge.new.runs.items c.args.seam c.get.result.now c.get-then-seam-len.result.now
    c.if-seam-gt0.true (omega (arith, c.if-seam-len.true)) c.get.ensures.item c.get-then-seam-len.ensures.item
    c.if-get.true c.merge.ensures.items c.requires.before c.requires.behind

pub returns-then-get-clause-places : goal.returns-then-get-clause-places
returns-then-get-clause-places c = (merged c).0

pub returns-then-get-clause-proper : goal.returns-then-get-clause-proper
returns-then-get-clause-proper c = (merged c).1

pub returns-else-seam-gt0-clause-proper : goal.returns-else-seam-gt0-clause-proper
returns-else-seam-gt0-clause-proper c =
    proper-apart c.args.runs.now.items c.args.seam c.requires.before c.requires.behind
    (λ j e h same.
    elim c.else-seam-gt0.branch [
      | else-seam-gt0-via-then-seam-gt0+then-seam-len+else-get w ↦
          let before : c.args.seam - 1 ≡ j = omega arith in
          let left = read c.args.runs.now.items j w.get.result.now
          (ap (slice_get c.args.runs.now.items) (sym before) ∙ w.get.ensures.item) in
          let right = read c.args.runs.now.items c.args.seam w.get-then-seam-len.result.now
          w.get-then-seam-len.ensures.item in
          w.if-get.false (ap (λ (r : StoredRun). r.author) (sym left.1) ∙ same ∙ ap (λ (r : StoredRun). r.author) right.1)
      | else-seam-gt0-via-then-seam-gt0+else-seam-len w ↦ absurd (omega (arith, w.if-seam-len.false))
      | else-seam-gt0-via-else-seam-gt0 w ↦ absurd (omega (arith, w.if-seam-gt0.false))
    ])
