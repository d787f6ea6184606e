use Rattle.std.proofs.Common.{refl, ap, ◌∙◌, arith, Ok}
use Rattle.pad_core.specs.Exchange.{both_of, unsettled}
use Rattle.pad_core.specs.Released.{delivery}
use Rattle.pad_core.proofs.Exits.{fails_passed}
use Rattle.pad_core.proofs.Releases.{step_more, few_at, settled_idle, settled_all}
use Rattle.pad_core.proofs.push.settle.Goals as goal

pub loop-n-init : goal.loop-n-init
loop-n-init g c = record {
  done = refl;
  checked = c.requires.held;
  made = refl;
  grown = omega arith;
  room = c.requires.room;
}

pub release-requires-clause-few : goal.release-requires-clause-few
release-requires-clause-few g c =
    let most = few_at c.loop-n._n (unsettled (c.args.ledger.now, c.args.held.now))
    (delivery c.loop-n.released c.loop-n.ledger c.loop-n.held) c.loop-n.invariant.done in
    let test = c.loop-n-test.true in
    let held = c.len-n-end.ensures.most in
    omega arith

pub release-requires-clause-room : goal.release-requires-clause-room
release-requires-clause-room g c = c.loop-n.invariant.room

pub release-requires-clause-held : goal.release-requires-clause-held
release-requires-clause-held g c = c.loop-n.invariant.checked

pub returns-then-not-branch-clause-ok : goal.returns-then-not-branch-clause-ok
returns-then-not-branch-clause-ok g c =
    let test = c.loop-n-test.true in
    let len = c.len-n-end.ensures.value in
    settled_idle c.loop-n._n (unsettled (c.args.ledger.now, c.args.held.now))
    (delivery c.loop-n.released c.loop-n.ledger c.loop-n.held)
    (delivery c.release.new.released c.release.new.ledger c.release.new.held)
    c.loop-n.invariant.done (c.in_ok-release.ensures.settled (ap Ok c.if-not-branch.true)) c.in_ok-release.ensures.ok
    (omega arith)

pub returns-in_err-release-clause-memory : goal.returns-in_err-release-clause-memory
returns-in_err-release-clause-memory g c =
    fails_passed _ c.from_residual.result c.from_residual.ensures.1 (
      c.in_err-release.ensures.memory.0,
      c.loop-n._n,
      ap both_of (c.in_err-release.ensures.memory.1 ∙ c.loop-n.invariant.done),
      c.in_err-release.ensures.memory.2,
    )

pub loop-n-preserved : goal.loop-n-preserved
loop-n-preserved g c = record {
  done =
      step_more c.loop-n._n (unsettled (c.args.ledger.now, c.args.held.now))
      (delivery c.loop-n.released c.loop-n.ledger c.loop-n.held)
      (delivery c.release.new.released c.release.new.ledger c.release.new.held)
      c.loop-n.invariant.done c.in_ok-release.ensures.ok;
  checked = c.release.ensures.held;
  made = c.release.ensures.made ∙ c.loop-n.invariant.made;
  grown = let before = c.loop-n.invariant.grown in let more = c.release.ensures.grown in omega arith;
  room = c.release.ensures.room;
}

pub returns-clause-ok : goal.returns-clause-ok
returns-clause-ok g c =
    let test = c.loop-n-test.false in
    let len = c.len-n-end.ensures.value in
    let most = c.loop-n.auto in
    settled_all c.loop-n._n (unsettled (c.args.ledger.now, c.args.held.now))
    (delivery c.loop-n.released c.loop-n.ledger c.loop-n.held) c.loop-n.invariant.done (omega arith)

pub returns-clause-held : goal.returns-clause-held
returns-clause-held g c = c.loop-n.invariant.checked
