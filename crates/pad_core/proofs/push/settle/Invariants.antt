-- The loop of `settle`: the release made one step in each turn so far.
use Rattle.std.proofs.Common.{◌≡◌, ◌≤◌, length}
use Rattle.pad_core.specs.Exchange.{steps, unsettled}
use Rattle.pad_core.specs.Released.{delivery}
use Rattle.pad_core.proofs.Releases.{AreChecked}
use Rattle.pad_core.proofs.push.settle.Given as goal

-- as many steps were made as were counted
abbrev pub invariant-loop-n : goal.invariant-loop-n
invariant-loop-n g l = record {
  done : delivery l.released l.ledger l.held ≡ steps l._n (unsettled (l.initial.ledger, l.initial.held));
  checked : AreChecked l.held;
  made : l.made.made ≡ l.initial.made.made;
  grown : length l.initial.ledger ≤ length l.ledger;
  room : length l.ledger ≤ l.made.room;
}
