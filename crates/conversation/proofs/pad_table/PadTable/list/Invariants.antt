-- The loop of `list`: the pads so far are what some states of the cells so far tell.
use Rattle.std.proofs.Common.{◌≡◌, List, length}
use Rattle.std.specs.List.{AllByRecursion}
use Rattle.pad_core.specs.Listing.{pads_of}
use Rattle.pad_core.specs.Machine.{Machine}
use Rattle.shared_pads.specs.LockedPad.{CanBe}
use Rattle.conversation.proofs.pad_table.PadTable.list.Given as goal

-- the pads so far are what some states of the cells so far tell
abbrev pub invariant-loop-cell : goal.invariant-loop-cell
invariant-loop-cell g l = record {
  states : List Machine;
  count : length states ≡ l.cell-index;
  can : AllByRecursion CanBe states;
  told : l.pads ≡ pads_of l.who states;
}
