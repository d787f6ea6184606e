-- The loop of `tally`: what was tallied, with the rest, is the tally of all.
use Rattle.std.proofs.Common.{◌≡◌, ◌≤◌, drop}
use Rattle.op_log.proofs.MakerLists.{tally_from, tally_of}
use Rattle.op_log.proofs.maker_list.MakerList.tally.Given as goal

abbrev pub invariant-loop-place : goal.invariant-loop-place
invariant-loop-place l = record {
  rest : tally_from l.visit l.place l.tally (drop l.place l.maker-items) ≡ tally_of l.visit l.maker-items;
  few : l.tally.made ≤ l.place;
}
