-- The loop of `respace`: the blocks of the window passed so far have their new labels.
use Rattle.std.proofs.Common.{◌≡◌, ◌+◌, ◌-◌, ◌*◌, ◌≤◌, ◌++◌, take, drop}
use Rattle.blocks.specs.Blocks.{IsListed, HoldsNoMore, spread}
use Rattle.blocks.proofs.label.respace.Given as goal

-- the blocks of the window that were passed have their new labels
abbrev pub invariant-loop-rank : goal.invariant-loop-rank
invariant-loop-rank l = record {
  listed : IsListed l.index l.tree.items;
  held : HoldsNoMore l.initial.index l.index;
  begun : l.window.from ≤ l.rank;
  items : l.tree.items ≡ take l.window.from l.initial.tree.items ++ spread l.window.step l.window.low
      (l.rank - l.window.from) (drop l.window.from l.initial.tree.items);
  label : l.label ≡ l.window.low + l.window.step * (l.rank - l.window.from);
}
