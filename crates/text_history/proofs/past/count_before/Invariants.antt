-- The loop of `count_before`: the slides from here on lead from as many characters as were counted.
use Rattle.std.proofs.Common.{◌≡◌, List, length, drop}
use Rattle.pad_model.specs.Stamp.{Stamp}
use Rattle.text_history.specs.Slides.{Leads}
use Rattle.text_history.proofs.past.count_before.Given as goal

-- the slides from here on lead from as many characters as were counted
abbrev pub invariant-loop-i : goal.invariant-loop-i
invariant-loop-i l = (mid new : List Stamp) → Leads (drop l.i l.slides) mid new → length new ≡ l.many →
    l.count ≡ length mid
