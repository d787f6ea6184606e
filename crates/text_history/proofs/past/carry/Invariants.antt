-- The loop of `carry`: the slides that are left lead on from where the character was carried so far.
use Rattle.std.proofs.Common.{◌≡◌, List, drop, slice_get}
use Rattle.pad_model.specs.Stamp.{Stamp}
use Rattle.text_history.specs.Slides.{Leads}
use Rattle.text_history.proofs.past.carry.Given as goal

-- the slides from here on lead from where the character was carried so far
abbrev pub invariant-loop-slide : goal.invariant-loop-slide
invariant-loop-slide l = (old new : List Stamp) → Leads l.slides old new → (mid : List Stamp)
    × Leads (drop l.slide-index l.slides) mid new × (slice_get mid l.at ≡ slice_get old l.place)
