-- So far the vector holds the counts of the items that were passed, and the last origin is the greatest.
use Rattle.std.proofs.Common.{◌≡◌, ◌≤◌, ◌++◌, drop, option_map}
use Rattle.std.specs.List.{AllByRecursion}
use Rattle.serde_json.specs.View.{items_view}
use Rattle.wire_json.specs.Reading.{rising_in}
use Rattle.wire_json.proofs.read_forms.seen.Given as goal

abbrev pub invariant-loop-pair : goal.invariant-loop-pair
invariant-loop-pair l = record {
  counted : rising_in 0 (items_view l.pair-items) ≡ option_map (λ rest. l.seen ++ rest)
      (rising_in l.last (items_view (drop l.pair-index l.pair-items)));
  below : AllByRecursion (λ pair. pair.origin ≤ l.last) l.seen;
}
