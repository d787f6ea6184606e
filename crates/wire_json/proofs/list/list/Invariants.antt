-- So far the row holds what the items that were passed stand for.
use Rattle.std.proofs.Common.{◌≡◌, ◌++◌, drop, option_map}
use Rattle.serde_json.specs.View.{items_view}
use Rattle.wire_json.specs.Reading.{each_in}
use Rattle.wire_json.proofs.list.list.Given as goal

abbrev pub invariant-loop-item : goal.invariant-loop-item
invariant-loop-item g l = each_in g.T.FromJson.form (items_view l.item-items) ≡ option_map (λ rest. l.list ++ rest)
    (each_in g.T.FromJson.form (items_view (drop l.item-index l.item-items)))
