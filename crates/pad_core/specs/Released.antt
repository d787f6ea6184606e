-- A release in progress.
use Rattle.std.specs.Prelude.{List}
use Rattle.pad_model.specs.declared.op.Op.{Op}
use Rattle.pad_core.specs.Exchange.{Delivery}
use Rattle.pad_core.specs.declared.push.Released.{Released}

-- the delivery that counts, a log and held operations represent
abbrev pub delivery : Released → List Op → List Op → Delivery
delivery released log held = record {
  log = log;
  held = held;
  released = released.delivered;
  dropped = released.dropped;
}
