use Rattle.std.proofs.Common.{None, refl}
use Rattle.pad_core.specs.declared.act.Act.TheVariants.{Join}
use Rattle.pad_store.proofs.Readings.{joined}
use Rattle.pad_store.proofs.inspected_pad.join.Goals as goal

pub returns-in-Ok-Joined : goal.returns-in-Ok-Joined
returns-in-Ok-Joined c =
    joined _ _ (record {
      pad = c.args.name;
      who = c.args.who;
      visit = None;
      act = record { ref_ptr = (c.event-1.given, 0); now = Join };
    }) _ _ refl c.in-Ok-Joined.is c.step.ensures
