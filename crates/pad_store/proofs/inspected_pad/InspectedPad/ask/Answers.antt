use Rattle.std.proofs.Common.{Some}
use Rattle.pad_store.proofs.Readings.{told}
use Rattle.pad_store.proofs.inspected_pad.InspectedPad.ask.Goals as goal

pub returns-in-Ok-clause-told : goal.returns-in-Ok-clause-told
returns-in-Ok-clause-told c =
    told _ _ (record {
      pad = c.as_str.result;
      who = record { ref_ptr = c.event-1.given; now = c.args.self.now.owner };
      visit = Some c.args.self.now.visit;
      act = c.args.act;
    }) _ _ c.in-Ok.is c.step.ensures
