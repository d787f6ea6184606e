use Rattle.std.proofs.Common.{sym, ◌∙◌}
use Rattle.pad_core.proofs.Restored.{handed_over}
use Rattle.pad_core.proofs.pad.Pad.restore_hand.Goals as goal

pub invariant_of-self : goal.invariant_of-self
invariant_of-self g c = record {
  kept = record {
    named =
        handed_over c.args.author.now c.self.inside.owned c.hand_again.new.owned c.self.inside.presence
        c.hand_again.result (sym c.is_well_formed.ensures ∙ c.if-not-is_well_formed.false)
        c.self.invariant.kept.named c.hand_again.ensures;
    replica_low = c.self.invariant.kept.replica_low;
    replica_high = c.self.invariant.kept.replica_high;
    waiting = c.self.invariant.kept.waiting;
  };
  timed = c.self.invariant.timed;
}
