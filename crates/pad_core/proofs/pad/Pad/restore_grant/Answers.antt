use Rattle.std.proofs.Common.{sym, ◌∙◌}
use Rattle.pad_core.proofs.Restored.{owned_again}
use Rattle.pad_core.proofs.pad.Pad.restore_grant.Goals as goal

pub invariant_of-self : goal.invariant_of-self
invariant_of-self g c = record {
  kept = record {
    named =
        owned_again c.args.grantee.now c.args.right c.self.inside.owned c.grant_again.new.owned c.self.inside.presence
        c.grant_again.result (sym c.can_have.ensures ∙ c.if-not-can_have.false)
        c.self.invariant.kept.named c.grant_again.ensures;
    replica_low = c.self.invariant.kept.replica_low;
    replica_high = c.self.invariant.kept.replica_high;
    waiting = c.self.invariant.kept.waiting;
  };
  timed = c.self.invariant.timed;
}
