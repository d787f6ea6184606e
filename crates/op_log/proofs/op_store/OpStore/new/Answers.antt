use Rattle.std.proofs.Common.{sym, ap, ◌∙◌}
use Rattle.std.specs.Prelude.{bytes_eq}
use Rattle.op_log.specs.Items.{Items}
use Rattle.op_log.proofs.Names.{distinct_none}
use Rattle.op_log.proofs.op_store.OpStore.new.Goals as goal

pub invariant_of-result : goal.invariant_of-result
invariant_of-result c = record {
  signed = rw c.new.ensures tt;
  ready = λ bytes is. let none = sym (ap (λ (i : Items). i.ready) c.new.ensures) ∙ is in absurd (cc);
  once = distinct_none bytes_eq c.new-2.result.items c.new-2.ensures.items;
}
