use Rattle.std.proofs.Common.{◌≡◌}
use Rattle.std.specs.FinMap.{insert}
use Rattle.ident_index.specs.View.{index_of}
use Rattle.ident_index.proofs.Kept.{kept_insert}
use Rattle.ident_index.proofs.Sound.{sound_add}
use Rattle.ident_index.proofs.index.IdentIndex.add.Goals as goal

added : (c : goal.In_ok-insert) → index_of c.insert.new.self.entries ≡ insert c.args.self.now c.args.first
    (record { len = c.args.len; label = c.args.label })
added c = kept_insert _ _ _ c.args.first _ c.self.view_is (rw c.new.ensures.value at c.in_ok-insert.ensures.updates.0)

pub invariant_of-self-2 : goal.invariant_of-self-2
invariant_of-self-2 c =
    rw (added c)
    (sound_add _ _ _ (rw c.self.view_is at c.self.invariant)
    (record { limits = c.new.ensures.limits; sized = c.requires.sized; ends = c.requires.limit })
    c.requires.fresh)

pub returns-clause-ok : goal.returns-clause-ok
returns-clause-ok c = added c
