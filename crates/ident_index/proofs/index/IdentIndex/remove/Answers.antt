use Rattle.std.proofs.Common.{◌≡◌, sym, ap, ◌∙◌, is_some}
use Rattle.std.specs.FinMap.{remove}
use Rattle.ident_index.specs.View.{index_of}
use Rattle.ident_index.proofs.Kept.{get-kept, kept_remove}
use Rattle.ident_index.proofs.Sound.{sound_remove}
use Rattle.ident_index.proofs.index.IdentIndex.remove.Goals as goal

removed : (c : goal.After-is_some) → index_of c.remove.new.self.entries ≡ remove c.args.self.now c.args.first
removed c = kept_remove _ _ _ c.args.first c.self.view_is (rw c.new.ensures.value at c.remove.ensures.updates.0)

pub invariant_of-self : goal.invariant_of-self
invariant_of-self c = rw (removed c) (sound_remove _ _ (rw c.self.view_is at c.self.invariant))

pub returns-clause-was_there : goal.returns-clause-was_there
returns-clause-was_there c =
    c.is_some.ensures ∙ ap is_some ((rw c.new.ensures.value at c.remove.ensures.value)
    ∙ sym (get-kept _ _ c.args.first c.self.view_is))

pub returns-clause-rest : goal.returns-clause-rest
returns-clause-rest c = removed c
