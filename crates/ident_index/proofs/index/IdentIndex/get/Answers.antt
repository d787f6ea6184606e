use Rattle.std.proofs.Common.{sym, ◌∙◌}
use Rattle.ident_index.proofs.Kept.{get-kept}
use Rattle.ident_index.proofs.index.IdentIndex.get.Goals as goal

pub returns-clause-value : goal.returns-clause-value
returns-clause-value c = c.copied.ensures ∙ (rw c.new.ensures.value at c.get.ensures.value)
    ∙ sym (get-kept _ _ c.args.first c.self.view_is)
