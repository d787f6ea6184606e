use Rattle.std.proofs.Common.{sym, ap, ◌∙◌}
use Rattle.std.specs.FinMap as map
use Rattle.ident_index.proofs.Count.{len-index_of}
use Rattle.ident_index.proofs.index.IdentIndex.len.Goals as goal

pub returns : goal.returns
returns c = c.len.ensures.len ∙ sym (len-index_of _ c.len.ensures.ordered) ∙ ap map.len c.self.view_is
