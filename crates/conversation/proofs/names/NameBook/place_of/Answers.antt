use Rattle.std.proofs.Common.{sym, ap, ◌∙◌}
use Rattle.std.specs.Prelude.{bytes_eq}
use Rattle.conversation.specs.Names.{NameBook, place_of}
use Rattle.conversation.proofs.NameBooks.{place_missing}
use Rattle.conversation.proofs.names.NameBook.place_of.Goals as goal

pub returns-in-None : goal.returns-in-None
returns-in-None c =
    c.len.ensures.len
    ∙ place_missing (bytes_eq c.args.pad.now) c.self.inside.names.keys (sym c.get_index_of.ensures.index ∙ c.in-None.is)
    ∙ ap (λ (b : NameBook). place_of c.args.pad.now b.names) c.self.view_is
