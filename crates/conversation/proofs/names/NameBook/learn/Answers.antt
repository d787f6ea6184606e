use Rattle.std.proofs.Common.{◌≡◌, length, sym, subst, arith}
use Rattle.std.specs.Prelude.{bytes_eq}
use Rattle.std.specs.List.{list_any}
use Rattle.conversation.specs.Names.{AreNames}
use Rattle.conversation.proofs.NameBooks.{names_kept}
use Rattle.conversation.proofs.names.NameBook.learn.Goals as goal

pub invariant_of-self : goal.invariant_of-self
invariant_of-self c =
    let at : c.args.cell ≡ length c.self.inside.names.keys =
    (let many = c.len.ensures.len in let same = c.if-len-cell.true in omega arith) in
    subst (λ names. AreNames 0 names) (sym c.in_ok-insert.ensures.keys)
    (names_kept c.self.inside.names.keys c.args.name c.args.cell
    (list_any (bytes_eq c.args.name) c.self.inside.names.keys) c.self.invariant c.requires at)
