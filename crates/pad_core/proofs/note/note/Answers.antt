use Rattle.std.proofs.Common.{IsTrue, [], ◌∷◌, sym, subst}
use Rattle.holdback.specs.Held.{is_ready}
use Rattle.pad_core.specs.Counts.{op_of, vector_of}
use Rattle.pad_core.proofs.Others.{own_ready}
use Rattle.pad_core.proofs.note.note.Goals as goal

pub append-requires-clause-ready : goal.append-requires-clause-ready
append-requires-clause-ready g c =
    subst (λ op. IsTrue (is_ready (vector_of c.args.ledger.now) op)) (sym c.in_ok-op.ensures)
    (subst (λ parts. IsTrue (is_ready (vector_of c.args.ledger.now)
    (op_of c.args.writer.replica c.args.writer.author.now parts c.args.ledger.now))) c.in_ok-parts.ensures
    (own_ready c.args.writer.replica c.args.writer.author.now (c.args.part ∷ []) c.args.ledger.now))
