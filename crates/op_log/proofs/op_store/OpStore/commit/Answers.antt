use Rattle.std.proofs.Common.{sym, ap, ◌∙◌, ◌++◌, ◌∷◌, []}
use Rattle.op_log.specs.Kept.{Kept}
use Rattle.op_log.specs.Read.{read_op}
use Rattle.op_log.proofs.Stores.{commit_signed, commit_shown, some_there}
use Rattle.op_log.proofs.op_store.OpStore.commit.Goals as goal

pub invariant_of-self : goal.invariant_of-self
invariant_of-self c =
    let s = c.self.inside in
    let some = some_there (read_op s.authors.items) s.shelf.ready c.args.self.now.ready
    (ap (λ (k : Kept). k.ready) c.self.view_is) c.requires in
    record {
      signed = commit_signed s.authors.items s.shelf.items c.commit.new.self.items s.shelf.ready some
          c.commit.ensures.items c.self.invariant.signed c.self.invariant.ready;
      ready = λ bytes is. let none = sym c.commit.ensures.ready ∙ is in absurd (cc);
      once = c.self.invariant.once;
    }

pub returns-clause-operations : goal.returns-clause-operations
returns-clause-operations c op is =
    let s = c.self.inside in
    commit_shown s.authors.items s.shelf.items c.commit.new.self.items s.shelf.ready op
    (ap (λ (k : Kept). k.ready) c.self.view_is ∙ is) c.commit.ensures.items
    ∙ ap (λ (k : Kept). k.operations ++ op ∷ []) c.self.view_is
