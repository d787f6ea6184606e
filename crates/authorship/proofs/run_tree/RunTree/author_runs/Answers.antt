use Rattle.std.proofs.Common.{◌≡◌, ◌∙◌, ◌<◌, List, Result, Ok, Err, IfOk, Vec, Global, ap, sym, subst, map, length}
use Rattle.std.specs.List.{AllByRecursion}
use Rattle.pad_model.specs.Visible.{runs}
use Rattle.pad_model.specs.declared.who.AuthorRun.{AuthorRun}
use Rattle.authorship.specs.StoredRuns.{AuthorPlaces, author_in}
use Rattle.authorship.proofs.Fewest.{known_runs, fewest}
use Rattle.authorship.proofs.run_tree.RunTree.author_runs.Goals as goal

pub list_runs-requires : goal.list_runs-requires
list_runs-requires c =
    known_runs (length c.args.table.now) c.self.inside.runs.items c.self.invariant.proper
    (subst (λ (t : AuthorPlaces). AllByRecursion (λ p. p < length c.args.table.now) t.places) (sym c.self.view_is)
    c.requires.known)

pub returns : goal.returns
returns c = all c.list_runs.result c.list_runs.ensures
    (sym (fewest c.args.table.now c.self.inside.runs.items c.requires.once c.self.invariant.proper
    (known_runs (length c.args.table.now) c.self.inside.runs.items c.self.invariant.proper
    (subst (λ (t : AuthorPlaces). AllByRecursion (λ p. p < length c.args.table.now) t.places) (sym c.self.view_is)
    c.requires.known)))
    ∙ ap (λ (t : AuthorPlaces). runs (map (author_in c.args.table.now) t.places)) c.self.view_is)
  where
    all : {E : Type 0} {rows more : List AuthorRun} (r : Result (Vec AuthorRun Global) E) →
        IfOk r (λ (v : Vec AuthorRun Global). v.items ≡ rows) → rows ≡ more
        → IfOk r (λ (v : Vec AuthorRun Global). v.items ≡ more)
    all (Ok v) is same = is ∙ same
    all (Err e) is same = tt
