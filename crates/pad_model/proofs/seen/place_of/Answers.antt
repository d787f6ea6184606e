use Rattle.std.proofs.Common.{rules}
use Rattle.std.proofs.lemmas.List.Sorted.{answers_always}
use Rattle.pad_model.proofs.SeenLemmas.{found_at, gap_at}
use Rattle.pad_model.proofs.seen.place_of.Goals as goal

-- the closure gives a pair's origin
pub returns-clause-found : goal.returns-clause-found
returns-clause-found c =
    let facts = c.binary_search_by_key.ensures in
    found_at _ c.requires c.args.origin _ facts.bound (facts.position (λ pair. pair.origin)
    (answers_always _ _ _ (λ f a r g called. search rules)))

pub returns-clause-absent : goal.returns-clause-absent
returns-clause-absent c =
    let facts = c.binary_search_by_key.ensures in
    gap_at _ c.requires c.args.origin _ facts.bound (facts.position (λ pair. pair.origin)
    (answers_always _ _ _ (λ f a r g called. search rules)))
