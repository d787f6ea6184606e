use Rattle.std.proofs.Common.{slice_get, sym, ap, ◌∙◌, arith}
use Rattle.std.proofs.lemmas.Option.{slice_get_past}
use Rattle.comments.proofs.Sorted.{read_there, found_there, none_there, none_behind}
use Rattle.comments.proofs.find.find.Goals as goal

pub returns-in-Some-clause-found : goal.returns-in-Some-clause-found
returns-in-Some-clause-found c =
    let lookup = c.in-Some.ensures.lookup in
    let at = read_there c.args.comments.now c.args.name _ c.in-Some.comment.now c.place_of-place.ensures lookup.3.0
    (lookup.4 (omega arith) c.in-Some.comment.now) in
    let found = found_there c.args.comments.now c.args.name c.in-Some.comment.now c.requires at (sym c.eq.ensures
    ∙ c.if-eq.true) in
    (lookup.3.0, c.place_of-place.ensures, ap (slice_get c.args.comments.now) c.place_of-place.ensures ∙ at ∙ sym found)

pub returns-in_default-clause-none : goal.returns-in_default-clause-none
returns-in_default-clause-none c =
    let lookup = c.in-Some.ensures.lookup in
    let at = read_there c.args.comments.now c.args.name _ c.in-Some.comment.now c.place_of-place.ensures lookup.3.0
    (lookup.4 (omega arith) c.in-Some.comment.now) in
    none_there c.args.comments.now c.args.name c.in-Some.comment.now c.requires at (sym c.eq.ensures ∙ c.if-eq.false)

pub returns-in_default-2-clause-none : goal.returns-in_default-2-clause-none
returns-in_default-2-clause-none c =
    let lookup = rw c.in_default.is at c.get.ensures.lookup in
    none_behind c.args.comments.now c.args.name (ap (slice_get c.args.comments.now) (sym c.place_of-place.ensures)
    ∙ slice_get_past c.args.comments.now _ lookup.3)
