use Rattle.std.proofs.Common.{◌≡◌, Some, slice_get, arith, rules, sym, ap, ◌∙◌, bytes_eq, option_copied}
use Rattle.std.proofs.lemmas.Grind.{common_steps}
use Rattle.std.proofs.lemmas.Option.{gets}
use Rattle.std.proofs.lemmas.Slice.Eq.{bytes_eq-Decides}
use Rattle.presence.specs.Authors.{is_author_at}
use Rattle.presence.proofs.Authors.{named_where_found}
use Rattle.presence.proofs.author_list.AuthorList.is.Goals as goal

pub returns-in-Some : goal.returns-in-Some
returns-in-Some c =
    let i = c.self.inside in
    let same : c.is.result ≡ bytes_eq c.in-Some.name.now c.args.author.now = search (rules, bytes_eq-Decides) in
    let found : slice_get i.names.keys c.in-Some-Some.kept ≡ Some c.in-Some.name.now =
    sym c.get_index.ensures.key ∙ ap option_copied c.in-Some.is in
    let kept : slice_get i.places.items c.args.place ≡ Some (Some c.in-Some-Some.kept) =
    grind (arith, common_steps, gets) in
    same ∙ named_where_found i.names.keys i.places.items c.args.author.now c.in-Some.name.now c.args.place
    c.in-Some-Some.kept kept found
    ∙ ap (is_author_at c.args.place c.args.author.now) c.self.view_is
