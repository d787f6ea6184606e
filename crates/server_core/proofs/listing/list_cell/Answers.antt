use Rattle.std.proofs.Common.{◌≡◌, ◌++◌, List, ◌∷◌, [], Some, is_some, sym, ap, refl, ◌∙◌, append-nil, arith}
use Rattle.pad_core.proofs.Exits.{passed_on}
use Rattle.pad_core.specs.Listing.{listing, one_or_none}
use Rattle.pad_core.specs.declared.reply.Listed.{Listed}
use Rattle.server_core.specs.Listing.{listed_at}
use Rattle.server_core.proofs.Listings.{listed-here, listed-past, some-told}
use Rattle.server_core.proofs.listing.list_cell.Goals as goal

pub returns-then-index-cells-clause-listed : goal.returns-then-index-cells-clause-listed
returns-then-index-cells-clause-listed g c =
    sym (append-nil c.args.found.now)
    ∙ ap (λ (l : List Listed). c.args.found.now ++ l)
    (sym (listed-past c.args.who.now c.args.place c.args.cells.now c.if-index-cells.true))

pub returns-in_err-listed-clause-memory : goal.returns-in_err-listed-clause-memory
returns-in_err-listed-clause-memory g c =
    let m = c.index-cells-index.result in
    let here = listed-here c.args.who.now c.args.place c.args.cells.now m (listing c.args.who.now m)
    (omega (arith, c.if-index-cells.false)) c.index-cells-index.is refl in
    rw (passed_on c.from_residual.result c.from_residual.ensures.1) (
      c.in_err-listed.ensures.0,
      λ none. some-told (listing c.args.who.now m) c.in_err-listed.ensures.1 (sym here ∙ none),
    )

-- what is told here is what the pad tells
pub returns-in_err-push-clause-memory : goal.returns-in_err-push-clause-memory
returns-in_err-push-clause-memory g c =
    let m = c.index-cells-index.result in
    let here = listed-here c.args.who.now c.args.place c.args.cells.now m (Some c.in-Some.listed)
    (omega (arith, c.if-index-cells.false)) c.index-cells-index.is (sym c.in-Some.is ∙ c.in_ok-listed.ensures) in
    rw (passed_on c.from_residual-in_err-push.result c.from_residual-in_err-push.ensures.1) (
      refl,
      λ none. some-told (Some c.in-Some.listed) refl (sym here ∙ none),
    )

pub returns-in_ok-push-clause-listed : goal.returns-in_ok-push-clause-listed
returns-in_ok-push-clause-listed g c =
    let m = c.index-cells-index.result in
    let here = listed-here c.args.who.now c.args.place c.args.cells.now m (Some c.in-Some.listed)
    (omega (arith, c.if-index-cells.false)) c.index-cells-index.is (sym c.in-Some.is ∙ c.in_ok-listed.ensures) in
    c.in_ok-push.ensures.ok ∙ ap (λ (l : List Listed). c.args.found.now ++ l) (sym here)

pub returns-in_default-clause-listed : goal.returns-in_default-clause-listed
returns-in_default-clause-listed g c =
    let m = c.index-cells-index.result in
    let here = listed-here c.args.who.now c.args.place c.args.cells.now m c.in_ok-listed.field-0
    (omega (arith, c.if-index-cells.false)) c.index-cells-index.is c.in_ok-listed.ensures in
    sym (append-nil c.args.found.now)
    ∙ ap (λ (l : List Listed). c.args.found.now ++ l)
    (sym (here ∙ ap one_or_none c.in_default.is))
