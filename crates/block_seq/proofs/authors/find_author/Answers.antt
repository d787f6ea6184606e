use Rattle.std.proofs.Common.{◌≡◌, ◌∷◌, [], false, sym, ◌∙◌, ◌+◌, refl, subst}
use Rattle.std.proofs.lemmas.List.{take_all}
use Rattle.std.specs.List.{AllByRecursion}
use Rattle.pad_model.specs.Visible.{same_author}
use Rattle.pad_model.proofs.Each.{each-append}
use Rattle.pad_model.specs.declared.who.Author.{Author}
use Rattle.block_seq.proofs.RowLists.{get_here}
use Rattle.block_seq.proofs.RowTouched.{take_one}
use Rattle.block_seq.proofs.authors.find_author.Goals as goal

pub loop-place-init : goal.loop-place-init
loop-place-init c = tt

pub loop-place-preserved : goal.loop-place-preserved
loop-place-preserved c =
    let authors = c.args.authors.now in
    let place = c.loop-place.place in
    let known = c.index-authors-place.result in
    let here = get_here authors place known c.loop-place-test.true c.index-authors-place.is in
    let other : same_author known c.args.author.now ≡ false = sym c.eq.ensures ∙ c.if-eq.false in
    subst (AllByRecursion (λ (a : Author). same_author a c.args.author.now ≡ false))
    (sym (take_one authors place (place + 1) known here refl))
    (each-append (λ (a : Author). same_author a c.args.author.now ≡ false) _ (known ∷ []) c.loop-place.invariant
    (other, tt))

pub returns-clause-missing : goal.returns-clause-missing
returns-clause-missing c = λ _.
    subst (AllByRecursion (λ (a : Author). same_author a c.args.author.now ≡ false))
    (take_all c.loop-place.place c.args.authors.now c.loop-place-test.false) c.loop-place.invariant
