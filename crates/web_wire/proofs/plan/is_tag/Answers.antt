use Rattle.std.proofs.Common.{◌≡◌, ◌∙◌, true, false, ap, sym, codes}
use Rattle.std.specs.Prelude.{bytes_eq}
use Rattle.web_wire.specs.Tags.{is_tag, strong, trimmed}
use Rattle.web_wire.proofs.plan.is_tag.Goals as goal

pub returns-then-eq : goal.returns-then-eq
unfolding is_tag
returns-then-eq c =
    let one : bytes_eq (trimmed c.args.part.now) (codes "*") ≡ true =
    rw (sym c.trimmed-one.ensures, sym c.as_slice.ensures) (sym c.eq.ensures ∙ c.if-eq.true) in
    rw one c.if-eq.true

pub returns-else-eq : goal.returns-else-eq
unfolding is_tag
returns-else-eq c =
    let one : bytes_eq (trimmed c.args.part.now) (codes "*") ≡ false =
    rw (sym c.trimmed-one.ensures, sym c.as_slice.ensures) (sym c.eq.ensures ∙ c.if-eq.false) in
    rw one (c.eq-else-eq.ensures ∙ ap (λ l. bytes_eq l c.args.tag.now) (c.strong.ensures ∙ ap strong c.trimmed-one.ensures))
