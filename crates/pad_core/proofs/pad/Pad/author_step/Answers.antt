use Rattle.std.proofs.Common.{inr, sym, ap, ◌∙◌, subst}
use Rattle.pad_model.specs.Answers.{Answers}
use Rattle.pad_core.proofs.Admitted.{admitted_step, refused_step}
use Rattle.pad_core.proofs.pad.Pad.author_step.Goals as goal

pub returns-clause-answers : goal.returns-clause-answers
returns-clause-answers g c owned e =
    subst (λ x. Answers c.args.self.now x c.author_act.result c.author_act.new.self)
    (sym (admitted_step c.in-Some.owned owned c.self.inside.presence c.self.inside.presence c.args.name.now c.args.visit
    c.args.act.now c.args.self.now c.author_refusal.result c.author_refusal.ensures c.in_default-author_refusal.is
    (sym c.in-Some.is ∙ ap (λ m. m.owned) c.self.view_is ∙ e) (ap (λ m. m.presence) c.self.view_is)))
    (c.author_act.ensures.answers owned e)

pub returns-clause-exact : goal.returns-clause-exact
returns-clause-exact g c none owned e =
    admitted_step c.in-Some.owned owned c.self.inside.presence c.self.inside.presence c.args.name.now c.args.visit
    c.args.act.now c.args.self.now c.author_refusal.result c.author_refusal.ensures c.in_default-author_refusal.is
    (sym c.in-Some.is ∙ ap (λ m. m.owned) c.self.view_is ∙ e) (ap (λ m. m.presence) c.self.view_is)
    ∙ c.author_act.ensures.exact none owned e

pub returns-in-Some-author_refusal-clause-answers : goal.returns-in-Some-author_refusal-clause-answers
returns-in-Some-author_refusal-clause-answers g c owned e =
    inr (refused_step c.in-Some.owned owned c.self.inside.presence c.self.inside.presence c.args.name.now c.args.visit
    c.args.act.now c.args.self.now c.author_refusal.result c.in-Some-author_refusal.refusal c.author_refusal.ensures
    c.in-Some-author_refusal.is
    (sym c.in-Some.is ∙ ap (λ m. m.owned) c.self.view_is ∙ e) (ap (λ m. m.presence) c.self.view_is))

pub returns-in-Some-author_refusal-clause-exact : goal.returns-in-Some-author_refusal-clause-exact
returns-in-Some-author_refusal-clause-exact g c none owned e =
    refused_step c.in-Some.owned owned c.self.inside.presence c.self.inside.presence c.args.name.now c.args.visit
    c.args.act.now c.args.self.now c.author_refusal.result c.in-Some-author_refusal.refusal c.author_refusal.ensures
    c.in-Some-author_refusal.is
    (sym c.in-Some.is ∙ ap (λ m. m.owned) c.self.view_is ∙ e) (ap (λ m. m.presence) c.self.view_is)
