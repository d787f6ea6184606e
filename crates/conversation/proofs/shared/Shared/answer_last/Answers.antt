use Rattle.std.proofs.Common.{ap, ◌∙◌, subst, sym}
use Rattle.conversation.specs.ThreadSession.{CallsRow, lent}
use Rattle.conversation.specs.Talk.{AnswersLast}
use Rattle.conversation.proofs.Lent.{last_row, lent_back}
use Rattle.conversation.proofs.shared.Shared.answer_last.Goals as goal

pub returns-clause-own : goal.returns-clause-own
returns-clause-own g c =
    let told = c.answer_last-told.ensures in (
      ap (λ s. s.row) c.swap-2.ensures.other
          ∙ last_row c.swap.new.self c.answer_last-told.new.pads c.args.conversation.now c.answer_last-told.new.self
          c.answer_last-told.result _ told.last told.none told.err
          ∙ ap (λ s. s.row) c.swap.ensures.other,
      ap (λ s. s.session) c.swap-2.ensures.other ∙ c.swap.ensures.own,
    )

pub returns-clause-last : goal.returns-clause-last
returns-clause-last g c e =
    subst (λ p. AnswersLast CallsRow (lent c.args.self.now c.args.session.now) c.args.conversation.now p
    c.answer_last-told.new.self)
    (sym (lent_back c.answer_last-told.new.pads c.swap-2.new.self c.swap.new.session c.swap-2.new.session
    c.swap-2.ensures.other c.swap-2.ensures.own))
    (subst (λ p. AnswersLast CallsRow p c.args.conversation.now c.answer_last-told.new.pads c.answer_last-told.new.self)
    c.swap.ensures.other (c.answer_last-told.ensures.last e))
