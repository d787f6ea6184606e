use Rattle.std.proofs.Common.{ap, ◌∙◌, subst, sym}
use Rattle.conversation.specs.ThreadSession.{CallsRow, lent}
use Rattle.conversation.specs.Talk.{AnswersFirst}
use Rattle.conversation.proofs.Lent.{lent_back, turn_row}
use Rattle.conversation.proofs.shared.Shared.answer.Goals as goal

pub returns-clause-own : goal.returns-clause-own
returns-clause-own g c =
    let turn = c.answer-turn.ensures in (
      ap (λ s. s.row) c.swap-2.ensures.other
          ∙ turn_row c.swap.new.self c.answer-turn.new.pads c.args.conversation.now c.answer-turn.new.self
          c.answer-turn.result _ _ _ turn.answered turn.long turn.waits turn.full turn.err
          ∙ ap (λ s. s.row) c.swap.ensures.other,
      ap (λ s. s.session) c.swap-2.ensures.other ∙ c.swap.ensures.own,
    )

pub returns-clause-answered : goal.returns-clause-answered
returns-clause-answered g c e =
    subst (λ p. AnswersFirst CallsRow (lent c.args.self.now c.args.session.now) c.args.conversation.now p
    c.answer-turn.new.self)
    (sym (lent_back c.answer-turn.new.pads c.swap-2.new.self c.swap.new.session c.swap-2.new.session
    c.swap-2.ensures.other c.swap-2.ensures.own))
    (subst (λ p. AnswersFirst CallsRow p c.args.conversation.now c.answer-turn.new.pads c.answer-turn.new.self)
    c.swap.ensures.other (c.answer-turn.ensures.answered e))
