use Rattle.std.proofs.Common.{◌&&◌, leb, sym, ap, ◌∙◌}
use Rattle.op_log.specs.Track.{last_number, mark_of, rises_from}
use Rattle.op_log.proofs.Marks.{rises_push}
use Rattle.op_log.proofs.index.add_mark.Goals as goal
use Rattle.op_log.proofs.index.add_mark.Goals.{then-track, else-track}

pub returns-clause-told : goal.returns-clause-told
returns-clause-told c told =
    let marks = c.args.track.now.marks.items in
    let number = c.args.number in
    let follows = leb (last_number 0 marks) number in
    let all = ap (rises_from 0) c.push_reserved.ensures.items ∙ rises_push 0 marks (mark_of c.args.place number)
    ∙ ap (λ b. b && follows) (sym told) in
    elim c.if-track.branch [
      | then-track w ↦ w.track-is ∙ ap (λ last. leb last number) (w.last_of.ensures
          ∙ ap (last_number 0) w.deref.ensures.value) ∙ sym (all ∙ ap (λ b. b && follows) w.if-track.true)
      | else-track w ↦ w.track-is ∙ w.if-track.false ∙ sym (all ∙ ap (λ b. b && follows) w.if-track.false)
    ]
