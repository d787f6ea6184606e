use Rattle.std.proofs.Common.{◌≡◌, length, sym, ap, ◌∙◌, arith, vec_len}
use Rattle.op_log.specs.Times.{Times}
use Rattle.op_log.proofs.TimeLists.{times_long}
use Rattle.op_log.proofs.time_list.TimeList.len.Goals as goal

pub returns-clause-len : goal.returns-clause-len
returns-clause-len c =
    let same : vec_len c.self.inside.past ≡ length c.self.inside.past.items = omega arith in
    c.len.ensures ∙ same ∙ sym (times_long c.self.inside.eras.items 0 c.self.inside.past.items)
    ∙ ap (λ (t : Times). length t.times) c.self.view_is
