use Rattle.std.proofs.Common.{sym, ap, ◌∙◌}
use Rattle.std.specs.List.{list_any}
use Rattle.pad_core.specs.Edits.{is_outside}
use Rattle.pad_core.proofs.Allowed.{grown}
use Rattle.pad_core.proofs.edit.refuse_edit.Goals as goal

pub first_refusal-requires : goal.first_refusal-requires
first_refusal-requires g c = λ few. (grown c.args.changes.now c.total_growth.result (sym c.are_too_much.ensures
    ∙ few) c.total_growth.ensures).1

pub returns-clause-value : goal.returns-clause-value
returns-clause-value g c = c.first_refusal.ensures.value c.args.changes.now (record {
  outside = ap (λ n. list_any (is_outside n) c.args.changes.now) (sym c.len_at.ensures)
      ∙ sym c.is_any_outside.ensures;
  idle = sym c.are_idle.ensures;
  much = sym c.are_too_much.ensures;
  growth = λ few. sym (grown c.args.changes.now c.total_growth.result (sym c.are_too_much.ensures ∙ few)
      c.total_growth.ensures).0;
})
