use Rattle.std.proofs.Common.{sym, ap, ◌∙◌, List}
use Rattle.std.specs.List.{find}
use Rattle.pad_model.specs.declared.op.Op.{Op}
use Rattle.holdback.specs.Held.{has_name}
use Rattle.holdback.specs.Inside.{IsGapFor}
use Rattle.holdback.proofs.Kept.{find_none}
use Rattle.holdback.proofs.held.Hold.get.Goals as goal

-- none has the name
pub returns-in-Err : goal.returns-in-Err
returns-in-Err c =
    let held = c.self.inside.operations.items in
    let gap : IsGapFor held c.args.name c.in-Err.field-0 = rw c.deref.ensures.value at c.in-Err.ensures.absent in
    sym (find_none held c.args.name gap.absent) ∙ ap (λ (ops : List Op). find (has_name c.args.name) ops) c.self.view_is
