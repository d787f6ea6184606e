use Rattle.std.proofs.Common.{sym, ap, subst, ◌∙◌, List}
use Rattle.std.specs.List.{find}
use Rattle.pad_model.specs.declared.op.Op.{Op}
use Rattle.holdback.specs.Held.{has_name, without}
use Rattle.holdback.specs.Inside.{IsHold, IsAt, IsGapFor}
use Rattle.holdback.proofs.Places.{read_at}
use Rattle.holdback.proofs.Kept.{hold_without, find_none, none_without}
use Rattle.holdback.proofs.held.Hold.take.Goals as goal

-- the operation at the place goes
pub invariant_of-self : goal.invariant_of-self
invariant_of-self c =
    let held = c.self.inside.operations.items in
    let at : IsAt held c.args.name c.in-Ok.place = rw c.deref.ensures.value at c.in-Ok.ensures.found in
    subst IsHold (at.rest ∙ sym c.remove.ensures.items) (hold_without held c.args.name c.self.invariant)

pub returns-in-Ok-clause-taken : goal.returns-in-Ok-clause-taken
returns-in-Ok-clause-taken c =
    let held = c.self.inside.operations.items in
    let at : IsAt held c.args.name c.in-Ok.place = rw c.deref.ensures.value at c.in-Ok.ensures.found in
    sym (read_at held c.in-Ok.place c.remove.result at.in_range c.remove.ensures.value) ∙ sym at.found
    ∙ ap (λ (ops : List Op). find (has_name c.args.name) ops) c.self.view_is

-- none has the name, and all stay
pub returns-in-Err-clause-taken : goal.returns-in-Err-clause-taken
returns-in-Err-clause-taken c =
    let held = c.self.inside.operations.items in
    let gap : IsGapFor held c.args.name c.in-Err.field-0 = rw c.deref.ensures.value at c.in-Err.ensures.absent in
    sym (find_none held c.args.name gap.absent) ∙ ap (λ (ops : List Op). find (has_name c.args.name) ops) c.self.view_is

pub returns-in-Err-clause-rest : goal.returns-in-Err-clause-rest
returns-in-Err-clause-rest c =
    let held = c.self.inside.operations.items in
    let gap : IsGapFor held c.args.name c.in-Err.field-0 = rw c.deref.ensures.value at c.in-Err.ensures.absent in
    sym c.self.view_is ∙ sym (none_without held c.args.name gap.absent) ∙ ap (without c.args.name) c.self.view_is
