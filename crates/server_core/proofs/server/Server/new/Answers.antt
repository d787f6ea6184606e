use Rattle.std.proofs.Common.{◌≤◌, length, sym, ap, ◌∙◌, subst}
use Rattle.server_core.specs.Machine.{unnamed}
use Rattle.server_core.specs.declared.limits.TheConstants.{MAX_CELLS}
use Rattle.server_core.proofs.Rows.{length-repeat}
use Rattle.server_core.proofs.server.Server.new.Goals as goal

pub invariant_of-result : goal.invariant_of-result
invariant_of-result g c =
    subst (λ n. n ≤ MAX_CELLS) (sym (ap length c.in_ok-make_row.ensures
    ∙ length-repeat c.args.cells (unnamed c.args.replica c.args.present))) c.requires.cells
