use Rattle.std.proofs.Common.{ap, ◌∙◌, sym, option_map}
use Rattle.pad_model.specs.OldWire.{op_in_v1}
use Rattle.op_log.specs.Log.{is_missing}
use Rattle.op_log.proofs.Next.{none_found}
use Rattle.op_log.proofs.Ranges.{first_says}
use Rattle.op_log.proofs.op_log.OpLog.first_missing_in_v1.Goals as goal

pub returns-in_err-place : goal.returns-in_err-place
returns-in_err-place c =
    c.from_residual.ensures ∙ ap (option_map op_in_v1) (sym (none_found (is_missing c.args.seen.now)
    c.args.self.now.operations (sym c.in_err-place.ensures)))

pub returns : goal.returns
returns c =
    first_says (is_missing c.args.seen.now) op_in_v1 c.in_ok-place.place c.args.self.now.operations c.is_in_v1.result
    (sym c.in_ok-place.ensures) c.is_in_v1.ensures
