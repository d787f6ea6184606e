use Rattle.std.proofs.Common.{refl}
use Rattle.pad_core.proofs.Exits.{passed_on}
use Rattle.store_format.proofs.Pieces.{ends_damaged, ends_so}
use Rattle.store_format.proofs.loading.Loading.finish.Goals as goal

pub returns-in_err-last-clause-read : goal.returns-in_err-last-clause-read
returns-in_err-last-clause-read g c =
    rw (passed_on c.from_residual.result c.from_residual.ensures.1)
    (ends_damaged c.args.name.now c.args.self c.args.bytes.now c.in_err-last.field-0.0 c.in_err-last.ensures.read)

pub returns-clause-read : goal.returns-clause-read
returns-clause-read g c =
    ends_so _ c.args.name.now c.args.self c.in_ok-last.last c.args.bytes.now _ c.in_ok-last.end c.end.result refl
    c.in_ok-last.ensures.read c.end.ensures.read
