use Rattle.std.proofs.Common.{◌+◌, arith, refl, sym}
use Rattle.pad_core.proofs.Exits.{passed_on}
use Rattle.store_format.proofs.Begins.{first_fails, first_leads, first_torn, first_torn_fails, of_none, of_some}
use Rattle.store_format.proofs.Feeds.{none_whole}
use Rattle.store_format.proofs.loading.begin.Goals as goal

pub returns-in_default-clause-read : goal.returns-in_default-clause-read
returns-in_default-clause-read g c = absurd (c.requires.some (none_whole c.args.bytes.now (sym c.in_default.ensures)))

pub returns-in_default-clause-begun : goal.returns-in_default-clause-begun
returns-in_default-clause-begun g c = c.requires.some (none_whole c.args.bytes.now (sym c.in_default.ensures))

pub returns-in_err-first-clause-read : goal.returns-in_err-first-clause-read
returns-in_err-first-clause-read g c =
    rw (passed_on c.from_residual.result c.from_residual.ensures.1)
    (first_fails c.args.name.now c.args.pad.now c.args.bytes.now c.in-Some.end c.in_err-first.field-0.0 c.in-Some.ensures
    c.in_err-first.ensures.read)

pub returns-in_err-check_torn-clause-read : goal.returns-in_err-check_torn-clause-read
returns-in_err-check_torn-clause-read g c =
    rw (passed_on c.from_residual-in_err-check_torn.result c.from_residual-in_err-check_torn.ensures.1)
    (first_torn_fails c.args.name.now c.args.pad.now c.args.bytes.now c.in-Some.end c.in_err-check_torn.field-0.0
    c.in-Some.ensures (of_none _ _ _ c.in_default-2.is c.in_ok-first.ensures.read) c.in_err-check_torn.ensures)

pub returns-in_default-2-clause-read : goal.returns-in_default-2-clause-read
returns-in_default-2-clause-read g c =
    first_torn c.args.name.now c.args.pad.now c.args.bytes.now c.in-Some.end c.damage_of_front.result c.in-Some.ensures
    (of_none _ _ _ c.in_default-2.is c.in_ok-first.ensures.read)
    c.damage_of_front.ensures c.in_ok-check_torn.ensures

pub returns-clause-read : goal.returns-clause-read
returns-clause-read g c =
    first_leads c.args.name.now c.args.pad.now c.replay_lines.new.pad c.args.bytes.now _ c.in-Some.end (c.in-Some.end + 1)
    c.in-Some-2.first c.replay_lines.result (omega arith) refl c.in-Some.ensures c.requires.fresh
    (of_some _ _ _ _ c.in-Some-2.is c.in_ok-first.ensures.read)
    c.replay_lines.ensures.read
