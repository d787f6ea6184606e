use Rattle.pad_core.specs.Counts.{characters_at}
use Rattle.pad_core.specs.Edits.{before_place}
use Rattle.pad_core.proofs.Made.{run_made}
use Rattle.pad_core.proofs.make.make_run.Goals as goal

pub returns : goal.returns
returns g c =
    run_made c.first_stamp.result (record { counter = c.args.counter; replica = c.args.replica }) c.stamp_before.result
    (before_place (characters_at c.args.rev c.args.ledger.now) c.args.at) c.in_ok-text.text c.args.text.now
    c.first_stamp.ensures c.stamp_before.ensures c.in_ok-text.ensures.cases
