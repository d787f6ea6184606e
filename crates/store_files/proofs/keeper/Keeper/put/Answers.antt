-- A note is in the queue of its pad, or is refused.
use Rattle.store_files.proofs.Noted.{kept_by_note}
use Rattle.store_files.proofs.keeper.Keeper.put.Goals as goal

pub returns : goal.returns
returns g c = kept_by_note c.args.told c.as_slice-more.result.now _ c.note.result (search) c.in-Ok-records_of.ensures c.note.ensures.queued
