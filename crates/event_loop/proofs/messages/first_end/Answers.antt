use Rattle.event_loop.proofs.Said.{first_of, inside}
use Rattle.event_loop.proofs.messages.first_end.Goals as goal

pub returns-clause-first : goal.returns-clause-first
returns-clause-first c = first_of c.args.bytes.now c.args.free c.find_feed.result c.find_feed.ensures

pub returns-clause-inside : goal.returns-clause-inside
returns-clause-inside c = inside c.args.bytes.now c.args.free c.find_feed.result c.find_feed.ensures
