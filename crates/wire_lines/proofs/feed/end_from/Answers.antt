use Rattle.std.proofs.Common.{◌∙◌, sym}
use Rattle.wire_lines.proofs.Feeds.{end-none}
use Rattle.wire_lines.proofs.feed.end_from.Goals as goal

pub returns-in-None-clause-end : goal.returns-in-None-clause-end
returns-in-None-clause-end c = end-none c.args.held.now c.args.from c.requires (sym c.find_feed.ensures ∙ c.in-None.is)
