-- What `put_histogram` appends: what two calls append, one behind the other.
use Rattle.std.proofs.Common.{rules, append_assoc}
use Rattle.server_counts.proofs.samples.put_histogram.Goals as goal

pub returns : goal.returns
returns c = search (rules, append_assoc)
