use Rattle.std.proofs.Common.{refl}
use Rattle.web_wire.specs.PageRequests.{page_fields}
use Rattle.web_wire.proofs.reply.fields.Goals as goal

pub returns : goal.returns
unfolding page_fields
returns c = rw (c.as_bytes.ensures.value, c.as_bytes-2.ensures.value, c.as_bytes-3.ensures.value) refl
