use Rattle.pad_core.proofs.Told.{text_told}
use Rattle.pad_core.proofs.reads.read_text.Goals as goal

pub returns : goal.returns
returns g c = text_told c.args.asked c.args.ledger.now c.len-now.result c.unwrap_or-rev.result c.in_ok-text.text
    c.len-now.ensures.value c.unwrap_or-rev.ensures c.if-now-rev.false c.in_ok-text.ensures
