use Rattle.std.proofs.Common.{sym, ◌∙◌}
use Rattle.pad_model.proofs.Erase.{is_erased-spans}
use Rattle.block_seq.proofs.erase.is_named.Goals as goal

pub returns : goal.returns
returns c = c.any_covers.ensures ∙ sym (is_erased-spans c.args.spans.now c.args.stamp)
