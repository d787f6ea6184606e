use Rattle.shared_pads.proofs.Named.{named_by}
use Rattle.shared_pads.proofs.shared_pad.SharedPad.name.Goals as goal

pub returns-clause-named : goal.returns-clause-named
returns-clause-named g c = named_by c.args.self.now.cell _ _ _ _ _ c.name.result c.name.ensures.can c.name.ensures.name
