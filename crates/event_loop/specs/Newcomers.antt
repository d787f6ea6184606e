-- Clients that have not logged in.
use Rattle.std.specs.Prelude.{Bool, true, false}
use Rattle.pad_model.specs.declared.who.Who.{Who}
use Rattle.pad_model.specs.declared.who.Who.TheVariants.{Nobody, Author, Peer}

-- whether nobody has logged in
abbrev pub is_nobody : Who → Bool
is_nobody Nobody = true
is_nobody (Author name) = false
is_nobody (Peer number version) = false
