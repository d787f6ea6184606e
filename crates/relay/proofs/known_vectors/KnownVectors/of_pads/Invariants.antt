-- nothing is known of the pads so far
use Rattle.std.proofs.Common.{◌≡◌, ◌∷◌, [], None}
use Rattle.std.specs.List.{repeat}
use Rattle.relay.proofs.known_vectors.KnownVectors.of_pads.Given as goal

abbrev pub invariant-loop : goal.invariant-loop
invariant-loop l = l.vectors.items ≡ repeat l.counter (None ∷ [])
