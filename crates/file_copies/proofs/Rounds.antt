-- The bytes of a round are put together stretch by stretch.
use Rattle.std.proofs.Common.{◌≡◌, ℕ, ◌+◌, ◌<◌, List, ◌∷◌, ◌++◌, drop, length, sym, ap, ◌∙◌}
use Rattle.std.proofs.Math.ListN.{get_or}
use Rattle.std.proofs.lemmas.List.{append_assoc, drop_more}
use Rattle.file_copies.specs.Rounds.{round_bytes, stretch_bytes}
use Rattle.file_copies.specs.declared.round.FileStretch.{FileStretch}

-- the bytes so far, those of the next stretch, and those of the stretches behind it are all
pub one_more : (round : List FileStretch) (stretch : FileStretch) (i : ℕ) (done more all : List ℕ) → i < length round
    → get_or round i stretch ≡ stretch → more ≡ done ++ stretch_bytes stretch.pad stretch.from stretch.lines.items
    → done ++ round_bytes (drop i round) ≡ all → more ++ round_bytes (drop (i + 1) round) ≡ all
one_more round stretch i done more all within here put was =
    ap (λ (b : List ℕ). b ++ round_bytes (drop (i + 1) round)) put
    ∙ append_assoc done (stretch_bytes stretch.pad stretch.from stretch.lines.items) (round_bytes (drop (i + 1) round))
    ∙ sym (ap (λ (rest : List FileStretch). done ++ round_bytes rest)
    (drop_more round i stretch within ∙ ap (λ (s : FileStretch). s ∷ drop (i + 1) round) here))
    ∙ was
