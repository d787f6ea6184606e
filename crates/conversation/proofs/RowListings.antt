-- A list of pads grows by what one more cell shows.
use Rattle.std.proofs.Common.{◌≡◌, List, [], ◌∷◌, ◌++◌, Option, ap, ◌∙◌}
use Rattle.std.proofs.lemmas.List.{flat_map_more}
use Rattle.pad_model.specs.declared.who.Who.{Who}
use Rattle.pad_core.specs.Listing.{listing, one_or_none, pads_of}
use Rattle.pad_core.specs.Machine.{Machine}
use Rattle.pad_core.specs.declared.reply.Listed.{Listed}

-- what some states show, followed by what one more state shows
pub told_more : (who : Who) (ms : List Machine) (m : Machine) (pads : List Listed) (told : Option Listed) →
    pads ≡ pads_of who ms → told ≡ listing who m → pads ++ one_or_none told ≡ pads_of who (ms ++ m ∷ [])
told_more who ms m pads told so tells = ap (λ (l : List Listed). l ++ one_or_none told) so
    ∙ ap (λ (t : Option Listed). pads_of who ms ++ one_or_none t) tells
    ∙ flat_map_more (λ (state : Machine). one_or_none (listing who state)) [] ms m
