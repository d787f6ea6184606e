-- What a cell at an index of a row adds to a list of pads.
use Rattle.std.proofs.Common.{◌≡◌, ℕ, ◌≤◌, ◌<◌, true, List, [], ◌∷◌, length, Option, Some, None, is_some, refl, sym, ap, ◌∙◌}
use Rattle.std.specs.List.{slice_index_or}
use Rattle.std.proofs.lemmas.Option.{slice_get-get_or, slice_get_past}
use Rattle.pad_model.specs.declared.who.Who.{Who}
use Rattle.pad_core.specs.Listing.{listing, one_or_none}
use Rattle.pad_core.specs.Machine.{Machine}
use Rattle.pad_core.specs.declared.reply.Listed.{Listed}
use Rattle.server_core.specs.Listing.{listed_at}

-- past the row, nothing
pub listed-past : (who : Who) (cell : ℕ) (cells : List Machine) → length cells ≤ cell → listed_at who cell cells ≡ []
listed-past who cell cells past = rw (slice_get_past cells cell past) refl

-- at a cell, what its pad adds
pub listed-here : (who : Who) (cell : ℕ) (cells : List Machine) (m : Machine) (told : Option Listed) →
    cell < length cells → m ≡ slice_index_or cells cell m → told ≡ listing who m →
    listed_at who cell cells ≡ one_or_none told
listed-here who cell cells m told low is tells = rw (slice_get-get_or cells cell m low)
    (ap (λ x. one_or_none (listing who x)) (sym is) ∙ ap one_or_none (sym tells))

-- a pad that is added exists
pub some-told : (o : Option Listed) → is_some o ≡ true → one_or_none o ≡ [] → ⊥
some-told None there none = absurd (cc)
some-told (Some pad) there none = absurd (cc)
