-- Lists that are neither pairs nor triples.
use Rattle.std.proofs.Common.{◌≡◌, List, [], ◌∷◌, length, None, refl}
use Rattle.serde_json.specs.View.{items_view}
use Rattle.serde_json.specs.declared.value.Value.{Value}
use Rattle.wire_json.specs.Reading.{two_of, three_of}

pub not_two : (vs : List Value) → (length vs ≡ 2 → ⊥) → two_of (items_view vs) ≡ None
not_two [] other = refl
not_two (a ∷ []) other = refl
not_two (a ∷ b ∷ []) other = absurd (other refl)
not_two (a ∷ b ∷ c ∷ more) other = refl

pub not_three : (vs : List Value) → (length vs ≡ 3 → ⊥) → three_of (items_view vs) ≡ None
not_three [] other = refl
not_three (a ∷ []) other = refl
not_three (a ∷ b ∷ []) other = refl
not_three (a ∷ b ∷ c ∷ []) other = absurd (other refl)
not_three (a ∷ b ∷ c ∷ d ∷ more) other = refl
