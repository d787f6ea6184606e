use Rattle.std.proofs.Common.{◌≡◌, inl, inr, true, List, [], ◌∷◌, ◌||◌}
use Rattle.pad_model.specs.Operation.{characters_in}
use Rattle.pad_model.specs.Stamp.{Stamp, same_stamp}
use Rattle.pad_model.specs.Visible.{is_erased}
use Rattle.pad_model.proofs.Growth.{IsTree-history}
use Rattle.pad_model.proofs.Newer.{same_stamp-refl, split}
use Rattle.pad_model.proofs.Pushed.{erased-inserted}
use Rattle.pad_model.proofs.Sets.{Has, Has-from_Contains}
use Rattle.pad_model.proofs.laws.legal_law.Goals as goal

is_erased_has : (xs : List Stamp) (s : Stamp) → Has xs s → is_erased xs s ≡ true
is_erased_has [] s h = absurd h
is_erased_has (x ∷ xs) s (inl is) = rw (is, same_stamp-refl s) Rattle.std.proofs.Common.refl
is_erased_has (x ∷ xs) s (inr h) =
    split (same_stamp x s) (λ yes. rw yes Rattle.std.proofs.Common.refl) (λ no. rw no (is_erased_has xs s h))

pub returns : goal.returns
returns c = λ log h. record {
  tree = IsTree-history log h;
  erased = λ s there. erased-inserted log s h
      (is_erased_has (characters_in log).erased s (Has-from_Contains (characters_in log).erased s there));
}
