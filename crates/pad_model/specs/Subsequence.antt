-- One list inside another.
use Rattle.std.specs.Prelude.{List, [], ◌∷◌}

-- the first list is the second without some of its items
pub data IsSubsequence {A : Type 0} : List A → List A → Type 0 where
  done : IsSubsequence [] []
  keep : {x : A} {xs ys : List A} → IsSubsequence xs ys → IsSubsequence (x ∷ xs) (x ∷ ys)
  skip : {y : A} {xs ys : List A} → IsSubsequence xs ys → IsSubsequence xs (y ∷ ys)
