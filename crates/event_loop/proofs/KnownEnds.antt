-- What a socket gives and what it got, if both are known.
use Rattle.std.proofs.Common.{◌≡◌, ℕ, List, ◌++◌, Option, Some, None, refl, ap, ◌∙◌, sym}
use Rattle.std.specs.Io.KnownBytes.{Appends, Consumes}

pub consumes_is : (old new : Option (List ℕ)) (known bytes : List ℕ) → old ≡ Some known → Consumes old new bytes
    → (rest : List ℕ) × (new ≡ Some rest) × (known ≡ bytes ++ rest)
consumes_is None new known bytes is consumes = absurd (cc)
consumes_is (Some before) None known bytes is consumes = elim consumes [ ]
consumes_is (Some before) (Some rest) known bytes is consumes = (rest, refl, same before known is ∙ consumes)
  where
    same : (a b : List ℕ) → Some a ≡ Some b → b ≡ a
    same a b is = cc

pub appends_is : (old new : Option (List ℕ)) (known bytes : List ℕ) → old ≡ Some known → Appends old new bytes
    → new ≡ Some (known ++ bytes)
appends_is None new known bytes is appends = absurd (cc)
appends_is (Some before) None known bytes is appends = elim appends [ ]
appends_is (Some before) (Some after) known bytes is appends =
    ap Some (appends ∙ ap (λ l. l ++ bytes) (same before known is))
  where
    same : (a b : List ℕ) → Some a ≡ Some b → a ≡ b
    same a b is = cc
