-- Events that lead to each copy of each file.
use Rattle.std.proofs.Common.{◌≡◌, ℕ, ◌≤◌, max, List, [], ◌∷◌, ◌++◌, length, take, refl, arith}
use Rattle.store_format.specs.Laws.{file_of}
use Rattle.file_copies.specs.Laws.{Stretch}
use Rattle.standby_laws.specs.Servers.{Event, Leads, Servers, beginning}
use Rattle.standby_laws.specs.Servers.Event.{arrives, hears, keeps, says, sends, syncs, writes}

-- the whole copy as one stretch of the file
whole_copy : List ℕ → Stretch
whole_copy copy = record { from = 0; lines = copy }

-- the main server writes and syncs its lines, and sends the copy as one stretch; the standby syncs what is confirmed,
-- says so, and then syncs more
course : List (List ℕ) → ℕ → List ℕ → ℕ → ℕ → List Event
course texts lines copy kept confirmed = writes texts ∷ syncs lines ∷ sends (whole_copy copy)
    ∷ arrives (whole_copy copy) ∷ keeps confirmed ∷ says ∷ hears confirmed ∷ keeps kept ∷ []

-- the state to which they lead
reached : List (List ℕ) → ℕ → List ℕ → ℕ → ℕ → Servers
reached texts lines copy kept confirmed = record {
  texts = texts;
  synced = length (file_of (take lines texts));
  sent = whole_copy copy ∷ [];
  marks = confirmed ∷ [];
  copy = copy;
  kept = kept;
  confirmed = max 0 confirmed;
}

-- the law of what is reached
pub reaches : (texts : List (List ℕ)) (lines : ℕ) (copy rest : List ℕ) (kept confirmed : ℕ) →
    file_of texts ≡ copy ++ rest → length copy ≤ length (file_of (take lines texts)) → kept ≤ length copy →
    confirmed ≤ kept →
    (events : List Event) × (now : Servers) × Leads beginning events now
    × (now.texts ≡ texts) × (now.synced ≡ length (file_of (take lines texts)))
    × (now.copy ≡ copy) × (now.kept ≡ kept) × (now.confirmed ≡ confirmed)
unfolding course reached whole_copy
reaches texts lines copy rest kept confirmed is copied kept_low low = (
  course texts lines copy kept confirmed,
  reached texts lines copy kept confirmed,
  (
    tt,
    (
      omega arith,
      (
        ([], rest, is, refl, omega (arith, copied)),
        (
          (0, omega arith, refl),
          ((omega arith, omega (arith, kept_low, low)), (tt, ((0, omega arith, refl), ((low, kept_low), refl)))),
        ),
      ),
    ),
  ),
  refl,
  refl,
  refl,
  refl,
  omega arith,
)
