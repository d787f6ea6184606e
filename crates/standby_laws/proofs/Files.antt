-- The first lines of a file, and its first bytes.
use Rattle.std.proofs.Common.{◌≡◌, ℕ, zero, suc, ◌≤◌, min, List, [], ◌∷◌, ◌++◌, length, take, refl, sym, ap, ◌∙◌, subst}
use Rattle.std.proofs.Common.{arith, append_assoc}
use Rattle.std.proofs.lemmas.List.{length-take, take-take, take_at, take_min}
use Rattle.store_format.specs.Laws.{file_of}
use Rattle.store_format.specs.Lines.{bytes_of, line_text, lines_behind, sum_after}

-- the lines of the first texts are the first bytes of all
split_behind : (before : List ℕ) (count : ℕ) (texts : List (List ℕ)) →
    (rest : List ℕ) × (bytes_of (lines_behind before texts) ≡ bytes_of (lines_behind before (take count texts)) ++ rest)
split_behind before zero texts = (bytes_of (lines_behind before texts), refl)
split_behind before (suc count) [] = ([], refl)
split_behind before (suc count) (text ∷ texts) = at (split_behind (sum_after before text) count texts)
  where
    at : ((rest : List ℕ) × (bytes_of (lines_behind (sum_after before text) texts)
        ≡ bytes_of (lines_behind (sum_after before text) (take count texts)) ++ rest)) →
        (rest : List ℕ) × (bytes_of (lines_behind before (text ∷ texts))
        ≡ bytes_of (lines_behind before (take (suc count) (text ∷ texts))) ++ rest)
    at (rest, is) = (
      rest,
      ap (λ (b : List ℕ). line_text before text ++ 10 ∷ b) is
          ∙ sym (append_assoc (line_text before text)
          (10 ∷ bytes_of (lines_behind (sum_after before text) (take count texts))) rest),
    )

-- the first bytes of a file are those of the lines of its first texts
pub lines_front : (count : ℕ) (texts : List (List ℕ)) →
    take (length (file_of (take count texts))) (file_of texts) ≡ file_of (take count texts)
lines_front count texts = at (split_behind [] count texts)
  where
    at : ((rest : List ℕ) × (file_of texts ≡ file_of (take count texts) ++ rest)) →
        take (length (file_of (take count texts))) (file_of texts) ≡ file_of (take count texts)
    at (rest, is) = ap (take (length (file_of (take count texts)))) is
        ∙ take_at (file_of (take count texts)) rest (length (file_of (take count texts))) refl

-- fewer texts have no more bytes
pub lines_short : (count : ℕ) (texts : List (List ℕ)) → length (file_of (take count texts)) ≤ length (file_of texts)
lines_short count texts = omega (
  arith,
  ap length (lines_front count texts),
  length-take (length (file_of (take count texts))) (file_of texts),
)

-- the lines of more texts begin with those of fewer
pub lines_grown : (texts more : List (List ℕ)) → take (length (file_of texts)) (file_of (texts ++ more)) ≡ file_of texts
lines_grown texts more = subst
    (λ (ts : List (List ℕ)). take (length (file_of ts)) (file_of (texts ++ more)) ≡ file_of ts)
    (take_at texts more (length texts) refl) (lines_front (length texts) (texts ++ more))

-- the synced bytes of a file are the first ones of another file, which has no fewer synced
abbrev pub Stays : List ℕ → ℕ → List ℕ → ℕ → Type 0
Stays file synced next more = (synced ≤ more) × (take synced next ≡ take synced file)

-- bytes that stay twice stay
pub stays_on : (a b c : List ℕ) (i j k : ℕ) → Stays a i b j → Stays b j c k → Stays a i c k
stays_on a b c i j k (low, same) (high, more) =
    (omega (arith, low, high), sym (take-take i j c low) ∙ (ap (take i) more ∙ (take-take i j b low ∙ same)))

-- if first bytes stay, fewer of them stay
pub stays_below : (file next : List ℕ) (few many : ℕ) → few ≤ many → take many next ≡ take many file →
    take few next ≡ take few file
stays_below file next few many low same = sym (take-take few many next low)
    ∙ (ap (take few) same ∙ take-take few many file low)

-- bytes are the first bytes of a file
abbrev pub IsFront : List ℕ → List ℕ → Type 0
IsFront file bytes = bytes ≡ take (length bytes) file

-- the first bytes of first bytes are first bytes
pub front_cut : (file copy : List ℕ) (left : ℕ) → IsFront file copy → IsFront file (take left copy)
front_cut file copy left is = sym (take_min left copy)
    ∙ (ap (take (min left (length copy))) is
    ∙ (take-take (min left (length copy)) (length copy) file (omega arith)
    ∙ ap (λ (n : ℕ). take n file) (sym (length-take left copy))))

-- synced first bytes of a file are first bytes of the other one
pub front_stays : (file next copy : List ℕ) (synced more : ℕ) → Stays file synced next more → IsFront file copy →
    length copy ≤ synced → IsFront next copy
front_stays file next copy synced more (low, same) is short =
    is ∙ sym (stays_below file next (length copy) synced short same)
