-- Proper runs are the fewest runs of their authors.
use Rattle.std.proofs.Common.{◌≡◌, ℕ, zero, suc, ◌≤◌, ◌<◌, false, List, [], ◌∷◌, ◌++◌, length, map, refl, ap, ◌∙◌}
use Rattle.std.proofs.Common.{add-one, arith}
use Rattle.std.specs.List.{AllByRecursion}
use Rattle.std.proofs.Math.ListN.{replicate}
use Rattle.std.proofs.lemmas.List.{map-append}
use Rattle.pad_model.proofs.Each.{each-right}
use Rattle.pad_model.specs.Visible.{same_author, join_run, runs}
use Rattle.pad_model.specs.declared.who.Author.{Author}
use Rattle.pad_model.specs.declared.who.AuthorRun.{AuthorRun}
use Rattle.authorship.specs.StoredRuns.{places, author_in, authors_in, author_run, AreKnown, StartsApart, IsProper, IsOnce}
use Rattle.authorship.specs.declared.stored_run.StoredRun.{StoredRun}
use Rattle.authorship.proofs.Known.{same_author-refl, same_author-apart}

pub map-replicate : {A B : Type 0} (f : A → B) (n : ℕ) (a : A) → map f (replicate n a) ≡ replicate n (f a)
map-replicate f zero a = refl
map-replicate f (suc n) a = ap (λ xs. f a ∷ xs) (map-replicate f n a)

-- each run has a character, so its author is in the table
pub known_runs : (n : ℕ) (kept : List StoredRun) → IsProper kept → AllByRecursion (λ p. p < n) (places kept) →
    AreKnown n kept
known_runs n [] proper known = tt
known_runs n (run ∷ kept) proper known = (
  first_known n run.len run.author (places kept) proper.0 known,
  known_runs n kept proper.2 (each-right (λ p. p < n) (replicate run.len run.author) (places kept) known),
)
  where
    first_known : (n len author : ℕ) (rest : List ℕ) → 1 ≤ len → AllByRecursion (λ p. p < n)
        (replicate len author ++ rest) → author < n
    first_known n zero author rest some known = absurd (omega arith)
    first_known n (suc len) author rest some known = known.0

-- the first run is not of this author
abbrev Starts : Author → List AuthorRun → Type 0
Starts author [] = Unit {0}
Starts author (run ∷ rows) = same_author author run.author ≡ false

join_apart : (author : Author) (rows : List AuthorRun) → Starts author rows → join_run author rows
    ≡ (let run : AuthorRun = record { author = author; len = 1 } in run ∷ rows)
join_apart author [] apart = refl
join_apart author (run ∷ rows) apart = rw apart refl

-- a stretch of one author in front of another's
runs_stretch : (author : Author) (n : ℕ) (rest : List Author) (rows : List AuthorRun) → runs rest ≡ rows →
    Starts author rows
    → runs (replicate (suc n) author ++ rest) ≡ (let run : AuthorRun = record { author = author; len = suc n } in
    run ∷ rows)
runs_stretch author zero rest rows are apart = ap (join_run author) are ∙ join_apart author rows apart
runs_stretch author (suc n) rest rows are apart =
    ap (join_run author) (runs_stretch author n rest rows are apart)
    ∙ rw (same_author-refl author, add-one (suc n)) refl

runs_front : (author : Author) (n : ℕ) (rest : List Author) (rows : List AuthorRun) → 1 ≤ n → runs rest ≡ rows →
    Starts author rows
    → runs (replicate n author ++ rest) ≡ (let run : AuthorRun = record { author = author; len = n } in run ∷ rows)
runs_front author zero rest rows some are apart = absurd (omega arith)
runs_front author (suc n) rest rows some are apart = runs_stretch author n rest rows are apart

starts_known : (table : List Author) (kept : List StoredRun) (author : ℕ) → IsOnce table → author < length table →
    AreKnown (length table) kept → StartsApart author kept
    → Starts (author_in table author) (map (author_run table) kept)
starts_known table [] author once here known apart = tt
starts_known table (run ∷ kept) author once here known apart =
    same_author-apart (author_in table author) (author_in table run.author)
    (λ same. apart (once author run.author here known.0 same))

-- proper runs of a table that has each author once are the fewest
pub fewest : (table : List Author) (kept : List StoredRun) → IsOnce table → IsProper kept → AreKnown (length table) kept →
    runs (authors_in table kept) ≡ map (author_run table) kept
fewest table [] once proper known = refl
fewest table (run ∷ kept) once proper known =
    ap runs (map-append (author_in table) (replicate run.len run.author) (places kept)
    ∙ ap (λ xs. xs ++ authors_in table kept) (map-replicate (author_in table) run.len run.author))
    ∙ runs_front (author_in table run.author) run.len (authors_in table kept) (map (author_run table) kept) proper.0
    (fewest table kept once proper.2 known.1)
    (starts_known table kept run.author once known.0 known.1 proper.1)
