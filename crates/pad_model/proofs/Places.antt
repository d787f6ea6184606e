-- The place of a scan as a number.
use Rattle.std.proofs.Common.{◌≡◌, ℕ, suc, ◌+◌, ◌<◌, ◌≤◌, Bool, true, false, not, cond, List, [], ◌∷◌, ◌++◌, length}
use Rattle.std.proofs.Common.{take, drop, Option, Some, None, refl, sym, ap, ◌∙◌, arith, add-one}
use Rattle.std.specs.List.{prefix_len, position_or_len}
use Rattle.pad_model.specs.Stamp.{Stamp, newer, same_stamp}
use Rattle.pad_model.specs.Character.{Character}
use Rattle.pad_model.specs.Scan.{scan_from, scan_behind, put}
use Rattle.pad_model.proofs.Newer.{split}

-- the block at place n
abbrev pub spliced : {A : Type 0} → ℕ → List A → List A → List A
spliced n block xs = take n xs ++ block ++ drop n xs

-- how many items at the front are newer
abbrev pub passed : {A : Type 0} → (A → Character) → Stamp → List A → ℕ
passed at first xs = prefix_len (λ x. newer (at x).stamp first) xs

pub scan_from-spliced : {A : Type 0} (at : A → Character) (first : Stamp) (block xs : List A) →
    scan_from at first block xs ≡ spliced (passed at first xs) block xs
scan_from-spliced at first block [] = sym (Rattle.std.proofs.Common.append-nil block)
scan_from-spliced at first block (x ∷ xs) =
    split (newer (at x).stamp first)
    (λ e. rw (e, Rattle.std.proofs.Common.one-add) (ap (λ l. x ∷ l) (scan_from-spliced at first block xs)))
    (λ e. rw e refl)

-- how many items there are up to and including the one with the stamp p
abbrev pub up_to : {A : Type 0} → (A → Character) → Stamp → List A → ℕ
up_to at p [] = 0
up_to at p (x ∷ xs) = cond (same_stamp (at x).stamp p) 1 (suc (up_to at p xs))

-- the place of a block: after its parent, past each newer item
abbrev pub place_in : {A : Type 0} → (A → Character) → Option Stamp → Stamp → List A → ℕ
place_in at None first xs = passed at first xs
place_in at (Some p) first xs = up_to at p xs + passed at first (drop (up_to at p xs) xs)

scan_behind-spliced : {A : Type 0} (at : A → Character) (p first : Stamp) (block xs : List A) →
    scan_behind at p first block xs ≡ spliced (place_in at (Some p) first xs) block xs
scan_behind-spliced at p first block [] = sym (Rattle.std.proofs.Common.append-nil block)
scan_behind-spliced at p first block (x ∷ xs) =
    split (same_stamp (at x).stamp p)
    (λ e. rw (e, Rattle.std.proofs.Common.one-add) (ap (λ l. x ∷ l) (scan_from-spliced at first block xs)))
    (λ e. rw (e, Rattle.std.proofs.Common.suc-add) (ap (λ l. x ∷ l) (scan_behind-spliced at p first block xs)))

-- putting a block is putting it at its place
pub put-spliced : {A : Type 0} (at : A → Character) (p : Option Stamp) (first : Stamp) (block xs : List A) →
    put at p first block xs ≡ spliced (place_in at p first xs) block xs
put-spliced at None first block xs = scan_from-spliced at first block xs
put-spliced at (Some p) first block xs = scan_behind-spliced at p first block xs

-- the first place at which an item has the stamp, or the length
pub up_to-found : {A : Type 0} (at : A → Character) (p : Stamp) (xs : List A) →
    position_or_len (λ x. same_stamp (at x).stamp p) xs < length xs → up_to at p xs
    ≡ position_or_len (λ x. same_stamp (at x).stamp p) xs + 1
up_to-found at p [] h = absurd (omega arith)
up_to-found at p (x ∷ xs) h =
    split (same_stamp (at x).stamp p) (λ e. rw e refl)
    (λ e. let h' = rw e at h in
    let more : up_to at p xs ≡ position_or_len (λ x. same_stamp (at x).stamp p) xs + 1 =
    up_to-found at p xs (omega arith) in
    rw e (omega arith))

pub up_to-missing : {A : Type 0} (at : A → Character) (p : Stamp) (xs : List A) → length xs
    ≤ position_or_len (λ x. same_stamp (at x).stamp p) xs → up_to at p xs ≡ length xs
up_to-missing at p [] h = refl
up_to-missing at p (x ∷ xs) h =
    split (same_stamp (at x).stamp p) (λ e. let h' = rw e at h in absurd (omega arith))
    (λ e. let h' = rw e at h in
    let more : up_to at p xs ≡ length xs = up_to-missing at p xs (omega arith) in
    rw e (omega arith))
