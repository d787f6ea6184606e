-- A copy has the first bytes of its file, and a crash leaves of it what a crash could leave of the file.
use Rattle.std.proofs.Common.{◌≡◌, ◌⊎◌, inl, inr, ℕ, zero, suc, ◌≤◌, ◌<◌, nat_le, min, true, false, List, [], ◌∷◌}
use Rattle.std.proofs.Common.{◌++◌, length, take, refl, sym, ap, ◌∙◌, subst, arith, append_assoc}
use Rattle.std.proofs.lemmas.Bool.Decides.{leb_tells}
use Rattle.std.proofs.lemmas.List.{length-append, length-take}
use Rattle.std.proofs.Math.Seq.{take-append-le, take-append_seam, take-nil}
use Rattle.std.specs.List.{AllByRecursion}
use Rattle.store_format.specs.Laws.{Disk, HasSynced, IsLine, IsTorn, MayLeave, file_of, last_sum}
use Rattle.store_format.specs.Laws.MayLeave.{cut, torn}
use Rattle.store_format.specs.Lines.{bytes_of, line_text, lines_behind, sum_after, whole_lines}
use Rattle.store_format.proofs.Fronts.{front as lines_front}
use Rattle.file_copies.specs.Laws.{IsCopy}
use Rattle.file_copies.specs.Laws.IsCopy.{begins, takes}
use Rattle.file_copies.specs.Stretches.{are_whole}
use Rattle.file_copies.proofs.Stretches.{whole_bytes}

-- a copy has the first bytes of its file
pub front : (file copy : List ℕ) → IsCopy file copy → (rest : List ℕ) × (file ≡ copy ++ rest)
front file copy (begins _ none) = (file, ap (λ (c : List ℕ). c ++ file) (sym none))
front file copy (takes _ had before lines after before_file there same is) = at (front file had before_file)
  where
    at : ((rest : List ℕ) × (file ≡ had ++ rest)) → (rest : List ℕ) × (file ≡ copy ++ rest)
    at (rest, fits) = (
      after,
      there ∙ (ap (λ (b : List ℕ). b ++ (lines ++ after)) before_had
          ∙ (sym (append_assoc had lines after) ∙ ap (λ (c : List ℕ). c ++ after) (sym is))),
    )
      where
        before_had : before ≡ had
        before_had = sym (take-append_seam before (lines ++ after))
            ∙ (ap (take (length before)) (sym there)
            ∙ (ap (λ (n : ℕ). take n file) same ∙ (ap (take (length had)) fits ∙ take-append_seam had rest)))

-- a copy of a file is one of a file that has grown
pub grown : (file more copy : List ℕ) → IsCopy file copy → IsCopy (file ++ more) copy
grown file more copy (begins _ none) = begins copy none
grown file more copy (takes _ had before lines after of there same is) =
    takes copy had before lines (after ++ more) (grown file more had of)
    (ap (λ (f : List ℕ). f ++ more) there
    ∙ (append_assoc before (lines ++ after) more ∙ ap (λ (b : List ℕ). before ++ b) (append_assoc lines after more)))
    same is

-- a copy of whole lines has the lines of the first texts
pub first_lines : (texts : List (List ℕ)) (copy : List ℕ) → AllByRecursion IsLine texts → IsCopy (file_of texts) copy →
    are_whole copy ≡ true → (count : ℕ) × (copy ≡ file_of (take count texts))
first_lines texts copy plain of whole = at (front (file_of texts) copy of) (lines_front [] texts (length copy) plain)
  where
    at : ((rest : List ℕ) × (file_of texts ≡ copy ++ rest)) →
        ((count : ℕ) × (whole_lines (take (length copy) (file_of texts)) ≡ lines_behind [] (take count texts))
        × ((whole : ℕ) → whole ≤ length texts → length (file_of (take whole texts)) ≤ length copy → whole ≤ count)) →
        (count : ℕ) × (copy ≡ file_of (take count texts))
    at (rest, fits) (count, lines, least) = (count, whole_bytes copy whole ∙ ap bytes_of (ap whole_lines first ∙ lines))
      where
        first : copy ≡ take (length copy) (file_of texts)
        first = sym (take-append_seam copy rest) ∙ ap (take (length copy)) (sym fits)

-- the lines of the first texts are the first bytes of all
lines_split : (before : List ℕ) (count : ℕ) (texts : List (List ℕ)) →
    (rest : List ℕ) × (bytes_of (lines_behind before texts) ≡ bytes_of (lines_behind before (take count texts)) ++ rest)
lines_split before zero texts = (bytes_of (lines_behind before texts), refl)
lines_split before (suc count) [] = ([], refl)
lines_split before (suc count) (text ∷ texts) = at (lines_split (sum_after before text) count texts)
  where
    at : ((rest : List ℕ) × (bytes_of (lines_behind (sum_after before text) texts)
        ≡ bytes_of (lines_behind (sum_after before text) (take count texts)) ++ rest)) →
        (rest : List ℕ) × (bytes_of (lines_behind before (text ∷ texts))
        ≡ bytes_of (lines_behind before (take (suc count) (text ∷ texts))) ++ rest)
    at (rest, is) = (
      rest,
      ap (λ (b : List ℕ). line_text before text ++ 10 ∷ b) is
          ∙ sym (append_assoc (line_text before text) (10 ∷ bytes_of (lines_behind (sum_after before text) (take count texts)))
          rest),
    )

take_again : (n count : ℕ) (texts : List (List ℕ)) → take n (take count texts) ≡ take (min n count) texts
take_again zero count texts = ap (λ (k : ℕ). take k texts) none
  where
    none : 0 ≡ min 0 count
    none = omega arith
take_again (suc n) zero texts = ap (λ (k : ℕ). take k texts) none
  where
    none : 0 ≡ min (suc n) 0
    none = omega arith
take_again (suc n) (suc count) [] = sym (take-nil (min (suc n) (suc count)))
take_again (suc n) (suc count) (text ∷ texts) = ap (λ (ts : List (List ℕ)). text ∷ ts) (take_again n count texts)
    ∙ ap (λ (k : ℕ). take k (text ∷ texts)) more
  where
    more : suc (min n count) ≡ min (suc n) (suc count)
    more = omega arith

-- more texts have more bytes
longer : (before : List ℕ) (few many : ℕ) (texts : List (List ℕ)) → few < many → many ≤ length texts →
    length (bytes_of (lines_behind before (take few texts))) < length (bytes_of (lines_behind before (take many texts)))
longer before few zero texts low high = absurd (omega (arith, low))
longer before few (suc many) [] low high = absurd (omega (arith, high))
longer before zero (suc many) (text ∷ texts) low high =
    omega (arith, length-append (line_text before text) (10 ∷ bytes_of (lines_behind (sum_after before text) (take many texts))))
longer before (suc few) (suc many) (text ∷ texts) low high = omega (
  arith,
  length-append (line_text before text) (10 ∷ bytes_of (lines_behind (sum_after before text) (take few texts))),
  length-append (line_text before text) (10 ∷ bytes_of (lines_behind (sum_after before text) (take many texts))),
  longer (sum_after before text) few many texts (omega (arith, low)) (omega (arith, high)),
)

-- what a crash leaves of the lines of the first texts could be left of the lines of all
pub left_of_all : (texts : List (List ℕ)) (count : ℕ) (disk : Disk) (bytes : List ℕ) →
    1 ≤ count → count ≤ length texts → disk.written ≡ file_of (take count texts) → disk.synced ≤ length disk.written →
    MayLeave disk (take count texts) bytes →
    MayLeave (record { written = file_of texts; synced = disk.synced }) texts bytes
left_of_all texts zero disk bytes some few written synced may = absurd (omega (arith, some))
left_of_all texts (suc count) disk bytes some few written synced (cut left kept is first) =
    at (lines_split [] (suc count) texts) (leb_tells left (length disk.written))
  where
    first_of : take 1 (take (suc count) texts) ≡ take 1 texts
    first_of = take_again 1 (suc count) texts ∙ ap (λ (n : ℕ). take n texts) one
      where
        one : min 1 (suc count) ≡ 1
        one = omega arith

    far : length (file_of (take 1 texts)) ≤ length bytes
    far = subst (λ (ts : List (List ℕ)). length (file_of ts) ≤ length bytes) first_of first

    at : ((rest : List ℕ) × (file_of texts ≡ file_of (take (suc count) texts) ++ rest)) →
        ((nat_le left (length disk.written) ≡ true) × (left ≤ length disk.written))
        ⊎ ((nat_le left (length disk.written) ≡ false) × (length disk.written < left)) →
        MayLeave (record { written = file_of texts; synced = disk.synced }) texts bytes
    at (rest, all) (inl (_, low)) = cut left kept
        (is ∙ (sym (take-append-le left disk.written rest low)
        ∙ ap (take left) (ap (λ (w : List ℕ). w ++ rest) written ∙ sym all))) far
    at (rest, all) (inr (_, high)) = cut (length disk.written) synced
        (is ∙ (whole left disk.written high
        ∙ (sym (take-append_seam disk.written rest)
        ∙ ap (take (length disk.written)) (ap (λ (w : List ℕ). w ++ rest) written ∙ sym all)))) far
      where
        whole : (n : ℕ) (bs : List ℕ) → length bs < n → take n bs ≡ bs
        whole zero bs low = absurd (omega (arith, low))
        whole (suc n) [] low = refl
        whole (suc n) (b ∷ bs) low = ap (λ (more : List ℕ). b ∷ more) (whole n bs (omega (arith, low)))
left_of_all texts (suc count) disk bytes some few written synced (torn lines tail kept one is none) =
    torn (min lines (suc count)) tail kept_of_all (omega (arith, one)) (is ∙ ap (λ (ts : List (List ℕ)). file_of ts ++ tail) again)
    (subst (λ (ts : List (List ℕ)). IsTorn (last_sum [] ts) (whole_lines tail)) again none)
  where
    again : take lines (take (suc count) texts) ≡ take (min lines (suc count)) texts
    again = take_again lines (suc count) texts

    kept_of_all : HasSynced (record { written = file_of texts; synced = disk.synced }) texts (min lines (suc count))
    kept_of_all whole within short = at (leb_tells whole (suc count))
      where
        at : ((nat_le whole (suc count) ≡ true) × (whole ≤ suc count))
            ⊎ ((nat_le whole (suc count) ≡ false) × (suc count < whole)) → whole ≤ min lines (suc count)
        at (inr (_, high)) = absurd (omega (
          arith,
          longer [] (suc count) whole texts high within,
          short,
          synced,
          ap length written,
        ))
        at (inl (_, low)) = omega (arith, low, kept whole fits shorter)
          where
            fits : whole ≤ length (take (suc count) texts)
            fits = omega (arith, low, few, length-take (suc count) texts)

            few_enough : min whole (suc count) ≡ whole
            few_enough = omega (arith, low)

            shorter : length (file_of (take whole (take (suc count) texts))) ≤ disk.synced
            shorter = subst (λ (ts : List (List ℕ)). length (file_of ts) ≤ disk.synced)
                (sym (take_again whole (suc count) texts ∙ ap (λ (n : ℕ). take n texts) few_enough)) short
