-- A file may be read in pieces: whole lines in front lead on, whatever comes later.
use Rattle.std.proofs.Common.{◌≡◌, ◌≢◌, ◌⊎◌, inl, inr, ℕ, ◌+◌, ◌-◌, ◌≤◌, Bool, true, false, List, [], ◌∷◌, ◌++◌}
use Rattle.std.proofs.Common.{length, take, drop, Result, Ok, Err, MatchResult, refl, sym, ap, ◌∙◌, subst, arith}
use Rattle.std.proofs.Common.{append_assoc, append-nil}
use Rattle.std.proofs.lemmas.List.{length-take-le, take-append-drop, take_rest}
use Rattle.pad_core.specs.Machine.{Machine}
use Rattle.store_format.specs.Files.{Read, if_named, lines_read, read_on}
use Rattle.store_format.specs.Lines.{is_feed, whole_lines, with_byte}
use Rattle.store_format.specs.Pieces.{AreDamaged, AreLines, IsBegun, IsFresh, IsWithin, LeadOn, Progress, bytes_from, lines_from}
use Rattle.store_format.specs.Pieces.{rest_read}
use Rattle.store_format.specs.declared.loading.LoadStage.{LoadStage}
use Rattle.store_format.specs.declared.loading.LoadStage.TheVariants.{Start, Linked, Torn, Unbegun}
use Rattle.store_format.specs.declared.reader.Damage.{Damage}
use Rattle.store_format.specs.declared.reader.Damage.TheVariants.{Memory}

-- what comes after a line feed makes lines of its own
abbrev Divides : List ℕ → Type 0
Divides front = (first : List ℕ) × (more : List (List ℕ)) × (whole_lines (front ++ 10 ∷ []) ≡ first ∷ more)
    × ((later : List ℕ) → whole_lines ((front ++ 10 ∷ []) ++ later) ≡ first ∷ (more ++ whole_lines later))

divides : (front : List ℕ) → Divides front
divides [] = ([], [], refl, λ later. refl)
divides (byte ∷ front) = at (is_feed byte) refl (divides front)
  where
    at : (b : Bool) → is_feed byte ≡ b → Divides front → Divides (byte ∷ front)
    at true h (first, more, is, all) = (
      [],
      first ∷ more,
      rw h (ap (λ (ls : List (List ℕ)). [] ∷ ls) is),
      λ later. rw h (ap (λ (ls : List (List ℕ)). [] ∷ ls) (all later)),
    )
    at false h (first, more, is, all) = (
      byte ∷ first,
      more,
      rw h (ap (with_byte byte) is),
      λ later. rw h (ap (with_byte byte) (all later)),
    )

no_lines : (first : List ℕ) (more : List (List ℕ)) → first ∷ more ≡ [] → ⊥
no_lines first more e = cc

-- some whole lines have a first one
pub some_lines : (bytes : List ℕ) → AreLines bytes → bytes ≢ [] → whole_lines bytes ≡ [] → ⊥
some_lines bytes (inl is) some none = some is
some_lines bytes (inr (front, is)) some none = at (divides front)
  where
    at : Divides front → ⊥
    at (first, more, lines, all) = no_lines first more (sym lines ∙ (sym (ap whole_lines is) ∙ none))

-- where there is a line, the lines decide
from_lines : (name : List ℕ) (m : Machine) (stage : LoadStage) (bytes first : List ℕ) (more : List (List ℕ)) →
    whole_lines bytes ≡ first ∷ more →
    bytes_from name m stage bytes ≡ read_on (if_named name) (lines_from name m stage (first ∷ more))
from_lines name m Start bytes first more is = ap (lines_read m.replica m.presence.limit name bytes) is
from_lines name m (Linked tail number) bytes first more is =
    ap (λ (ls : List (List ℕ)). read_on (if_named name) (lines_from name m (Linked tail number) ls)) is
from_lines name m (Torn tail number) bytes first more is =
    ap (λ (ls : List (List ℕ)). read_on (if_named name) (lines_from name m (Torn tail number) ls)) is
from_lines name m (Unbegun damage) bytes first more is =
    ap (λ (ls : List (List ℕ)). read_on (if_named name) (lines_from name m (Unbegun damage) ls)) is

-- after the first line too
begun_from : (name : List ℕ) (m : Machine) (stage : LoadStage) (bytes : List ℕ) → IsBegun stage →
    bytes_from name m stage bytes ≡ read_on (if_named name) (lines_from name m stage (whole_lines bytes))
begun_from name m Start bytes h = absurd h
begun_from name m (Linked tail number) bytes h = refl
begun_from name m (Torn tail number) bytes h = refl
begun_from name m (Unbegun damage) bytes h = refl

-- what some whole lines and later bytes lead to
fronted : (name : List ℕ) (m : Machine) (stage : LoadStage) (bytes rest : List ℕ) → AreLines bytes → bytes ≢ [] →
    bytes_from name m stage (bytes ++ rest)
    ≡ read_on (if_named name) (lines_from name m stage (whole_lines bytes ++ whole_lines rest))
fronted name m stage bytes rest (inl is) some = absurd (some is)
fronted name m stage bytes rest (inr (front, is)) some =
    subst (λ bs. bytes_from name m stage (bs ++ rest)
    ≡ read_on (if_named name) (lines_from name m stage (whole_lines bs ++ whole_lines rest))) (sym is) (at (divides front))
  where
    at : Divides front → bytes_from name m stage ((front ++ 10 ∷ []) ++ rest)
        ≡ read_on (if_named name) (lines_from name m stage (whole_lines (front ++ 10 ∷ []) ++ whole_lines rest))
    at (first, more, lines, all) =
        from_lines name m stage ((front ++ 10 ∷ []) ++ rest) first (more ++ whole_lines rest) (all rest)
        ∙ ap (λ (ls : List (List ℕ)). read_on (if_named name) (lines_from name m stage (ls ++ whole_lines rest))) (sym lines)

pub not_empty : (bytes : List ℕ) (end : ℕ) → end ≤ length bytes → end ≢ 0 → take end bytes ≢ []
not_empty bytes end low some none = some (sym (length-take-le end bytes low) ∙ ap length none)

parted : (bytes later : List ℕ) (end : ℕ) → bytes ++ later ≡ take end bytes ++ (drop end bytes ++ later)
parted bytes later end = ap (λ (bs : List ℕ). bs ++ later) (sym (take-append-drop end bytes))
    ∙ append_assoc (take end bytes) (drop end bytes) later

-- the whole lines of a piece were read, so the bytes after them decide
pub leads_on : (name : List ℕ) (m new : Machine) (stage next : LoadStage) (bytes later : List ℕ) (end : ℕ) → end ≤ length bytes →
    end ≢ 0 → AreLines (take end bytes) → LeadOn name m stage (whole_lines (take end bytes)) new next → IsBegun next →
    bytes_from name m stage (bytes ++ later) ≡ bytes_from name new next (drop end bytes ++ later)
leads_on name m new stage next bytes later end low some whole leads begun =
    ap (bytes_from name m stage) (parted bytes later end)
    ∙ (fronted name m stage (take end bytes) (drop end bytes ++ later) whole (not_empty bytes end low some)
    ∙ (ap (read_on (if_named name)) (leads (whole_lines (drop end bytes ++ later)))
    ∙ sym (begun_from name new next (drop end bytes ++ later) begun)))

-- one of them is damaged, whatever comes later
pub stays_damaged : (name : List ℕ) (m : Machine) (stage : LoadStage) (bytes : List ℕ) (end : ℕ) (damage : Damage) →
    end ≤ length bytes → end ≢ 0 → AreLines (take end bytes) →
    AreDamaged name m stage (whole_lines (take end bytes)) damage →
    (damage ≡ Memory) ⊎ ((later : List ℕ) → bytes_from name m stage (bytes ++ later) ≡ Err damage)
stays_damaged name m stage bytes end damage low some whole (inl memory) = inl memory
stays_damaged name m stage bytes end damage low some whole (inr wrong) =
    inr (λ later. ap (bytes_from name m stage) (parted bytes later end)
    ∙ (fronted name m stage (take end bytes) (drop end bytes ++ later) whole (not_empty bytes end low some)
    ∙ ap (read_on (if_named name)) (wrong (whole_lines (drop end bytes ++ later)))))

-- more room
pub widened : (low high : ℕ) (stage : LoadStage) → low ≤ high → IsWithin low stage → IsWithin high stage
widened low high Start more h = tt
widened low high (Linked tail number) more (whole, count) = (omega (arith, more, whole), omega (arith, more, count))
widened low high (Torn tail number) more whole = omega (arith, more, whole)
widened low high (Unbegun damage) more h = tt

-- after the first line, the pad need not be as it was
pub begun_fresh : (m : Machine) (stage : LoadStage) → IsBegun stage → IsFresh m stage
begun_fresh m Start h = absurd h
begun_fresh m (Linked tail number) h = tt
begun_fresh m (Torn tail number) h = tt
begun_fresh m (Unbegun damage) h = tt

-- after a piece, no line and no byte is counted twice
pub within_piece : (taken end : ℕ) (bytes : List ℕ) (stage next : LoadStage) → end ≤ length bytes → IsWithin taken stage →
    ((most : ℕ) → length (take end bytes) ≤ most → IsWithin (most - length (take end bytes)) stage → IsWithin most next) →
    IsWithin (taken + end) next
within_piece taken end bytes stage next low kept on = at (length-take-le end bytes low)
  where
    at : length (take end bytes) ≡ end → IsWithin (taken + end) next
    at is = on (taken + end) (omega (arith, is))
        (widened taken (taken + end - length (take end bytes)) stage (omega (arith, is)) kept)

-- if nothing comes later, what is damaged whatever comes later is damaged
pub ends_damaged : (name : List ℕ) (old : Progress) (bytes : List ℕ) (damage : Damage) →
    (damage ≡ Memory) ⊎ ((later : List ℕ) → rest_read name old (bytes ++ later) ≡ Err damage) →
    (damage ≡ Memory) ⊎ (rest_read name old bytes ≡ Err damage)
ends_damaged name old bytes damage (inl memory) = inl memory
ends_damaged name old bytes damage (inr wrong) = inr (ap (rest_read name old) (sym (append-nil bytes)) ∙ wrong [])

-- and what is left after the last piece leads to the result
pub ends_so : {A : Type 0} (told : A → Read) (name : List ℕ) (old last : Progress) (bytes rest : List ℕ) (end : ℕ)
    (r : Result A Damage) → take (length bytes - end) (drop end bytes) ≡ rest →
    ((later : List ℕ) → rest_read name old (bytes ++ later) ≡ rest_read name last (drop end bytes ++ later)) →
    MatchResult r (λ x. rest_read name last rest ≡ Ok (told x)) (λ e. rest_read name last rest ≡ Err e) →
    MatchResult r (λ x. rest_read name old bytes ≡ Ok (told x))
    (λ e. (e ≡ Memory) ⊎ (rest_read name old bytes ≡ Err e))
ends_so {A = A} told name old last bytes rest end r left leads = at r
  where
    same : rest_read name old bytes ≡ rest_read name last rest
    same = ap (rest_read name old) (sym (append-nil bytes))
        ∙ (leads [] ∙ ap (rest_read name last) (append-nil (drop end bytes) ∙ (sym (take_rest bytes end) ∙ left)))

    at : (q : Result A Damage) →
        MatchResult q (λ x. rest_read name last rest ≡ Ok (told x)) (λ e. rest_read name last rest ≡ Err e) →
        MatchResult q (λ x. rest_read name old bytes ≡ Ok (told x))
        (λ e. (e ≡ Memory) ⊎ (rest_read name old bytes ≡ Err e))
    at (Ok x) h = same ∙ h
    at (Err e) h = inr (same ∙ h)
