-- The first line of a file, with whatever lines come later.
use Rattle.std.proofs.Common.{◌≡◌, ◌⊎◌, inl, inr, ℕ, suc, ◌-◌, Bool, true, false, List, [], ◌++◌, length, take, drop}
use Rattle.std.proofs.Common.{Option, Some, None, Result, Ok, Err, MatchOption, MatchResult, refl, sym, ap, ◌∙◌, subst}
use Rattle.std.proofs.lemmas.List.{take_rest}
use Rattle.std.specs.List.{list_any, position}
use Rattle.pad_core.specs.Machine.{Machine}
use Rattle.store_records.specs.Records.{unnamed}
use Rattle.store_format.specs.Batches.{begins_batch}
use Rattle.store_format.specs.Files.{Read, begun, by_text, file_read, first_read, read_lines, read_on, said_at, so_far, torn_front}
use Rattle.store_format.specs.Files.{unbegun}
use Rattle.store_format.specs.Entries.{entry_said}
use Rattle.store_format.specs.Lines.{is_feed, sum_after, text_behind, whole_lines}
use Rattle.store_format.specs.Pieces.{AreDamaged, IsFresh, LeadOn, lines_from, unless_begun}
use Rattle.store_format.specs.declared.loading.LoadStage.{LoadStage}
use Rattle.store_format.specs.declared.loading.LoadStage.TheVariants.{Start, Linked, Unbegun}
use Rattle.store_format.specs.declared.reader.Damage.{Damage}
use Rattle.store_format.specs.declared.reader.Damage.TheVariants.{Memory}
use Rattle.store_format.specs.declared.reader.Tail.{Tail}
use Rattle.store_format.proofs.Feeds.{first_whole}

-- what a file leads to, from what the first line leads to
first_so : (replica present : ℕ) (name bytes : List ℕ) (end : ℕ) (later : List (List ℕ)) (found : Result Read Damage) →
    Some end ≡ position is_feed bytes →
    first_read replica present name (take end bytes) (whole_lines bytes ++ later) ≡ found →
    file_read replica present name (whole_lines bytes ++ later)
    ≡ read_on (λ before. read_lines 2 name before (whole_lines (drop (suc end) bytes) ++ later)) found
first_so replica present name bytes end later found is leads =
    ap (λ (ls : List (List ℕ)). file_read replica present name (ls ++ later)) (first_whole bytes end (sym is))
    ∙ ap (read_on (λ before. read_lines 2 name before (whole_lines (drop (suc end) bytes) ++ later)))
    (ap (λ (ls : List (List ℕ)). first_read replica present name (take end bytes) (ls ++ later))
    (sym (first_whole bytes end (sym is))) ∙ leads)

-- damage of the first line is the result
pub first_fails : (name : List ℕ) (m : Machine) (bytes : List ℕ) (end : ℕ) (damage : Damage) →
    Some end ≡ position is_feed bytes →
    (damage ≡ Memory) ⊎ ((replica present : ℕ) (lines : List (List ℕ)) →
    first_read replica present name (take end bytes) lines ≡ Err damage) →
    AreDamaged name m Start (whole_lines bytes) damage
first_fails name m bytes end damage is (inl memory) = inl memory
first_fails name m bytes end damage is (inr wrong) =
    inr (λ later. first_so m.replica m.presence.limit name bytes end later (Err damage) is
    (wrong m.replica m.presence.limit (whole_lines bytes ++ later)))

-- the damage of a first line that is not linked, unless a line begins a batch
front_so : (line : List ℕ) (lines : List (List ℕ)) (b : Bool) → list_any begins_batch lines ≡ b →
    (let r : Result Read Damage = Err (torn_front line lines) in r) ≡ unless_begun 1 (Err (unbegun line)) lines
front_so line lines true is = rw is refl
front_so line lines false is = rw is refl

-- a file whose first line is not linked
first_unlinked : (replica present : ℕ) (name bytes : List ℕ) (end : ℕ) (later : List (List ℕ)) →
    Some end ≡ position is_feed bytes → text_behind [] (take end bytes) ≡ None →
    file_read replica present name (whole_lines bytes ++ later)
    ≡ unless_begun 1 (Err (unbegun (take end bytes))) (whole_lines bytes ++ later)
first_unlinked replica present name bytes end later is unlinked =
    first_so replica present name bytes end later (Err (torn_front (take end bytes) (whole_lines bytes ++ later))) is
    (ap (by_text (Err (torn_front (take end bytes) (whole_lines bytes ++ later)))
    (λ text. read_on (begun replica present name (take end bytes) (sum_after [] text)) (said_at 1 (entry_said text))))
    unlinked)
    ∙ front_so (take end bytes) (whole_lines bytes ++ later) (list_any begins_batch (whole_lines bytes ++ later)) refl

-- if a line begins a batch, this is the damage
pub first_torn_fails : (name : List ℕ) (m : Machine) (bytes : List ℕ) (end : ℕ) (damage : Damage) →
    Some end ≡ position is_feed bytes → text_behind [] (take end bytes) ≡ None →
    (damage ≡ Memory) ⊎ ((found : Result Read Damage) (later : List (List ℕ)) →
    unless_begun 1 found (whole_lines bytes ++ later) ≡ Err damage) →
    AreDamaged name m Start (whole_lines bytes) damage
first_torn_fails name m bytes end damage is unlinked (inl memory) = inl memory
first_torn_fails name m bytes end damage is unlinked (inr wrong) =
    inr (λ later. first_unlinked m.replica m.presence.limit name bytes end later is unlinked
    ∙ wrong (Err (unbegun (take end bytes))) later)

-- if none does, the later lines decide
pub first_torn : (name : List ℕ) (m : Machine) (bytes : List ℕ) (end : ℕ) (damage : Damage) →
    Some end ≡ position is_feed bytes → text_behind [] (take end bytes) ≡ None → damage ≡ unbegun (take end bytes) →
    ((found : Result Read Damage) (later : List (List ℕ)) →
    unless_begun 1 found (whole_lines bytes ++ later) ≡ unless_begun 1 found later) →
    LeadOn name m Start (whole_lines bytes) m (Unbegun damage)
first_torn name m bytes end damage is unlinked so passed later =
    first_unlinked m.replica m.presence.limit name bytes end later is unlinked
    ∙ (passed (Err (unbegun (take end bytes))) later ∙ ap (λ d. unless_begun 1 (Err d) later) (sym so))

-- the lines after the first one lead to what all lead to
first_same : (name : List ℕ) (m : Machine) (bytes rest : List ℕ) (end k : ℕ) (first : Tail) (later : List (List ℕ)) →
    k ≡ suc end → take (length bytes - k) (drop k bytes) ≡ rest → Some end ≡ position is_feed bytes →
    m ≡ unnamed m.replica m.presence.limit →
    ((replica present : ℕ) (lines : List (List ℕ)) → first_read replica present name (take end bytes) lines
    ≡ Ok (so_far (unnamed replica present) first)) →
    lines_from name m Start (whole_lines bytes ++ later) ≡ lines_from name m (Linked first 1) (whole_lines rest ++ later)
first_same name m bytes rest end k first later behind left is fresh leads =
    first_so m.replica m.presence.limit name bytes end later (Ok (so_far (unnamed m.replica m.presence.limit) first)) is
    (leads m.replica m.presence.limit (whole_lines bytes ++ later))
    ∙ (ap (λ (n : Machine). read_lines 2 name (so_far n first) (whole_lines (drop (suc end) bytes) ++ later)) (sym fresh)
    ∙ ap (λ (bs : List ℕ). read_lines 2 name (so_far m first) (whole_lines bs ++ later))
    (ap (λ i. drop i bytes) (sym behind) ∙ (sym (take_rest bytes k) ∙ left)))

-- so whatever they lead to, all do
pub first_leads : (name : List ℕ) (m new : Machine) (bytes rest : List ℕ) (end k : ℕ) (first : Tail)
    (r : Result LoadStage Damage) → k ≡ suc end → take (length bytes - k) (drop k bytes) ≡ rest →
    Some end ≡ position is_feed bytes → IsFresh m Start →
    ((replica present : ℕ) (lines : List (List ℕ)) → first_read replica present name (take end bytes) lines
    ≡ Ok (so_far (unnamed replica present) first)) →
    MatchResult r (λ next. LeadOn name m (Linked first 1) (whole_lines rest) new next)
    (λ e. AreDamaged name m (Linked first 1) (whole_lines rest) e) →
    MatchResult r (λ next. LeadOn name m Start (whole_lines bytes) new next)
    (λ e. AreDamaged name m Start (whole_lines bytes) e)
first_leads name m new bytes rest end k first (Ok next) behind left is fresh leads on =
    λ later. first_same name m bytes rest end k first later behind left is fresh leads ∙ on later
first_leads name m new bytes rest end k first (Err e) behind left is fresh leads (inl memory) = inl memory
first_leads name m new bytes rest end k first (Err e) behind left is fresh leads (inr wrong) =
    inr (λ later. first_same name m bytes rest end k first later behind left is fresh leads ∙ wrong later)

-- what holds for an option holds for its value
pub of_none : {A : Type 0} (P : Type 0) (Q : A → Type 0) (o : Option A) → o ≡ None → MatchOption o P Q → P
of_none P Q o is h = subst (λ q. MatchOption q P Q) is h

pub of_some : {A : Type 0} (P : Type 0) (Q : A → Type 0) (o : Option A) (x : A) → o ≡ Some x → MatchOption o P Q → Q x
of_some P Q o x is h = subst (λ q. MatchOption q P Q) is h
