-- What changes that are not refused keep to.
use Rattle.std.proofs.Common.{◌≡◌, ℕ, ◌+◌, ◌≤◌, ◌<◌, Bool, true, false, ◌||◌, cond, ltb, List, [], ◌∷◌, length}
use Rattle.std.proofs.Common.{min, sum_by, Option, Some, None, refl, arith, ltb-false, leb-false}
use Rattle.std.proofs.lemmas.Bool.{or_parts}
use Rattle.std.proofs.lemmas.List.Sums.{sum_by-cons}
use Rattle.std.specs.List.{AllByRecursion}
use Rattle.pad_model.specs.History.{IsHistory, clock_of_characters}
use Rattle.pad_model.specs.Operation.{characters_in}
use Rattle.pad_model.specs.Visible.{visible}
use Rattle.pad_model.specs.declared.limits.TheConstants.{MAX_TEXT, MAX_PARTS, MAX_CHARACTERS, MAX_COUNTER}
use Rattle.pad_model.specs.declared.limits.TheConstants.{MAX_OPERATIONS}
use Rattle.pad_model.specs.declared.op.Op.{Op}
use Rattle.pad_model.specs.declared.refusal.Refusal.{Refusal}
use Rattle.pad_model.proofs.Each.{each_fails}
use Rattle.pad_model.proofs.Local.{greatest_least}
use Rattle.pad_model.proofs.Stretch.{low_continues}
use Rattle.pad_core.specs.Counts.{characters_at}
use Rattle.pad_core.specs.Edits.{is_outside, size_of, growth_of, is_blank, growth_refusal, edit_refusal}
use Rattle.pad_core.specs.declared.act.Change.{Change}
use Rattle.pad_core.specs.declared.act.Change.TheVariants.{Insert, Delete}
use Rattle.pad_core.proofs.Others.{not_zero}

-- the greatest counter of a history is within the limit
pub clock_low : (log : List Op) → IsHistory log → clock_of_characters (characters_in log).inserted ≤ MAX_COUNTER
clock_low log h = greatest_least (λ c. c) (characters_in log).inserted 0 MAX_COUNTER (omega arith)
    (low_continues [] log h)

-- a check that does not refuse is passed, and the others too
pub unless : (b : Bool) (r : Refusal) (rest : Option Refusal) → cond b (Some r) rest ≡ None → (b ≡ false)
    × (rest ≡ None)
unless true r rest e = absurd (cc)
unless false r rest e = (refl, e)

-- what an operation with this growth keeps to
pub record HasRoom (growth : ℕ) (log : List Op) : Type 0 where
  pub room : length (characters_in log).inserted + growth ≤ MAX_CHARACTERS
  pub clock : clock_of_characters (characters_in log).inserted + growth ≤ MAX_COUNTER
  pub short : length log < MAX_OPERATIONS

-- growth that is not refused has room
pub has_room : (growth : ℕ) (log : List Op) → growth_refusal growth log ≡ None → HasRoom growth log
has_room growth log e =
    let a = unless _ _ _ e in
    let b = unless _ _ _ a.1 in
    let c = unless _ _ _ b.1 in
    record {
      room = ltb-false MAX_CHARACTERS (length (characters_in log).inserted + growth) a.0;
      clock = ltb-false MAX_COUNTER (clock_of_characters (characters_in log).inserted + growth) b.0;
      short = leb-false MAX_OPERATIONS (length log) c.0;
    }

-- what changes of a revision keep to
pub record Allowed (rev : ℕ) (changes : List Change) (log : List Op) : Type 0 where
  pub known : rev ≤ length log
  pub within : AllByRecursion (λ change. is_outside (length (visible (characters_at rev log))) change ≡ false) changes
  pub some : 1 ≤ length changes
  pub filled : AllByRecursion (λ change. is_blank change ≡ false) changes
  pub parts : length changes ≤ MAX_PARTS
  pub few : sum_by size_of changes ≤ MAX_TEXT
  pub grows : HasRoom (sum_by growth_of changes) log

-- changes that are not refused keep to it
pub allowed : (rev : ℕ) (changes : List Change) (log : List Op) → edit_refusal rev changes log ≡ None →
    Allowed rev changes log
allowed rev changes log e =
    let a = unless _ _ _ e in
    let b = unless _ _ _ a.1 in
    let c = unless _ _ _ b.1 in
    let d = unless _ _ _ c.1 in
    let filled = or_parts _ _ c.0 in
    let short = or_parts _ _ d.0 in
    record {
      known = ltb-false (length log) rev a.0;
      within = each_fails (is_outside (length (visible (characters_at rev log)))) changes b.0;
      some = not_zero (length changes) filled.0;
      filled = each_fails is_blank changes filled.1;
      parts = ltb-false MAX_PARTS (length changes) short.0;
      few = ltb-false MAX_TEXT (sum_by size_of changes) short.1;
      grows = has_room (sum_by growth_of changes) log d.1;
    }

grows_less : (change : Change) → growth_of change ≤ size_of change
grows_less (Insert at text) = omega arith
grows_less (Delete at len) = omega arith

-- what is inserted is no more than what is inserted or erased
pub growth-le-size : (changes : List Change) → sum_by growth_of changes ≤ sum_by size_of changes
growth-le-size [] = omega arith
growth-le-size (change ∷ changes) =
    let one = grows_less change in
    let rest = growth-le-size changes in
    omega (arith, sum_by-cons growth_of change changes, sum_by-cons size_of change changes)

-- the growth of changes that are not too much was counted in full
pub grown : (changes : List Change) (total : ℕ) →
    (ltb MAX_PARTS (length changes) || ltb MAX_TEXT (sum_by size_of changes)) ≡ false →
    total ≡ min (sum_by growth_of changes) 18446744073709551615 →
    (total ≡ sum_by growth_of changes) × (total ≤ MAX_TEXT)
grown changes total few is =
    let small = ltb-false MAX_TEXT (sum_by size_of changes)
    (or_parts (ltb MAX_PARTS (length changes)) (ltb MAX_TEXT (sum_by size_of changes)) few).1 in
    let less = growth-le-size changes in
    (omega arith, omega arith)
