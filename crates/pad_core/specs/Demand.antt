-- What changes of a revision ask for, as far as a refusal depends on it.
use Rattle.std.specs.Prelude.{◌≡◌, ℕ, false, ◌||◌, ◌==◌, nat_lt, List, length, sum_by}
use Rattle.std.specs.List.{list_any}
use Rattle.pad_model.specs.Visible.{visible}
use Rattle.pad_model.specs.declared.limits.TheConstants.{MAX_TEXT, MAX_PARTS}
use Rattle.pad_model.specs.declared.op.Op.{Op}
use Rattle.pad_core.specs.Counts.{characters_at}
use Rattle.pad_core.specs.Edits.{is_outside, is_blank, size_of, growth_of}
use Rattle.pad_core.specs.declared.act.Change.{Change}
use Rattle.pad_core.specs.declared.demand.Demand.{Demand}

-- whether one of the changes lies outside, whether they do nothing, whether they are too much, and how many characters
-- they insert
pub record Asks (rev : ℕ) (changes : List Change) (log : List Op) (demand : Demand) : Type 0 where
  pub outside : list_any (is_outside (length (visible (characters_at rev log)))) changes
      ≡ demand.is_outside
  pub idle : (length changes == 0 || list_any is_blank changes) ≡ demand.is_idle
  pub much : (nat_lt MAX_PARTS (length changes) || nat_lt MAX_TEXT (sum_by size_of changes))
      ≡ demand.is_too_much
  pub growth : demand.is_too_much ≡ false → sum_by growth_of changes ≡ demand.growth
