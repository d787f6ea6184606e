-- What was recorded of a pad, and whether it agrees with the log.
use Rattle.std.specs.Prelude.{◌≡◌, ℕ, zero, suc, Bool, false, not, ◌&&◌, ◌≤◌, nat_le, bytes_eq, if◌then◌else◌, List, []}
use Rattle.std.specs.Prelude.{◌∷◌, ◌++◌, length, take, slice_get, Option, Some, None}
use Rattle.std.specs.List.{list_any}
use Rattle.std.specs.Option.{option_map_or}
use Rattle.pad_model.specs.Log.{same_name}
use Rattle.pad_model.specs.Visible.{text_of}
use Rattle.pad_model.specs.declared.op.Op.{Op}
use Rattle.pad_model.specs.declared.op.OpName.{OpName}
use Rattle.pad_core.specs.Counts.{characters_at}
use Rattle.pad_core.specs.declared.recorded.AuditError.{AuditError}
use Rattle.pad_core.specs.declared.recorded.AuditError.TheVariants.{Mismatch, Memory}
use Rattle.pad_core.specs.declared.recorded.Recorded.{Recorded}
use Rattle.pad_core.specs.declared.recorded.Recorded.TheVariants.{Read, Edit}

-- whether the operation of a name made a revision
abbrev pub stands_at : OpName → ℕ → List Op → Bool
stands_at name zero log = false
stands_at name (suc before) log = option_map_or (λ op. same_name op.name name)
    (slice_get log before) false

-- whether a record is that of an edit with a name
abbrev pub is_edit_of : OpName → Recorded → Bool
is_edit_of name (Read rev text) = false
is_edit_of name (Edit other rev) = same_name other name

-- whether a record that follows others agrees with a log: a text is that of its revision, an edit made its revision and
-- was not recorded before
abbrev pub agrees : List Op → List Recorded → Recorded → Bool
agrees log before (Read rev text) = nat_le rev (length log)
    && bytes_eq text (text_of (characters_at rev log))
agrees log before (Edit name rev) = stands_at name rev log
    && not (list_any (is_edit_of name) before)

-- the place of the first record that does not agree, after those that were checked before
abbrev pub first_fault : List Op → List Recorded → List Recorded → Option ℕ
first_fault log before [] = None
first_fault log before (one ∷ more) = if agrees log before one
    then first_fault log (before ++ one ∷ []) more
    else Some (length before)

-- a text of a revision that the log has
abbrev pub IsRead : List Op → Option Recorded → Type 0
IsRead log (Some (Read rev text)) = rev ≤ length log
IsRead log (Some (Edit name rev)) = ⊥
IsRead log None = ⊥

-- why records were not found to agree: the first that does not, or there was no memory for the text of one that all
-- before it agree
abbrev pub IsFault : List Op → List Recorded → AuditError → Type 0
IsFault log records (Mismatch index) = first_fault log [] records ≡ Some index
IsFault log records Memory = (index : ℕ) × IsRead log (slice_get records index)
    × (first_fault log [] (take index records) ≡ None)
