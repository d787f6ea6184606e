-- The named revisions of a pad.
use Rattle.std.specs.Prelude.{ℕ, ◌==◌, ◌||◌, nat_lt, nat_le, if◌then◌else◌, List, [], ◌∷◌, ◌++◌, length, Option, Some, None}
use Rattle.std.specs.Prelude.{Result, Ok, Err}
use Rattle.pad_model.specs.declared.refusal.Refusal.{Refusal}
use Rattle.pad_model.specs.declared.refusal.Refusal.TheVariants.{Empty, TooMuch}
use Rattle.named_revisions.specs.declared.list.TheConstants.{MAX_NAMED_REVISIONS, MAX_REVISION_NAME}
use Rattle.named_revisions.specs.declared.named_revision.NamedRevision.{NamedRevision}

-- why one more name is refused, if so: it is empty or too long, or there is room for no more
abbrev pub name_refusal : List ℕ → List NamedRevision → Option Refusal
name_refusal text all =
    if length text == 0 then Some Empty
    else if nat_lt MAX_REVISION_NAME (length text) || nat_le MAX_NAMED_REVISIONS (length all) then Some TooMuch
    else None

-- one more name behind all others, unless it is refused
abbrev pub add : NamedRevision → List NamedRevision → Result (Unit {0}) Refusal × List NamedRevision
add named all = unless_refused (name_refusal named.text all)
  where
    unless_refused : Option Refusal → Result (Unit {0}) Refusal × List NamedRevision
    unless_refused (Some refusal) = (Err refusal, all)
    unless_refused None = (Ok tt, all ++ named ∷ [])
