-- Which revision of a pad is asked for, and which operations the log lists.
use Rattle.std.specs.Prelude.{ℕ, nat_le, ◌&&◌, Bool, true, List, length, Option, Some, None, bytes_eq}
use Rattle.std.specs.Borrow.{Bor}
use Rattle.op_log.specs.Times.{count_until}
use Rattle.pad_model.specs.declared.op.Op.{Op}
use Rattle.pad_store.specs.declared.log_filter.LogFilter.{LogFilter}
use Rattle.pad_store.specs.declared.revision_choice.RevisionChoice.{RevisionChoice}
use Rattle.pad_store.specs.declared.revision_choice.RevisionChoice.TheVariants.{Present, Number, At}

-- the number of the revision that is asked for, of a pad with this log, whose operations were made at these times
abbrev pub number_of : RevisionChoice → List Op → List ℕ → ℕ
number_of Present log times = length log
number_of (Number rev) log times = rev
number_of (At moment) log times = count_until moment times

-- whether a revision is not before the first one that is listed
abbrev pub is_from : Option ℕ → ℕ → Bool
is_from None rev = true
is_from (Some from) rev = nat_le from rev

-- whether an author is the one whose operations are listed
abbrev pub is_by : Option (Bor (List ℕ)) → List ℕ → Bool
is_by None author = true
is_by (Some by) author = bytes_eq author by.now

-- whether a moment is not before the first one that is listed
abbrev pub is_since : Option ℕ → ℕ → Bool
is_since None at = true
is_since (Some since) at = nat_le since at

-- whether a moment is not after the last one that is listed
abbrev pub is_until : Option ℕ → ℕ → Bool
is_until None at = true
is_until (Some until) at = nat_le at until

-- whether what this author did at this moment is listed; the present revision was then the one with this number
abbrev pub lists : LogFilter → ℕ → List ℕ → ℕ → Bool
lists filter rev author at =
    is_from filter.from rev && is_by filter.by author && is_since filter.since at && is_until filter.until at
