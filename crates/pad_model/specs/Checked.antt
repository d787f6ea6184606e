-- The checks that an operation must pass by itself, before any pad is asked.
use Rattle.std.specs.Prelude.{ℕ, ◌+◌, Bool, true, false, not, ◌&&◌, ◌||◌, ◌==◌, nat_le, List, [], ◌∷◌, length, sum_by}
use Rattle.std.specs.List.{list_all}
use Rattle.pad_model.specs.declared.seen.Counted.{Counted}
use Rattle.pad_model.specs.declared.op.Span.{Span}
use Rattle.pad_model.specs.declared.op.Run.{Run}
use Rattle.pad_model.specs.declared.op.Part.{Part}
use Rattle.pad_model.specs.declared.op.Part.TheVariants.{Insert, Delete, Comment, Resolve}
use Rattle.pad_model.specs.declared.op.Op.{Op}
use Rattle.pad_model.specs.declared.limits.TheConstants.{MAX_COUNTER, MAX_NAME, MAX_TEXT, MAX_COMMENT, MAX_PARTS}
use Rattle.pad_model.specs.declared.limits.TheConstants.{MAX_NUMBER}

-- whether a number is from 1 to most
abbrev pub is_within : ℕ → ℕ → Bool
is_within n most = nat_le 1 n && nat_le n most

-- whether a byte is one of a-z, 0-9 and -
abbrev pub is_name_byte : ℕ → Bool
is_name_byte b = (nat_le 97 b && nat_le b 122) || (nat_le 48 b && nat_le b 57) || b == 45

-- whether a name has 1 to 32 such bytes
abbrev pub is_name : List ℕ → Bool
is_name name = is_within (length name) MAX_NAME && list_all is_name_byte name

-- whether a vector names neither its own origin nor a count that is too large
abbrev pub is_seen : ℕ → List Counted → Bool
is_seen own pairs = list_all (λ pair. is_within pair.count MAX_NUMBER && nat_le 1 pair.origin
    && not (pair.origin == own)) pairs

-- whether n stamps from a counter on are within the limit
abbrev pub fits_clock : ℕ → ℕ → Bool
fits_clock counter n = nat_le (counter + n) (MAX_COUNTER + 1)

-- whether a run of this origin is within the limits
abbrev pub is_run : ℕ → Run → Bool
is_run origin run = is_within (length run.text) MAX_TEXT && run.first.replica == origin
    && fits_clock run.first.counter (length run.text)

-- whether a span is not empty and its counters are within the limit
abbrev pub is_span : Span → Bool
is_span span = nat_le 1 span.len && fits_clock span.first.counter span.len

-- whether a part of this origin is within the limits
abbrev pub is_part : ℕ → Part → Bool
is_part origin (Insert run) = is_run origin run
is_part origin (Delete spans) = nat_le 1 (length spans) && list_all is_span spans
is_part origin (Comment first last text) = is_within (length text) MAX_COMMENT
is_part origin (Resolve comment) = nat_le 1 comment.origin && nat_le 1 comment.number

-- how many characters a part inserts or erases
abbrev pub part_size : Part → ℕ
part_size (Insert run) = length run.text
part_size (Delete spans) = sum_by (λ span. span.len) spans
part_size (Comment first last text) = 0
part_size (Resolve comment) = 0

-- whether a part only changes the text
abbrev pub is_edit : Part → Bool
is_edit (Insert run) = true
is_edit (Delete spans) = true
is_edit (Comment first last text) = false
is_edit (Resolve comment) = false

-- whether each insertion's counters are above those of the insertion before it; counters below floor are taken
abbrev pub counters_rise : ℕ → List Part → Bool
counters_rise floor [] = true
counters_rise floor (Insert run ∷ parts) = nat_le floor run.first.counter
    && counters_rise (run.first.counter + length run.text) parts
counters_rise floor (Delete spans ∷ parts) = counters_rise floor parts
counters_rise floor (Comment first last text ∷ parts) = counters_rise floor parts
counters_rise floor (Resolve comment ∷ parts) = counters_rise floor parts

-- whether these are the parts of one operation of this origin
abbrev pub are_parts : ℕ → List Part → Bool
are_parts origin parts =
    is_within (length parts) MAX_PARTS && (nat_le (length parts) 1 || list_all is_edit parts)
    && list_all (is_part origin) parts && counters_rise 0 parts
    && nat_le (sum_by part_size parts) MAX_TEXT

-- whether an operation is within the limits
abbrev pub is_checked : Op → Bool
is_checked op =
    is_name op.author && nat_le 1 op.name.origin && is_within op.name.number MAX_NUMBER
    && is_seen op.name.origin op.seen && are_parts op.name.origin op.parts
