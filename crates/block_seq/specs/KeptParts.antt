-- What the parts of one operation do to kept cells, and where a list of stamps breaks.
use Rattle.std.specs.Prelude.{ℕ, suc, Bool, true, if◌then◌else◌, List, [], ◌∷◌, length}
use Rattle.pad_model.specs.Character.{next}
use Rattle.pad_model.specs.Stamp.{Stamp, same_stamp}
use Rattle.std.specs.List.{list_all}
use Rattle.pad_model.specs.Checked.{is_run, is_span}
use Rattle.pad_model.specs.declared.op.Part.{Part}
use Rattle.pad_model.specs.declared.op.Part.TheVariants.{Insert, Delete, Comment, Resolve}
use Rattle.pad_model.proofs.Places.{place_in, spliced}
use Rattle.block_seq.specs.declared.place.PlainCell.{PlainCell}
use Rattle.block_seq.specs.Plain.{kept_character, kept_run}

-- how many characters a part inserts
abbrev pub inserted_size : Part → ℕ
inserted_size (Insert run) = length run.text
inserted_size (Delete spans) = 0
inserted_size (Comment first last text) = 0
inserted_size (Resolve comment) = 0

-- the run of an insertion is within the limits
abbrev pub is_part_run : Part → Bool
is_part_run (Insert run) = is_run run.first.replica run
is_part_run (Delete spans) = true
is_part_run (Comment first last text) = true
is_part_run (Resolve comment) = true

-- the spans of a deletion are within the limits
abbrev pub are_part_spans : Part → Bool
are_part_spans (Insert run) = true
are_part_spans (Delete spans) = list_all is_span spans
are_part_spans (Comment first last text) = true
are_part_spans (Resolve comment) = true

-- the kept cells with those of a part's run at their place
abbrev pub with_kept_part : ℕ → ℕ → List PlainCell → Part → List PlainCell
with_kept_part author rev cells (Insert run) = spliced
    (place_in kept_character run.after run.first cells)
    (kept_run run.first run.after run.text author rev) cells
with_kept_part author rev cells (Delete spans) = cells
with_kept_part author rev cells (Comment first last text) = cells
with_kept_part author rev cells (Resolve comment) = cells

-- how many stamps in front follow on a first one, each on the one before it
abbrev pub following : Stamp → List Stamp → ℕ
following last [] = 0
following last (s ∷ stamps) = if same_stamp (next last) s then suc (following s stamps) else 0
