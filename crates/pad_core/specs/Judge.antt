-- Whether an operation fits what is kept beside a log.
use Rattle.std.specs.Prelude.{ℕ, Bool, false, if◌then◌else◌, List, length}
use Rattle.std.specs.List.{list_all}
use Rattle.pad_model.specs.Cell.{Cell, character_of}
use Rattle.pad_model.specs.Checked.{is_edit}
use Rattle.pad_model.specs.Log.{stands_before}
use Rattle.pad_model.specs.Parts.{part_fits}
use Rattle.pad_model.specs.declared.op.Part.{Part}
use Rattle.pad_model.specs.declared.op.Part.TheVariants.{Insert, Delete, Comment, Resolve}
use Rattle.comments.specs.Comments.{is_comment}
use Rattle.comments.specs.declared.comment.Comment as kept

-- whether a comment or a resolution fits
abbrev pub note_fits : List Cell → List kept.Comment → Part → Bool
note_fits cells book (Insert run) = false
note_fits cells book (Delete spans) = false
note_fits cells book (Comment first last text) = stands_before character_of cells first last
note_fits cells book (Resolve comment) = is_comment comment book

-- whether each part of an operation fits
abbrev pub fits : List Cell → List kept.Comment → List Part → Bool
fits cells book parts = if list_all is_edit parts then list_all (part_fits character_of cells) parts
    else list_all (note_fits cells book) parts

-- how many characters a part inserts
abbrev pub part_growth : Part → ℕ
part_growth (Insert run) = length run.text
part_growth (Delete spans) = 0
part_growth (Comment first last text) = 0
part_growth (Resolve comment) = 0
