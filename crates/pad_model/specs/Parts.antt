-- The insertions and deletions of one operation, made at once.
use Rattle.std.specs.Prelude.{◌≡◌, ℕ, ◌+◌, Bool, true, false, not, ◌&&◌, nat_lt, if◌then◌else◌, List, [], ◌∷◌, ◌++◌}
use Rattle.std.specs.Prelude.{length, Result, Ok, Err, map, flat_map, count_by, fold}
use Rattle.std.specs.List.{list_all}
use Rattle.pad_model.specs.Cell.{Cell, character_of, born_at, is_hidden_by, without_spans, with_run}
use Rattle.pad_model.specs.Character.{Character}
use Rattle.pad_model.specs.Log.{run_may_join, has_spans, all_differ}
use Rattle.pad_model.specs.Operation.{part_inserts}
use Rattle.pad_model.specs.Order.{order}
use Rattle.pad_model.specs.declared.limits.TheConstants.{MAX_CHARACTERS}
use Rattle.pad_model.specs.declared.op.Part.{Part}
use Rattle.pad_model.specs.declared.op.Part.TheVariants.{Insert, Delete, Comment, Resolve}
use Rattle.pad_model.specs.declared.op.Run.{Run}
use Rattle.pad_model.specs.declared.op.Span.{Span}
use Rattle.pad_model.specs.declared.refusal.Refusal.{Refusal}
use Rattle.pad_model.specs.declared.refusal.Refusal.TheVariants.{PeerFault, PadFull}
use Rattle.pad_model.specs.declared.who.Author.{Author}

-- whether an insertion or a deletion fits the items
abbrev pub part_fits : {A : Type 0} → (A → Character) → List A → Part → Bool
part_fits at items (Insert run) = run_may_join at items run.first run.after
part_fits at items (Delete spans) = has_spans at items spans
part_fits at items (Comment first last text) = false
part_fits at items (Resolve comment) = false

-- the spans that a part erases
abbrev pub part_spans : Part → List Span
part_spans (Insert run) = []
part_spans (Delete spans) = spans
part_spans (Comment first last text) = []
part_spans (Resolve comment) = []

-- the spans that the parts erase together
abbrev pub spans_in : List Part → List Span
spans_in parts = flat_map part_spans parts

-- the run of an insertion
abbrev pub part_runs : Part → List Run
part_runs (Insert run) = run ∷ []
part_runs (Delete spans) = []
part_runs (Comment first last text) = []
part_runs (Resolve comment) = []

-- the runs that the parts insert, in turn
abbrev pub runs_in : List Part → List Run
runs_in parts = flat_map part_runs parts

-- the characters that the parts insert together
abbrev pub inserts_in : Author → List Part → List Character
inserts_in author parts = flat_map (part_inserts author) parts

-- whether each part fits the cells before the operation, and no stamp is inserted twice
abbrev pub parts_fit : Author → List Part → List Cell → Bool
parts_fit author parts cells = list_all (part_fits character_of cells) parts
    && all_differ (inserts_in author parts)

-- the cells with what the parts insert, in preorder, and with the deaths of what they erase
abbrev pub with_parts : ℕ → List Part → Author → List Cell → List Cell
with_parts rev parts author cells = order character_of
    (without_spans rev (spans_in parts) cells ++ map (born_at rev)
    (inserts_in author parts))

-- the result of the parts of one operation, and the cells after it: either all parts are made or none
abbrev pub apply : ℕ → List Part → Author → List Cell → Result ℕ Refusal × List Cell
apply rev parts author cells =
    if not (parts_fit author parts cells) then (Err PeerFault, cells)
    else if nat_lt MAX_CHARACTERS (length cells + length (inserts_in author parts))
    then (Err PadFull, cells)
    else (Ok (count_by (is_hidden_by (spans_in parts)) cells), with_parts rev parts author cells)

-- the cells with the runs, each put in its turn
abbrev pub with_all : ℕ → Author → List Cell → List Run → List Cell
with_all rev author cells runs = fold (λ cells run. with_run rev run author cells) cells runs

-- each run may join the cells when its turn comes
abbrev pub AllJoin : ℕ → Author → List Cell → List Run → Type 0
AllJoin rev author cells [] = Unit {0}
AllJoin rev author cells (run ∷ runs) = (run_may_join character_of cells run.first run.after ≡ true)
    × AllJoin rev author (with_run rev run author cells) runs

-- the cells after a single part
abbrev pub with_part : ℕ → Author → List Cell → Part → List Cell
with_part rev author cells (Insert run) = with_run rev run author cells
with_part rev author cells (Delete spans) = without_spans rev spans cells
with_part rev author cells (Comment first last text) = cells
with_part rev author cells (Resolve comment) = cells

-- the cells after the parts, made one after another
abbrev pub with_each_part : ℕ → Author → List Cell → List Part → List Cell
with_each_part rev author cells parts = fold (with_part rev author) cells parts
