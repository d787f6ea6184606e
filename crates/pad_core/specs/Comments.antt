-- The comments that a log shows.
use Rattle.std.specs.Prelude.{Bool, false, if◌then◌else◌, List, [], ◌∷◌, flat_map, fold}
use Rattle.std.specs.List.{list_any}
use Rattle.pad_model.specs.Log.{precedes, same_name}
use Rattle.pad_model.specs.Operation.{author_of, characters_in}
use Rattle.pad_model.specs.Visible.{range_of}
use Rattle.pad_model.specs.declared.op.Op.{Op}
use Rattle.pad_model.specs.declared.op.OpName.{OpName}
use Rattle.pad_model.specs.declared.op.Part.{Part}
use Rattle.pad_model.specs.declared.op.Part.TheVariants.{Insert, Delete, Comment, Resolve}
use Rattle.comments.specs.declared.show.Shown.{Shown}

-- whether a part resolves the comment of a name
abbrev pub is_resolution : OpName → Part → Bool
is_resolution name (Insert run) = false
is_resolution name (Delete spans) = false
is_resolution name (Comment first last text) = false
is_resolution name (Resolve comment) = same_name comment name

-- whether an operation resolves the comment of a name
abbrev pub resolves : OpName → Op → Bool
resolves name op = list_any (is_resolution name) op.parts

-- operations by name with one more, at its place: after those of smaller origins, and of smaller numbers of its own
abbrev pub put_by_name : Op → List Op → List Op
put_by_name op [] = op ∷ []
put_by_name op (first ∷ ops) = if precedes first.name op.name then first ∷ put_by_name op ops
    else op ∷ first ∷ ops

-- operations by name
abbrev pub by_name : List Op → List Op
by_name ops = fold (λ sorted op. put_by_name op sorted) [] ops

-- the comment of a part, as a log shows it
abbrev pub shown_part : List Op → Op → Part → List Shown
shown_part log op (Insert run) = []
shown_part log op (Delete spans) = []
shown_part log op (Comment first last text) =
    let range = range_of (characters_in log) first last in
    record {
      name = op.name;
      author = author_of op;
      text = text;
      at = range.at;
      len = range.len;
      resolved = list_any (resolves op.name) log;
    } ∷ []
shown_part log op (Resolve comment) = []

-- the comment of an operation, if it makes one
abbrev pub shown_in : List Op → Op → List Shown
shown_in log op = flat_map (shown_part log op) op.parts

-- the comments of a log, by name
abbrev pub comments_of : List Op → List Shown
comments_of log = flat_map (shown_in log) (by_name log)
