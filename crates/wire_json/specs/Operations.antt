-- How operations are written.
use Rattle.std.specs.Prelude.{List, [], ◌∷◌, codes}
use Rattle.serde_json.specs.Data.{Data, string}
use Rattle.pad_model.specs.declared.op.Op.{Op}
use Rattle.pad_model.specs.declared.op.Part.{Part}
use Rattle.pad_model.specs.declared.op.Part.TheVariants as part
use Rattle.pad_core.specs.Reads.{kind_of}
use Rattle.wire_json.specs.Words.{kind_word}
use Rattle.wire_json.specs.Forms.{Field, fields_data, text_data, each_data, op_name_data, stamp_data, parent_data}
use Rattle.wire_json.specs.Forms.{span_data, seen_data}

-- the fields of a part, except its kind
abbrev pub part_fields : Part → List Field
part_fields (part.Insert run) = (codes "after", parent_data run.after) ∷ (codes "first", stamp_data run.first)
    ∷ (codes "text", text_data run.text) ∷ []
part_fields (part.Delete spans) = (codes "spans", each_data span_data spans) ∷ []
part_fields (part.Comment first last text) = (codes "first", stamp_data first) ∷ (codes "last", stamp_data last)
    ∷ (codes "text", text_data text) ∷ []
part_fields (part.Resolve comment) = (codes "comment", op_name_data comment) ∷ []

-- a part of an edit
abbrev pub part_data : Part → Data
part_data p = fields_data ((codes "kind", string (kind_word (kind_of (p ∷ [])))) ∷ part_fields p)

-- the fields of parts: a single part has its own, and several are in a list
abbrev pub parts_fields : List Part → List Field
parts_fields [] = (codes "parts", each_data part_data []) ∷ []
parts_fields (p ∷ []) = part_fields p
parts_fields (p ∷ q ∷ parts) = (codes "parts", each_data part_data (p ∷ q ∷ parts)) ∷ []

-- an operation
abbrev pub op_data : Op → Data
op_data op = fields_data
    ((codes "author", string op.author) ∷ (codes "kind", string (kind_word (kind_of op.parts)))
    ∷ (codes "name", op_name_data op.name)
    ∷ (codes "seen", seen_data op.seen) ∷ parts_fields op.parts)
