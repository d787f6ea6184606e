-- The meaning of the lines of a pad's file.
use Rattle.std.specs.Prelude.{ℕ, List, [], ◌∷◌, codes, ◌==◌, is_some, if◌then◌else◌, Option, None, option_map}
use Rattle.std.specs.Prelude.{option_and_then}
use Rattle.serde_json.specs.Data.{Data, string}
use Rattle.serde_json.specs.Find.{get}
use Rattle.wire_json.specs.Forms.{fields_data, number_data}
use Rattle.wire_json.specs.Lines.{value_of}
use Rattle.wire_json.specs.Reading.{field, name_in, number_in, of_two}
use Rattle.store_format.specs.Forms.{record_in}
use Rattle.store_format.specs.declared.entry.StoreLine.{StoreLine}
use Rattle.store_format.specs.declared.entry.StoreLine.TheVariants as entry
use Rattle.store_format.specs.declared.header.Header.{Header}

-- the header of a value, if it has the present format
abbrev pub header_of : ℕ → Data → Option Header
header_of format d =
    if format == 1 then of_two (λ pad replica. record { pad = pad; replica = replica }) (field name_in (codes "pad") d)
    (field number_in (codes "replica") d)
    else None

-- the written form of a header
abbrev pub header_data : List ℕ → ℕ → Data
header_data pad replica = fields_data ((codes "format", number_data 1) ∷ (codes "pad", string pad)
    ∷ (codes "replica", number_data replica) ∷ [])

-- the meaning of a value as a header
abbrev pub header_in : Data → Option Header
header_in d = option_and_then (λ format. header_of format d) (field number_in (codes "format") d)

-- the meaning of a value as a line: a header has a format
abbrev pub entry_in : Data → Option StoreLine
entry_in d = if is_some (get (codes "format") d) then option_map entry.Header (header_in d)
    else option_map entry.Record (record_in d)

-- the meaning of a text
abbrev pub entry_said : List ℕ → Option StoreLine
entry_said text = option_and_then entry_in (value_of text)
