-- How the small forms are written: numbers, texts, names, stamps, spans and vectors.
use Rattle.std.specs.Prelude.{ℕ, List, [], ◌∷◌, ◌++◌, map, decimal, Option, Some, None, encode_utf8_all}
use Rattle.serde_json.specs.Data.{Data, null, number, string, array, object, unsigned, Members, no_members, put}
use Rattle.serde_json.specs.View.{items_of}
use Rattle.pad_model.specs.Stamp.{Stamp}
use Rattle.pad_model.specs.declared.op.OpName.{OpName}
use Rattle.pad_model.specs.declared.op.Span.{Span}
use Rattle.pad_model.specs.declared.seen.Counted.{Counted}
use Rattle.pad_model.specs.declared.who.Author.{Author}

-- a field is a name and a value
abbrev pub Field : Type 0
Field = List ℕ × Data

-- members with these fields added, one after another
abbrev pub with_fields : List Field → Members → Members
with_fields [] ms = ms
with_fields (f ∷ fs) ms = with_fields fs (put f.0 f.1 ms)

-- the object with some fields, which are in byte order
abbrev pub fields_data : List Field → Data
fields_data fs = object (with_fields fs no_members)

-- a list of values
abbrev pub list_data : List Data → Data
list_data items = array (items_of items)

-- a list of items, each in its written form
abbrev pub each_data : {A : Type 0} → (A → Data) → List A → Data
each_data data_of items = list_data (map data_of items)

-- a number
abbrev pub number_data : ℕ → Data
number_data n = number (unsigned n)

-- a text of these characters
abbrev pub text_data : List ℕ → Data
text_data characters = string (encode_utf8_all characters)

-- the name of an operation: its origin and its number
abbrev pub op_name_data : OpName → Data
op_name_data name = list_data (number_data name.origin ∷ number_data name.number ∷ [])

-- a stamp: its counter and its replica
abbrev pub stamp_data : Stamp → Data
stamp_data stamp = list_data (number_data stamp.counter ∷ number_data stamp.replica ∷ [])

-- a stamp, or null for the start of the pad
abbrev pub parent_data : Option Stamp → Data
parent_data None = null
parent_data (Some stamp) = stamp_data stamp

-- consecutive stamps: the counter and the replica of the first one, and their number
abbrev pub span_data : Span → Data
span_data span = list_data (number_data span.first.counter ∷ number_data span.first.replica
    ∷ number_data span.len ∷ [])

-- how many operations of an origin are known
abbrev pub counted_data : Counted → Data
counted_data pair = list_data (number_data pair.origin ∷ number_data pair.count ∷ [])

-- a version vector, in ascending order of origin
abbrev pub seen_data : List Counted → Data
seen_data pairs = each_data counted_data pairs

-- an author with the number of the server that has the account, such as `ann@1`
abbrev pub author_data : Author → Data
author_data author = string (author.name ++ 64 ∷ decimal author.origin)
