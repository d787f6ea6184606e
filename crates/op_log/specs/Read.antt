-- What bytes say. Every sequence of bytes says something, so that reading has no errors.
use Rattle.std.specs.Prelude.{ℕ, zero, suc, min, max, ◌==◌, if◌then◌else◌, List, [], ◌∷◌}
use Rattle.std.specs.Prelude.{◌^◌, ◌-◌, slice_index_or, Option, Some, None}
use lib.Utf8.{scalar}
use Rattle.pad_model.specs.Stamp.{Stamp}
use Rattle.pad_model.specs.Seen.{with_count}
use Rattle.pad_model.specs.declared.limits.TheConstants.{MAX_COUNTER}
use Rattle.pad_model.specs.declared.seen.Counted.{Counted}
use Rattle.pad_model.specs.declared.op.OpName.{OpName}
use Rattle.pad_model.specs.declared.op.Span.{Span}
use Rattle.pad_model.specs.declared.op.Part.{Part}
use Rattle.pad_model.specs.declared.op.Part.TheVariants.{Insert, Delete, Comment, Resolve}
use Rattle.pad_model.specs.declared.op.Op.{Op}
use Rattle.op_log.specs.Number.{number_at, after_number}

-- what is read at the start of bytes, and the remaining bytes
pub record Read (A : Type 0) : Type 0 where
  pub value : A
  pub rest : List ℕ

-- n values, one after another
abbrev pub read_all : {A : Type 0} → (List ℕ → Read A) → ℕ → List ℕ → Read (List A)
read_all read zero bytes = record { value = []; rest = bytes }
read_all read (suc n) bytes =
    let first = read bytes in
    let others = read_all read n first.rest in
    record { value = first.value ∷ others.value; rest = others.rest }

-- an operation's name
abbrev pub read_name : List ℕ → Read OpName
read_name bytes = record {
  value = record { origin = min (number_at bytes) 65535; number = number_at (after_number bytes) };
  rest = after_number (after_number bytes);
}

-- the stamp that is nearest to a counter and a replica number
abbrev pub stamp_near : ℕ → ℕ → Stamp
stamp_near counter replica = record {
  counter = max (min counter MAX_COUNTER) 1;
  replica = max (min replica 65535) 1;
}

-- a stamp
abbrev pub read_stamp : List ℕ → Read Stamp
read_stamp bytes = record {
  value = stamp_near (number_at bytes) (number_at (after_number bytes));
  rest = after_number (after_number bytes);
}

-- a parent
abbrev pub read_parent : List ℕ → Read (Option Stamp)
read_parent bytes =
    if number_at bytes == 0 then record { value = None; rest = after_number bytes }
    else record {
      value = Some (read_stamp (after_number bytes)).value;
      rest = (read_stamp (after_number bytes)).rest;
    }

-- the character with a code, or that of 0 where none has it
abbrev pub character_of : ℕ → ℕ
character_of code = if scalar (min code (2 ^ 32 - 1)) then min code (2 ^ 32 - 1) else 0

-- a character
abbrev pub read_character : List ℕ → Read ℕ
read_character bytes = record { value = character_of (number_at bytes); rest = after_number bytes }

-- a text
abbrev pub read_text : List ℕ → Read (List ℕ)
read_text bytes = read_all read_character (number_at bytes) (after_number bytes)

-- a span
abbrev pub read_span : List ℕ → Read Span
read_span bytes = record {
  value = record { first = (read_stamp bytes).value; len = number_at (read_stamp bytes).rest };
  rest = after_number (read_stamp bytes).rest;
}

-- the spans of a deletion
abbrev pub read_spans : List ℕ → Read (List Span)
read_spans bytes = read_all read_span (number_at bytes) (after_number bytes)

-- how many operations of an origin were seen
abbrev pub read_counted : List ℕ → Read Counted
read_counted bytes = record {
  value = record { origin = min (number_at bytes) 65535; count = number_at (after_number bytes) };
  rest = after_number (after_number bytes);
}

-- the pairs of a vector
abbrev pub read_pairs : List ℕ → Read (List Counted)
read_pairs bytes = read_all read_counted (number_at bytes) (after_number bytes)

-- the vector with these counts put in
abbrev pub with_counts : List Counted → List Counted → List Counted
with_counts seen [] = seen
with_counts seen (pair ∷ pairs) = with_counts (with_count seen pair.origin pair.count) pairs

-- a version vector
abbrev pub read_seen : List ℕ → Read (List Counted)
read_seen bytes = record {
  value = with_counts [] (read_pairs bytes).value;
  rest = (read_pairs bytes).rest;
}

-- an insertion
abbrev pub read_insert : List ℕ → Read Part
read_insert bytes =
    let first = read_stamp bytes in
    let after = read_parent first.rest in
    let text = read_text after.rest in
    record {
      value = Insert (record {
        first = first.value;
        after = after.value;
        text = text.value;
      });
      rest = text.rest;
    }

-- a deletion
abbrev pub read_delete : List ℕ → Read Part
read_delete bytes = record {
  value = Delete (read_spans bytes).value;
  rest = (read_spans bytes).rest;
}

-- a comment
abbrev pub read_comment : List ℕ → Read Part
read_comment bytes =
    let first = read_stamp bytes in
    let last = read_stamp first.rest in
    let text = read_text last.rest in
    record { value = Comment first.value last.value text.value; rest = text.rest }

-- a resolution
abbrev pub read_resolve : List ℕ → Read Part
read_resolve bytes = record {
  value = Resolve (read_name bytes).value;
  rest = (read_name bytes).rest;
}

-- a part of a kind
abbrev pub read_kind : ℕ → List ℕ → Read Part
read_kind kind bytes =
    if kind == 0 then read_insert bytes
    else if kind == 1 then read_delete bytes
    else if kind == 2 then read_comment bytes
    else read_resolve bytes

-- a part
abbrev pub read_part : List ℕ → Read Part
read_part bytes = read_kind (number_at bytes) (after_number bytes)

-- the parts of an operation
abbrev pub read_parts : List ℕ → Read (List Part)
read_parts bytes = read_all read_part (number_at bytes) (after_number bytes)

-- the place of an operation's author in the table of names
abbrev pub author_place : List ℕ → ℕ
author_place bytes = number_at (read_seen (read_name bytes).rest).rest

-- an operation, with a table of its authors' names
abbrev pub read_op : List (List ℕ) → List ℕ → Op
read_op authors bytes = record {
  name = (read_name bytes).value;
  seen = (read_seen (read_name bytes).rest).value;
  author = slice_index_or authors (author_place bytes) [];
  parts = (read_parts (after_number (read_seen (read_name bytes).rest).rest)).value;
}
