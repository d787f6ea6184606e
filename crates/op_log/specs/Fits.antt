-- What an operation's types say of it.
use Rattle.std.specs.Prelude.{ℕ, ◌≤◌, ◌<◌, ◌^◌, List, length, Option, Some, None}
use Rattle.std.specs.List.{AllByRecursion}
use Rattle.std.specs.Char.{IsScalar}
use Rattle.pad_model.specs.Stamp.{Stamp, IsInLimits}
use Rattle.pad_model.specs.Seen.{IsVector}
use Rattle.pad_model.specs.declared.seen.Counted.{Counted}
use Rattle.pad_model.specs.declared.op.OpName.{OpName}
use Rattle.pad_model.specs.declared.op.Span.{Span}
use Rattle.pad_model.specs.declared.op.Part.{Part}
use Rattle.pad_model.specs.declared.op.Part.TheVariants.{Insert, Delete, Comment, Resolve}
use Rattle.pad_model.specs.declared.op.Op.{Op}

-- a name's numbers fit their types
abbrev pub FitsName : OpName → Type 0
FitsName name = (name.origin ≤ 65535) × (name.number < 2 ^ 64)

-- a stamp is one that there can be
abbrev pub FitsStamp : Stamp → Type 0
FitsStamp stamp = IsInLimits stamp.counter stamp.replica

-- so is a parent, if there is one
abbrev pub FitsParent : Option Stamp → Type 0
FitsParent None = Unit {0}
FitsParent (Some stamp) = FitsStamp stamp

-- a text has characters, and not too many to be counted
abbrev pub FitsText : List ℕ → Type 0
FitsText text = (length text < 2 ^ 64) × AllByRecursion IsScalar text

-- a span's numbers fit their types
abbrev pub FitsSpan : Span → Type 0
FitsSpan span = FitsStamp span.first × (span.len < 2 ^ 64)

-- so do those of spans that are not too many to be counted
abbrev pub FitsSpans : List Span → Type 0
FitsSpans spans = (length spans < 2 ^ 64) × AllByRecursion FitsSpan spans

-- what a part says fits its types
abbrev pub FitsPart : Part → Type 0
FitsPart (Insert run) = FitsStamp run.first × FitsParent run.after × FitsText run.text
FitsPart (Delete spans) = FitsSpans spans
FitsPart (Comment first last text) = FitsStamp first × FitsStamp last × FitsText text
FitsPart (Resolve comment) = FitsName comment

-- a pair's numbers fit their types
abbrev pub FitsCounted : Counted → Type 0
FitsCounted pair = (pair.origin ≤ 65535) × (pair.count < 2 ^ 64)

-- a version vector is one, and its pairs fit
abbrev pub FitsSeen : List Counted → Type 0
FitsSeen pairs = (length pairs < 2 ^ 64) × IsVector pairs × AllByRecursion FitsCounted pairs

-- an operation is one that there can be
pub record IsFitting (op : Op) : Type 0 where
  pub name : FitsName op.name
  pub seen : FitsSeen op.seen
  pub count : length op.parts < 2 ^ 64
  pub parts : AllByRecursion FitsPart op.parts
