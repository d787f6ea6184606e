-- What a set of character operations shows: the preorder without what was erased, and places in it.
use Rattle.std.specs.Prelude.{ℕ, ◌+◌, ◌-◌, Bool, not, ◌&&◌, ◌==◌, if◌then◌else◌, List, [], ◌∷◌, Option, Some, None, map}
use Rattle.std.specs.Prelude.{filter, take, drop, slice_get, option_map, bytes_eq, count_by}
use Rattle.std.specs.List.{list_any}
use Rattle.pad_model.specs.Stamp.{Stamp, same_stamp}
use Rattle.pad_model.specs.Character.{Character, next}
use Rattle.pad_model.specs.Laws.{itself}
use Rattle.pad_model.specs.Operation.{Characters}
use Rattle.pad_model.specs.Order.{order}
use Rattle.pad_model.specs.declared.who.Author.{Author}
use Rattle.pad_model.specs.declared.who.AuthorRun.{AuthorRun}
use Rattle.pad_model.specs.declared.op.Span.{Span}

-- whether a stamp is erased
abbrev pub is_erased : List Stamp → Stamp → Bool
is_erased erased s = list_any (λ e. same_stamp e s) erased

-- the characters that are not erased, in preorder
abbrev pub visible : Characters → List Character
visible set = filter (λ c. not (is_erased set.erased c.stamp)) (order itself set.inserted)

-- the text
abbrev pub text_of : Characters → List ℕ
text_of set = map (λ c. c.character) (visible set)

-- the author of each visible character
abbrev pub authors_of : Characters → List Author
authors_of set = map (λ c. c.author) (visible set)

-- whether two authors have the same name and the same origin
abbrev pub same_author : Author → Author → Bool
same_author a b = bytes_eq a.name b.name && a.origin == b.origin

-- the runs with one more character in front, joined to the first if it is of the same author
abbrev pub join_run : Author → List AuthorRun → List AuthorRun
join_run author [] = record { author = author; len = 1 } ∷ []
join_run author (run ∷ runs) =
    if same_author author run.author then record run { len = run.len + 1 } ∷ runs
    else record { author = author; len = 1 } ∷ run ∷ runs

-- a list of authors, as the fewest runs
abbrev pub runs : List Author → List AuthorRun
runs [] = []
runs (author ∷ authors) = join_run author (runs authors)

-- the author runs of the text
abbrev pub runs_of : Characters → List AuthorRun
runs_of set = runs (authors_of set)

-- how many of the items before the stamp a are shown
abbrev pub shown_before : {A : Type 0} → (A → Character) → (A → Bool) → List A → Stamp → ℕ
shown_before at shown [] a = 0
shown_before at shown (x ∷ xs) a = if same_stamp (at x).stamp a then 0
    else (if shown x then 1 else 0)
    + shown_before at shown xs a

-- how many of the items up to and including the stamp a are shown
abbrev pub shown_through : {A : Type 0} → (A → Character) → (A → Bool) → List A → Stamp → ℕ
shown_through at shown [] a = 0
shown_through at shown (x ∷ xs) a = (if shown x then 1 else 0)
    + (if same_stamp (at x).stamp a then 0 else shown_through at shown xs a)

-- how many visible characters come before the stamp a in the order with erased characters
abbrev pub visible_before : Characters → Stamp → ℕ
visible_before set a = shown_before itself (λ c. not (is_erased set.erased c.stamp))
    (order itself set.inserted) a

-- how many visible characters come before the stamp a or have it
abbrev pub visible_through : Characters → Stamp → ℕ
visible_through set a = shown_through itself (λ c. not (is_erased set.erased c.stamp))
    (order itself set.inserted) a

-- a stretch of the visible text
pub record Range : Type 0 where
  pub at : ℕ
  pub len : ℕ

-- the range of a comment from the stamp a to the stamp b: what is visible before a, and from a to b, both included
abbrev pub range_of : Characters → Stamp → Stamp → Range
range_of set a b = record {
  at = visible_before set a;
  len = visible_through set b - visible_before set a;
}

-- the position of a caret: after its character, or at the start
abbrev pub caret_of : Characters → Option Stamp → ℕ
caret_of set None = 0
caret_of set (Some a) = visible_through set a

-- the stamp of the visible character at position i, from 0
abbrev pub stamp_at : Characters → ℕ → Option Stamp
stamp_at set i = option_map (λ c. c.stamp) (slice_get (visible set) i)

-- the spans with one more stamp in front, joined to the first if it is the next after it
abbrev pub join_span : Stamp → List Span → List Span
join_span s [] = record { first = s; len = 1 } ∷ []
join_span s (span ∷ spans) =
    if same_stamp (next s) span.first then record { first = s; len = span.len + 1 } ∷ spans
    else record { first = s; len = 1 } ∷ span ∷ spans

-- a list of stamps, as the fewest spans of consecutive stamps
abbrev pub spans : List Stamp → List Span
spans [] = []
spans (s ∷ stamps) = join_span s (spans stamps)

-- the spans of the n visible characters from position i on
abbrev pub spans_of : Characters → ℕ → ℕ → List Span
spans_of set i n = spans (map (λ c. c.stamp) (take n (drop i (visible set))))

-- how many visible characters an erasure of these stamps hides
abbrev pub hidden_by : List Stamp → Characters → ℕ
hidden_by stamps set = count_by (λ c. is_erased stamps c.stamp) (visible set)
