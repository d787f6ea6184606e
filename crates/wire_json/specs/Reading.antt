-- How values are read: a form gives the meaning of each value that has the form, and nothing for other values.
use Rattle.std.specs.Prelude.{◌≡◌, ◌⊎◌, ℕ, Bool, ◌==◌, nat_lt, nat_le, if◌then◌else◌, List, [], ◌∷◌, Option, Some, None}
use Rattle.std.specs.Prelude.{option_map, option_and_then, is_some, Result, Err, MatchResult}
use Rattle.std.specs.Str.{chars}
use Rattle.serde_json.specs.Data.{Data, Items, no_items, item}
use Rattle.serde_json.specs.Find.{get, as_bool, as_number, as_u64, as_str, as_array, as_null}
use Rattle.pad_model.specs.Checked.{is_within}
use Rattle.pad_model.specs.Stamp.{Stamp}
use Rattle.pad_model.specs.declared.limits.TheConstants.{MAX_COUNTER, MAX_REPLICA}
use Rattle.pad_model.specs.declared.op.OpName.{OpName}
use Rattle.pad_model.specs.declared.op.Span.{Span}
use Rattle.pad_model.specs.declared.seen.Counted.{Counted}
use Rattle.pad_model.specs.declared.refusal.Refusal.{Refusal}
use Rattle.pad_model.specs.declared.refusal.Refusal.TheVariants.{NotRequest, Memory}
use Rattle.pad_model.specs.declared.who.Version.{Version}
use Rattle.pad_model.specs.declared.who.Version.TheVariants as version
use Rattle.rights.specs.declared.grantee.Grantee.{Grantee}
use Rattle.rights.specs.declared.right.Right.{Right}
use Rattle.wire_json.specs.Words.{granted_by, grantee_of, invited_by}

-- what is expected was read; or nothing is expected, and the result is NotRequest
abbrev pub IsForm : {A : Type 0} → Option A → Result A Refusal → Type 0
IsForm expected result = MatchResult result (λ found. expected ≡ Some found)
    (λ refusal. (refusal ≡ NotRequest)
    × (expected ≡ None))

-- the same, or memory ran out
abbrev pub IsRead : {A : Type 0} → Option A → Result A Refusal → Type 0
IsRead expected result =
    MatchResult result (λ found. expected ≡ Some found)
    (λ refusal. (refusal ≡ Memory) ⊎ ((refusal ≡ NotRequest) × (expected ≡ None)))

-- a line was read so; or memory ran out while it was read, which is returned at once, without looking at the rest of
-- the line
abbrev pub IsLine : {A : Type 0} → Result A Refusal → Result A Refusal → Type 0
IsLine expected result = (result ≡ Err Memory) ⊎ (expected ≡ result)

-- what is made of two things, if both are there
abbrev pub of_two : {A B C : Type 0} → (A → B → C) → Option A → Option B → Option C
of_two make None b = None
of_two make (Some a) b = option_map (make a) b

-- of three
abbrev pub of_three : {A B C D : Type 0} → (A → B → C → D) → Option A → Option B → Option C
    → Option D
of_three make None b c = None
of_three make (Some a) b c = of_two (make a) b c

-- of four
abbrev pub of_four : {A B C D E : Type 0} → (A → B → C → D → E) → Option A → Option B → Option C
    → Option D → Option E
of_four make None b c d = None
of_four make (Some a) b c d = of_three (make a) b c d

-- the meaning of a field of an object
abbrev pub field : {A : Type 0} → (Data → Option A) → List ℕ → Data → Option A
field form key d = option_and_then form (get key d)

-- nothing for null, otherwise the meaning of the value
abbrev pub null_or : {A : Type 0} → (Data → Option A) → Data → Option (Option A)
null_or form d = if is_some (as_null d) then Some None else option_map Some (form d)

-- nothing for what is absent
abbrev pub absent_or : {A : Type 0} → (Data → Option (Option A)) → Option Data → Option (Option A)
absent_or form None = Some None
absent_or form (Some d) = form d

-- the meaning of a field that may be absent or null
abbrev pub optional : {A : Type 0} → (Data → Option A) → List ℕ → Data → Option (Option A)
optional form key d = absent_or (null_or form) (get key d)

-- the meaning of a field that may be absent, but not null
abbrev pub if_there : {A : Type 0} → (Data → Option A) → List ℕ → Data → Option (Option A)
if_there form key d = absent_or (λ found. option_map Some (form found)) (get key d)

-- the meaning of each item, if each has one
abbrev pub each_in : {A : Type 0} → (Data → Option A) → Items → Option (List A)
each_in form no_items = Some []
each_in form (item d ds) = of_two (λ x xs. x ∷ xs) (form d) (each_in form ds)

-- the meaning of a list whose items have the same form
abbrev pub list_in : {A : Type 0} → (Data → Option A) → Data → Option (List A)
list_in form d = option_and_then (each_in form) (as_array d)

-- exactly two items
abbrev pub two_of : Items → Option (Data × Data)
two_of no_items = None
two_of (item a no_items) = None
two_of (item a (item b no_items)) = Some (a, b)
two_of (item a (item b (item c more))) = None

-- exactly three items
abbrev pub three_of : Items → Option (Data × Data × Data)
three_of no_items = None
three_of (item a no_items) = None
three_of (item a (item b no_items)) = None
three_of (item a (item b (item c no_items))) = Some (a, b, c)
three_of (item a (item b (item c (item d more)))) = None

-- a list of exactly two values
abbrev pub pair_in : Data → Option (Data × Data)
pair_in d = option_and_then two_of (as_array d)

-- a list of exactly three values
abbrev pub triple_in : Data → Option (Data × Data × Data)
triple_in d = option_and_then three_of (as_array d)

-- a number: no sign, no fraction, no exponent, below 2^64
abbrev pub number_in : Data → Option ℕ
number_in d = option_and_then as_u64 (as_number d)

-- a number that is at least 1
abbrev pub positive_in : Data → Option ℕ
positive_in d = option_and_then (λ n. if nat_le 1 n then Some n else None) (number_in d)

-- a number from 1 to most
abbrev pub within_in : ℕ → Data → Option ℕ
within_in most d = option_and_then (λ n. if is_within n most then Some n else None) (number_in d)

-- true or false
abbrev pub truth_in : Data → Option Bool
truth_in d = as_bool d

-- a name or a token, as its bytes
abbrev pub name_in : Data → Option (List ℕ)
name_in d = as_str d

-- a text, as its characters
abbrev pub text_in : Data → Option (List ℕ)
text_in d = option_map chars (as_str d)

-- the stamp of a counter and a replica
abbrev pub stamp_of : Data → Data → Option Stamp
stamp_of counter replica = of_two (λ c r. record { counter = c; replica = r })
    (within_in MAX_COUNTER counter)
    (within_in MAX_REPLICA replica)

-- a stamp
abbrev pub stamp_in : Data → Option Stamp
stamp_in d = option_and_then (λ p. stamp_of p.0 p.1) (pair_in d)

-- the name of an operation of an origin and a number
abbrev pub op_name_of : Data → Data → Option OpName
op_name_of origin count = of_two (λ o n. record { origin = o; number = n })
    (within_in MAX_REPLICA origin)
    (positive_in count)

-- the name of an operation
abbrev pub op_name_in : Data → Option OpName
op_name_in d = option_and_then (λ p. op_name_of p.0 p.1) (pair_in d)

-- the count of an origin
abbrev pub counted_of : Data → Data → Option Counted
counted_of origin count = of_two (λ o n. record { origin = o; count = n })
    (within_in MAX_REPLICA origin)
    (positive_in count)

-- how many operations of an origin are known
abbrev pub counted_in : Data → Option Counted
counted_in d = option_and_then (λ p. counted_of p.0 p.1) (pair_in d)

-- consecutive stamps, from the first one on
abbrev pub span_of : Data → Data → Data → Option Span
span_of counter replica len = of_two (λ s n. record { first = s; len = n })
    (stamp_of counter replica) (number_in len)

-- consecutive stamps
abbrev pub span_in : Data → Option Span
span_in d = option_and_then (λ t. span_of t.0 t.1 t.2) (triple_in d)

-- counts whose origins rise from above a floor on
abbrev pub rising_in : ℕ → Items → Option (List Counted)
rising_in floor no_items = Some []
rising_in floor (item d ds) =
    option_and_then (λ pair. if nat_lt floor pair.origin then option_map (λ pairs. pair ∷ pairs)
    (rising_in pair.origin ds) else None) (counted_in d)

-- a version vector
abbrev pub seen_in : Data → Option (List Counted)
seen_in d = option_and_then (rising_in 0) (as_array d)

-- whom a right is granted to
abbrev pub grantee_in : Data → Option Grantee
grantee_in d = option_map grantee_of (name_in d)

-- the right to grant, or nothing to revoke it
abbrev pub right_in : Data → Option (Option Right)
right_in d = option_and_then granted_by (name_in d)

-- the right of an invitation
abbrev pub invited_in : Data → Option Right
invited_in d = option_and_then invited_by (name_in d)

-- the version with a number, or version 1 if there is none
abbrev pub version_of : Option ℕ → Option Version
version_of None = Some version.One
version_of (Some n) = if n == 1 then Some version.One else if n == 2 then Some version.Two else None
