-- Small forms are read as they were written.
use Rattle.std.proofs.Common.{◌≡◌, ℕ, ◌≤◌, ◌<◌, List, [], ◌∷◌, map, true, Option, Some, None, option_map, refl, ap}
use Rattle.std.proofs.Common.{arith}
use Rattle.std.proofs.lemmas.Bool.{cond-true, and_from, le-leb, lt-ltb}
use Rattle.std.proofs.lemmas.Str.{chars-encodes}
use Rattle.std.specs.List.{AllByRecursion}
use Rattle.std.specs.Option.{IfSome}
use Rattle.std.specs.Str.{all_scalars}
use Rattle.serde_json.specs.Data.{Data}
use Rattle.serde_json.specs.Find.{get}
use Rattle.serde_json.specs.View.{items_of}
use Rattle.pad_model.specs.Seen.{IsVector}
use Rattle.pad_model.specs.Stamp.{Stamp}
use Rattle.pad_model.specs.declared.limits.TheConstants.{MAX_COUNTER, MAX_REPLICA}
use Rattle.pad_model.specs.declared.op.OpName.{OpName}
use Rattle.pad_model.specs.declared.op.Span.{Span}
use Rattle.pad_model.specs.declared.seen.Counted.{Counted}
use Rattle.wire_json.specs.Forms.{each_data, number_data, text_data, op_name_data, stamp_data, parent_data, span_data}
use Rattle.wire_json.specs.Forms.{counted_data, seen_data}
use Rattle.wire_json.specs.Laws.{IsStamp}
use Rattle.wire_json.specs.Reading.{of_two, of_three, of_four, field, null_or, list_in, positive_in, within_in, text_in}
use Rattle.wire_json.specs.Reading.{stamp_of, stamp_in, op_name_in, counted_in, span_in, rising_in, seen_in}

-- what is made of two things that are there
pub two_found : {A B C : Type 0} (make : A → B → C) (a : A) (b : B) (first : Option A) (second : Option B) →
    first ≡ Some a → second ≡ Some b
    → of_two make first second ≡ Some (make a b)
two_found make a b first second is_first is_second = rw (is_first, is_second) refl

pub three_found : {A B C D : Type 0} (make : A → B → C → D) (a : A) (b : B) (c : C) (first : Option A)
    (second : Option B) (third : Option C)
    → first ≡ Some a → second ≡ Some b → third ≡ Some c → of_three make first second third ≡ Some (make a b c)
three_found make a b c first second third is_first is_second is_third = rw (is_first, is_second, is_third) refl

pub four_found : {A B C D E : Type 0} (make : A → B → C → D → E) (a : A) (b : B) (c : C) (d : D) (first : Option A)
    (second : Option B) (third : Option C) (fourth : Option D)
    → first ≡ Some a → second ≡ Some b → third ≡ Some c → fourth ≡ Some d → of_four make first second third fourth
    ≡ Some (make a b c d)
four_found make a b c d first second third fourth is_first is_second is_third is_fourth =
    rw (is_first, is_second, is_third, is_fourth) refl

pub field_found : {A : Type 0} (form : Data → Option A) (key : List ℕ) (d v : Data) (x : A) → get key d ≡ Some v →
    form v ≡ Some x → field form key d ≡ Some x
field_found form key d v x is_there is = rw is_there is

within_again : (n most : ℕ) → 1 ≤ n → n ≤ most → within_in most (number_data n) ≡ Some n
within_again n most low high = cond-true _ _ _ (and_from _ _ (le-leb 1 n low) (le-leb n most high))

positive_again : (n : ℕ) → 1 ≤ n → positive_in (number_data n) ≡ Some n
positive_again n low = cond-true _ _ _ (le-leb 1 n low)

pub text_again : (characters : List ℕ) → all_scalars characters ≡ true → text_in (text_data characters)
    ≡ Some characters
text_again characters scalar = ap Some (chars-encodes characters scalar)

stamp_of_again : (s : Stamp) → IsStamp s → stamp_of (number_data s.counter) (number_data s.replica) ≡ Some s
stamp_of_again s h = two_found (λ c r. record { counter = c; replica = r }) s.counter s.replica _ _
    (within_again s.counter MAX_COUNTER h.0 h.1) (within_again s.replica MAX_REPLICA h.2 h.3)

pub stamp_again : (s : Stamp) → IsStamp s → stamp_in (stamp_data s) ≡ Some s
stamp_again s h = stamp_of_again s h

pub parent_again : (after : Option Stamp) → IfSome after IsStamp → null_or stamp_in (parent_data after) ≡ Some after
parent_again None h = refl
parent_again (Some s) h = ap (option_map Some) (stamp_again s h)

pub span_again : (span : Span) → IsStamp span.first → span_in (span_data span) ≡ Some span
span_again span h = two_found (λ s n. record { first = s; len = n }) span.first span.len _ _
    (stamp_of_again span.first h) refl

pub op_name_again : (name : OpName) → 1 ≤ name.origin → name.origin ≤ MAX_REPLICA → 1 ≤ name.number →
    op_name_in (op_name_data name) ≡ Some name
op_name_again name low high some =
    two_found (λ o n. record { origin = o; number = n }) name.origin name.number _ _
    (within_again name.origin MAX_REPLICA low high) (positive_again name.number some)

counted_again : (pair : Counted) → 1 ≤ pair.origin → pair.origin ≤ MAX_REPLICA → 1 ≤ pair.count →
    counted_in (counted_data pair) ≡ Some pair
counted_again pair low high some =
    two_found (λ o n. record { origin = o; count = n }) pair.origin pair.count _ _
    (within_again pair.origin MAX_REPLICA low high) (positive_again pair.count some)

-- a list is read as it was written if each item is
pub list_again : {A : Type 0} (form : Data → Option A) (data_of : A → Data) (xs : List A) →
    AllByRecursion (λ x. form (data_of x) ≡ Some x) xs
    → list_in form (each_data data_of xs) ≡ Some xs
list_again form data_of [] h = refl
list_again form data_of (x ∷ xs) h = two_found (λ y ys. y ∷ ys) x xs _ _ h.0 (list_again form data_of xs h.1)

rising_again : (floor : ℕ) (pairs : List Counted) → IsVector pairs →
    AllByRecursion (λ pair. pair.origin ≤ MAX_REPLICA) pairs → AllByRecursion (λ pair. floor < pair.origin) pairs
    → rising_in floor (items_of (map counted_data pairs)) ≡ Some pairs
rising_again floor [] vector limits above = refl
rising_again floor (pair ∷ pairs) vector limits above =
    rw (counted_again pair (omega (arith, above.0)) limits.0 vector.0, lt-ltb floor pair.origin above.0)
    (ap (option_map (λ ps. pair ∷ ps)) (rising_again pair.origin pairs vector.2 limits.1 vector.1))

pub seen_again : (pairs : List Counted) → IsVector pairs → AllByRecursion (λ pair. pair.origin ≤ MAX_REPLICA) pairs →
    AllByRecursion (λ pair. 0 < pair.origin) pairs
    → seen_in (seen_data pairs) ≡ Some pairs
seen_again pairs vector limits above = rising_again 0 pairs vector limits above
