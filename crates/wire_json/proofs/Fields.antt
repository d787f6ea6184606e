-- A form of a field in two steps.
use Rattle.std.proofs.Common.{◌≡◌, ℕ, List, Option, Some, None, option_map, option_and_then, refl}
use Rattle.std.specs.Str.{chars}
use Rattle.serde_json.specs.Data.{Data}
use Rattle.serde_json.specs.Find.{get, as_str}
use Rattle.wire_json.specs.Reading.{field, grantee_in, invited_in, text_in, right_in}
use Rattle.wire_json.specs.Words.{granted_by, grantee_of, invited_by}

mapped : {A B : Type 0} (form : Data → Option A) (f : A → B) (found : Option Data) →
    option_and_then (λ d. option_map f (form d)) found ≡ option_map f (option_and_then form found)
mapped form f None = refl
mapped form f (Some d) = refl

chained : {A B : Type 0} (form : Data → Option A) (f : A → Option B) (found : Option Data) →
    option_and_then (λ d. option_and_then f (form d)) found ≡ option_and_then f (option_and_then form found)
chained form f None = refl
chained form f (Some d) = refl

-- a text is the characters of a string
pub text_of_string : (key : List ℕ) (d : Data) → field text_in key d ≡ option_map chars (field as_str key d)
text_of_string key d = mapped as_str chars (get key d)

-- a grantee is whom a string names
pub grantee_of_string : (key : List ℕ) (d : Data) → field grantee_in key d ≡ option_map grantee_of (field as_str key d)
grantee_of_string key d = mapped as_str grantee_of (get key d)

-- a right is what a string gives
pub right_of_string : (key : List ℕ) (d : Data) → field right_in key d ≡ option_and_then granted_by (field as_str key d)
right_of_string key d = chained as_str granted_by (get key d)

-- the right of an invitation is what a string gives
pub invited_of_string : (key : List ℕ) (d : Data) → field invited_in key d ≡ option_and_then invited_by (field as_str key d)
invited_of_string key d = chained as_str invited_by (get key d)
