-- The value of a line in UTF-8, and lines that have none.
use Rattle.std.proofs.Common.{◌≡◌, ℕ, List, Bool, true, false, Some, None, refl, if◌then◌else◌}
use Rattle.std.specs.Str.{IsUtf8, is_utf8}
use Rattle.std.proofs.lemmas.Str.{IsUtf8-from_is_utf8, is_utf8-from_IsUtf8}
use Rattle.serde_json.specs.Data.{Data}
use Rattle.serde_json.specs.Read.{read}
use Rattle.wire_json.specs.Lines.{value_of}

-- a line in UTF-8 has the value that its text has
pub value_of_text : (line : List ℕ) (d : Data) → IsUtf8 line → read line ≡ Some d → value_of line ≡ Some d
value_of_text line d utf8 is = rw (is_utf8-from_IsUtf8 line utf8) is

none_at : (line : List ℕ) (b : Bool) → is_utf8 line ≡ b → (IsUtf8 line → read line ≡ None) →
    (if b then read line else None) ≡ None
none_at line true is refused = refused (IsUtf8-from_is_utf8 line is)
none_at line false is refused = refl

-- a line has none if its text is refused
pub no_value : (line : List ℕ) → (IsUtf8 line → read line ≡ None) → value_of line ≡ None
no_value line refused = none_at line (is_utf8 line) refl refused
