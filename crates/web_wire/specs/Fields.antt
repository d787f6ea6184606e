-- The fields of a request's head.
use Rattle.std.specs.Prelude.{ℕ, Bool, true, not, is_some, if◌then◌else◌, List, [], ◌∷◌}
use Rattle.websocket.specs.Headers.{Fields, eq_ignore_case, header_value}

-- whether at most one field has a name; the case of the name's letters does not matter
abbrev pub is_single : Fields → List ℕ → Bool
is_single [] name = true
is_single (field ∷ more) name =
    if eq_ignore_case field.0 name then not (is_some (header_value more name)) else is_single more name
