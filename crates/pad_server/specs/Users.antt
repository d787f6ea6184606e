-- What `--user-header` takes.
use Rattle.std.specs.Prelude.{ℕ, Bool, ◌&&◌, ◌||◌, ◌==◌, nat_le, nat_lt, List, length}
use Rattle.std.specs.List.{list_all}

-- a digit, a letter, or one of - _
abbrev pub is_name_byte : ℕ → Bool
is_name_byte byte =
    (nat_le 48 byte && nat_le byte 57) || ((nat_le 65 byte && nat_le byte 90) || ((nat_le 97 byte && nat_le byte 122)
    || (byte == 45 || byte == 95)))

-- whether a text may be the name of a field: it is not empty, and has only digits, letters, - and _
abbrev pub is_field_name : List ℕ → Bool
is_field_name name = nat_lt 0 (length name) && list_all is_name_byte name
