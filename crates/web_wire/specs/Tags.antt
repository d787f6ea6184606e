-- Which entity tags a request names.
use Rattle.std.specs.Prelude.{ℕ, Bool, true, false, ◌||◌, ◌&&◌, ◌==◌, if◌then◌else◌, List, [], ◌∷◌, take, drop, codes, bytes_eq}
use Rattle.std.specs.Char.{is_ascii_whitespace}
use Rattle.std.specs.List.{list_any, slice_split}

-- a text without the white space at its start
abbrev pub without_lead : List ℕ → List ℕ
without_lead [] = []
without_lead (b ∷ bs) = if is_ascii_whitespace b then without_lead bs else b ∷ bs

-- whether a text has no byte
abbrev pub is_empty : List ℕ → Bool
is_empty [] = true
is_empty (b ∷ bs) = false

-- a text without the white space at its end
abbrev pub without_trail : List ℕ → List ℕ
without_trail [] = []
without_trail (b ∷ bs) = if is_ascii_whitespace b && is_empty (without_trail bs) then []
    else b ∷ without_trail bs

-- a text without the white space at either end
abbrev pub trimmed : List ℕ → List ℕ
trimmed text = without_trail (without_lead text)

-- a tag without the mark of a weak one
abbrev pub strong : List ℕ → List ℕ
strong tag = if bytes_eq (take 2 tag) (codes "W/") then drop 2 tag else tag

-- whether a part of a list is an asterisk, or this tag, which may be weak there
unfoldable pub is_tag : List ℕ → List ℕ → Bool
is_tag part tag = bytes_eq (trimmed part) (codes "*") || bytes_eq (strong (trimmed part)) tag

-- whether a list, whose parts are between commas, names this tag
abbrev pub names_tag : List ℕ → List ℕ → Bool
names_tag tags tag = list_any (λ part. is_tag part tag) (slice_split (λ b. b == 44) tags)
