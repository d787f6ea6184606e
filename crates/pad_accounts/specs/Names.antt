-- The names that are to be added, and what can be wrong with them.
use Rattle.std.specs.Prelude.{ℕ, ◌+◌, ◌==◌, ◌||◌, Bool, true, not, codes, if◌then◌else◌, List, [], ◌∷◌, ◌++◌, bytes_eq}
use Rattle.std.specs.Prelude.{Option, None, Some}
use Rattle.std.specs.List.{list_any}
use Rattle.std.specs.Option.{is_some}
use Rattle.std.specs.Borrow.{Bor}
use Rattle.pad_model.specs.Checked.{is_name}
use Rattle.pad_accounts.specs.Lines.{rest_in, token_in, without_end}
use Rattle.pad_accounts.specs.declared.names.ListedName.{ListedName}
use Rattle.pad_accounts.specs.declared.names.NameFault.{NameFault}
use Rattle.pad_accounts.specs.declared.names.NameFault.TheVariants.{NotAName, Twice, Taken}
use Rattle.pad_accounts.specs.declared.names.WrongName.{WrongName}

-- a name with the number of its line, if it is from a list
abbrev pub Seen : Type 0
Seen = List ℕ × Option ℕ

-- a name that is to be added, as contracts see it
abbrev pub seen : ListedName → Seen
seen named = (named.name.now, named.line)

-- the name in a word of the command line
abbrev pub of_word : Bor (List ℕ) → Seen
of_word word = (word.now, None)

-- whether a line of a list is empty or begins with #
abbrev pub is_passed_over : List ℕ → Bool
is_passed_over [] = true
is_passed_over (b ∷ bs) = b == 35

-- the names on the lines of a list, of which the first has this number
abbrev pub names_from : ℕ → List (List ℕ) → List Seen
names_from number [] = []
names_from number (line ∷ rest) =
    if is_passed_over (without_end line) then names_from (number + 1) rest
    else (without_end line, Some number) ∷ names_from (number + 1) rest

-- whether one of these lines is that of an author's token or hash
abbrev pub has_author : List ℕ → List (List ℕ) → Bool
has_author name lines = is_some (token_in name lines) || is_some (rest_in (codes "hash ") name lines)

-- whether one of these names is this one
abbrev pub was_named : List ℕ → List ListedName → Bool
was_named name names = list_any (λ other. bytes_eq other.name.now name) names

-- what is wrong with a name, if it is to be added after others to a file with these lines
abbrev pub fault_of : List (List ℕ) → List ListedName → List ℕ → Option NameFault
fault_of lines before name =
    if not (is_name name) then Some NotAName
    else if was_named name before then Some Twice
    else if has_author name lines then Some Taken
    else None

-- a fault, or otherwise what comes later
abbrev pub fault_or : ListedName → Option NameFault → Option WrongName → Option WrongName
fault_or named (Some fault) later = Some (record { named = named; fault = fault })
fault_or named None later = later

-- the first name that cannot be added
abbrev pub first_fault : List (List ℕ) → List ListedName → List ListedName → Option WrongName
first_fault lines before [] = None
first_fault lines before (named ∷ rest) =
    fault_or named (fault_of lines before named.name.now) (first_fault lines (before ++ named ∷ []) rest)
