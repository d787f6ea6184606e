-- The lines of an accounts file as they stand, and which of them is an author's.
use Rattle.std.specs.Prelude.{ℕ, Bool, ◌-◌, ◌==◌, ◌||◌, if◌then◌else◌, List, [], ◌∷◌, ◌++◌, length, take, drop}
use Rattle.std.specs.Prelude.{Option, None, Some, option_map, option_and_then, is_some, unwrap_or, codes, bytes_eq}
use Rattle.std.specs.List.{onto_first, position}
use Rattle.std.specs.Option.{option_or}
use Rattle.sessions.specs.Secrets.{hash_of}
use Rattle.pad_accounts.specs.declared.lines.Taken.{Taken}
use Rattle.pad_accounts.specs.declared.lines.Taken.TheVariants.{AllLines, PersonLine}
use Rattle.pad_accounts.specs.declared.new_author.NewAuthor.{NewAuthor}
use Rattle.pad_accounts.specs.declared.new_author.SecretKind.{SecretKind}
use Rattle.pad_accounts.specs.declared.new_author.SecretKind.TheVariants.{Token, Hash}

-- the lines of a text, each with its line feed; the last one may have none
abbrev pub raw_lines : List ℕ → List (List ℕ)
raw_lines [] = []
raw_lines (b ∷ bs) = if b == 10 then (b ∷ []) ∷ raw_lines bs else onto_first b (raw_lines bs)

-- what stands in front of an end, if a text has this end
abbrev pub before_end : List ℕ → List ℕ → Option (List ℕ)
before_end end text =
    if bytes_eq (drop (length text - length end) text) end then Some (take (length text - length end) text) else None

-- what stands in front of a line feed, without a carriage return at its end; or the line, if it has no line feed
abbrev pub without_return : Option (List ℕ) → List ℕ → List ℕ
without_return None line = line
without_return (Some rest) line = unwrap_or (before_end (13 ∷ []) rest) rest

-- a line without its line feed, and without a carriage return in front of that
abbrev pub without_end : List ℕ → List ℕ
without_end line = without_return (before_end (10 ∷ []) line) line

-- what follows a prefix
abbrev pub stripped : List ℕ → List ℕ → Option (List ℕ)
stripped prefix text =
    if bytes_eq (take (length prefix) text) prefix then Some (drop (length prefix) text) else None

-- what stands in front of a place, or the whole text without one
abbrev pub up_to : Option ℕ → List ℕ → List ℕ
up_to None text = text
up_to (Some place) text = take place text

-- what stands in front of the first space
abbrev pub first_word : List ℕ → List ℕ
first_word text = up_to (position (λ b. b == 32) text) text

-- what follows a first word with its space, a name and a space on a line, with the end of the line
abbrev pub rest_on : List ℕ → List ℕ → List ℕ → Option (List ℕ)
rest_on kind name line = option_and_then (stripped (codes " ")) (option_and_then (stripped name)
    (stripped kind line))

-- what follows them on the first line that begins so, without the end of the line
abbrev pub rest_in : List ℕ → List ℕ → List (List ℕ) → Option (List ℕ)
rest_in kind name [] = None
rest_in kind name (line ∷ rest) = option_or (option_map without_end (rest_on kind name line)) (rest_in kind name rest)

-- the token on the first line `author NAME TOKEN`
abbrev pub token_in : List ℕ → List (List ℕ) → Option (List ℕ)
token_in name lines = rest_in (codes "author ") name lines

-- whether a line is an author's: that of a token, of a hash, or of a person
abbrev pub is_line_of : List ℕ → List ℕ → Bool
is_line_of name line =
    is_some (rest_on (codes "author ") name line)
    || (is_some (rest_on (codes "hash ") name line) || is_some (rest_on (codes "person ") name line))

-- whether a line is one of those that are taken out: all of an author's, or that of the person alone
abbrev pub is_out : Taken → List ℕ → List ℕ → Bool
is_out AllLines name line = is_line_of name line
is_out PersonLine name line = is_some (rest_on (codes "person ") name line)

-- a line, or nothing if it is taken out
abbrev pub unless_out : Taken → List ℕ → List ℕ → List ℕ
unless_out taken name line = if is_out taken name line then [] else line

-- the lines without those that are taken out, byte for byte
abbrev pub without : Taken → List ℕ → List (List ℕ) → List ℕ
without taken name [] = []
without taken name (line ∷ rest) = unless_out taken name line ++ without taken name rest

-- a text with the line of an author behind it, which has the token or its hash
abbrev pub with_author : SecretKind → List ℕ → NewAuthor → List ℕ
with_author Token text author =
    text ++ codes "author " ++ author.name.now ++ codes " " ++ author.token.items ++ (10 ∷ [])
with_author Hash text author =
    text ++ codes "hash " ++ author.name.now ++ codes " " ++ hash_of author.token.items ++ (10 ∷ [])

-- a text with the lines of authors behind it, in their order
abbrev pub with_each : SecretKind → List ℕ → List NewAuthor → List ℕ
with_each kind text [] = text
with_each kind text (author ∷ rest) = with_each kind (with_author kind text author) rest

-- the line feed that a text lacks, if its last line has none
abbrev pub line_end : List ℕ → List ℕ
line_end text = if length text == 0 || is_some (before_end (10 ∷ []) text) then [] else 10 ∷ []

-- a text with a line for each author behind it, and before them the line feed that it lacks
abbrev pub with_authors : SecretKind → List ℕ → List NewAuthor → List ℕ
with_authors kind text new = with_each kind (text ++ line_end text) new
