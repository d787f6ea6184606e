-- What the lines of an accounts file say, or what is wrong with them.
use Rattle.std.specs.Prelude.{ℕ, ◌+◌, ◌-◌, ◌*◌, Bool, not, ◌&&◌, ◌||◌, ◌==◌, nat_le, if◌then◌else◌, List, [], ◌∷◌, ◌++◌}
use Rattle.std.specs.Prelude.{length, fold, slice_index, bytes_eq, codes, Result, Ok, Err}
use Rattle.std.specs.Char.{is_control}
use Rattle.std.specs.List.{list_all, list_any, slice_split}
use Rattle.std.specs.Str.{chars, is_utf8}
use Rattle.pad_model.specs.Checked.{is_within, is_name}
use Rattle.pad_model.specs.declared.limits.TheConstants.{MAX_NAME, MAX_REPLICA}
use Rattle.sessions.specs.declared.line.TheConstants.{MAX_TOKEN, MAX_ADDRESS, MAX_ID, MAX_DISPLAY}
use Rattle.sessions.specs.declared.mistake.Mistake.{Mistake}
use Rattle.sessions.specs.declared.mistake.Mistake.TheVariants as mistake

-- what a line says
pub data Said : Type 0 where
  nothing : Said
  an_author : List ℕ → List ℕ → Said
  a_hash : List ℕ → List ℕ → Said
  a_peer : ℕ → List ℕ → List ℕ → Said
  a_person : List ℕ → List ℕ → List ℕ → Said

-- the words between the spaces of a line
abbrev pub words : List ℕ → List (List ℕ)
words line = slice_split (λ b. b == 32) line

-- whether a byte is one of 0x21 to 0x7E
abbrev pub is_shown : ℕ → Bool
is_shown b = nat_le 33 b && nat_le b 126

-- whether a word has 1 to most such bytes
abbrev pub is_word : ℕ → List ℕ → Bool
is_word most word = is_within (length word) most && list_all is_shown word

-- words as one text, with a space between each two
abbrev pub joined : List (List ℕ) → List ℕ
joined [] = []
joined (word ∷ []) = word
joined (word ∷ next ∷ rest) = word ++ 32 ∷ joined (next ∷ rest)

-- whether a byte is one of 0-9 and a-f
abbrev pub is_hash_digit : ℕ → Bool
is_hash_digit b = (nat_le 48 b && nat_le b 57) || (nat_le 97 b && nat_le b 102)

-- whether a word is a hash: 64 such digits
abbrev pub is_hash : List ℕ → Bool
is_hash word = length word == 64 && list_all is_hash_digit word

-- whether a text has no control character
abbrev pub is_plain : List ℕ → Bool
is_plain text = list_all (λ c. not (is_control c)) (chars text)

-- whether a text is a display name: UTF-8 without control characters, of no more characters than the limit
abbrev pub is_display : List ℕ → Bool
is_display text = is_utf8 text && is_plain text && nat_le (length (chars text)) MAX_DISPLAY

-- whether a word is an address: it has a colon
abbrev pub is_address : List ℕ → Bool
is_address word = is_word MAX_ADDRESS word && list_any (λ b. b == 58) word

-- whether a word has only digits
abbrev pub are_digits : List ℕ → Bool
are_digits word = list_all (λ b. nat_le 48 b && nat_le b 57) word

-- the number that digits represent
abbrev pub decimal : List ℕ → ℕ
decimal digits = fold (λ n digit. n * 10 + (digit - 48)) 0 digits

-- whether a word is a replica's number in digits, without a leading zero
abbrev pub is_number : List ℕ → Bool
is_number word = are_digits word && not (slice_index word 0 == 48)
    && is_within (decimal word) MAX_REPLICA

-- why a word is not a name
abbrev pub name_mistake : List ℕ → Mistake
name_mistake word = if nat_le (length word) MAX_NAME then mistake.NameByte else mistake.LongName

-- why a word is not a replica's number
abbrev pub number_mistake : List ℕ → Mistake
number_mistake word =
    if not (are_digits word) then mistake.NotDigits
    else if slice_index word 0 == 48 then mistake.LeadingZero
    else mistake.LargeNumber

-- why a word is not a token
abbrev pub token_mistake : List ℕ → Mistake
token_mistake word = if nat_le (length word) MAX_TOKEN then mistake.TokenByte else mistake.LongToken

-- why a word is not an address
abbrev pub address_mistake : List ℕ → Mistake
address_mistake word =
    if not (nat_le (length word) MAX_ADDRESS) then mistake.LongAddress
    else if list_all is_shown word then mistake.NoColon
    else mistake.AddressByte

-- why a word is not a hash
abbrev pub hash_mistake : List ℕ → Mistake
hash_mistake word = if length word == 64 then mistake.HashDigit else mistake.HashLength

-- why a word is not an ID
abbrev pub id_mistake : List ℕ → Mistake
id_mistake word = if nat_le (length word) MAX_ID then mistake.IdByte else mistake.LongId

-- why a text is not a display name
abbrev pub display_mistake : List ℕ → Mistake
display_mistake text =
    if not (is_utf8 text) then mistake.DisplayBytes
    else if not (is_plain text) then mistake.DisplayControl
    else mistake.LongDisplay

-- what the words after `author` say
abbrev pub author_said : List (List ℕ) → Result Said Mistake
author_said [] = Err mistake.NoName
author_said (name ∷ []) = Err mistake.NoToken
author_said (name ∷ token ∷ []) =
    if not (is_name name) then Err (name_mistake name)
    else if not (is_word MAX_TOKEN token) then Err (token_mistake token)
    else Ok (an_author name token)
author_said more = Err mistake.ExtraWord

-- what the words after `hash` say
abbrev pub hash_said : List (List ℕ) → Result Said Mistake
hash_said [] = Err mistake.NoHashName
hash_said (name ∷ []) = Err mistake.NoHash
hash_said (name ∷ hash ∷ []) =
    if not (is_name name) then Err (name_mistake name)
    else if not (is_hash hash) then Err (hash_mistake hash)
    else Ok (a_hash name hash)
hash_said more = Err mistake.ExtraWord

-- what the words after `peer` say
abbrev pub peer_said : List (List ℕ) → Result Said Mistake
peer_said [] = Err mistake.NoNumber
peer_said (number ∷ []) = Err mistake.NoToken
peer_said (number ∷ token ∷ []) = Err mistake.NoAddress
peer_said (number ∷ token ∷ address ∷ []) =
    if not (is_number number) then Err (number_mistake number)
    else if not (is_word MAX_TOKEN token) then Err (token_mistake token)
    else if not (is_address address) then Err (address_mistake address)
    else Ok (a_peer (decimal number) token address)
peer_said more = Err mistake.ExtraWord

-- what a name, an ID and a display name say
abbrev pub said_of_person : List ℕ → List ℕ → List ℕ → Result Said Mistake
said_of_person name id display =
    if not (is_name name) then Err (name_mistake name)
    else if not (is_word MAX_ID id) then Err (id_mistake id)
    else if not (is_display display) then Err (display_mistake display)
    else Ok (a_person name id display)

-- what the words after `person` say: those after the ID are the display name
abbrev pub person_said : List (List ℕ) → Result Said Mistake
person_said [] = Err mistake.NoPerson
person_said (name ∷ []) = Err mistake.NoId
person_said (name ∷ id ∷ []) = Err mistake.NoDisplay
person_said (name ∷ id ∷ word ∷ more) = said_of_person name id (joined (word ∷ more))

-- what the words of a line say: the first tells the form of the others
abbrev pub said_by : List (List ℕ) → Result Said Mistake
said_by [] = Err mistake.UnknownWord
said_by (kind ∷ rest) =
    if bytes_eq kind (codes "author") then author_said rest
    else if bytes_eq kind (codes "hash") then hash_said rest
    else if bytes_eq kind (codes "peer") then peer_said rest
    else if bytes_eq kind (codes "person") then person_said rest
    else Err mistake.UnknownWord

-- whether a word is empty, as before or after an extra space
abbrev pub is_empty : List ℕ → Bool
is_empty word = length word == 0

-- what a line says: nothing if it is empty or begins with #
abbrev pub meaning : List ℕ → Result Said Mistake
meaning [] = Ok nothing
meaning (b ∷ bs) =
    if b == 35 then Ok nothing
    else if list_any (λ c. c == 9) (b ∷ bs) then Err mistake.Tab
    else if list_any is_empty (words (b ∷ bs)) then Err mistake.ExtraSpace
    else said_by (words (b ∷ bs))
