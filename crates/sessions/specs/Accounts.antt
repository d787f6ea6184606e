-- Who may log in.
use Rattle.std.specs.Prelude.{◌≡◌, ℕ, ◌+◌, Bool, false, not, ◌&&◌, ◌||◌, ◌==◌, nat_le, if◌then◌else◌, Option, Some, None, Result}
use Rattle.std.specs.Prelude.{Ok, Err, List, [], ◌∷◌, ◌++◌, length, bytes_eq}
use Rattle.std.specs.List.{list_any}
use Rattle.std.specs.Str.Lines.{lines}
use Rattle.guests.specs.Guests.{guest_name}
use Rattle.sessions.specs.AccountsFile.{Said, nothing, an_author, a_hash, a_peer, a_person, meaning}
use Rattle.sessions.specs.People.{People, no_people, with_person}
use Rattle.sessions.specs.Secrets.{opens}
use Rattle.sessions.specs.declared.accounts.TheConstants.{MAX_ACCOUNTS}
use Rattle.sessions.specs.declared.accounts.AuthorAccount.{AuthorAccount}
use Rattle.sessions.specs.declared.accounts.Peer.{Peer}
use Rattle.sessions.specs.declared.accounts.AccountsError.{AccountsError}
use Rattle.sessions.specs.declared.accounts.AccountsError.TheVariants.{BadLine, Memory}
use Rattle.sessions.specs.declared.mistake.Mistake.{Mistake}
use Rattle.sessions.specs.declared.mistake.Mistake.TheVariants.{NameTwice, NumberTwice, TooManyAccounts}
use Rattle.sessions.specs.declared.secret.Secret.{Secret}
use Rattle.sessions.specs.declared.secret.Secret.TheVariants.{Token, Hash}

-- the accounts of authors and of peers, in the order of their lines, the persons, whether any user of a proxy is an author, and
-- whether guests may log in
pub record Accounts : Type 0 where
  pub authors : List AuthorAccount
  pub peers : List Peer
  pub people : People
  pub any_user : Bool
  pub guests : Bool

-- nobody may log in, and there are no persons
abbrev pub no_accounts : Accounts
no_accounts = record { authors = []; peers = []; people = no_people; any_user = false; guests = false }

-- whether an account has a name
abbrev pub has_name : List ℕ → AuthorAccount → Bool
has_name name a = bytes_eq a.name name

-- whether a peer has a number
abbrev pub has_number : ℕ → Peer → Bool
has_number number p = p.number == number

-- whether there are as many accounts as there can be
abbrev pub is_full : Accounts → Bool
is_full a = nat_le MAX_ACCOUNTS (length a.authors + length a.peers)

-- the accounts with one more author, or what is wrong with it: it has to be new, and within the limit
abbrev pub with_author : Accounts → List ℕ → Secret → Result Accounts Mistake
with_author a name secret =
    if is_full a then Err TooManyAccounts
    else if list_any (has_name name) a.authors then Err NameTwice
    else Ok (record a { authors = a.authors ++ record { name = name; secret = secret } ∷ [] })

-- the accounts with these persons, or what is wrong with the last of them
abbrev pub with_people : Accounts → Result People Mistake → Result Accounts Mistake
with_people a (Ok people) = Ok (record a { people = people })
with_people a (Err mistake) = Err mistake

-- the accounts with those of one more line, or what is wrong with it: an account has to be new, and within the limit
abbrev pub with_line : Accounts → Result Said Mistake → Result Accounts Mistake
with_line a (Ok nothing) = Ok a
with_line a (Ok (an_author name token)) = with_author a name (Token token)
with_line a (Ok (a_hash name hash)) = with_author a name (Hash hash)
with_line a (Ok (a_peer number token address)) =
    if is_full a then Err TooManyAccounts
    else if list_any (has_number number) a.peers then Err NumberTwice
    else Ok (record a {
      peers = a.peers
          ++ record { number = number; token = token; address = address } ∷ [];
    })
with_line a (Ok (a_person name id display)) =
    with_people a (with_person name id display a.people)
with_line a (Err mistake) = Err mistake

-- the outcome of the lines after one, or the error of that line with its number
abbrev pub after_line : ℕ → (Accounts → Result Accounts AccountsError) → Result Accounts Mistake →
    Result Accounts AccountsError
after_line number rest (Ok accounts) = rest accounts
after_line number rest (Err mistake) = Err (BadLine number mistake)

-- the accounts with those of further lines, or the number and the mistake of the first invalid line; the first of them
-- has this number
abbrev pub with_lines : Accounts → ℕ → List (List ℕ) → Result Accounts AccountsError
with_lines a number [] = Ok a
with_lines a number (line ∷ rest) =
    after_line number (λ more. with_lines more (number + 1) rest) (with_line a (meaning line))

-- the accounts of a file, or the first invalid line; lines are counted from 1
abbrev pub accounts_of : List ℕ → Result Accounts AccountsError
accounts_of bytes = with_lines no_accounts 1 (lines bytes)

-- an error reports that memory ran out, or which line is the first invalid one and what is wrong with it
abbrev pub Tells : List ℕ → AccountsError → Type 0
Tells bytes (BadLine line mistake) = accounts_of bytes ≡ Err (BadLine line mistake)
Tells bytes Memory = Unit {0}

-- the outcome of a line: what there is after it, or its mistake
abbrev pub outcome : {A : Type 0} → Option Mistake → A → Result A Mistake
outcome None after = Ok after
outcome (Some mistake) after = Err mistake

-- whether an account has this name, and this token or its hash
abbrev pub has_account : List ℕ → List ℕ → Accounts → Bool
has_account name token a = list_any (λ account. has_name name account && opens token account.secret)
    a.authors

-- whether this is the name of the guest with this token, guests may log in, and no account has the name
abbrev pub lets_in : List ℕ → List ℕ → Accounts → Bool
lets_in name token a = a.guests && not (list_any (has_name name) a.authors) && bytes_eq name (guest_name token)

-- whether an author has this token: an account says so, or it is a guest
abbrev pub is_author : List ℕ → List ℕ → Accounts → Bool
is_author name token a = has_account name token a || lets_in name token a

-- whether a peer has this token
abbrev pub is_peer : ℕ → List ℕ → Accounts → Bool
is_peer number token a = list_any (λ peer. has_number number peer && bytes_eq peer.token token)
    a.peers
