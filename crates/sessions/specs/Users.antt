-- Which author a user of a proxy is, by the accounts file.
use Rattle.std.specs.Prelude.{ℕ, Bool, not, ◌&&◌, ◌||◌, if◌then◌else◌, List, bytes_eq, Option, None, Some, is_some, Result, Ok, Err}
use Rattle.std.specs.List.{list_any}
use Rattle.pad_model.specs.Checked.{is_name}
use Rattle.guests.specs.Guests.{is_guest}
use Rattle.sessions.specs.Accounts.{Accounts, has_name}
use Rattle.sessions.specs.AccountsFile.{is_display}
use Rattle.sessions.specs.People.{author_of, display_of}
use Rattle.sessions.specs.UserNames.{name_for, user_for}
use Rattle.sessions.specs.declared.users.Stranger.{Stranger}
use Rattle.sessions.specs.declared.users.Stranger.TheVariants.{NoLine, NoName, Taken}

-- whether the accounts file gives a name to somebody: to an author, or to a person
abbrev pub is_given : List ℕ → Accounts → Bool
is_given name a = list_any (has_name name) a.authors || is_some (display_of name a.people)

-- whether a name can be that of a user who is no person: an author can have it, and it is no guest's
unfoldable pub is_for_users : List ℕ → Bool
is_for_users name = is_name name && not (is_guest name)

-- a name, if it can be that of a user who is no person
abbrev pub for_users : List ℕ → Option (List ℕ)
for_users name = if is_for_users name then Some name else None

-- the author with the name that is made from a user, or the reason for none: an author can have it, it is no guest's, and nobody
-- else has it
abbrev pub made_author : List ℕ → Accounts → Result (List ℕ) Stranger
made_author name a =
    if not a.any_user then Err NoLine
    else if not (is_for_users name) then Err NoName
    else if is_given name a then Err (Taken name)
    else Ok name

-- the author whose name the person with the user's ID has, if an author can have it, or else the one with the name that is
-- made from the user
abbrev pub by_person : Option (List ℕ) → List ℕ → Accounts → Result (List ℕ) Stranger
by_person (Some name) user a = if is_name name then Ok name else Err NoLine
by_person None user a = made_author (name_for user) a

-- the author who a user of a proxy is, or why it is none
unfoldable pub author_or_stranger : List ℕ → Accounts → Result (List ℕ) Stranger
author_or_stranger user a = by_person (author_of user a.people) user a

-- a user, if it can be shown and its name does not say the same
abbrev pub shown_user : List ℕ → Option (List ℕ) → Option (List ℕ)
shown_user name None = None
shown_user name (Some user) = if is_display user && not (bytes_eq user name) then Some user else None

-- what is shown of an author who is no person: the user from whom its name is made, if any user can be an author, and the
-- accounts file does not give the name to another
abbrev pub shown_or_made : Option (List ℕ) → List ℕ → Accounts → Option (List ℕ)
shown_or_made (Some display) name a = Some display
shown_or_made None name a =
    if a.any_user && not (list_any (has_name name) a.authors) then shown_user name (user_for name) else None

-- what is shown for a name: the display name of the person with it, or the user from whom it is made
abbrev pub shown_for : List ℕ → Accounts → Option (List ℕ)
shown_for name a = shown_or_made (display_of name a.people) name a
