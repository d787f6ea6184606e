-- Who a session belongs to whose socket a proxy names the user of.
use Rattle.std.specs.Prelude.{◌≡◌, ◌⊎◌, ⊤, true, List, ℕ, Option, None, Some, Ok, Err}
use Rattle.std.specs.Result.{result_ok}
use Rattle.pad_core.specs.declared.reply.Reply.TheVariants.{Hello}
use Rattle.pad_model.specs.Checked.{is_name}
use Rattle.pad_model.specs.declared.refusal.Refusal.TheVariants.{NoSession}
use Rattle.pad_model.specs.declared.who.Who.{Who}
use Rattle.pad_model.specs.declared.who.Who.TheVariants.{Author}
use Rattle.sessions.specs.Accounts.{Accounts}
use Rattle.sessions.specs.Users.{author_or_stranger}
use Rattle.sessions.specs.declared.users.Stranger.{Stranger}
use Rattle.web_wire.specs.PageRequests.{PutsUser}
use Rattle.wire_json.specs.Replies.{line_of}
use Rattle.event_loop.specs.declared.request_user.RequestUser.{RequestUser}
use Rattle.event_loop.specs.declared.request_user.RequestUser.TheVariants as asked_by

-- the author who the accounts say that a user is: the name of the person with this ID, or where any user is an author, the
-- name that is made from it, unless the accounts file gives it to somebody; an author can have the name
unfoldable pub author_of : List ℕ → Accounts → Option (List ℕ)
author_of user accounts = result_ok (author_or_stranger user accounts)

-- a user is no author, for this reason
abbrev pub IsStranger : Accounts → Option (List ℕ) → Stranger → Type 0
IsStranger accounts None why = ⊥
IsStranger accounts (Some user) why = (author_of user accounts ≡ None) × (author_or_stranger user accounts ≡ Err why)

-- whose request it is, by the user that it names
abbrev pub IsRequestUser : Accounts → Option (List ℕ) → RequestUser → Type 0
IsRequestUser accounts None asked_by.Nobody = ⊤
IsRequestUser accounts None (asked_by.Author name) = ⊥
IsRequestUser accounts None (asked_by.Stranger why) = ⊥
IsRequestUser accounts (Some user) asked_by.Nobody = ⊥
IsRequestUser accounts (Some user) (asked_by.Author name) =
    (author_of user accounts ≡ Some name) × (is_name name ≡ true)
IsRequestUser accounts (Some user) (asked_by.Stranger why) = IsStranger accounts (Some user) why

-- who a session belongs to after the handshake of its socket: whoever it did before if the handshake names no user, and else
-- the author whom the accounts give for the user
abbrev pub SignsIn : Accounts → Option (List ℕ) → Who → Who → Type 0
SignsIn accounts None old new = new ≡ old
SignsIn accounts (Some user) old new =
    (name : List ℕ) × (author_of user accounts ≡ Some name) × (new ≡ Author name)

-- the line that says who a user is: the one that answers an author who has logged in, or the one that says that nobody has
abbrev pub IsUserLine : Accounts → ℕ → Option (List ℕ) → List ℕ → Type 0
IsUserLine accounts replica None line = line ≡ line_of (Err NoSession)
IsUserLine accounts replica (Some user) line =
    (name : List ℕ) × (author_of user accounts ≡ Some name)
    × (line ≡ line_of (Ok (Hello (record { name = name; origin = replica }))))

-- the answer to the question who the user is: the line that answers an author who has logged in, with the author whom the
-- accounts give for the user; the one that says that nobody has, if the request names no user; a refusal if the accounts
-- give none; or nothing was added
abbrev pub TellsUser : Accounts → ℕ → Option (List ℕ) → List ℕ → List ℕ → Type 0
TellsUser accounts replica None old page = PutsUser (line_of (Err NoSession)) old page ⊎ (page ≡ old)
TellsUser accounts replica (Some user) old page =
    ((name : List ℕ) × (author_of user accounts ≡ Some name)
    × PutsUser (line_of (Ok (Hello (record { name = name; origin = replica })))) old page)
    ⊎ ((author_of user accounts ≡ None) ⊎ (page ≡ old))
