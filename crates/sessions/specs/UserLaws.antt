-- What holds of the names that are made from users.
use Rattle.std.specs.Prelude.{◌≡◌, ℕ, ◌<◌, Bool, List, [], ◌∷◌, Ok, Some, ⊤}
use Rattle.sessions.specs.Accounts.{Accounts, accounts_of}
use Rattle.sessions.specs.UserNames.{name_for, user_for}
use Rattle.sessions.specs.Users.{author_or_stranger}

-- each is a byte
abbrev pub AreBytes : List ℕ → Type 0
AreBytes [] = ⊤
AreBytes (b ∷ bs) = (b < 256) × AreBytes bs

-- two users with one name are one user
abbrev pub OneUserLaw : Type 0
OneUserLaw = (one other : List ℕ) → AreBytes one → AreBytes other → name_for one ≡ name_for other → one ≡ other

-- the name that is made from a user tells that user, and a name that tells a user is the one that is made from it
abbrev pub TellsUserLaw : Type 0
TellsUserLaw = ((user : List ℕ) → AreBytes user → user_for (name_for user) ≡ Some user)
    × ((name user : List ℕ) → user_for name ≡ Some user → name_for user ≡ name)

-- by an accounts file, whether any user is an author or not, and guests may log in or not, two users of a proxy who are one author
-- are one user
abbrev pub OneAuthorLaw : Type 0
OneAuthorLaw = (file : List ℕ) (read : Accounts) (any guests : Bool) (one other name : List ℕ)
    → accounts_of file ≡ Ok read → AreBytes one → AreBytes other
    → author_or_stranger one (record read { any_user = any; guests = guests }) ≡ Ok name
    → author_or_stranger other (record read { any_user = any; guests = guests }) ≡ Ok name → one ≡ other
