-- How a session becomes an author's or a peer's, and what a request requires of its session.
use Rattle.std.specs.Prelude.{ℕ, Bool, true, false, not, ◌&&◌, nat_lt, if◌then◌else◌, List, [], ◌∷◌, ◌++◌, fold}
use Rattle.std.specs.Prelude.{Option, Some, None, Result, Ok, Err}
use Rattle.guests.specs.Guests.{is_guest}
use Rattle.pad_model.specs.Checked.{is_name, is_within}
use Rattle.pad_model.specs.declared.limits.TheConstants.{MAX_REPLICA, OLD_REPLICA}
use Rattle.pad_model.specs.declared.refusal.Refusal.{Refusal}
use Rattle.pad_model.specs.declared.refusal.Refusal.TheVariants.{NoSession, BadToken, HaveSession, BadName, OldPeer, Denied}
use Rattle.pad_model.specs.declared.who.Version.{Version}
use Rattle.pad_model.specs.declared.who.Version.TheVariants.{One, Two}
use Rattle.pad_model.specs.declared.who.Who.{Who}
use Rattle.pad_model.specs.declared.who.Who.TheVariants as who
use Rattle.sessions.specs.Accounts.{Accounts, is_author, is_peer}
use Rattle.sessions.specs.Users.{shown_for}
use Rattle.pad_core.specs.Machine.{session_refusal}
use Rattle.pad_core.specs.declared.act.Act.{Act}
use Rattle.pad_core.specs.declared.reply.Person.{Person}
use Rattle.pad_core.specs.declared.reply.Reply.{Reply}
use Rattle.pad_core.specs.declared.reply.Reply.TheVariants as reply

-- whether a session is unauthenticated
abbrev pub is_nobody : Who → Bool
is_nobody who.Nobody = true
is_nobody other = false

-- whether a session is an author's
abbrev pub is_of_author : Who → Bool
is_of_author (who.Author name) = true
is_of_author other = false

-- whether a session is a guest's
abbrev pub is_of_guest : Who → Bool
is_of_guest (who.Author name) = is_guest name
is_of_guest other = false

-- a log-in of an author, who needs a name that an author can have and its token
abbrev pub hello : ℕ → Accounts → List ℕ → List ℕ → Who → Result Reply Refusal × Who
hello replica accounts name token old =
    if not (is_nobody old) then (Err HaveSession, old)
    else if not (is_name name && is_author name token accounts) then (Err BadToken, old)
    else (Ok (reply.Hello (record { name = name; origin = replica })), who.Author name)

-- whether this version of the wire cannot express a server's number
abbrev pub is_unsayable : ℕ → Version → Bool
is_unsayable replica One = nat_lt OLD_REPLICA replica
is_unsayable replica Two = false

-- a log-in of a peer, which needs a number that a replica can have and its token
abbrev pub peer : ℕ → Accounts → ℕ → List ℕ → Version → Who → Result Reply Refusal × Who
peer replica accounts number token version old =
    if not (is_nobody old) then (Err HaveSession, old)
    else if not (is_within number MAX_REPLICA && is_peer number token accounts)
    then (Err BadToken, old)
    else if is_unsayable replica version then (Err OldPeer, old)
    else (Ok (reply.Peer replica version), who.Peer number version)

-- the persons found so far, with one more if something is shown for it
abbrev pub with_person : List Person → List ℕ → Option (List ℕ) → List Person
with_person found author None = found
with_person found author (Some name) = found ++ record { author = author; name = name } ∷ []

-- those of these authors for whom something is shown: a display name, or the user of a proxy from whom the name is made; in
-- their order
abbrev pub people_of : Accounts → List (List ℕ) → List Person
people_of accounts authors =
    fold (λ found author. with_person found author (shown_for author accounts)) [] authors

-- the display names of these authors, for a session of an author
abbrev pub people : Accounts → List (List ℕ) → Who → Result Reply Refusal × Who
people accounts authors who =
    if is_of_author who then (Ok (reply.People (people_of accounts authors)), who)
    else (Err NoSession, who)

-- a session becomes a peer's without a token, to exchange operations with that peer
abbrev pub relay : ℕ → ℕ → Who → Result Reply Refusal × Who
relay replica number old = if not (is_nobody old) then (Err HaveSession, old)
    else (Ok (reply.Peer replica Two), who.Peer number Two)

-- the reason to refuse a creation before any cell is visited, if there is one
abbrev pub create_refusal : Who → List ℕ → Option Refusal
create_refusal who pad =
    if not (is_of_author who) then Some NoSession
    else if not (is_name pad) then Some BadName
    else if is_of_guest who then Some Denied
    else None

-- the reason to refuse a list of pads, if there is one
abbrev pub pads_refusal : Who → Option Refusal
pads_refusal who = if is_of_author who then None else Some NoSession

-- the reason to refuse an act before any cell is visited, if there is one: its session, or the name of the pad
abbrev pub act_refusal : Who → List ℕ → Act → Option Refusal
act_refusal who pad act = or_by_name (session_refusal who act)
  where
    or_by_name : Option Refusal → Option Refusal
    or_by_name (Some refusal) = Some refusal
    or_by_name None = if not (is_name pad) then Some BadName else None
