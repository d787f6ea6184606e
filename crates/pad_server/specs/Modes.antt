-- What the server serves, by its command line.
use Rattle.std.specs.Prelude.{List, ℕ, Bool, true, false, not, ◌&&◌, ◌||◌, ◌==◌, if◌then◌else◌, Option, Some, None, Result, Ok, Err}
use Rattle.std.specs.Option.{is_some}
use Rattle.std.specs.Borrow.{Bor}
use Rattle.pad_server.specs.declared.args.ServerArguments.{ServerArguments}
use Rattle.pad_server.specs.declared.mode.Misuse.{Misuse}
use Rattle.pad_server.specs.declared.mode.Misuse.TheVariants.{NotOne, NoAccounts, NoStore, NoIdle, NoNewReplica, NoWeb, NoWebOrigins, NoUserHeader, NoTrustedProxies, NoAnyUser, NoGuests, NoClientsPerAddress}
use Rattle.pad_server.specs.declared.mode.Misuse.TheVariants.{NoStandby, NoCopies, NoConfirm, OwnStandby, ServingStandby, NoStatus}
use Rattle.pad_server.specs.declared.mode.ServerMode.{ServerMode}
use Rattle.pad_server.specs.declared.mode.ServerMode.TheVariants.{Stdin, Listen, Standby}

-- whether a number is that of the server itself
abbrev pub is_own : ℕ → Option ℕ → Bool
is_own replica None = false
is_own replica (Some number) = number == replica

-- whether the standby or the main server would be the server itself
abbrev pub names_itself : ServerArguments → Bool
names_itself asked = is_own asked.replica asked.standby || is_own asked.replica asked.standby_of

-- a server of pads, whose standby needs a store; or a standby, which needs one too, has no standby, and has its number as
-- a new one by itself
abbrev pub serving_by : Bor (List ℕ) → Bor (List ℕ) → ServerArguments → Option ℕ → Option (Bor (List ℕ))
    → Result ServerMode Misuse
serving_by address accounts asked None None = if is_some asked.standby then Err NoCopies
    else Ok (Listen address accounts)
serving_by address accounts asked None (Some store) = Ok (Listen address accounts)
serving_by address accounts asked (Some main) None = Err NoCopies
serving_by address accounts asked (Some main) (Some store) =
    if is_some asked.standby || asked.new_replica then Err ServingStandby
    else Ok (Standby address accounts store main)

-- the same, of another server than the main server or the standby
abbrev pub serving : Bor (List ℕ) → Bor (List ℕ) → ServerArguments → Result ServerMode Misuse
serving address accounts asked = if names_itself asked then Err OwnStandby
    else serving_by address accounts asked asked.standby_of asked.store

-- connections over TCP, which need accounts; origins and users are only for a page, proxies and any user for
-- users, and a confirmation is that of a standby
abbrev pub listening : Bor (List ℕ) → Option (Bor (List ℕ)) → ServerArguments → Result ServerMode Misuse
listening address None asked = Err NoAccounts
listening address (Some accounts) asked =
    if not (is_some asked.web) && is_some asked.web_origins then Err NoWebOrigins
    else if not (is_some asked.web) && is_some asked.user_header then Err NoUserHeader
    else if not (is_some asked.user_header) && is_some asked.trusted_proxies then Err NoTrustedProxies
    else if not (is_some asked.user_header) && asked.any_user then Err NoAnyUser
    else if not (is_some asked.standby) && is_some asked.confirm then Err NoConfirm
    else serving address accounts asked

-- standard input, without the options that only connections have: a store, a limit of silence, a new replica number, a
-- page, users whom a proxy names, guests, a limit by address, a standby, a status
abbrev pub reading : ServerArguments → Result ServerMode Misuse
reading asked =
    if is_some asked.store then Err NoStore
    else if is_some asked.idle then Err NoIdle
    else if asked.new_replica then Err NoNewReplica
    else if is_some asked.web then Err NoWeb
    else if is_some asked.web_origins then Err NoWebOrigins
    else if is_some asked.user_header then Err NoUserHeader
    else if is_some asked.trusted_proxies then Err NoTrustedProxies
    else if asked.any_user then Err NoAnyUser
    else if asked.guests then Err NoGuests
    else if is_some asked.clients_per_address then Err NoClientsPerAddress
    else if is_some asked.standby || is_some asked.standby_of then Err NoStandby
    else if is_some asked.confirm then Err NoConfirm
    else if is_some asked.status then Err NoStatus
    else Ok Stdin

-- exactly one of standard input and connections over TCP
abbrev pub served : Bool → Option (Bor (List ℕ)) → ServerArguments → Result ServerMode Misuse
served true None asked = reading asked
served true (Some address) asked = Err NotOne
served false None asked = Err NotOne
served false (Some address) asked = listening address asked.accounts asked

-- what a command line asks the server to serve
abbrev pub mode_of : ServerArguments → Result ServerMode Misuse
mode_of asked = served asked.stdin asked.listen asked
