-- What the program does, by its command line.
use Rattle.std.specs.Prelude.{List, ℕ, Bool, true, false, ◌&&◌, ◌==◌, bytes_eq, codes, nat_le, if◌then◌else◌, length, slice_get}
use Rattle.std.specs.Prelude.{Option, Some, None, Result, Ok, Err, is_some}
use Rattle.std.specs.Borrow.{Bor}
use Rattle.pad_model.specs.Checked.{is_name}
use Rattle.pad_accounts.specs.Origins.{is_origin}
use Rattle.pad_accounts.specs.declared.args.AccountsArguments.{AccountsArguments}
use Rattle.pad_accounts.specs.declared.link.LinkForm.{LinkForm}
use Rattle.pad_accounts.specs.declared.mode.AccountsDeed.{AccountsDeed}
use Rattle.pad_accounts.specs.declared.mode.AccountsDeed.TheVariants as deed
use Rattle.pad_accounts.specs.declared.mode.AccountsMisuse.{AccountsMisuse}
use Rattle.pad_accounts.specs.declared.mode.AccountsMisuse.TheVariants as misuse
use Rattle.pad_accounts.specs.declared.mode.AccountsMode.{AccountsMode}
use Rattle.pad_accounts.specs.declared.mode.AccountsMode.TheVariants as mode
use Rattle.pad_accounts.specs.declared.new_author.SecretKind.{SecretKind}
use Rattle.pad_accounts.specs.declared.new_author.SecretKind.TheVariants.{Token, Hash}

-- the command with a name
abbrev pub deed_of : List ℕ → Option AccountsDeed
deed_of command =
    if bytes_eq command (codes "add") then Some deed.Add
    else if bytes_eq command (codes "remove") then Some deed.Remove
    else if bytes_eq command (codes "list") then Some deed.List
    else if bytes_eq command (codes "link") then Some deed.Link
    else if bytes_eq command (codes "person") then Some deed.Person
    else None

-- a pad that has no name of a pad
abbrev pub wrong_pad : Option (Bor (List ℕ)) → Option AccountsMisuse
wrong_pad None = None
wrong_pad (Some pad) = if is_name pad.now then None else Some (misuse.NotAPad pad)

-- what is wrong with the values of `--at` and `--pad`: the first is an origin, the second a name
abbrev pub wrong_form : Option (Bor (List ℕ)) → Option (Bor (List ℕ)) → Option AccountsMisuse
wrong_form None pad = wrong_pad pad
wrong_form (Some at) pad = if is_origin at.now then wrong_pad pad else Some (misuse.NotAnOrigin at)

-- the first option that is given although the command has none, or whose value is wrong
abbrev pub needless : Bool → Bool → AccountsArguments → Option AccountsMisuse
needless no_from no_form asked =
    if no_from && is_some asked.from then Some misuse.From
    else if no_from && asked.hash then Some misuse.Hash
    else if no_form && is_some asked.at then Some misuse.At
    else if no_form && is_some asked.pad then Some misuse.Pad
    else wrong_form asked.at asked.pad

-- what is wrong with the options of a command, if anything: `--from` and `--hash` are for add, the others for add and link
abbrev pub misuse_of : AccountsDeed → AccountsArguments → Option AccountsMisuse
misuse_of deed.Add asked = needless false false asked
misuse_of deed.Link asked = needless true false asked
misuse_of deed.Remove asked = needless true true asked
misuse_of deed.List asked = needless true true asked
misuse_of deed.Person asked = needless true true asked

-- what the links lead to
abbrev pub form_of : AccountsArguments → LinkForm
form_of asked = record { at = asked.at; pad = asked.pad }

-- what the accounts file has of the tokens
abbrev pub kind_of : AccountsArguments → SecretKind
kind_of asked = if asked.hash then Hash else Token

-- an addition of the names on a list, which takes no others, or of names, of which there have to be some
abbrev pub added_from : Option (Bor (List ℕ)) → AccountsArguments → Bor (List ℕ) → LinkForm → Result AccountsMode AccountsMisuse
added_from (Some list) asked file form =
    if length asked.names.items == 0 then Ok (mode.AddList file list (kind_of asked) form) else Err misuse.NamesAndList
added_from None asked file form =
    if length asked.names.items == 0 then Err misuse.NoNames else Ok (mode.Add file asked.names (kind_of asked) form)

-- an addition of the names, or of those on a list
abbrev pub added_by : AccountsArguments → Bor (List ℕ) → LinkForm → Result AccountsMode AccountsMisuse
added_by asked file form = added_from asked.from asked file form

-- the name, if there is exactly one
abbrev pub only_of : List (Bor (List ℕ)) → Option (Bor (List ℕ))
only_of names = if length names == 1 then slice_get names 0 else None

-- what is done with one name
abbrev pub named_once : (Bor (List ℕ) → AccountsMode) → AccountsMisuse → Option (Bor (List ℕ)) → Result AccountsMode AccountsMisuse
named_once done wrong None = Err wrong
named_once done wrong (Some name) = Ok (done name)

-- a command with its arguments
abbrev pub done_with : AccountsArguments → Bor (List ℕ) → AccountsDeed → Result AccountsMode AccountsMisuse
done_with asked file deed.Add = added_by asked file (form_of asked)
done_with asked file deed.Remove = named_once (λ name. mode.Remove file name) misuse.RemoveOne (only_of asked.names.items)
done_with asked file deed.List = if length asked.names.items == 0 then Ok (mode.List file) else Err misuse.ListNone
done_with asked file deed.Link =
    named_once (λ name. mode.Link file name (form_of asked)) misuse.LinkOne (only_of asked.names.items)
done_with asked file deed.Person = if nat_le 3 (length asked.names.items) then Ok (mode.Person file asked.names)
    else Err misuse.PersonWords

-- the mode, unless something is wrong with the options
abbrev pub unless_misused : Option AccountsMisuse → Result AccountsMode AccountsMisuse → Result AccountsMode AccountsMisuse
unless_misused (Some wrong) mode = Err wrong
unless_misused None mode = mode

-- the mode of a command and a file, if there is such a command
abbrev pub with_deed : AccountsArguments → Bor (List ℕ) → Option AccountsDeed → Result AccountsMode AccountsMisuse
with_deed asked file None = Err misuse.NoCommand
with_deed asked file (Some done) = unless_misused (misuse_of done asked) (done_with asked file done)

-- the mode of a command line with this command and this file, both of which are needed
abbrev pub mode_with : AccountsArguments → Option (Bor (List ℕ)) → Option (Bor (List ℕ)) → Result AccountsMode AccountsMisuse
mode_with asked (Some command) (Some file) = with_deed asked file (deed_of command.now)
mode_with asked (Some command) None = Err misuse.NoCommand
mode_with asked None file = Err misuse.NoCommand

-- the mode of a command line
abbrev pub mode_of : AccountsArguments → Result AccountsMode AccountsMisuse
mode_of asked = mode_with asked asked.command asked.file
