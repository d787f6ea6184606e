-- What the program does, by its command line.
use Rattle.std.specs.Prelude.{List, ℕ, Bool, true, false, ◌&&◌, ◌||◌, bytes_eq, codes, if◌then◌else◌}
use Rattle.std.specs.Prelude.{Option, Some, None, option_map, Result, Ok, Err, is_some}
use Rattle.std.specs.Borrow.{Bor}
use Rattle.pad_store.specs.Moments.{moment_of}
use Rattle.pad_store.specs.declared.args.StoreArguments.{StoreArguments}
use Rattle.pad_store.specs.declared.mode.Deed.{Deed}
use Rattle.pad_store.specs.declared.mode.Deed.TheVariants as deed
use Rattle.pad_store.specs.declared.mode.StoreMisuse.{StoreMisuse}
use Rattle.pad_store.specs.declared.mode.StoreMisuse.TheVariants as misuse
use Rattle.pad_store.specs.declared.mode.StoreMode.{StoreMode}
use Rattle.pad_store.specs.declared.mode.StoreMode.TheVariants as mode
use Rattle.pad_store.specs.declared.revision_choice.RevisionChoice.{RevisionChoice}
use Rattle.pad_store.specs.declared.revision_choice.RevisionChoice.TheVariants.{Present, Number, At}

-- the command with a name
abbrev pub deed_of : List ℕ → Option Deed
deed_of command =
    if bytes_eq command (codes "check") then Some deed.Check
    else if bytes_eq command (codes "show") then Some deed.Show
    else if bytes_eq command (codes "log") then Some deed.Log
    else if bytes_eq command (codes "diff") then Some deed.Diff
    else if bytes_eq command (codes "export") then Some deed.Export
    else if bytes_eq command (codes "beyond") then Some deed.Beyond
    else None

-- the first option that is given although the command has none
abbrev pub needless : Bool → Bool → Bool → Bool → Bool → StoreArguments → Option StoreMisuse
needless no_rev no_log no_sum no_view no_words asked =
    if no_rev && is_some asked.rev then Some misuse.Rev
    else if no_rev && is_some asked.at then Some misuse.At
    else if no_log && is_some asked.from then Some misuse.From
    else if no_log && (is_some asked.by || is_some asked.since || is_some asked.until) then Some misuse.Filter
    else if no_sum && is_some asked.sum then Some misuse.Sum
    else if no_view && (asked.authors || asked.comments || asked.markdown) then Some misuse.View
    else if no_words && (is_some asked.other || is_some asked.last) then Some misuse.Words
    else None

-- whether a revision is given, by its number or by a moment
abbrev pub has_revision : StoreArguments → Bool
has_revision asked = is_some asked.rev || is_some asked.at

-- what is wrong with the options of a command, if anything: each has to belong to the command
abbrev pub misuse_of : Deed → StoreArguments → Option StoreMisuse
misuse_of deed.Check asked = needless true true true true true asked
misuse_of deed.Show asked = needless false true true false true asked
misuse_of deed.Log asked = needless true false true true true asked
misuse_of deed.Diff asked = needless true true true true false asked
misuse_of deed.Export asked = needless false true (has_revision asked) true true asked
misuse_of deed.Beyond asked = needless true true true true (is_some asked.last) asked

-- the revision of a moment, if the text named one
abbrev pub at_moment : Option ℕ → Result RevisionChoice StoreMisuse
at_moment (Some moment) = Ok (At moment)
at_moment None = Err misuse.Moment

-- the revision of a number or of a moment, but not of both; without both it is the present one
abbrev pub chosen : Option ℕ → Option (Bor (List ℕ)) → Result RevisionChoice StoreMisuse
chosen None None = Ok Present
chosen (Some rev) None = Ok (Number rev)
chosen None (Some text) = at_moment (moment_of text.now)
chosen (Some rev) (Some text) = Err misuse.Both

-- a moment, if the text named one
abbrev pub needed_moment : Option ℕ → Result (Option ℕ) StoreMisuse
needed_moment (Some moment) = Ok (Some moment)
needed_moment None = Err misuse.Moment

-- the moment of a text, if there is a text
abbrev pub moment_if_any : Option (Bor (List ℕ)) → Result (Option ℕ) StoreMisuse
moment_if_any None = Ok None
moment_if_any (Some text) = needed_moment (moment_of text.now)

-- the revision that a word names, by its number if it is one, and otherwise by a moment
abbrev pub named : Option ℕ → Option (Bor (List ℕ)) → Option RevisionChoice
named (Some rev) word = Some (Number rev)
named None (Some word) = option_map At (moment_of word.now)
named None None = None

-- the revision that is shown, and how
abbrev pub show : StoreArguments → Bor (List ℕ) → Result StoreMode StoreMisuse
show asked path = shown (chosen asked.rev asked.at)
  where
    shown : Result RevisionChoice StoreMisuse → Result StoreMode StoreMisuse
    shown (Ok rev) = Ok (mode.Show path rev
        (record { authors = asked.authors; comments = asked.comments; markdown = asked.markdown }))
    shown (Err wrong) = Err wrong

-- the operations that are listed
abbrev pub list : StoreArguments → Bor (List ℕ) → Result StoreMode StoreMisuse
list asked path = listed (moment_if_any asked.since) (moment_if_any asked.until)
  where
    listed : Result (Option ℕ) StoreMisuse → Result (Option ℕ) StoreMisuse → Result StoreMode StoreMisuse
    listed (Ok since) (Ok until) = Ok (mode.Log path
        (record { from = asked.from; by = asked.by; since = since; until = until }))
    listed (Ok since) (Err wrong) = Err misuse.Moment
    listed (Err wrong) until = Err misuse.Moment

-- a comparison, which needs two revisions
abbrev pub compare : StoreArguments → Bor (List ℕ) → Result StoreMode StoreMisuse
compare asked path = compared (named asked.first asked.other) (named asked.second asked.last)
  where
    compared : Option RevisionChoice → Option RevisionChoice → Result StoreMode StoreMisuse
    compared (Some rev) (Some to) = Ok (mode.Diff path rev to)
    compared (Some rev) None = Err misuse.NoRevisions
    compared None to = Err misuse.NoRevisions

-- an export of the operations, or a search for a sum if one is given
abbrev pub export_or_find : StoreArguments → Bor (List ℕ) → Result StoreMode StoreMisuse
export_or_find asked path = by_sum asked.sum
  where
    exported : Result RevisionChoice StoreMisuse → Result StoreMode StoreMisuse
    exported (Ok rev) = Ok (mode.Export path rev)
    exported (Err wrong) = Err wrong

    by_sum : Option (Bor (List ℕ)) → Result StoreMode StoreMisuse
    by_sum (Some sum) = Ok (mode.Find path sum)
    by_sum None = exported (chosen asked.rev asked.at)

-- a comparison of two stores, which needs both
abbrev pub compare_stores : Bor (List ℕ) → Option (Bor (List ℕ)) → Result StoreMode StoreMisuse
compare_stores old (Some new) = Ok (mode.Beyond old new)
compare_stores old None = Err misuse.NoStores

-- a command with its arguments
abbrev pub done_with : StoreArguments → Bor (List ℕ) → Deed → Result StoreMode StoreMisuse
done_with asked path deed.Check = Ok (mode.Check path)
done_with asked path deed.Show = show asked path
done_with asked path deed.Log = list asked path
done_with asked path deed.Diff = compare asked path
done_with asked path deed.Export = export_or_find asked path
done_with asked path deed.Beyond = compare_stores path asked.other

-- the mode, unless something is wrong with the options
abbrev pub unless_misused : Option StoreMisuse → Result StoreMode StoreMisuse → Result StoreMode StoreMisuse
unless_misused (Some wrong) mode = Err wrong
unless_misused None mode = mode

-- the mode of a command and a path, if there is such a command
abbrev pub with_deed : StoreArguments → Bor (List ℕ) → Option Deed → Result StoreMode StoreMisuse
with_deed asked path None = Err misuse.NoCommand
with_deed asked path (Some done) = unless_misused (misuse_of done asked) (done_with asked path done)

-- the mode of a command line with this command and this path, both of which are needed
abbrev pub mode_with : StoreArguments → Option (Bor (List ℕ)) → Option (Bor (List ℕ)) → Result StoreMode StoreMisuse
mode_with asked (Some command) (Some path) = with_deed asked path (deed_of command.now)
mode_with asked (Some command) None = Err misuse.NoCommand
mode_with asked None path = Err misuse.NoCommand

-- the mode of a command line
abbrev pub mode_of : StoreArguments → Result StoreMode StoreMisuse
mode_of asked = mode_with asked asked.command asked.path
