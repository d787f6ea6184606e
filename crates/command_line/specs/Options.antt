-- The options of a command line, and the exit status after a bad one.
use Rattle.std.specs.Prelude.{◌≡◌, ◌≤◌, ℕ, zero, suc, List, Option, Some, None, codes, pos, Bool, true, false}
use Rattle.std.specs.Str.Parse.{IsNumeral, digits_value, without_leading_plus}
use Rattle.clap.specs.Words.{App, Rule, first_of, found_of, matches_of, new_rule, one_of, one_text}
use Rattle.clap.specs.declared.builder.action.ArgAction.TheVariants.{SetTrue}
use Rattle.clap.specs.declared.builder.value_parser.ValueParser.TheVariants as parser
use Rattle.clap.specs.declared.error.kind.ErrorKind.{ErrorKind}
use Rattle.clap.specs.declared.error.kind.ErrorKind.TheVariants as kind
use Rattle.clap.specs.declared.parser.matches.ArgMatches.{ArgMatches}
use Rattle.presence.specs.declared.presence.TheConstants.{MAX_PRESENT}
use Rattle.server_core.specs.declared.limits.TheConstants.{MAX_CELLS}

-- an option `--name` that takes one value, in the terms of clap
abbrev pub option_rule : List ℕ → Rule
option_rule name = record (new_rule name) { long = Some name; value_names = 1 }

-- the same for a value that is a number from `low` to `high`
abbrev pub number_rule : List ℕ → ℕ → ℕ → Rule
number_rule name low high = record (option_rule name)
    { parser = Some (parser.Signed (pos low) (pos high)) }

-- an option `--name` that takes no value
abbrev pub flag_rule : List ℕ → Rule
flag_rule name = record (new_rule name) { long = Some name; action = Some SetTrue }

-- `--replica N`, which is required
abbrev pub replica_rule : Rule
replica_rule = record (number_rule (codes "replica") 1 65535) { required = true }

-- `--cells N`
abbrev pub cells_rule : Rule
cells_rule = number_rule (codes "cells") 1 MAX_CELLS

-- `--present N`
abbrev pub present_rule : Rule
present_rule = number_rule (codes "present") 1 MAX_PRESENT

-- `--accounts PATH`
abbrev pub accounts_rule : Rule
accounts_rule = option_rule (codes "accounts")

-- the number that digits represent, which may have a leading plus
abbrev pub number_of : List ℕ → ℕ
number_of text = digits_value 10 (without_leading_plus text)

-- the text represents a number from `low` to `high`
abbrev pub IsNumber : ℕ → ℕ → List ℕ → Type 0
IsNumber low high text =
    IsNumeral 10 (without_leading_plus text) × (low ≤ number_of text) × (number_of text ≤ high)

-- the result is the number that the text represents, if this is from `low` to `high`, and otherwise `other`
abbrev pub ReadsNumber : ℕ → ℕ → ℕ → List ℕ → ℕ → Type 0
ReadsNumber low high other text result =
    (IsNumber low high text → result ≡ number_of text)
    × ((IsNumber low high text → ⊥) → result ≡ other)

-- the same for a text that may be absent; then the result is `other`
pub record ReadsHeld (low high other : ℕ) (held : Option (List ℕ)) (result : ℕ) : Type 0 where
  pub absent : held ≡ None → result ≡ other
  pub given : (text : List ℕ) → held ≡ Some text → ReadsNumber low high other text result

-- the same for the text that the matches have under a name
abbrev pub Holds : List ℕ → ℕ → ℕ → ℕ → ArgMatches → ℕ → Type 0
Holds name low high other matches result = ReadsHeld low high other
    (one_text (found_of matches) name) result

-- the same for the text that the words of a command line give under a name
abbrev pub Gives : App → List (List ℕ) → List ℕ → ℕ → ℕ → ℕ → ℕ → Type 0
Gives command words name low high other result =
    ReadsHeld low high other (one_of name (matches_of command words)) result

-- the text that the words of a command line give under a name
abbrev pub text_given : App → List (List ℕ) → List ℕ → Option (List ℕ)
text_given command words name = first_of name (matches_of command words)

-- the replica number that is named, or the other one if none or 0 is
abbrev pub named_or : Option ℕ → ℕ → ℕ
named_or None other = other
named_or (Some zero) other = other
named_or (Some (suc n)) other = suc n

-- a program that has an option for its version
abbrev pub versioned : App → App
versioned a = record a { top = record a.top { has_version = true } }

-- whether the command line asked for a text: the help or the version
abbrev pub is_text : ErrorKind → Bool
is_text kind.DisplayHelp = true
is_text kind.DisplayVersion = true
is_text other = false

-- 0 after help and the version, 1 if memory ran out, otherwise 2
abbrev pub status : ErrorKind → ℕ
status kind.DisplayHelp = 0
status kind.DisplayVersion = 0
status kind.OutOfMemory = 1
status other = 2

-- a flag is set if the text under its name is "true", and not set if there is none
pub record IsFlag (held : Option (List ℕ)) (flag : Bool) : Type 0 where
  pub absent : held ≡ None → flag ≡ false
  pub set : held ≡ Some (codes "true") → flag ≡ true
  pub unset : held ≡ Some (codes "false") → flag ≡ false
