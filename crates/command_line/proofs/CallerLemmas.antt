-- What the words of a command line give, from what its matches have.
use Rattle.std.proofs.Common.{◌≡◌, ◌∙◌, ℕ, List, Option, ap, subst, true}
use Rattle.clap.specs.Words.{App, HasMatchesOf, app_of, first_of, first_value, found_of, is_simple, matches_of, one_of}
use Rattle.clap.specs.Words.{rows_of}
use Rattle.clap.specs.declared.builder.command.Command.{Command}
use Rattle.clap.specs.declared.parser.matches.ArgMatches.{ArgMatches}
use Rattle.clap.proofs.WalkLemmas.{first_value-rows, one_text-rows}
use Rattle.command_line.specs.Options.{Gives, Holds, ReadsHeld, text_given}

-- a parse of a simple command has the matches of its words
pub rows_found : (command : Command) (line : App) (words : List (List ℕ)) (m : ArgMatches) → app_of command ≡ line →
    is_simple line ≡ true
    → HasMatchesOf (app_of command) words m → rows_of (found_of m) ≡ matches_of line words
rows_found command line words m is simple has = (has (ap is_simple is ∙ simple)).0 ∙ ap (λ a. matches_of a words) is

-- a number that the matches have is one that the words give
pub gives_number : (line : App) (words : List (List ℕ)) (m : ArgMatches) (name : List ℕ) (low high other result : ℕ)
    → rows_of (found_of m) ≡ matches_of line words → Holds name low high other m result →
    Gives line words name low high other result
gives_number line words m name low high other result rows held =
    subst (λ (t : Option (List ℕ)). ReadsHeld low high other t result) (one_text-rows (found_of m) name
    ∙ ap (one_of name) rows) held

-- and so for a text
pub gives_text : (line : App) (words : List (List ℕ)) (m : ArgMatches) (name : List ℕ)
    → rows_of (found_of m) ≡ matches_of line words → first_value (found_of m) name ≡ text_given line words name
gives_text line words m name rows = first_value-rows (found_of m) name ∙ ap (first_of name) rows
