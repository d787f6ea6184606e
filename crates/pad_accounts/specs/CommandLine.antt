-- The command line of the program, and what its words give.
use Rattle.std.specs.Prelude.{◌≡◌, List, [], ℕ, codes, map, option_map, unwrap_or, Some, true}
use Rattle.clap.specs.Words.{App, Rule, all_of, matches_of, new_app, new_rule, one_of, with_rule}
use Rattle.clap.specs.declared.builder.action.ArgAction.TheVariants.{Append}
use Rattle.command_line.specs.Options.{IsFlag, flag_rule, option_rule, text_given, versioned}
use Rattle.pad_accounts.specs.declared.args.AccountsArguments.{AccountsArguments}

-- a positional argument that is required
abbrev pub needed_word : List ℕ → Rule
needed_word name = record (new_rule name) { value_names = 1; required = true }

-- the names: any number of words at the end
abbrev pub names_rule : Rule
names_rule = record (new_rule (codes "name")) { value_names = 1; action = Some Append }

-- the command line with its positional arguments: the file, the command, and the names
abbrev pub line_with_arguments : App
line_with_arguments = with_rule (with_rule (with_rule (versioned (new_app (codes "pad_accounts")))
    (needed_word (codes "file"))) (needed_word (codes "command"))) names_rule

-- the whole command line, in the terms of clap, which define the words that it accepts and what they give under a name
abbrev pub line : App
line = with_rule (with_rule (with_rule (with_rule line_with_arguments (option_rule (codes "from")))
    (option_rule (codes "at"))) (option_rule (codes "pad"))) (flag_rule (codes "hash"))

-- what the words give: the texts under the names of the arguments and options
pub record AsksFor (words : List (List ℕ)) (asked : AccountsArguments) : Type 0 where
  pub file : option_map (λ file. file.now) asked.file ≡ text_given line words (codes "file")
  pub command : option_map (λ word. word.now) asked.command ≡ text_given line words (codes "command")
  pub names : map (λ name. name.now) asked.names.items ≡ unwrap_or (all_of (codes "name") (matches_of line words)) []
  pub from : option_map (λ list. list.now) asked.from ≡ text_given line words (codes "from")
  pub at : option_map (λ origin. origin.now) asked.at ≡ text_given line words (codes "at")
  pub pad : option_map (λ pad. pad.now) asked.pad ≡ text_given line words (codes "pad")
  pub hash : IsFlag (one_of (codes "hash") (matches_of line words)) asked.hash
