-- The command line of the program, and what its words give.
use Rattle.std.specs.Prelude.{◌≡◌, List, ℕ, codes, option_map, true, unwrap_or}
use Rattle.clap.specs.Words.{App, Rule, matches_of, new_app, new_rule, one_of, with_rule}
use Rattle.command_line.specs.Options.{Gives, IsFlag, flag_rule, number_rule, option_rule, text_given, versioned}
use Rattle.pad_store.specs.declared.args.StoreArguments.{StoreArguments}

-- a positional argument that is required
abbrev pub needed_word : List ℕ → Rule
needed_word name = record (new_rule name) { value_names = 1; required = true }

-- a revision, a moment or a path as a positional argument, which is any text
abbrev pub other_word : List ℕ → Rule
other_word name = record (new_rule name) { value_names = 1 }

-- an option that takes a revision
abbrev pub revision_option : List ℕ → Rule
revision_option name = number_rule name 0 4294967295

-- the command line with its positional arguments: the command, the path, and two revisions or another path
abbrev pub line_with_arguments : App
line_with_arguments = with_rule (with_rule (with_rule (with_rule (versioned (new_app (codes "pad_store")))
    (needed_word (codes "command"))) (needed_word (codes "path"))) (other_word (codes "first")))
    (other_word (codes "second"))

-- the same, with the options that name a revision
abbrev pub line_with_revisions : App
line_with_revisions = with_rule (with_rule (with_rule line_with_arguments (revision_option (codes "rev")))
    (option_rule (codes "at"))) (revision_option (codes "from"))

-- the same, with the other options that take a value
abbrev pub line_with_values : App
line_with_values = with_rule (with_rule (with_rule (with_rule line_with_revisions (option_rule (codes "by")))
    (option_rule (codes "since"))) (option_rule (codes "until"))) (option_rule (codes "sum"))

-- the whole command line, in the terms of clap, which define the words that it accepts and what they give under a name
abbrev pub line : App
line = with_rule (with_rule (with_rule line_with_values (flag_rule (codes "authors"))) (flag_rule (codes "comments")))
    (flag_rule (codes "markdown"))

-- what the words give: the texts, numbers and flags under the names of the options
pub record AsksFor (words : List (List ℕ)) (asked : StoreArguments) : Type 0 where
  pub command : option_map (λ word. word.now) asked.command ≡ text_given line words (codes "command")
  pub path : option_map (λ path. path.now) asked.path ≡ text_given line words (codes "path")
  pub other : option_map (λ other. other.now) asked.other ≡ text_given line words (codes "first")
  pub last : option_map (λ last. last.now) asked.last ≡ text_given line words (codes "second")
  pub first : (other : ℕ) → Gives line words (codes "first") 0 4294967295 other (unwrap_or asked.first other)
  pub second : (other : ℕ) → Gives line words (codes "second") 0 4294967295 other (unwrap_or asked.second other)
  pub rev : (other : ℕ) → Gives line words (codes "rev") 0 4294967295 other (unwrap_or asked.rev other)
  pub from : (other : ℕ) → Gives line words (codes "from") 0 4294967295 other (unwrap_or asked.from other)
  pub at : option_map (λ at. at.now) asked.at ≡ text_given line words (codes "at")
  pub by : option_map (λ by. by.now) asked.by ≡ text_given line words (codes "by")
  pub since : option_map (λ since. since.now) asked.since ≡ text_given line words (codes "since")
  pub until : option_map (λ until. until.now) asked.until ≡ text_given line words (codes "until")
  pub sum : option_map (λ sum. sum.now) asked.sum ≡ text_given line words (codes "sum")
  pub authors : IsFlag (one_of (codes "authors") (matches_of line words)) asked.authors
  pub comments : IsFlag (one_of (codes "comments") (matches_of line words)) asked.comments
  pub markdown : IsFlag (one_of (codes "markdown") (matches_of line words)) asked.markdown
