-- The command line of the program, and what it asks for.
use Rattle.std.specs.Prelude.{◌≡◌, List, ℕ, codes, true, unwrap_or, []}
use Rattle.clap.specs.Words.{App, Rule, matches_of, new_app, one_of, with_rule}
use Rattle.command_line.specs.Options.{Gives, IsFlag, accounts_rule, cells_rule, flag_rule, present_rule, replica_rule}
use Rattle.command_line.specs.Options.{text_given, versioned}
use Rattle.presence.specs.declared.presence.TheConstants.{DEFAULT_PRESENT, MAX_PRESENT}
use Rattle.server_core.specs.declared.limits.TheConstants.{DEFAULT_CELLS, MAX_CELLS}
use Rattle.pad_replay.specs.declared.args.ReplayArguments.{ReplayArguments}

-- an option that is required
abbrev pub mandatory : Rule → Rule
mandatory rule = record rule { required = true }

-- the command line, in the terms of clap, which define the words that it accepts and what they give under a name
abbrev pub line : App
line = with_rule (with_rule (with_rule (with_rule (with_rule (versioned (new_app (codes "pad_replay"))) replica_rule)
    (mandatory cells_rule)) present_rule) (mandatory accounts_rule)) (flag_rule (codes "plain"))

-- what the words ask for: the numbers that they give under `--replica`, `--cells` and `--present`, the path under
-- `--accounts`, and `--plain`
pub record AsksFor (words : List (List ℕ)) (asked : ReplayArguments) : Type 0 where
  pub replica : Gives line words (codes "replica") 1 65535 1 asked.replica
  pub cells : Gives line words (codes "cells") 0 MAX_CELLS DEFAULT_CELLS asked.cells
  pub present : Gives line words (codes "present") 0 MAX_PRESENT DEFAULT_PRESENT asked.present
  pub accounts : asked.accounts.now ≡ unwrap_or (text_given line words (codes "accounts")) []
  pub plain : IsFlag (one_of (codes "plain") (matches_of line words)) asked.plain
