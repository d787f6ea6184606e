use Rattle.std.proofs.Common.{◌≡◌, ◌∙◌, ℕ, List, Option, Some, None, map, string_bytes, codes, refl, ap, subst, true}
use Rattle.std.proofs.Common.{[], Bor}
use Rattle.std.specs.Prelude.{option_map, unwrap_or}
use Rattle.clap.specs.Faults.{fault_of, is_simple_and_free}
use Rattle.clap.specs.Words.{App, HasKind, found_of, is_simple, one_of}
use Rattle.clap.proofs.WalkLemmas.{one_text-rows}
use Rattle.command_line.proofs.CallerLemmas.{gives_number, gives_text, rows_found}
use Rattle.presence.specs.declared.presence.TheConstants.{DEFAULT_PRESENT, MAX_PRESENT}
use Rattle.server_core.specs.declared.limits.TheConstants.{DEFAULT_CELLS, MAX_CELLS}
use Rattle.pad_replay.specs.CommandLine.{line}
use Rattle.pad_replay.proofs.args.parse.Goals as goal

is_simple_line : is_simple line ≡ true
is_simple_line = refl

is_free_line : is_simple_and_free line ≡ true
is_free_line = refl

text_or_none : (held : Option (Bor (List ℕ))) (other : Bor (List ℕ)) (text : Option (List ℕ)) → other.now ≡ []
    → option_map (λ s. s.now) held ≡ text → (unwrap_or held other).now ≡ unwrap_or text []
text_or_none None other text none is = subst (λ (t : Option (List ℕ)). other.now ≡ unwrap_or t []) is none
text_or_none (Some s) other text none is = subst (λ (t : Option (List ℕ)). s.now ≡ unwrap_or t []) is refl

pub returns-clause-asked : goal.returns-clause-asked
returns-clause-asked c =
    let words = map string_bytes c.args.words.now in
    let m = c.in-Ok.matches in
    let rows = rows_found c.in_ok-command.field-0 line words m c.in_ok-command.ensures is_simple_line
    c.in-Ok.ensures.matches in
    let flag = one_text-rows (found_of m) (codes "plain") ∙ ap (one_of (codes "plain")) rows in
    record {
      replica = gives_number line words m (codes "replica") 1 65535 1 c.replica_of.result rows
          c.replica_of.ensures.value;
      cells = gives_number line words m (codes "cells") 0 MAX_CELLS DEFAULT_CELLS c.cells_of.result rows
          c.cells_of.ensures.value;
      present = gives_number line words m (codes "present") 0 MAX_PRESENT DEFAULT_PRESENT c.present_of.result rows
          c.present_of.ensures.value;
      accounts = ap (λ (b : Bor (List ℕ)). b.now) c.unwrap_or.ensures
          ∙ text_or_none c.get_str.result _ _ refl (c.get_str.ensures
          ∙ gives_text line words m (codes "accounts") rows);
      plain = record {
        absent = λ e. c.get_flag.ensures.none (flag ∙ e);
        set = λ e. c.get_flag.ensures.value (flag ∙ e);
        unset = λ e. c.get_flag.ensures.other (flag ∙ e);
      };
    }

pub returns-clause-refused : goal.returns-clause-refused
returns-clause-refused c =
    let words = map string_bytes c.args.words.now in
    subst (λ (a : App). fault_of a words ≡ []) c.in_ok-command.ensures
    (c.in-Ok.ensures.kinds (ap is_simple_and_free c.in_ok-command.ensures ∙ is_free_line))

pub returns-in-Err-clause-refused : goal.returns-in-Err-clause-refused
returns-in-Err-clause-refused c =
    let words = map string_bytes c.args.words.now in
    subst (λ (a : App). HasKind (fault_of a words) c.in-Err.error) c.in_ok-command.ensures
    (c.in-Err.ensures.kinds (ap is_simple_and_free c.in_ok-command.ensures ∙ is_free_line))
