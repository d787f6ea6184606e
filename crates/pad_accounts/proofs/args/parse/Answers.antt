use Rattle.std.proofs.Common.{◌≡◌, ◌∙◌, ℕ, List, Option, map, string_bytes, codes, refl, ap, subst, true, []}
use Rattle.std.specs.Option.{unwrap_or}
use Rattle.clap.specs.Faults.{fault_of, is_simple_and_free}
use Rattle.clap.specs.Words.{App, HasKind, all_of, found_of, is_simple, one_of}
use Rattle.clap.proofs.WalkLemmas.{one_text-rows, raw_values-rows}
use Rattle.command_line.proofs.CallerLemmas.{gives_text, rows_found}
use Rattle.pad_accounts.specs.CommandLine.{line}
use Rattle.pad_accounts.proofs.args.parse.Goals as goal

is_simple_line : is_simple line ≡ true
is_simple_line = refl

is_free_line : is_simple_and_free line ≡ true
is_free_line = refl

pub returns-clause-asked : goal.returns-clause-asked
returns-clause-asked c =
    let words = map string_bytes c.args.words.now in
    let m = c.in-Ok.matches in
    let rows = rows_found c.in_ok-command.field-0 line words m c.in_ok-command.ensures is_simple_line
    c.in-Ok.ensures.matches in
    let flag = one_text-rows (found_of m) (codes "hash") ∙ ap (one_of (codes "hash")) rows in
    record {
      file = c.get_str.ensures ∙ gives_text line words m (codes "file") rows;
      command = c.get_str-2.ensures ∙ gives_text line words m (codes "command") rows;
      names = c.in_ok-names.ensures ∙ ap (λ (o : Option (List (List ℕ))). unwrap_or o [])
          (raw_values-rows (found_of m) (codes "name") ∙ ap (all_of (codes "name")) rows);
      from = c.get_str-3.ensures ∙ gives_text line words m (codes "from") rows;
      at = c.get_str-4.ensures ∙ gives_text line words m (codes "at") rows;
      pad = c.get_str-5.ensures ∙ gives_text line words m (codes "pad") rows;
      hash = record {
        absent = λ e. c.get_flag.ensures.none (flag ∙ e);
        set = λ e. c.get_flag.ensures.value (flag ∙ e);
        unset = λ e. c.get_flag.ensures.other (flag ∙ e);
      };
    }

pub returns-clause-refused : goal.returns-clause-refused
returns-clause-refused c =
    let words = map string_bytes c.args.words.now in
    subst (λ (a : App). fault_of a words ≡ []) c.in_ok-command.ensures
    (c.in-Ok.ensures.kinds (ap is_simple_and_free c.in_ok-command.ensures ∙ is_free_line))

pub returns-in-Err-clause-refused : goal.returns-in-Err-clause-refused
returns-in-Err-clause-refused c =
    let words = map string_bytes c.args.words.now in
    subst (λ (a : App). HasKind (fault_of a words) c.in-Err.error) c.in_ok-command.ensures
    (c.in-Err.ensures.kinds (ap is_simple_and_free c.in_ok-command.ensures ∙ is_free_line))
