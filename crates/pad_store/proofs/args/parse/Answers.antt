use Rattle.std.proofs.Common.{◌≡◌, ◌∙◌, map, string_bytes, codes, refl, ap, subst, true, []}
use Rattle.clap.specs.Faults.{fault_of, is_simple_and_free}
use Rattle.clap.specs.Words.{App, HasKind, found_of, is_simple, one_of, one_text}
use Rattle.clap.proofs.WalkLemmas.{one_text-rows}
use Rattle.command_line.proofs.CallerLemmas.{gives_number, gives_text, rows_found}
use Rattle.pad_store.specs.CommandLine.{line}
use Rattle.pad_store.proofs.args.parse.Goals as goal

is_simple_line : is_simple line ≡ true
is_simple_line = refl

is_free_line : is_simple_and_free line ≡ true
is_free_line = refl

pub returns-clause-asked : goal.returns-clause-asked
returns-clause-asked c =
    let words = map string_bytes c.args.words.now in
    let m = c.in-Ok.matches in
    let rows = rows_found c.in_ok-command.field-0 line words m c.in_ok-command.ensures is_simple_line
    c.in-Ok.ensures.matches in
    let authors = one_text-rows (found_of m) (codes "authors") ∙ ap (one_of (codes "authors")) rows in
    let comments = one_text-rows (found_of m) (codes "comments") ∙ ap (one_of (codes "comments")) rows in
    let markdown = one_text-rows (found_of m) (codes "markdown") ∙ ap (one_of (codes "markdown")) rows in
    record {
      command = c.get_str.ensures ∙ gives_text line words m (codes "command") rows;
      path = c.get_str-2.ensures ∙ gives_text line words m (codes "path") rows;
      other = c.get_str-3.ensures ∙ gives_text line words m (codes "first") rows;
      last = c.get_str-4.ensures ∙ gives_text line words m (codes "second") rows;
      first = λ other. gives_number line words m (codes "first") 0 4294967295 other _ rows
          (c.revision_of.ensures other);
      second = λ other. gives_number line words m (codes "second") 0 4294967295 other _ rows
          (c.revision_of-2.ensures other);
      rev = λ other. gives_number line words m (codes "rev") 0 4294967295 other _ rows
          (c.revision_of-3.ensures other);
      from = λ other. gives_number line words m (codes "from") 0 4294967295 other _ rows
          (c.revision_of-4.ensures other);
      at = c.get_str-5.ensures ∙ gives_text line words m (codes "at") rows;
      by = c.get_str-6.ensures ∙ gives_text line words m (codes "by") rows;
      since = c.get_str-7.ensures ∙ gives_text line words m (codes "since") rows;
      until = c.get_str-8.ensures ∙ gives_text line words m (codes "until") rows;
      sum = c.get_str-9.ensures ∙ gives_text line words m (codes "sum") rows;
      authors = record {
        absent = λ e. c.get_flag.ensures.none (authors ∙ e);
        set = λ e. c.get_flag.ensures.value (authors ∙ e);
        unset = λ e. c.get_flag.ensures.other (authors ∙ e);
      };
      comments = record {
        absent = λ e. c.get_flag-2.ensures.none (comments ∙ e);
        set = λ e. c.get_flag-2.ensures.value (comments ∙ e);
        unset = λ e. c.get_flag-2.ensures.other (comments ∙ e);
      };
      markdown = record {
        absent = λ e. c.get_flag-3.ensures.none (markdown ∙ e);
        set = λ e. c.get_flag-3.ensures.value (markdown ∙ e);
        unset = λ e. c.get_flag-3.ensures.other (markdown ∙ e);
      };
    }

pub returns-clause-refused : goal.returns-clause-refused
returns-clause-refused c =
    let words = map string_bytes c.args.words.now in
    subst (λ (a : App). fault_of a words ≡ []) c.in_ok-command.ensures
    (c.in-Ok.ensures.kinds (ap is_simple_and_free c.in_ok-command.ensures ∙ is_free_line))

pub returns-in-Err-clause-refused : goal.returns-in-Err-clause-refused
returns-in-Err-clause-refused c =
    let words = map string_bytes c.args.words.now in
    subst (λ (a : App). HasKind (fault_of a words) c.in-Err.error) c.in_ok-command.ensures
    (c.in-Err.ensures.kinds (ap is_simple_and_free c.in_ok-command.ensures ∙ is_free_line))
