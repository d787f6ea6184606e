use Rattle.std.proofs.Common.{◌≡◌, ◌∙◌, map, string_bytes, codes, refl, ap, subst, true, []}
use Rattle.clap.specs.Faults.{fault_of, is_simple_and_free}
use Rattle.clap.specs.Words.{App, HasKind, found_of, is_simple, one_of, one_text}
use Rattle.clap.proofs.WalkLemmas.{one_text-rows}
use Rattle.command_line.proofs.CallerLemmas.{gives_number, gives_text, rows_found}
use Rattle.presence.specs.declared.presence.TheConstants.{DEFAULT_PRESENT, MAX_PRESENT}
use Rattle.server_core.specs.declared.limits.TheConstants.{DEFAULT_CELLS, MAX_CELLS}
use Rattle.pad_server.specs.declared.options.TheConstants.{DEFAULT_CLIENTS}
use Rattle.pad_server.specs.CommandLine.{line}
use Rattle.pad_server.proofs.args.parse.Goals as goal

is_simple_line : is_simple line ≡ true
is_simple_line = refl

is_free_line : is_simple_and_free line ≡ true
is_free_line = refl

pub returns-clause-asked : goal.returns-clause-asked
returns-clause-asked c =
    let words = map string_bytes c.args.words.now in
    let m = c.in-Ok.matches in
    let rows = rows_found c.in_ok-command.field-0 line words m c.in_ok-command.ensures is_simple_line
    c.in-Ok.ensures.matches in
    let flag = one_text-rows (found_of m) (codes "stdin") ∙ ap (one_of (codes "stdin")) rows in
    let unproved = one_text-rows (found_of m) (codes "unproved") ∙ ap (one_of (codes "unproved")) rows in
    let logged = one_text-rows (found_of m) (codes "log-access") ∙ ap (one_of (codes "log-access")) rows in
    let anybody = one_text-rows (found_of m) (codes "any-user") ∙ ap (one_of (codes "any-user")) rows in
    let guests = one_text-rows (found_of m) (codes "guests") ∙ ap (one_of (codes "guests")) rows in
    let renewed = one_text-rows (found_of m) (codes "new-replica") ∙ ap (one_of (codes "new-replica")) rows in
    record {
      replica = gives_number line words m (codes "replica") 1 65535 1 c.replica_of.result rows
          c.replica_of.ensures.value;
      cells = gives_number line words m (codes "cells") 0 MAX_CELLS DEFAULT_CELLS c.cells_of.result rows
          c.cells_of.ensures.value;
      present = gives_number line words m (codes "present") 0 MAX_PRESENT DEFAULT_PRESENT c.present_of.result rows
          c.present_of.ensures.value;
      accounts = c.get_str.ensures ∙ gives_text line words m (codes "accounts") rows;
      stdin = record {
        absent = λ e. c.get_flag.ensures.none (flag ∙ e);
        set = λ e. c.get_flag.ensures.value (flag ∙ e);
        unset = λ e. c.get_flag.ensures.other (flag ∙ e);
      };
      listen = c.get_str-2.ensures ∙ gives_text line words m (codes "listen") rows;
      workers = λ other. gives_number line words m (codes "workers") 0 4294967295 other _ rows
          (c.workers_of.ensures other);
      connections = λ other. gives_number line words m (codes "connections") 0 4294967295 other _ rows
          (c.connections_of.ensures other);
      clients = gives_number line words m (codes "clients") 0 4294967295 DEFAULT_CLIENTS c.clients_of.result rows
          c.clients_of.ensures;
      clients_per_address = λ other. gives_number line words m (codes "clients-per-address") 0 4294967295 other _ rows
          (c.clients_per_address_of.ensures other);
      idle = λ other. gives_number line words m (codes "idle") 0 4294967295 other _ rows (c.idle_of.ensures other);
      store = c.get_str-3.ensures ∙ gives_text line words m (codes "store") rows;
      new_replica = record {
        absent = λ e. c.get_flag-2.ensures.none (renewed ∙ e);
        set = λ e. c.get_flag-2.ensures.value (renewed ∙ e);
        unset = λ e. c.get_flag-2.ensures.other (renewed ∙ e);
      };
      standby = λ other. gives_number line words m (codes "standby") 0 65535 other _ rows
          (c.standby_number_of.ensures other);
      standby_of = λ other. gives_number line words m (codes "standby-of") 0 65535 other _ rows
          (c.main_number_of.ensures other);
      confirm = c.get_str-4.ensures ∙ gives_text line words m (codes "confirm") rows;
      log_access = record {
        absent = λ e. c.get_flag-3.ensures.none (logged ∙ e);
        set = λ e. c.get_flag-3.ensures.value (logged ∙ e);
        unset = λ e. c.get_flag-3.ensures.other (logged ∙ e);
      };
      unproved = record {
        absent = λ e. c.get_flag-4.ensures.none (unproved ∙ e);
        set = λ e. c.get_flag-4.ensures.value (unproved ∙ e);
        unset = λ e. c.get_flag-4.ensures.other (unproved ∙ e);
      };
      web = c.get_str-5.ensures ∙ gives_text line words m (codes "web") rows;
      web_origins = c.get_str-6.ensures ∙ gives_text line words m (codes "web-origin") rows;
      user_header = c.get_str-7.ensures ∙ gives_text line words m (codes "user-header") rows;
      trusted_proxies = c.get_str-8.ensures ∙ gives_text line words m (codes "trusted-proxy") rows;
      any_user = record {
        absent = λ e. c.get_flag-5.ensures.none (anybody ∙ e);
        set = λ e. c.get_flag-5.ensures.value (anybody ∙ e);
        unset = λ e. c.get_flag-5.ensures.other (anybody ∙ e);
      };
      guests = record {
        absent = λ e. c.get_flag-6.ensures.none (guests ∙ e);
        set = λ e. c.get_flag-6.ensures.value (guests ∙ e);
        unset = λ e. c.get_flag-6.ensures.other (guests ∙ e);
      };
      status = c.get_str-9.ensures ∙ gives_text line words m (codes "status") rows;
    }

pub returns-clause-refused : goal.returns-clause-refused
returns-clause-refused c =
    let words = map string_bytes c.args.words.now in
    subst (λ (a : App). fault_of a words ≡ []) c.in_ok-command.ensures
    (c.in-Ok.ensures.kinds (ap is_simple_and_free c.in_ok-command.ensures ∙ is_free_line))

pub returns-in-Err-clause-refused : goal.returns-in-Err-clause-refused
returns-in-Err-clause-refused c =
    let words = map string_bytes c.args.words.now in
    subst (λ (a : App). HasKind (fault_of a words) c.in-Err.error) c.in_ok-command.ensures
    (c.in-Err.ensures.kinds (ap is_simple_and_free c.in_ok-command.ensures ∙ is_free_line))
