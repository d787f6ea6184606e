-- The command line of the program, and what its words give.
use Rattle.std.specs.Prelude.{◌≡◌, List, ℕ, codes, option_map, unwrap_or}
use Rattle.clap.specs.Words.{App, Rule, matches_of, new_app, one_of, with_rule}
use Rattle.command_line.specs.Options.{Gives, IsFlag, accounts_rule, cells_rule, flag_rule, number_rule, option_rule}
use Rattle.command_line.specs.Options.{present_rule, replica_rule, text_given, versioned}
use Rattle.presence.specs.declared.presence.TheConstants.{DEFAULT_PRESENT, MAX_PRESENT}
use Rattle.server_core.specs.declared.limits.TheConstants.{DEFAULT_CELLS, MAX_CELLS}
use Rattle.pad_server.specs.declared.args.ServerArguments.{ServerArguments}
use Rattle.tcp_server.specs.declared.threads.TheConstants.{MAX_WORKERS}
use Rattle.pad_server.specs.declared.options.TheConstants.{DEFAULT_CLIENTS}

-- `--stdin`
abbrev pub stdin_rule : Rule
stdin_rule = flag_rule (codes "stdin")

-- `--listen ADDR`
abbrev pub listen_rule : Rule
listen_rule = option_rule (codes "listen")

-- `--workers N`
abbrev pub workers_rule : Rule
workers_rule = number_rule (codes "workers") 1 MAX_WORKERS

-- `--connections N`, a number of 32 bits
abbrev pub connections_rule : Rule
connections_rule = number_rule (codes "connections") 1 4294967295

-- `--clients N`, a number of 32 bits
abbrev pub clients_rule : Rule
clients_rule = number_rule (codes "clients") 1 4294967295

-- `--clients-per-address N`, a number of 32 bits
abbrev pub clients_per_address_rule : Rule
clients_per_address_rule = number_rule (codes "clients-per-address") 1 4294967295

-- `--idle SECONDS`, a number of 32 bits
abbrev pub idle_rule : Rule
idle_rule = number_rule (codes "idle") 1 4294967295

-- `--store DIR`
abbrev pub store_rule : Rule
store_rule = option_rule (codes "store")

-- `--new-replica`
abbrev pub new_replica_rule : Rule
new_replica_rule = flag_rule (codes "new-replica")

-- `--unproved`
abbrev pub unproved_rule : Rule
unproved_rule = flag_rule (codes "unproved")

-- `--log-access`
abbrev pub log_access_rule : Rule
log_access_rule = flag_rule (codes "log-access")

-- `--standby N`
abbrev pub standby_rule : Rule
standby_rule = number_rule (codes "standby") 1 65535

-- `--standby-of N`
abbrev pub standby_of_rule : Rule
standby_of_rule = number_rule (codes "standby-of") 1 65535

-- `--confirm WHEN`
abbrev pub confirm_rule : Rule
confirm_rule = option_rule (codes "confirm")

-- `--web ADDR`
abbrev pub web_rule : Rule
web_rule = option_rule (codes "web")

-- `--web-origin ORIGINS`
abbrev pub web_origins_rule : Rule
web_origins_rule = option_rule (codes "web-origin")

-- `--user-header NAME`
abbrev pub user_header_rule : Rule
user_header_rule = option_rule (codes "user-header")

-- `--trusted-proxy ADDRS`
abbrev pub trusted_proxies_rule : Rule
trusted_proxies_rule = option_rule (codes "trusted-proxy")

-- `--any-user`
abbrev pub any_user_rule : Rule
any_user_rule = flag_rule (codes "any-user")

-- `--guests`
abbrev pub guests_rule : Rule
guests_rule = flag_rule (codes "guests")

-- `--status ADDR`
abbrev pub status_rule : Rule
status_rule = option_rule (codes "status")

-- the command line with the options that say what is served, by which server, and for whom
abbrev pub line_with_service : App
line_with_service = with_rule (with_rule (with_rule (with_rule (versioned (new_app (codes "pad_server"))) stdin_rule)
    listen_rule) replica_rule) accounts_rule

-- the same, with the options that limit pads, visits on a pad, threads and connections
abbrev pub line_with_sizes : App
line_with_sizes = with_rule (with_rule (with_rule (with_rule line_with_service cells_rule) present_rule)
    workers_rule)
    connections_rule

-- the same, with the options that say how many clients there may be, when a silent connection is closed, and where pads
-- are stored
abbrev pub line_with_clients_and_store : App
line_with_clients_and_store = with_rule (with_rule (with_rule (with_rule line_with_sizes clients_rule) idle_rule)
    store_rule) new_replica_rule

-- the same, with the options of a page, of the clients of an address, and of a build without proofs
abbrev pub line_with_page : App
line_with_page = with_rule (with_rule (with_rule (with_rule line_with_clients_and_store web_rule) web_origins_rule)
    clients_per_address_rule) unproved_rule

-- the same, with the options of a standby
abbrev pub line_with_standby : App
line_with_standby = with_rule (with_rule (with_rule line_with_page standby_rule) standby_of_rule) confirm_rule

-- the same, with the options of those who watch the server
abbrev pub line_with_watching : App
line_with_watching = with_rule (with_rule line_with_standby status_rule) log_access_rule

-- the whole command line, in the terms of clap, which define the words that it accepts and what they give under a name
abbrev pub line : App
line = with_rule (with_rule (with_rule (with_rule line_with_watching user_header_rule) trusted_proxies_rule) any_user_rule)
    guests_rule

-- what the words give: the numbers, the flags and the texts under the names of the options
pub record AsksFor (words : List (List ℕ)) (asked : ServerArguments) : Type 0 where
  pub replica : Gives line words (codes "replica") 1 65535 1 asked.replica
  pub cells : Gives line words (codes "cells") 0 MAX_CELLS DEFAULT_CELLS asked.cells
  pub present : Gives line words (codes "present") 0 MAX_PRESENT DEFAULT_PRESENT asked.present
  pub accounts : option_map (λ path. path.now) asked.accounts ≡ text_given line words (codes "accounts")
  pub stdin : IsFlag (one_of (codes "stdin") (matches_of line words)) asked.stdin
  pub listen : option_map (λ address. address.now) asked.listen ≡ text_given line words (codes "listen")
  pub workers : (other : ℕ) → Gives line words (codes "workers") 0 4294967295 other (unwrap_or asked.workers other)
  pub connections : (other : ℕ) → Gives line words (codes "connections") 0 4294967295 other
      (unwrap_or asked.connections other)
  pub clients : Gives line words (codes "clients") 0 4294967295 DEFAULT_CLIENTS asked.clients
  pub clients_per_address : (other : ℕ) → Gives line words (codes "clients-per-address") 0 4294967295 other
      (unwrap_or asked.clients_per_address other)
  pub idle : (other : ℕ) → Gives line words (codes "idle") 0 4294967295 other (unwrap_or asked.idle other)
  pub store : option_map (λ folder. folder.now) asked.store ≡ text_given line words (codes "store")
  pub new_replica : IsFlag (one_of (codes "new-replica") (matches_of line words)) asked.new_replica
  pub standby : (other : ℕ) → Gives line words (codes "standby") 0 65535 other (unwrap_or asked.standby other)
  pub standby_of : (other : ℕ) → Gives line words (codes "standby-of") 0 65535 other (unwrap_or asked.standby_of other)
  pub confirm : option_map (λ word. word.now) asked.confirm ≡ text_given line words (codes "confirm")
  pub log_access : IsFlag (one_of (codes "log-access") (matches_of line words)) asked.log_access
  pub unproved : IsFlag (one_of (codes "unproved") (matches_of line words)) asked.unproved
  pub web : option_map (λ address. address.now) asked.web ≡ text_given line words (codes "web")
  pub web_origins : option_map (λ origins. origins.now) asked.web_origins ≡ text_given line words (codes "web-origin")
  pub user_header : option_map (λ name. name.now) asked.user_header ≡ text_given line words (codes "user-header")
  pub trusted_proxies : option_map (λ proxies. proxies.now) asked.trusted_proxies
      ≡ text_given line words (codes "trusted-proxy")
  pub any_user : IsFlag (one_of (codes "any-user") (matches_of line words)) asked.any_user
  pub guests : IsFlag (one_of (codes "guests") (matches_of line words)) asked.guests
  pub status : option_map (λ address. address.now) asked.status ≡ text_given line words (codes "status")
