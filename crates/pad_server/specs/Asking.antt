-- The settings of a server over TCP, from the command line.
use Rattle.std.specs.Prelude.{Bool, true, option_map}
use Rattle.group_commit.specs.declared.confirming.Confirm.{Confirm}
use Rattle.pad_server.specs.declared.args.ServerArguments.{ServerArguments}
use Rattle.tcp_server.specs.declared.settings.Settings.{Settings}

-- everything that a server over TCP has to know, except its address and its accounts, with a number that is new or not;
-- replies wait for the standby so
abbrev pub settings_as : Bool → Confirm → ServerArguments → Settings
settings_as is_new confirm asked = record {
  replica = asked.replica;
  cells = asked.cells;
  present = asked.present;
  workers = asked.workers;
  connections = asked.connections;
  clients = asked.clients;
  clients_per_address = asked.clients_per_address;
  idle = asked.idle;
  store = asked.store;
  standby = option_map (λ number. record { number = number; confirm = confirm }) asked.standby;
  new_replica = is_new;
  web = asked.web;
  web_origins = asked.web_origins;
  user_header = asked.user_header;
  trusted_proxies = asked.trusted_proxies;
  any_user = asked.any_user;
  guests = asked.guests;
  status = asked.status;
  logs_access = asked.log_access;
}

-- the settings of a server that is started
abbrev pub settings_of : Confirm → ServerArguments → Settings
settings_of confirm asked = settings_as asked.new_replica confirm asked

-- the settings of a standby that was promoted: the number is new in its store
abbrev pub promoted_settings_of : Confirm → ServerArguments → Settings
promoted_settings_of confirm asked = settings_as true confirm asked
