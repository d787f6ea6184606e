-- The text of `/metrics`: all families, in their order.
use Rattle.std.specs.Prelude.{ℕ, List, [], ◌++◌, Option, Some, None}
use Rattle.server_counts.specs.declared.family.Family.TheVariants as family
use Rattle.server_counts.specs.Samples.{build_text, codes_text, one_text, times_text}
use Rattle.server_counts.specs.declared.metrics.ClientNumbers.{ClientNumbers}
use Rattle.server_counts.specs.declared.metrics.Numbers.{Numbers}
use Rattle.server_counts.specs.declared.metrics.StandbyNumbers.{StandbyNumbers}
use Rattle.server_counts.specs.declared.metrics.StoreNumbers.{StoreNumbers}

-- the memory, where it is known
abbrev pub resident_text : Option ℕ → List ℕ
resident_text None = []
resident_text (Some bytes) = one_text family.Resident bytes

-- what concerns the process
abbrev pub process_text : Numbers → List ℕ
process_text numbers = build_text family.Build numbers.build.version.now numbers.build.proved.now
    ++ (one_text family.Uptime numbers.uptime_seconds ++ resident_text numbers.resident_bytes)

-- who is connected
abbrev pub connected_text : ClientNumbers → List ℕ
connected_text numbers = one_text family.Clients numbers.clients ++ (one_text family.Visits numbers.visits
    ++ (one_text family.PageRequests numbers.page_requests ++ one_text family.PageConnections numbers.page_connections))

-- what was answered
abbrev pub answered_text : ClientNumbers → List ℕ
answered_text numbers = one_text family.Pads numbers.pads ++ (one_text family.Requests numbers.requests
    ++ one_text family.Operations numbers.operations)

-- what was refused
abbrev pub refused_text : ClientNumbers → List ℕ
refused_text numbers = codes_text family.Refusals numbers.refusals.items

-- what was answered, and what was refused
abbrev pub done_text : ClientNumbers → List ℕ
done_text numbers = answered_text numbers ++ refused_text numbers

-- what concerns clients
abbrev pub clients_text : ClientNumbers → List ℕ
clients_text numbers = connected_text numbers ++ done_text numbers

-- what the standby confirms
abbrev pub confirms_text : StandbyNumbers → List ℕ
confirms_text numbers = one_text family.Confirms numbers.confirms ++ one_text family.Confirmed numbers.confirmed

-- how far behind the standby is
abbrev pub lag_text : StandbyNumbers → List ℕ
lag_text numbers = one_text family.LagNotes numbers.lag_notes ++ (one_text family.LagBytes numbers.lag_bytes
    ++ (one_text family.LagSeconds numbers.lag_seconds ++ one_text family.Silence numbers.silence_seconds))

-- what concerns the standby
abbrev pub standby_text : StandbyNumbers → List ℕ
standby_text numbers = confirms_text numbers ++ lag_text numbers

-- the same, if there is one
abbrev pub standbys_text : Option StandbyNumbers → List ℕ
standbys_text None = []
standbys_text (Some numbers) = standby_text numbers

-- what was noted and synced
abbrev pub notes_text : StoreNumbers → List ℕ
notes_text numbers = one_text family.Notes numbers.notes ++ (one_text family.Synced numbers.synced
    ++ times_text family.Syncs numbers.syncs)

-- what concerns the store
abbrev pub store_text : StoreNumbers → List ℕ
store_text numbers = notes_text numbers ++ (one_text family.Machines numbers.machines ++ standbys_text numbers.standby)

-- the same, if there is one; otherwise nothing is kept on any machine
abbrev pub stores_text : Option StoreNumbers → List ℕ
stores_text None = one_text family.Machines 0
stores_text (Some numbers) = store_text numbers

-- the text of all numbers
abbrev pub metrics_text : Numbers → List ℕ
metrics_text numbers = process_text numbers ++ (clients_text numbers.clients ++ stores_text numbers.store)
