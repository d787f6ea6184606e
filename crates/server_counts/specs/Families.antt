-- The families of samples.
use Rattle.std.specs.Prelude.{ℕ, List, codes}
use Rattle.server_counts.specs.declared.family.Family.{Family}
use Rattle.server_counts.specs.declared.family.Family.TheVariants as family
use Rattle.server_counts.specs.declared.family.FamilyKind.{FamilyKind}
use Rattle.server_counts.specs.declared.family.FamilyKind.TheVariants.{Counter, Gauge, Histogram}

-- the name of a family, without `vindrughe_`
abbrev pub name_of : Family → List ℕ
name_of family.Build = codes "build_info"
name_of family.Uptime = codes "uptime_seconds"
name_of family.Resident = codes "resident_memory_bytes"
name_of family.Clients = codes "clients"
name_of family.Visits = codes "visits"
name_of family.PageRequests = codes "page_requests"
name_of family.PageConnections = codes "page_connections_total"
name_of family.Pads = codes "pads"
name_of family.Requests = codes "requests_total"
name_of family.Operations = codes "operations_total"
name_of family.Refusals = codes "refusals_total"
name_of family.Notes = codes "notes_total"
name_of family.Synced = codes "notes_synced_total"
name_of family.Syncs = codes "sync_seconds"
name_of family.Machines = codes "machines"
name_of family.Confirms = codes "confirms"
name_of family.Confirmed = codes "notes_confirmed_total"
name_of family.LagNotes = codes "standby_lag_notes"
name_of family.LagBytes = codes "standby_lag_bytes"
name_of family.LagSeconds = codes "standby_lag_seconds"
name_of family.Silence = codes "standby_silence_seconds"

-- what a family says
abbrev pub help_of : Family → List ℕ
help_of family.Build = codes "The build of the program; always 1."
help_of family.Uptime = codes "Seconds since the server began to serve."
help_of family.Resident = codes "Memory of the process that is in RAM."
help_of family.Clients = codes "Clients that are connected: those that speak lines, and sockets of browsers."
help_of family.Visits = codes "Visits of clients: each is one client's presence on one pad."
help_of family.PageRequests = codes "Requests of browsers that are read or answered now."
help_of family.PageConnections = codes "Connections at the address of the page; each has one request."
help_of family.Pads = codes "Pads of the server."
help_of family.Requests = codes "Lines that were answered, refusals too."
help_of family.Operations = codes "Operations that were delivered on pads: edits and comments, of authors and of peers."
help_of family.Refusals = codes "Lines that were refused, by the number of the refusal; 201 is a wrong token."
help_of family.Notes = codes "Notes of what is to be kept: one for each answer that leaves something."
help_of family.Synced = codes "Notes that are synced to the disk."
help_of family.Syncs = codes "Syncs of the files of pads, by how long they took."
help_of family.Machines = codes "On how many machines what is answered now is kept."
help_of family.Confirms = codes "1 while replies wait until the standby has what they reveal, otherwise 0."
help_of family.Confirmed = codes "Notes that the standby has synced."
help_of family.LagNotes = codes "Notes that are synced here and that the standby is not known to have."
help_of family.LagBytes = codes "Bytes of files that are synced here and that the standby is not known to have."
help_of family.LagSeconds = codes "Seconds since the standby last had everything, or 0 if it has everything."
help_of family.Silence = codes "Seconds since the standby last answered; it is asked each second."

-- what the samples of a family are
abbrev pub kind_of : Family → FamilyKind
kind_of family.PageConnections = Counter
kind_of family.Requests = Counter
kind_of family.Operations = Counter
kind_of family.Refusals = Counter
kind_of family.Notes = Counter
kind_of family.Synced = Counter
kind_of family.Syncs = Histogram
kind_of family.Confirmed = Counter
kind_of other = Gauge

-- the word for what the samples of a family are
abbrev pub kind_text : FamilyKind → List ℕ
kind_text Counter = codes "counter"
kind_text Gauge = codes "gauge"
kind_text Histogram = codes "histogram"
