-- How the files that a process may have open are shared out.
use Rattle.std.specs.Prelude.{ℕ, ◌+◌, ◌-◌, ◌/◌, max, min}
use Rattle.tcp_server.specs.declared.room.FileShares.{FileShares}

-- a share of so many files: what is asked for, as far as they go, and one of none
abbrev pub share : ℕ → ℕ → ℕ
share files asked = min asked (max files 1)

-- at most a quarter of the files for pads, at most an eighth for HTTP requests, and the rest for clients
abbrev pub shared_out : ℕ → FileShares → FileShares
shared_out files asked =
    let pads = share (files / 4) asked.pads in
    let page_requests = share (files / 8) asked.page_requests in
    record {
      clients = share (files - pads - page_requests) asked.clients;
      page_requests = page_requests;
      pads = pads;
    }

-- the files that are open where all that may be there is there
abbrev pub files_of : FileShares → ℕ
files_of room = room.clients + room.page_requests + room.pads
