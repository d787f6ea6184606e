-- What a request of the status asks for.
use Rattle.std.specs.Prelude.{ℕ, Bool, true, false, ◌-◌, List, length, take, drop, codes, bytes_eq, if◌then◌else◌, Option, Some, None}
use Rattle.server_counts.specs.declared.request.StatusRequest.{StatusRequest}
use Rattle.server_counts.specs.declared.request.StatusRequest.TheVariants as asked
use Rattle.server_counts.specs.declared.request.StatusPage.TheVariants.{Health, Kept, Metrics}

-- a line that ends with the version 1.1 or 1.0, without it
abbrev pub unversioned : List ℕ → Option (List ℕ)
unversioned line =
    if bytes_eq (drop (length line - 9) line) (codes " HTTP/1.1") then Some (take (length line - 9) line)
    else if bytes_eq (drop (length line - 9) line) (codes " HTTP/1.0") then Some (take (length line - 9) line)
    else None

-- the page that a target names
abbrev pub page_of : List ℕ → Bool → StatusRequest
page_of target is_head =
    if bytes_eq target (codes "/healthz") then asked.Page Health is_head
    else if bytes_eq target (codes "/kept") then asked.Page Kept is_head
    else if bytes_eq target (codes "/metrics") then asked.Page Metrics is_head
    else asked.NoPage is_head

-- what the words before a version ask for: a page by `GET` or `HEAD`
abbrev pub asked_by_words : Option (List ℕ) → StatusRequest
asked_by_words None = asked.NoRequest
asked_by_words (Some words) =
    if bytes_eq (take 4 words) (codes "GET ") then page_of (drop 4 words) false
    else if bytes_eq (take 5 words) (codes "HEAD ") then page_of (drop 5 words) true
    else asked.NoMethod

-- what a request asks for, by its first line
abbrev pub asked_by : List ℕ → StatusRequest
asked_by line = asked_by_words (unversioned line)
