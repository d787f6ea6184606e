-- Which requests are answered with a page or with the socket.
use Rattle.std.specs.Prelude.{◌≡◌, ◌⊎◌, not, ⊤, ◌∷◌, ℕ, ◌≤◌, Bool, true, false, ◌&&◌, ◌||◌, ◌==◌, nat_lt, if◌then◌else◌, List, [], ◌++◌, map, length, take, drop, codes, bytes_eq, Option, None, Some, Result, Ok, Err, Contains, unwrap_or}
use Rattle.std.specs.List.{list_any, position}
use Rattle.std.specs.Option.{option_map_or}
use Rattle.std.specs.declared.alloc.AllocError.{AllocError}
use Rattle.http1.specs.Conn.{unread_size}
use Rattle.http1.specs.Decoder.{decoder_for}
use Rattle.http1.specs.Message.{AcceptsRequest}
use Rattle.http1.specs.Fields.{Header}
use Rattle.http1.specs.Head.{response_text}
use Rattle.http1.specs.Server.{HasNoHead, new_server, planned_response, request_of}
use Rattle.http1.specs.declared.conn.BodySize.{BodySize}
use Rattle.http1.specs.declared.conn.BodySize.TheVariants.{Empty, Known, Unknown}
use Rattle.http1.specs.declared.conn.Limits.{Limits}
use Rattle.http1.specs.declared.conn.Reading.TheVariants as Reads
use Rattle.http1.specs.declared.framing.Framing.{Framing}
use Rattle.http1.specs.declared.server.Server.{Server}
use Rattle.httparse.specs.Grammar.{RequestHead, ReadsRequest}
use Rattle.httparse.specs.Spans.{name_and_value}
use Rattle.websocket.specs.Handshake.{IsValidKey, accept_key_of, requested_key, response_bytes}
use Rattle.websocket.specs.Headers.{Fields, eq_ignore_case, header_value}
use Rattle.web_wire.specs.Fields.{is_single}
use Rattle.web_wire.specs.Users.{may_name, user_of}
use Rattle.web_wire.specs.declared.page.Page.{Page}
use Rattle.web_wire.specs.declared.page.UserHeader.{UserHeader}
use Rattle.web_wire.specs.declared.plan.Plan.{Plan}
use Rattle.web_wire.specs.declared.plan.Plan.TheVariants as Planned
use Rattle.web_wire.specs.declared.page_request.TheConstants.{LONGEST_HEAD, MOST_FIELDS}
use Rattle.web_wire.specs.declared.reply.TheConstants.{POLICY}
use Rattle.web_wire.specs.Tags.{names_tag}
use Rattle.web_wire.specs.declared.page_request.Next.{Next}
use Rattle.web_wire.specs.declared.page_request.Next.TheVariants.{Read, Close, Socket, User}

-- a page request as callers see it: the unused bytes, those that are to be sent, and the user that an answered request
-- names
pub record Exchange : Type 0 where
  pub input : List ℕ
  pub output : List ℕ
  pub user : Option (List ℕ)

-- whether a byte is a question mark
abbrev pub is_query : ℕ → Bool
is_query byte = byte == 63

-- the path of a target: everything before a question mark
abbrev pub path_of : List ℕ → List ℕ
path_of target = take (unwrap_or (position is_query target) (length target)) target

-- the names and values of a head
abbrev pub fields : RequestHead → Fields
fields head = map name_and_value head.fields

-- whether an origin consists of this scheme and this host; the case of the host's letters does not matter
abbrev pub is_at : List ℕ → List ℕ → List ℕ → Bool
is_at scheme origin host =
    bytes_eq (take (length scheme) origin) scheme
    && (nat_lt 0 (length host) && eq_ignore_case (drop (length scheme) origin) host)

-- whether an origin is that of the requested host
abbrev pub is_own : List ℕ → Option (List ℕ) → Bool
is_own origin None = false
is_own origin (Some host) = is_at (codes "http://") origin host || is_at (codes "https://") origin host

-- whether a request with this origin and this host may open the socket: the origin is the server's own or an allowed
-- one, or the client names none
abbrev pub may_connect : Option (List ℕ) → Option (List ℕ) → List (List ℕ) → Bool
may_connect None host allowed = true
may_connect (Some origin) host allowed =
    is_own origin host || list_any (λ one. eq_ignore_case origin one) allowed

-- a handshake with these parts is answered with this key: it follows RFC 6455, asks for version 13 with a valid key,
-- and names at most one origin, which is allowed
abbrev pub MayOpen : List (List ℕ) → List ℕ → ℕ → Fields → List ℕ → Type 0
MayOpen origins method minor head_fields answer =
    ((key : List ℕ) × (requested_key method minor head_fields ≡ Ok key) × IsValidKey key
    × (answer ≡ accept_key_of key))
    × (may_connect (header_value head_fields (codes "Origin")) (header_value head_fields (codes "Host")) origins ≡ true)
    × (is_single head_fields (codes "Origin") ≡ true)

-- whether a method is GET or HEAD
abbrev pub is_reading : List ℕ → Bool
is_reading method = bytes_eq method (codes "GET") || bytes_eq method (codes "HEAD")

-- whether a body of this size has bytes, or may have some
abbrev pub has_bytes : BodySize → Bool
has_bytes Empty = false
has_bytes (Known len) = not (len == 0)
has_bytes Unknown = true

-- whether a request names the tag of a page as that of its copy
abbrev pub has_copy : Fields → Page → Bool
has_copy head_fields page =
    option_map_or (λ tags. names_tag tags page.tag.now)
    (header_value head_fields (codes "If-None-Match")) false

-- whether a page has the path
abbrev pub has_page : List Page → List ℕ → Bool
has_page pages path = list_any (λ page. bytes_eq page.path.now path) pages

-- why a request may be refused: a user that it may not name, its method, its body, a handshake that may not open the
-- socket or for which there is no room, a question for the user that is no GET, or a path that no page has
abbrev pub MayRefuse : List Page → List (List ℕ) → Bool → Bool → Bool → List ℕ → List ℕ → ℕ → Fields
    → Type 0
MayRefuse pages origins room names body method target minor head_fields =
    (names ≡ false) ⊎ ((is_reading method ≡ false) ⊎ ((body ≡ true) ⊎ (((path_of target ≡ codes "/socket")
    × ((answer : List ℕ) → MayOpen origins method minor head_fields answer → room ≡ false))
    ⊎ (((path_of target ≡ codes "/me") × (bytes_eq method (codes "GET") ≡ false))
    ⊎ (has_page pages (path_of target) ≡ false)))))

-- the plan, if it is the socket
abbrev pub IfSocket : Plan → (List ℕ → Type 0) → Type 0
IfSocket (Planned.Page page whole) P = ⊤
IfSocket (Planned.Unchanged page) P = ⊤
IfSocket (Planned.Socket key) P = P key
IfSocket Planned.User P = ⊤
IfSocket (Planned.Refused status whole) P = ⊤

-- the plan is not a page, and if it is a refusal, its status is that of one and it has this reason
abbrev pub IsNoPage : Plan → Type 0 → Type 0
IsNoPage (Planned.Page page whole) Reason = ⊥
IsNoPage (Planned.Unchanged page) Reason = ⊥
IsNoPage (Planned.Socket key) Reason = ⊤
IsNoPage Planned.User Reason = ⊥
IsNoPage (Planned.Refused status whole) Reason = (400 ≤ status) × Reason

-- the plan for a request, by whether it may name its user: a page only for its path, whole or as unchanged by the tags
-- that the request names; the socket only for a handshake at its path that may open it while there is room; who the user
-- is only for a GET at its path; and otherwise a refusal with a status that refuses, for a reason
abbrev pub IsPlanned : List Page → List (List ℕ) → Bool → Bool → Bool → List ℕ → List ℕ → ℕ → Fields → Plan
    → Type 0
IsPlanned pages origins room names body method target minor head_fields (Planned.Page page whole) =
    Contains pages page.now × (page.now.path.now ≡ path_of target) × (whole ≡ bytes_eq method (codes "GET"))
    × (is_reading method ≡ true) × (body ≡ false) × (has_copy head_fields page.now ≡ false) × (names ≡ true)
IsPlanned pages origins room names body method target minor head_fields (Planned.Unchanged page) =
    Contains pages page.now × (page.now.path.now ≡ path_of target)
    × (is_reading method ≡ true) × (body ≡ false) × (has_copy head_fields page.now ≡ true) × (names ≡ true)
IsPlanned pages origins room names body method target minor head_fields (Planned.Socket key) =
    (path_of target ≡ codes "/socket") × (room ≡ true)
    × (MayOpen origins method minor head_fields key × (body ≡ false) × (names ≡ true))
IsPlanned pages origins room names body method target minor head_fields Planned.User =
    (path_of target ≡ codes "/me") × (bytes_eq method (codes "GET") ≡ true) × (body ≡ false) × (names ≡ true)
IsPlanned pages origins room names body method target minor head_fields (Planned.Refused status whole) =
    (400 ≤ status) × (MayRefuse pages origins room names body method target minor head_fields
    × (names ≡ false → status ≡ 403))

-- the limits of a request
abbrev pub request_limits : Limits
request_limits = record {
  max_head_len = LONGEST_HEAD;
  max_extensions_len = 64;
  max_trailers_len = 64;
}

-- the request at the front, from this address, opened the socket, whose first bytes are the rest: it was a handshake at
-- the socket's path that may open it, and is answered as RFC 6455 requires; its user is the one that its head may name
pub record OpensSocket (origins : List (List ℕ)) (users : Option UserHeader) (from : ℕ) (old new : Exchange)
    : Type 0 where
  pub head : RequestHead
  pub reads : ReadsRequest old.input head new.input
  pub path : path_of head.target ≡ codes "/socket"
  pub framing : Framing
  pub accepts : AcceptsRequest request_limits old.input head framing new.input
  pub bare : has_bytes (unread_size (Reads.Body (decoder_for request_limits framing))) ≡ false
  pub answer : List ℕ
  pub may : MayOpen origins head.method head.minor (fields head) answer
  pub sent : new.output ≡ old.output ++ response_bytes answer []
  pub named : may_name users from (fields head) ≡ true
  pub user : new.user ≡ user_of users (fields head)

-- the request at the front, from this address, asks who its user is: the one that its head may name
pub record AsksUser (users : Option UserHeader) (from : ℕ) (old new : Exchange) : Type 0 where
  pub head : RequestHead
  pub reads : ReadsRequest old.input head new.input
  pub path : path_of head.target ≡ codes "/me"
  pub gets : bytes_eq head.method (codes "GET") ≡ true
  pub framing : Framing
  pub accepts : AcceptsRequest request_limits old.input head framing new.input
  pub bare : has_bytes (unread_size (Reads.Body (decoder_for request_limits framing))) ≡ false
  pub same : new.output ≡ old.output
  pub named : may_name users from (fields head) ≡ true
  pub user : new.user ≡ user_of users (fields head)

-- bytes were appended
abbrev pub Grows : List ℕ → List ℕ → Type 0
Grows old new = (more : List ℕ) × (new ≡ old ++ more)

-- the fields of a response to a request for a page
unfoldable pub page_fields : Page → List Header
page_fields page =
    (codes "content-type", page.kind.now) ∷ (codes "cache-control", page.cache.now)
    ∷ (codes "etag", page.tag.now) ∷ (codes "content-security-policy", POLICY.now)
    ∷ (codes "x-content-type-options", codes "nosniff") ∷ (codes "referrer-policy", codes "no-referrer")
    ∷ (codes "cross-origin-opener-policy", codes "same-origin")
    ∷ (codes "cross-origin-resource-policy", codes "same-origin") ∷ (codes "connection", codes "close")
    ∷ []

-- a page was appended: a head with its fields and the size of its text, and the text or, for a HEAD, nothing
abbrev pub PutsPage : Server → Page → Bool → List ℕ → List ℕ → Type 0
PutsPage server page whole old new =
    new ≡ old ++ (planned_response server 200 (codes "OK") (Known (length page.text.now)) (page_fields page)
    ++ (if whole then page.text.now else []))

-- the response that a page is unchanged was appended: a head with its fields alone
abbrev pub PutsUnchanged : Server → Page → List ℕ → List ℕ → Type 0
PutsUnchanged server page old new =
    new ≡ old ++ planned_response server 304 (codes "Not Modified") Empty (page_fields page)

-- a refusal was appended: a head with its status and the size of its words, and the words or, for a HEAD, nothing
abbrev pub PutsRefusal : Server → ℕ → Bool → List ℕ → List ℕ → Type 0
PutsRefusal server status whole old new =
    (reason words : List ℕ) × (sent : List Header)
    × (new ≡ old ++ (planned_response server status reason (Known (length words)) sent
    ++ (if whole then words else [])))

-- a head of HTTP/1.1 with this status was appended, and words that last until the connection closes
abbrev pub PutsUnread : ℕ → List ℕ → List ℕ → Type 0
PutsUnread status old new =
    (reason words : List ℕ) × (sent : List Header) × (new ≡ old ++ (response_text 1 status reason sent ++ words))

-- who the user is was appended: a head of HTTP/1.1 with status 200, and this text, which lasts until the connection closes
abbrev pub PutsUser : List ℕ → List ℕ → List ℕ → Type 0
PutsUser text old new =
    (sent : List Header) × (new ≡ old ++ (response_text 1 200 (codes "OK") sent ++ text))

-- a server once it has read the head of a request
abbrev pub asked : RequestHead → Framing → Server
asked head framing = record (new_server request_limits) {
  reading = Reads.Body (decoder_for request_limits framing);
  request = request_of head framing;
}

-- the request at the front, from this address, without a body, asks for the page that has its path
pub record AsksPage (pages : List Page) (users : Option UserHeader) (from : ℕ) (old new : Exchange)
    (copied : Bool) : Type 0 where
  pub head : RequestHead
  pub reads : ReadsRequest old.input head new.input
  pub framing : Framing
  pub accepts : AcceptsRequest request_limits old.input head framing new.input
  pub bare : has_bytes (unread_size (Reads.Body (decoder_for request_limits framing))) ≡ false
  pub reading : is_reading head.method ≡ true
  pub page : Page
  pub there : Contains pages page
  pub path : page.path.now ≡ path_of head.target
  pub copied_is : has_copy (fields head) page ≡ copied
  pub named : may_name users from (fields head) ≡ true

-- the request at the front is for a page and names no copy of it, and the page was sent, or only its head for a HEAD
pub record ServesPage (pages : List Page) (users : Option UserHeader) (from : ℕ) (old new : Exchange)
    : Type 0 where
  pub asks : AsksPage pages users from old new false
  pub sent : PutsPage (asked asks.head asks.framing) asks.page (bytes_eq asks.head.method (codes "GET"))
      old.output new.output

-- the request at the front is for a page and names the tag of that page, and the response says that it is unchanged
pub record KeepsPage (pages : List Page) (users : Option UserHeader) (from : ℕ) (old new : Exchange)
    : Type 0 where
  pub asks : AsksPage pages users from old new true
  pub sent : PutsUnchanged (asked asks.head asks.framing) asks.page old.output new.output

-- a response with this status was appended: a head, and words
abbrev pub SendsStatus : ℕ → List ℕ → List ℕ → Type 0
SendsStatus status old new =
    (minor : ℕ) × (reason words : List ℕ) × (sent : List Header)
    × (new ≡ old ++ (response_text minor status reason sent ++ words))

-- a status that refuses was told: a response with it was appended, or nothing, which is 500
abbrev pub TellsStatus : List ℕ → List ℕ → ℕ → Type 0
TellsStatus old new status = SendsStatus status old new ⊎ ((status ≡ 500) × (new ≡ old))

-- the response to a plan
abbrev pub Responds : Server → Plan → Exchange → Result Next AllocError → Exchange → Type 0
Responds server plan old (Err error) new = new ≡ old
Responds server plan old (Ok Read) new = ⊥
Responds server (Planned.Page page whole) old (Ok (Close status)) new =
    (new.input ≡ old.input) × (((status ≡ 200) × PutsPage server page.now whole old.output new.output)
    ⊎ ((status ≡ 500) × (new.output ≡ old.output)))
Responds server (Planned.Unchanged page) old (Ok (Close status)) new =
    (new.input ≡ old.input) × (((status ≡ 304) × PutsUnchanged server page.now old.output new.output)
    ⊎ ((status ≡ 500) × (new.output ≡ old.output)))
Responds server (Planned.Socket key) old (Ok (Close status)) new =
    (new.input ≡ old.input) × (status ≡ 500) × (new.output ≡ old.output)
Responds server Planned.User old (Ok (Close status)) new = ⊥
Responds server (Planned.Refused code whole) old (Ok (Close status)) new =
    (new.input ≡ old.input) × (400 ≤ status) × (((status ≡ code) × PutsRefusal server code whole old.output new.output)
    ⊎ ((status ≡ 500) × (new.output ≡ old.output)))
Responds server (Planned.Socket key) old (Ok Socket) new =
    (new.input ≡ old.input) × (new.output ≡ old.output ++ response_bytes key [])
Responds server Planned.User old (Ok User) new = new ≡ old
Responds server other old (Ok Socket) new = ⊥
Responds server other old (Ok User) new = ⊥

-- a plan that refuses has a status that refuses
abbrev pub IsRefused : Plan → Type 0
IsRefused (Planned.Page page whole) = ⊤
IsRefused (Planned.Unchanged page) = ⊤
IsRefused (Planned.Socket key) = ⊤
IsRefused Planned.User = ⊤
IsRefused (Planned.Refused status whole) = 400 ≤ status

-- the request at the front, from this address, was refused with this status for a reason: 403 if it names a user that it
-- may not
pub record Refuses (limits : Limits) (pages : List Page) (origins : List (List ℕ)) (room : Bool)
    (users : Option UserHeader) (from : ℕ) (old new : Exchange) (status : ℕ) : Type 0 where
  pub head : RequestHead
  pub framing : Framing
  pub accepts : AcceptsRequest limits old.input head framing new.input
  pub may : MayRefuse pages origins room (may_name users from (fields head))
      (has_bytes (unread_size (Reads.Body (decoder_for limits framing)))) head.method
      head.target head.minor (fields head)
  pub foreign : may_name users from (fields head) ≡ false → status ≡ 403

-- a page request ended with a status that refuses
abbrev pub IfRefused : Result Next AllocError → (ℕ → Type 0) → Type 0
IfRefused (Ok Read) P = ⊤
IfRefused (Ok (Close status)) P = 400 ≤ status → P status
IfRefused (Ok Socket) P = ⊤
IfRefused (Ok User) P = ⊤
IfRefused (Err error) P = ⊤

-- why a page request is refused: a page that cannot be sent, bytes that cannot become a request, or a reason of the request
abbrev pub HasReason : List Page → List (List ℕ) → Bool → Option UserHeader → ℕ → Exchange → Exchange → ℕ → Type 0
HasReason pages origins room users from old new status =
    (status ≡ 500) ⊎ (HasNoHead request_limits old.input MOST_FIELDS
    ⊎ Refuses request_limits pages origins room users from old new status)

-- the status of a page request that ended is that of a page, of one that is unchanged, or of a refusal
abbrev pub IsKnown : Next → Type 0
IsKnown Read = ⊤
IsKnown (Close status) = (status ≡ 200) ⊎ ((status ≡ 304) ⊎ (400 ≤ status))
IsKnown Socket = ⊤
IsKnown User = ⊤
