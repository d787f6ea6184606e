-- The response of a page request: a socket or a page answers the request that was read.
use Rattle.std.proofs.Common.{◌≡◌, ◌≤◌, ◌∷◌, suc, Option, Some, None, IfSome, inl, inr, ℕ, Bool, true, false, List, [], ◌++◌, take, drop, Result, Ok, Err, ap, sym, ◌∙◌, arith, subst}
use Rattle.std.specs.Prelude.{◌⊎◌, Contains, bytes_eq, codes}
use Rattle.std.specs.Borrow.{Bor}
use Rattle.std.specs.declared.alloc.AllocError.{AllocError}
use Rattle.http1.specs.Conn.{unread_size}
use Rattle.http1.specs.Server.{HasNoHead, TakesHead, new_server, reading}
use Rattle.http1.specs.declared.server.Server.{Server}
use Rattle.httparse.specs.Spans.{span_bytes}
use Rattle.httparse.specs.declared.spans.HeaderSpan.{HeaderSpan}
use Rattle.httparse.specs.declared.spans.RequestSpans.{RequestSpans}
use Rattle.websocket.specs.Handshake.{response_bytes}
use Rattle.websocket.specs.Headers.{fields_of}
use Rattle.web_wire.specs.PageRequests.{AsksPage, AsksUser, Exchange, HasReason, IfRefused, IsPlanned, KeepsPage, MayOpen, MayRefuse, asked, has_bytes, has_copy, is_reading, request_limits, OpensSocket, PutsPage, PutsUnchanged, Responds, ServesPage, path_of}
use Rattle.web_wire.specs.Users.{may_name, user_of}
use Rattle.web_wire.specs.declared.page.Page.{Page}
use Rattle.web_wire.specs.declared.page.UserHeader.{UserHeader}
use Rattle.web_wire.specs.declared.plan.Plan.{Plan}
use Rattle.web_wire.specs.declared.plan.Plan.TheVariants as Planned
use Rattle.web_wire.specs.declared.page_request.TheConstants.{MOST_FIELDS}
use Rattle.web_wire.specs.declared.page_request.Next.{Next}
use Rattle.web_wire.specs.declared.page_request.Next.TheVariants.{Close, Read, Socket, User}

-- the response is a socket only for a plan that is one
socket_planned : (server : Server) (plan : Plan) (old between : Exchange) (pages : List Page) (origins : List (List ℕ))
    (room names body : Bool) (method target : List ℕ) (minor : ℕ) (found : List (List ℕ × List ℕ))
    → IsPlanned pages origins room names body method target minor found plan → Responds server plan old (Ok Socket) between
    → (path_of target ≡ codes "/socket") × (room ≡ true)
    × ((answer : List ℕ) × MayOpen origins method minor found answer
    × (between.output ≡ old.output ++ response_bytes answer []) × (between.input ≡ old.input) × (body ≡ false) × (names ≡ true))
socket_planned server (Planned.Page page whole) old between pages origins room names body method target minor found planned responds = absurd responds
socket_planned server (Planned.Unchanged page) old between pages origins room names body method target minor found planned responds = absurd responds
socket_planned server Planned.User old between pages origins room names body method target minor found planned responds = absurd responds
socket_planned server (Planned.Refused status whole) old between pages origins room names body method target minor found planned responds = absurd responds
socket_planned server (Planned.Socket key) old between pages origins room names body method target minor found planned responds =
    (planned.0, planned.1, (key, planned.2.0, responds.1, responds.0, planned.2.1, planned.2.2))

pub socket_opens : (plan : Plan) (result : Result Next AllocError) (old between new : Exchange) (pages : List Page)
    (origins : List (List ℕ)) (room : Bool) (users : Option UserHeader) (from : ℕ) (next : Server)
    (spans : List HeaderSpan) (len : ℕ) (request : RequestSpans) (user : Option (List ℕ))
    → result ≡ Ok Socket → TakesHead (new_server request_limits) old.input spans next len request
    → IsPlanned pages origins room (may_name users from (fields_of old.input (take request.headers spans)))
    (has_bytes (unread_size (reading next))) (span_bytes old.input request.method) (span_bytes old.input request.path)
    request.version (fields_of old.input (take request.headers spans)) plan
    → user ≡ user_of users (fields_of old.input (take request.headers spans))
    → Responds next plan old result between
    → new ≡ record { input = drop len between.input; output = between.output; user = user }
    → (room ≡ true) × OpensSocket origins users from old new
socket_opens plan result old between new pages origins room users from next spans len request user is takes planned whose responds goes =
    let found =
    socket_planned next plan old between pages origins room (may_name users from (fields_of old.input (take request.headers spans)))
    (has_bytes (unread_size (reading next))) (span_bytes old.input request.method)
    (span_bytes old.input request.path) request.version (fields_of old.input (take request.headers spans)) planned
    (rw is at responds) in
    let covered = takes.covered in (
      found.1,
      record {
        head = takes.head;
        reads = rw (ap (λ d. d.input) goes ∙ ap (drop len) found.2.3) takes.accepts.reads;
        path = ap path_of (sym covered.path) ∙ found.0;
        framing = takes.framing;
        accepts = rw (ap (λ d. d.input) goes ∙ ap (drop len) found.2.3) takes.accepts;
        bare = rw (ap reading (sym takes.next)) found.2.4;
        answer = found.2.0;
        may = rw (sym covered.method, sym covered.version, sym covered.fields) found.2.1;
        sent = ap (λ d. d.output) goes ∙ found.2.2;
        named = rw (sym covered.fields) found.2.5;
        user = ap (λ d. d.user) goes ∙ whose ∙ ap (user_of users) covered.fields;
      },
    )

-- the response is a question for the user only for a plan that is one
user_planned : (server : Server) (plan : Plan) (old between : Exchange) (pages : List Page) (origins : List (List ℕ))
    (room names body : Bool) (method target : List ℕ) (minor : ℕ) (found : List (List ℕ × List ℕ))
    → IsPlanned pages origins room names body method target minor found plan → Responds server plan old (Ok User) between
    → (path_of target ≡ codes "/me") × (bytes_eq method (codes "GET") ≡ true) × (body ≡ false) × (names ≡ true)
    × (between ≡ old)
user_planned server (Planned.Page page whole) old between pages origins room names body method target minor found planned responds = absurd responds
user_planned server (Planned.Unchanged page) old between pages origins room names body method target minor found planned responds = absurd responds
user_planned server (Planned.Socket key) old between pages origins room names body method target minor found planned responds = absurd responds
user_planned server (Planned.Refused status whole) old between pages origins room names body method target minor found planned responds = absurd responds
user_planned server Planned.User old between pages origins room names body method target minor found planned responds =
    (planned.0, planned.1, planned.2, planned.3, responds)

pub user_asked : (plan : Plan) (result : Result Next AllocError) (old between new : Exchange) (pages : List Page)
    (origins : List (List ℕ)) (room : Bool) (users : Option UserHeader) (from : ℕ) (next : Server)
    (spans : List HeaderSpan) (len : ℕ) (request : RequestSpans) (user : Option (List ℕ))
    → result ≡ Ok User → TakesHead (new_server request_limits) old.input spans next len request
    → IsPlanned pages origins room (may_name users from (fields_of old.input (take request.headers spans)))
    (has_bytes (unread_size (reading next))) (span_bytes old.input request.method) (span_bytes old.input request.path)
    request.version (fields_of old.input (take request.headers spans)) plan
    → user ≡ user_of users (fields_of old.input (take request.headers spans))
    → Responds next plan old result between
    → new ≡ record { input = drop len between.input; output = between.output; user = user }
    → AsksUser users from old new
user_asked plan result old between new pages origins room users from next spans len request user is takes planned whose responds goes =
    let found =
    user_planned next plan old between pages origins room (may_name users from (fields_of old.input (take request.headers spans)))
    (has_bytes (unread_size (reading next))) (span_bytes old.input request.method)
    (span_bytes old.input request.path) request.version (fields_of old.input (take request.headers spans)) planned
    (rw is at responds) in
    let covered = takes.covered in
    let rest = ap (λ d. d.input) goes ∙ ap (λ d. drop len d.input) found.4 in record {
      head = takes.head;
      reads = rw rest takes.accepts.reads;
      path = ap path_of (sym covered.path) ∙ found.0;
      gets = rw (sym covered.method) found.1;
      framing = takes.framing;
      accepts = rw rest takes.accepts;
      bare = rw (ap reading (sym takes.next)) found.2;
      same = ap (λ d. d.output) goes ∙ ap (λ d. d.output) found.4;
      named = rw (sym covered.fields) found.3;
      user = ap (λ d. d.user) goes ∙ whose ∙ ap (user_of users) covered.fields;
    }

-- the response is a refusal only for a plan that refuses, or because a page could not be sent
refusal_planned : (server : Server) (plan : Plan) (old between : Exchange) (status : ℕ) (pages : List Page) (origins : List (List ℕ))
    (room names body : Bool) (method target : List ℕ) (minor : ℕ) (found : List (List ℕ × List ℕ))
    → IsPlanned pages origins room names body method target minor found plan → Responds server plan old (Ok (Close status)) between
    → 400 ≤ status
    → (between.input ≡ old.input) × ((status ≡ 500) ⊎ (MayRefuse pages origins room names body method target minor found
    × (names ≡ false → status ≡ 403)))
refusal_planned server (Planned.Page page whole) old between status pages origins room names body method target minor found planned responds high =
    (responds.0, elim responds.1 [ inl puts ↦ absurd (omega (arith, puts.0, high)) | inr is ↦ inl is.0 ])
refusal_planned server (Planned.Unchanged page) old between status pages origins room names body method target minor found planned responds high =
    (responds.0, elim responds.1 [ inl puts ↦ absurd (omega (arith, puts.0, high)) | inr is ↦ inl is.0 ])
refusal_planned server (Planned.Socket key) old between status pages origins room names body method target minor found planned responds high =
    (responds.0, inl responds.1)
refusal_planned server Planned.User old between status pages origins room names body method target minor found planned responds high =
    absurd responds
refusal_planned server (Planned.Refused code whole) old between status pages origins room names body method target minor found planned responds high = (
  responds.0,
  elim responds.2 [
    | inl puts ↦ inr (planned.1.0, λ foreign. puts.0 ∙ planned.1.1 foreign)
    | inr is ↦ inl is.0
  ],
)

pub refusal_reason : (plan : Plan) (result : Result Next AllocError) (old between new : Exchange) (pages : List Page)
    (origins : List (List ℕ)) (room : Bool) (users : Option UserHeader) (from : ℕ) (next : Server)
    (spans : List HeaderSpan) (len : ℕ) (request : RequestSpans) (user : Option (List ℕ))
    → TakesHead (new_server request_limits) old.input spans next len request
    → IsPlanned pages origins room (may_name users from (fields_of old.input (take request.headers spans)))
    (has_bytes (unread_size (reading next))) (span_bytes old.input request.method)
    (span_bytes old.input request.path) request.version (fields_of old.input (take request.headers spans)) plan
    → Responds next plan old result between
    → new ≡ record { input = drop len between.input; output = between.output; user = user }
    → IfRefused result (HasReason pages origins room users from old new)
refusal_reason plan (Err error) old between new pages origins room users from next spans len request user takes planned responds goes = tt
refusal_reason plan (Ok Read) old between new pages origins room users from next spans len request user takes planned responds goes = tt
refusal_reason plan (Ok Socket) old between new pages origins room users from next spans len request user takes planned responds goes = tt
refusal_reason plan (Ok User) old between new pages origins room users from next spans len request user takes planned responds goes = tt
refusal_reason plan (Ok (Close status)) old between new pages origins room users from next spans len request user takes planned responds goes = λ high.
    let found =
    refusal_planned next plan old between status pages origins room
    (may_name users from (fields_of old.input (take request.headers spans))) (has_bytes (unread_size (reading next)))
    (span_bytes old.input request.method) (span_bytes old.input request.path) request.version
    (fields_of old.input (take request.headers spans)) planned responds high in
    let covered = takes.covered in
    elim found.1 [
      | inl is ↦ inl is
      | inr may ↦ inr (inr (record {
        head = takes.head;
        framing = takes.framing;
        accepts = rw (ap (λ d. d.input) goes ∙ ap (drop len) found.0) takes.accepts;
        may = rw (sym covered.method, sym covered.path, sym covered.version, sym covered.fields, ap reading (sym takes.next)) may.0;
        foreign = rw (sym covered.fields) may.1;
      }))
    ]

-- bytes that cannot become a request are a reason
pub unread_reason : (result : Result Next AllocError) (old new : Exchange) (pages : List Page) (origins : List (List ℕ))
    (room : Bool) (users : Option UserHeader) (from : ℕ) → HasNoHead request_limits old.input MOST_FIELDS
    → IfRefused result (HasReason pages origins room users from old new)
unread_reason (Err error) old new pages origins room users from none = tt
unread_reason (Ok Read) old new pages origins room users from none = tt
unread_reason (Ok Socket) old new pages origins room users from none = tt
unread_reason (Ok User) old new pages origins room users from none = tt
unread_reason (Ok (Close status)) old new pages origins room users from none = λ high. inr (inl none)

-- the request that was read asks for the page of the plan
asks_page : (copied : Bool) (page : Page) (old between new : Exchange) (pages : List Page) (users : Option UserHeader) (from : ℕ)
    (next : Server) (spans : List HeaderSpan) (len : ℕ) (request : RequestSpans) (user : Option (List ℕ))
    → TakesHead (new_server request_limits) old.input spans next len request
    → Contains pages page → page.path.now ≡ path_of (span_bytes old.input request.path)
    → is_reading (span_bytes old.input request.method) ≡ true → has_bytes (unread_size (reading next)) ≡ false
    → has_copy (fields_of old.input (take request.headers spans)) page ≡ copied
    → may_name users from (fields_of old.input (take request.headers spans)) ≡ true → between.input ≡ old.input
    → new ≡ record { input = drop len between.input; output = between.output; user = user }
    → AsksPage pages users from old new copied
asks_page copied page old between new pages users from next spans len request user takes there path reads bare tags named same goes =
    let covered = takes.covered in
    let rest = ap (λ d. d.input) goes ∙ ap (drop len) same in record {
      head = takes.head;
      reads = rw rest takes.accepts.reads;
      framing = takes.framing;
      accepts = rw rest takes.accepts;
      bare = rw (ap reading (sym takes.next)) bare;
      reading = rw (sym covered.method) reads;
      page = page;
      there = there;
      path = path ∙ ap path_of covered.path;
      copied_is = rw (sym covered.fields) tags;
      named = rw (sym covered.fields) named;
    }

pub page_served : (plan : Plan) (result : Result Next AllocError) (old between new : Exchange) (pages : List Page)
    (origins : List (List ℕ)) (room : Bool) (users : Option UserHeader) (from : ℕ) (next : Server)
    (spans : List HeaderSpan) (len : ℕ) (request : RequestSpans) (user : Option (List ℕ))
    → result ≡ Ok (Close 200) → TakesHead (new_server request_limits) old.input spans next len request
    → IsPlanned pages origins room (may_name users from (fields_of old.input (take request.headers spans)))
    (has_bytes (unread_size (reading next))) (span_bytes old.input request.method)
    (span_bytes old.input request.path) request.version (fields_of old.input (take request.headers spans)) plan
    → Responds next plan old result between
    → new ≡ record { input = drop len between.input; output = between.output; user = user }
    → ServesPage pages users from old new
unfolding asks_page
page_served plan result old between new pages origins room users from next spans len request user is takes planned responds goes =
    found plan planned (rw is at responds)
  where
    found : (plan : Plan) → IsPlanned pages origins room
        (may_name users from (fields_of old.input (take request.headers spans))) (has_bytes (unread_size (reading next)))
        (span_bytes old.input request.method) (span_bytes old.input request.path) request.version
        (fields_of old.input (take request.headers spans)) plan → Responds next plan old (Ok (Close 200)) between
        → ServesPage pages users from old new
    found (Planned.Page page whole) planned responds = elim responds.1 [
      | inl puts ↦ record {
        asks = asks_page false page.now old between new pages users from next spans len request user takes planned.0 planned.1 planned.3 planned.4
            planned.5 planned.6 responds.0 goes;
        sent = subst (λ o. PutsPage (asked takes.head takes.framing) page.now (bytes_eq takes.head.method (codes "GET")) old.output o)
            (sym (ap (λ d. d.output) goes))
            (subst (λ s. PutsPage s page.now (bytes_eq takes.head.method (codes "GET")) old.output between.output) takes.next
            (subst (λ w. PutsPage next page.now w old.output between.output)
            (planned.2 ∙ ap (λ m. bytes_eq m (codes "GET")) takes.covered.method) puts.1));
      }
      | inr other ↦ absurd (omega (arith, other.0))
    ]
    found (Planned.Unchanged page) planned responds =
        elim responds.1 [ inl puts ↦ absurd (omega (arith, puts.0)) | inr other ↦ absurd (omega (arith, other.0)) ]
    found (Planned.Socket key) planned responds = absurd (omega (arith, responds.1))
    found Planned.User planned responds = absurd responds
    found (Planned.Refused code whole) planned responds = absurd (omega (arith, responds.1))

pub page_kept : (plan : Plan) (result : Result Next AllocError) (old between new : Exchange) (pages : List Page)
    (origins : List (List ℕ)) (room : Bool) (users : Option UserHeader) (from : ℕ) (next : Server)
    (spans : List HeaderSpan) (len : ℕ) (request : RequestSpans) (user : Option (List ℕ))
    → result ≡ Ok (Close 304) → TakesHead (new_server request_limits) old.input spans next len request
    → IsPlanned pages origins room (may_name users from (fields_of old.input (take request.headers spans)))
    (has_bytes (unread_size (reading next))) (span_bytes old.input request.method)
    (span_bytes old.input request.path) request.version (fields_of old.input (take request.headers spans)) plan
    → Responds next plan old result between
    → new ≡ record { input = drop len between.input; output = between.output; user = user }
    → KeepsPage pages users from old new
unfolding asks_page
page_kept plan result old between new pages origins room users from next spans len request user is takes planned responds goes =
    found plan planned (rw is at responds)
  where
    found : (plan : Plan) → IsPlanned pages origins room
        (may_name users from (fields_of old.input (take request.headers spans))) (has_bytes (unread_size (reading next)))
        (span_bytes old.input request.method) (span_bytes old.input request.path) request.version
        (fields_of old.input (take request.headers spans)) plan → Responds next plan old (Ok (Close 304)) between
        → KeepsPage pages users from old new
    found (Planned.Page page whole) planned responds =
        elim responds.1 [ inl puts ↦ absurd (omega (arith, puts.0)) | inr other ↦ absurd (omega (arith, other.0)) ]
    found (Planned.Unchanged page) planned responds = elim responds.1 [
      | inl puts ↦ record {
        asks = asks_page true page.now old between new pages users from next spans len request user takes planned.0 planned.1 planned.2 planned.3
            planned.4 planned.5 responds.0 goes;
        sent = subst (λ o. PutsUnchanged (asked takes.head takes.framing) page.now old.output o)
            (sym (ap (λ d. d.output) goes))
            (subst (λ s. PutsUnchanged s page.now old.output between.output) takes.next puts.1);
      }
      | inr other ↦ absurd (omega (arith, other.0))
    ]
    found (Planned.Socket key) planned responds = absurd (omega (arith, responds.1))
    found Planned.User planned responds = absurd responds
    found (Planned.Refused code whole) planned responds = absurd (omega (arith, responds.1))

-- a page that is found among some pages is found among these and one more
pub found_behind : (first : Page) (pages : List Page) (path : List ℕ) (found : Option (Bor Page))
    → IfSome found (λ page. Contains pages page.now × (page.now.path.now ≡ path))
    → IfSome found (λ page. Contains (first ∷ pages) page.now × (page.now.path.now ≡ path))
found_behind first pages path None is = tt
found_behind first pages path (Some page) ((place, low, there), is) = ((suc place, omega (arith, low), there), is)
