-- A response is appended whole or not at all, and has a status that is known.
use Rattle.std.proofs.Common.{◌≡◌, ◌≤◌, refl, inl, inr, ℕ, Bool, List, [], ◌++◌, length, take, Result, Ok, Err, ap, sym, ◌∙◌, append_assoc, arith, subst}
use Rattle.std.proofs.lemmas.List.{append-nil, take-append-le, take_all}
use Rattle.std.specs.Prelude.{◌⊎◌, IfOk, OnOk, OnErr, if◌then◌else◌}
use Rattle.std.specs.Borrow.{Bor}
use Rattle.std.specs.declared.alloc.AllocError.{AllocError}
use Rattle.http1.specs.Conn.{planned_headers}
use Rattle.http1.specs.Server.{response_plan}
use Rattle.http1.specs.declared.conn.BodySize.TheVariants.{Known}
use Rattle.http1.specs.declared.error.WriteError.{WriteError}
use Rattle.http1.specs.declared.server.Server.{Server}
use Rattle.websocket.specs.Handshake.{response_bytes}
use Rattle.web_wire.specs.PageRequests.{Exchange, Grows, IfRefused, IsKnown, PutsPage, PutsRefusal, PutsUnchanged, PutsUnread, Responds, SendsStatus, TellsStatus}
use Rattle.web_wire.specs.declared.page.Page.{Page}
use Rattle.web_wire.specs.declared.plan.Plan.{Plan}
use Rattle.web_wire.specs.declared.plan.Plan.TheVariants as Planned
use Rattle.web_wire.specs.declared.page_request.Next.{Next}
use Rattle.web_wire.specs.declared.page_request.Next.TheVariants.{Close, Read, Socket, User}

-- a head followed by a text
pub head_then_text : (old between new lead text : List ℕ) → between ≡ old ++ lead → new ≡ between ++ text
    → new ≡ old ++ (lead ++ text)
head_then_text old between new lead text first second =
    second ∙ ap (λ o. o ++ text) first ∙ append_assoc old lead text

-- only a head
pub head_alone : (old new lead : List ℕ) → new ≡ old ++ lead → new ≡ old ++ (lead ++ [])
head_alone old new lead first = first ∙ ap (λ l. old ++ l) (sym (append-nil lead))

-- what was appended is removed
pub taken_back : (old new : List ℕ) → Grows old new → take (length old) new ≡ old
taken_back old new grows =
    ap (take (length old)) grows.1 ∙ take-append-le (length old) old grows.0 (omega arith) ∙ take_all (length old) old (omega arith)

-- a response was appended whole, or nothing was
abbrev Settled : Exchange → Next → (List ℕ → Type 0) → Result Next AllocError → Exchange → Type 0
Settled old next Puts (Err error) new = new ≡ old
Settled old next Puts (Ok said) new =
    (new.input ≡ old.input) × (((said ≡ next) × Puts new.output) ⊎ ((said ≡ Close 500) × (new.output ≡ old.output)))

settled : (next : Next) (Puts : List ℕ → Type 0) (len : ℕ) (old between new : Exchange) (put : Result (Unit {0}) WriteError)
    (result : Result Next AllocError) → between ≡ record old { output = between.output }
    → OnOk put (Puts between.output) → Grows old.output between.output
    → OnOk put ((result ≡ Ok next) × (new ≡ between))
    → OnErr put (new ≡ record between { output = take len between.output }) → len ≡ length old.output
    → OnErr put (IfOk result (λ said. said ≡ Close 500)) → Settled old next Puts result new
settled next Puts len old between new (Ok done) result same puts grows ok undone length_is failed =
    rw (ok.0, ok.1) (ap (λ d. d.input) same, inl (refl, puts))
settled next Puts len old between new (Err error) (Err refused) same puts grows ok undone length_is failed =
    undone ∙ ap (λ o. record between { output = o }) (ap (λ n. take n between.output) length_is ∙ taken_back old.output between.output grows)
    ∙ ap (λ (d : Exchange). record d { output = old.output }) same
settled next Puts len old between new (Err error) (Ok said) same puts grows ok undone length_is failed =
    (ap (λ d. d.input) undone ∙ ap (λ d. d.input) same, inr (failed, ap (λ d. d.output) undone ∙ ap (λ n. take n between.output) length_is ∙ taken_back old.output between.output grows))

pub page_responds : (server : Server) (page : Bor Page) (whole : Bool) (len : ℕ) (old between new : Exchange) (put : Result (Unit {0}) WriteError)
    (result : Result Next AllocError) → between ≡ record old { output = between.output }
    → OnOk put (PutsPage server page.now whole old.output between.output) → Grows old.output between.output
    → OnOk put ((result ≡ Ok (Close 200)) × (new ≡ between))
    → OnErr put (new ≡ record between { output = take len between.output }) → len ≡ length old.output
    → OnErr put (IfOk result (λ said. said ≡ Close 500)) → Responds server (Planned.Page page whole) old result new
page_responds server page whole len old between new put result same puts grows ok undone length_is failed =
    told result (settled (Close 200) (PutsPage server page.now whole old.output) len old between new put result same puts grows ok undone length_is failed)
  where
    told : (r : Result Next AllocError) → Settled old (Close 200) (PutsPage server page.now whole old.output) r new
        → Responds server (Planned.Page page whole) old r new
    told (Err error) left = left
    told (Ok Read) left = elim left.1 [ inl h ↦ let e = h.0 in cc e | inr h ↦ let e = h.0 in cc e ]
    told (Ok Socket) left = elim left.1 [ inl h ↦ let e = h.0 in cc e | inr h ↦ let e = h.0 in cc e ]
    told (Ok User) left = elim left.1 [ inl h ↦ let e = h.0 in cc e | inr h ↦ let e = h.0 in cc e ]
    told (Ok (Close status)) left = (
      left.0,
      elim left.1 [
        | inl h ↦ let e = h.0 in inl (cc e, h.1)
        | inr h ↦ let e = h.0 in inr (cc e, h.1)
      ],
    )

pub unchanged_responds : (server : Server) (page : Bor Page) (len : ℕ) (old between new : Exchange) (put : Result (Unit {0}) WriteError)
    (result : Result Next AllocError) → between ≡ record old { output = between.output }
    → OnOk put (PutsUnchanged server page.now old.output between.output) → Grows old.output between.output
    → OnOk put ((result ≡ Ok (Close 304)) × (new ≡ between))
    → OnErr put (new ≡ record between { output = take len between.output }) → len ≡ length old.output
    → OnErr put (IfOk result (λ said. said ≡ Close 500)) → Responds server (Planned.Unchanged page) old result new
unchanged_responds server page len old between new put result same puts grows ok undone length_is failed =
    told result (settled (Close 304) (PutsUnchanged server page.now old.output) len old between new put result same puts grows ok undone length_is failed)
  where
    told : (r : Result Next AllocError) → Settled old (Close 304) (PutsUnchanged server page.now old.output) r new
        → Responds server (Planned.Unchanged page) old r new
    told (Err error) left = left
    told (Ok Read) left = elim left.1 [ inl h ↦ let e = h.0 in cc e | inr h ↦ let e = h.0 in cc e ]
    told (Ok Socket) left = elim left.1 [ inl h ↦ let e = h.0 in cc e | inr h ↦ let e = h.0 in cc e ]
    told (Ok User) left = elim left.1 [ inl h ↦ let e = h.0 in cc e | inr h ↦ let e = h.0 in cc e ]
    told (Ok (Close status)) left = (
      left.0,
      elim left.1 [
        | inl h ↦ let e = h.0 in inl (cc e, h.1)
        | inr h ↦ let e = h.0 in inr (cc e, h.1)
      ],
    )

pub refusal_responds : (server : Server) (code : ℕ) (whole : Bool) → 400 ≤ code → (len : ℕ) (old between new : Exchange) (put : Result (Unit {0}) WriteError)
    (result : Result Next AllocError) → between ≡ record old { output = between.output }
    → OnOk put (PutsRefusal server code whole old.output between.output) → Grows old.output between.output
    → OnOk put ((result ≡ Ok (Close code)) × (new ≡ between))
    → OnErr put (new ≡ record between { output = take len between.output }) → len ≡ length old.output
    → OnErr put (IfOk result (λ said. said ≡ Close 500)) → Responds server (Planned.Refused code whole) old result new
refusal_responds server code whole high len old between new put result same puts grows ok undone length_is failed =
    told result (settled (Close code) (PutsRefusal server code whole old.output) len old between new put result same puts grows ok undone length_is failed)
  where
    told : (r : Result Next AllocError) → Settled old (Close code) (PutsRefusal server code whole old.output) r new
        → Responds server (Planned.Refused code whole) old r new
    told (Err error) left = left
    told (Ok Read) left = elim left.1 [ inl h ↦ let e = h.0 in cc e | inr h ↦ let e = h.0 in cc e ]
    told (Ok Socket) left = elim left.1 [ inl h ↦ let e = h.0 in cc e | inr h ↦ let e = h.0 in cc e ]
    told (Ok User) left = elim left.1 [ inl h ↦ let e = h.0 in cc e | inr h ↦ let e = h.0 in cc e ]
    told (Ok (Close status)) left = elim left.1 [
      | inl h ↦ let e = h.0 in let is : status ≡ code = cc e in (left.0, omega (arith, is, high), inl (is, h.1))
      | inr h ↦ let e = h.0 in let is : status ≡ 500 = cc e in (left.0, omega (arith, is), inr (is, h.1))
    ]

pub socket_responds : (server : Server) (key : List ℕ) (len : ℕ) (old between new : Exchange) (put : Result (Unit {0}) WriteError)
    (result : Result Next AllocError) → between ≡ record old { output = between.output }
    → OnOk put (between.output ≡ old.output ++ response_bytes key []) → Grows old.output between.output
    → OnOk put ((result ≡ Ok Socket) × (new ≡ between))
    → OnErr put (new ≡ record between { output = take len between.output }) → len ≡ length old.output
    → OnErr put (IfOk result (λ said. said ≡ Close 500)) → Responds server (Planned.Socket key) old result new
socket_responds server key len old between new put result same puts grows ok undone length_is failed =
    told result (settled Socket (λ o. o ≡ old.output ++ response_bytes key []) len old between new put result same puts grows ok undone length_is failed)
  where
    told : (r : Result Next AllocError) → Settled old Socket (λ o. o ≡ old.output ++ response_bytes key []) r new
        → Responds server (Planned.Socket key) old r new
    told (Err error) left = left
    told (Ok Read) left = elim left.1 [ inl h ↦ let e = h.0 in cc e | inr h ↦ let e = h.0 in cc e ]
    told (Ok Socket) left = elim left.1 [ inl h ↦ (left.0, h.1) | inr h ↦ let e = h.0 in cc e ]
    told (Ok User) left = elim left.1 [ inl h ↦ let e = h.0 in cc e | inr h ↦ let e = h.0 in cc e ]
    told (Ok (Close status)) left = elim left.1 [
      | inl h ↦ let e = h.0 in cc e
      | inr h ↦ let e = h.0 in (left.0, cc e, h.1)
    ]

-- a response has a status that is known
pub known_status : (server : Server) (plan : Plan) (next : Next) (old between : Exchange)
    → Responds server plan old (Ok next) between → IsKnown next
known_status server plan Read old between responds = tt
known_status server plan Socket old between responds = tt
known_status server plan User old between responds = tt
known_status server (Planned.Page page whole) (Close status) old between responds =
    elim responds.1 [ inl puts ↦ inl puts.0 | inr is ↦ let e = is.0 in inr (inr (omega arith)) ]
known_status server (Planned.Unchanged page) (Close status) old between responds =
    elim responds.1 [ inl puts ↦ inr (inl puts.0) | inr is ↦ let e = is.0 in inr (inr (omega arith)) ]
known_status server (Planned.Socket key) (Close status) old between responds = inr (inr (omega (arith, responds.1)))
known_status server Planned.User (Close status) old between responds = absurd responds
known_status server (Planned.Refused code whole) (Close status) old between responds = inr (inr responds.1)

-- a status that refuses is that of the response
pub status_told : (server : Server) (plan : Plan) (result : Result Next AllocError) (old between new : Exchange)
    → Responds server plan old result between → new.output ≡ between.output → IfRefused result (TellsStatus old.output new.output)
status_told server plan (Err error) old between new responds goes = tt
status_told server plan (Ok Read) old between new responds goes = tt
status_told server plan (Ok Socket) old between new responds goes = tt
status_told server plan (Ok User) old between new responds goes = tt
status_told server (Planned.Page page whole) (Ok (Close status)) old between new responds goes = λ high.
    elim responds.1 [ inl puts ↦ absurd (omega (arith, puts.0, high)) | inr is ↦ inr (is.0, goes ∙ is.1) ]
status_told server (Planned.Unchanged page) (Ok (Close status)) old between new responds goes = λ high.
    elim responds.1 [ inl puts ↦ absurd (omega (arith, puts.0, high)) | inr is ↦ inr (is.0, goes ∙ is.1) ]
status_told server (Planned.Socket key) (Ok (Close status)) old between new responds goes = λ high.
    inr (responds.1, goes ∙ responds.2)
status_told server Planned.User (Ok (Close status)) old between new responds goes = absurd responds
status_told server (Planned.Refused code whole) (Ok (Close status)) old between new responds goes = λ high.
    elim responds.2 [
      | inl puts ↦
          let put = puts.1 in
          let headers = planned_headers (response_plan server code (Known (length put.1)) put.2) put.2 in
          let words = if whole then put.1 else [] in
          inl (subst (λ n. SendsStatus n old.output new.output) (sym puts.0)
          (server.request.minor, put.0, words, headers, goes ∙ put.3))
      | inr is ↦ inr (is.0, goes ∙ is.1)
    ]

-- and so it is of bytes that cannot become a request
pub unread_told : (put : Result (Unit {0}) WriteError) (result : Result Next AllocError) (status len : ℕ) (old between new : Exchange)
    → between ≡ record old { output = between.output } → OnOk put (PutsUnread status old.output between.output) → Grows old.output between.output
    → OnOk put ((result ≡ Ok (Close status)) × (new ≡ between))
    → OnErr put (new ≡ record between { output = take len between.output }) → len ≡ length old.output
    → OnErr put (IfOk result (λ said. said ≡ Close 500)) → IfRefused result (TellsStatus old.output new.output)
unread_told put result status len old between new same puts grows ok undone length_is failed =
    told result (settled (Close status) (PutsUnread status old.output) len old between new put result same puts grows ok undone length_is failed)
  where
    told : (r : Result Next AllocError) → Settled old (Close status) (PutsUnread status old.output) r new
        → IfRefused r (TellsStatus old.output new.output)
    told (Err error) left = tt
    told (Ok Read) left = tt
    told (Ok Socket) left = tt
    told (Ok User) left = tt
    told (Ok (Close code)) left = λ high. elim left.1 [
      | inl h ↦ let e = h.0 in let is : code ≡ status = cc e in
          inl (subst (λ n. SendsStatus n old.output new.output) (sym is) (1, h.1.0, h.1.1, h.1.2, h.1.3))
      | inr h ↦ let e = h.0 in inr (cc e, h.1)
    ]
