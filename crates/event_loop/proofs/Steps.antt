-- The steps of a client, from what its parts did.
use Rattle.std.proofs.Common.{◌≡◌, ◌≢◌, ◌⊎◌, ◌≤◌, inl, inr, ℕ, Bool, true, false, List, [], ◌++◌, drop, length, Option, Result, Ok, Err, OnErr, OnOk, is_err, refl, ap, ◌∙◌, sym, subst}
use Rattle.std.proofs.Common.{None, Some, take, append-nil, take-append-drop}
use Rattle.std.proofs.lemmas.List.{drop-append-le}
use Rattle.std.specs.Io.KnownBytes.{Appends, Keeps, WriteAppends}
use Rattle.std.specs.declared.alloc.AllocError.{AllocError}
use Rattle.conversation.specs.Talk.{AnswersFirst, AnswersLast, Talk, TellsLong, heard, unwritten, waits}
use Rattle.conversation.specs.ThreadSession.{CallsRow, lent}
use Rattle.conversation.specs.declared.conversation.LineOutcome.{LineOutcome}
use Rattle.conversation.specs.declared.conversation.LineOutcome.TheVariants.{Answered, Waits, Full, Cut}
use Rattle.conversation.specs.declared.shared.Shared.{Shared}
use Rattle.sessions.specs.Accounts.{Accounts}
use Rattle.sessions.specs.Session.{Session}
use Rattle.wire_lines.specs.declared.fault.Fault.{Fault}
use Rattle.web_wire.specs.Messages.{message_bytes}
use Rattle.web_wire.specs.PageRequests.{AsksUser, Exchange, OpensSocket, ServesPage}
use Rattle.web_wire.specs.declared.page.Page.{Page}
use Rattle.web_wire.specs.declared.page.UserHeader.{UserHeader}
use Rattle.web_wire.specs.declared.page_request.Next.{Next}
use Rattle.web_wire.specs.declared.page_request.Next.TheVariants as then
use Rattle.web_wire.specs.Socket.{GoesOn, Socket, fed}
use Rattle.web_wire.specs.declared.frames.NextMessage.{NextMessage}
use Rattle.web_wire.specs.declared.frames.NextMessage.TheVariants as next
use Rattle.event_loop.specs.Answered.{Told, Upgraded}
use Rattle.event_loop.specs.Messages.{GivesTo, SaysFirst}
use Rattle.event_loop.specs.Party.{Board, ComesTo, Goes, IsFarewell, IsRequest, IsStopped, IsTold, Upgrades, tale_of}
use Rattle.event_loop.specs.Party.Goes.{stays, answers, long, last, ends, hears, says, reads, upgrades, closes, tells_user, refuses, tells, stops}
use Rattle.event_loop.specs.Transfers.{Gives}
use Rattle.event_loop.specs.Users.{SignsIn}
use Rattle.event_loop.specs.declared.party.Stage.TheVariants.{Talks, Ends, Over}
use Rattle.event_loop.specs.declared.accept.TheConstants.{FULL_PAGE}
use Rattle.event_loop.specs.declared.protocol.Protocol.{Protocol}
use Rattle.event_loop.specs.declared.protocol.Protocol.TheVariants as protocol
use Rattle.event_loop.proofs.Places.{first_at, last_at, place_of}

abbrev pub ok : Bool → Result Bool Fault
ok told = Ok told

module _ {S R G : Type 0} (old : Board) (talk : Talk) (session : Session) (before after : Shared S R G) where
  abbrev Still : Type 0
  Still = lent after session ≡ lent before old.session

  same_session : Still → session ≡ old.session
  same_session still = ap (λ (s : Shared S R G). s.session) still

  with_session : Still → record old { session = session; talk = talk } ≡ record old { talk = talk }
  with_session still = ap (λ s. record old { session = s; talk = talk }) (same_session still)

  is_still : talk ≡ old.talk → Still → record old { session = session; talk = talk } ≡ old
  is_still same still = with_session still ∙ ap (λ t. record old { talk = t }) same

  pub answers_or_stays : (outcome : Result LineOutcome Fault) (Rests Owes : Type 0) → old.stage ≡ Talks
      → old.talk.cut ≡ false
      → (outcome ≡ Ok Answered → AnswersFirst CallsRow (lent before old.session) old.talk (lent after session) talk)
      → (outcome ≡ Ok Cut → TellsLong old.talk talk × Still)
      → (outcome ≡ Ok Waits → (talk ≡ old.talk) × Still × Rests)
      → (outcome ≡ Ok Full → (talk ≡ old.talk) × Still × Owes)
      → OnErr outcome ((talk ≡ old.talk) × Still)
      → Goes old (record old { session = session; talk = talk })
  answers_or_stays (Ok Answered) Rests Owes e uncut first cut waits full err =
      answers e (place_of (lent before old.session)) (place_of (lent after session)) (refl, refl) (refl, refl) uncut
      (first_at (lent before old.session) (lent after session) old.talk talk (first refl)) refl
  answers_or_stays (Ok Waits) Rests Owes e uncut first cut waits full err =
      let (same, still, rest) = waits refl in stays (is_still same still)
  answers_or_stays (Ok Full) Rests Owes e uncut first cut waits full err =
      let (same, still, rest) = full refl in stays (is_still same still)
  answers_or_stays (Ok Cut) Rests Owes e uncut first cut waits full err =
      let (tale, still) = cut refl in long e uncut tale (with_session still)
  answers_or_stays (Err fault) Rests Owes e uncut first cut waits full err = stays (is_still err.0 err.1)

  pub ends_or_stays : (told : Bool) → old.stage ≡ Talks → old.talk.cut ≡ false
      → (ok told ≡ Ok true → AnswersLast CallsRow (lent before old.session) old.talk (lent after session) talk)
      → (ok told ≡ Ok false → (talk ≡ old.talk) × (old.talk.waiting ≡ []) × Still)
      → Goes old (record old { stage = Ends; session = session; talk = talk })
  ends_or_stays true e uncut whole none =
      last e (place_of (lent before old.session)) (place_of (lent after session)) (refl, refl) (refl, refl) uncut
      (last_at (lent before old.session) (lent after session) old.talk talk (whole refl)) refl
  ends_or_stays false e uncut whole none =
      let (same, empty, still) = none refl in
      ends e uncut empty (ap (λ s. record old { stage = Ends; session = s; talk = talk }) (same_session still)
      ∙ ap (λ t. record old { stage = Ends; talk = t }) same)

-- a message of a socket
module _ (old : Board) (from : ℕ) (bytes put : List ℕ) (socket after : Socket) (talk : Talk) (e : old.stage ≡ Talks)
    (is : old.protocol ≡ protocol.Socket socket) (rest : old.outbox ≡ drop from bytes) (le : from ≤ length bytes) where
  abbrev Heard : Board
  Heard = record old { protocol = protocol.Socket after; outbox = drop from put; talk = talk }

  grown : (sent : List ℕ) → put ≡ bytes ++ sent
      → Heard ≡ record old { protocol = protocol.Socket after; outbox = old.outbox ++ sent; talk = talk }
  grown sent so =
      ap (λ l. record old { protocol = protocol.Socket after; outbox = l; talk = talk })
      (ap (drop from) so ∙ drop-append-le from bytes sent le ∙ ap (λ l. l ++ sent) (sym rest))

  quietly : GoesOn [] socket bytes after put → talk ≡ old.talk → Goes old Heard
  quietly (sent, so, comes) same = hears e socket after is sent (inl (comes, same)) (grown sent so)

  pub hears_next : (outcome : Result NextMessage Fault) (Rests Closes : Type 0) → is_err outcome ≡ false
      → (outcome ≡ Ok next.Line → GivesTo socket old.talk bytes after talk put)
      → (outcome ≡ Ok next.Read → GoesOn [] socket bytes after put × Rests)
      → (outcome ≡ Ok next.Close → GoesOn [] socket bytes after put × Closes)
      → (outcome ≡ Ok next.Line) ⊎ (talk ≡ old.talk) → Goes old Heard
  hears_next (Ok next.Line) Rests Closes fine line none end other =
      let (text, whole, same, (sent, so, comes)) = line refl in
      hears e socket after is sent (inr (text, whole, comes, same)) (grown sent so)
  hears_next (Ok next.Read) Rests Closes fine line none end (inl other) = absurd (cc)
  hears_next (Ok next.Read) Rests Closes fine line none end (inr same) = quietly (none refl).0 same
  hears_next (Ok next.Close) Rests Closes fine line none end (inl other) = absurd (cc)
  hears_next (Ok next.Close) Rests Closes fine line none end (inr same) = quietly (end refl).0 same
  hears_next (Err fault) Rests Closes fine line none end other = absurd (cc)

-- a reply to a socket
pub says_or_stays : (old : Board) (from : ℕ) (bytes put : List ℕ) (socket : Socket) (talk : Talk)
    (outcome : Result Bool AllocError) → old.stage ≢ Over → old.protocol ≡ protocol.Socket socket
    → old.outbox ≡ drop from bytes → from ≤ length bytes → talk ≡ unwritten old.talk talk.replies
    → (outcome ≡ Ok true → SaysFirst old.talk.replies bytes talk.replies put)
    → (outcome ≡ Ok true) ⊎ ((talk ≡ old.talk) × (put ≡ bytes))
    → Goes old (record old { talk = talk; outbox = drop from put })
says_or_stays old from bytes put socket talk outcome not is rest le only said (inl is_said) =
    let (line, unfed, replies, so) = said is_said in
    says not socket is line unfed replies
    (ap (λ t. record old { talk = t; outbox = drop from put }) only
    ∙ ap (λ l. record old { talk = unwritten old.talk talk.replies; outbox = l })
    (ap (drop from) so ∙ drop-append-le from bytes (message_bytes line) le ∙ ap (λ l. l ++ message_bytes line) (sym rest)))
says_or_stays old from bytes put socket talk outcome not is rest le only said (inr (same, still)) =
    stays (ap (λ t. record old { talk = t; outbox = drop from put }) same
    ∙ ap (λ l. record old { outbox = l }) (ap (drop from) still ∙ sym rest))

-- bytes of a client of lines
pub reads_lines : (old : Board) (talk : Talk) (left : Option (List ℕ)) → old.stage ≡ Talks
    → old.protocol ≡ protocol.Lines → (talk ≡ old.talk) ⊎ (talk ≡ waits old.talk talk.waiting)
    → Gives old.unread old.talk.waiting left talk.waiting → (got : Option (List ℕ)) → got ≡ old.written
    → Goes old (record old { talk = talk; unread = left; written = got })
reads_lines old talk left e is kept (bytes, consumes, grown) got still =
    reads e bytes consumes
    (subst (λ p. ComesTo p bytes old (record old { talk = talk; unread = left; written = got })) (sym is)
    (ap (λ t. record old { talk = t; unread = left; written = got }) (same kept ∙ ap (waits old.talk) grown)
    ∙ ap (λ w. record old { talk = heard old.talk bytes; unread = left; written = w }) still))
  where
    same : (talk ≡ old.talk) ⊎ (talk ≡ waits old.talk talk.waiting) → talk ≡ waits old.talk talk.waiting
    same (inl still) = still ∙ ap (λ (t : Talk). waits old.talk t.waiting) (sym still)
    same (inr moved) = moved

-- bytes of a request
pub reads_request : (old : Board) (exchange after : Exchange) (left : Option (List ℕ)) → old.stage ≡ Talks
    → old.protocol ≡ protocol.PageRequest exchange
    → (after ≡ exchange) ⊎ (after ≡ record exchange { input = after.input })
    → Gives old.unread exchange.input left after.input → (got : Option (List ℕ)) → got ≡ old.written
    → Goes old (record old { protocol = protocol.PageRequest after; unread = left; written = got })
reads_request old exchange after left e is kept (bytes, consumes, grown) got still =
    reads e bytes consumes
    (subst (λ p. ComesTo p bytes old (record old {
      protocol = protocol.PageRequest after;
      unread = left;
      written = got;
    })) (sym is)
    (ap (λ x. record old { protocol = protocol.PageRequest x; unread = left; written = got })
    (same kept ∙ ap (λ l. record exchange { input = l }) grown)
    ∙ ap (λ w. record old {
      protocol = protocol.PageRequest (record exchange { input = exchange.input ++ bytes });
      unread = left;
      written = w;
    }) still))
  where
    same : (after ≡ exchange) ⊎ (after ≡ record exchange { input = after.input })
        → after ≡ record exchange { input = after.input }
    same (inl still) = still ∙ ap (λ (x : Exchange). record exchange { input = x.input }) (sym still)
    same (inr moved) = moved

-- bytes of a socket
pub reads_socket : (old : Board) (socket after : Socket) (left : Option (List ℕ)) → old.stage ≡ Talks
    → old.protocol ≡ protocol.Socket socket → (after ≡ socket) ⊎ (after ≡ record socket { waiting = after.waiting })
    → Gives old.unread socket.waiting left after.waiting → (got : Option (List ℕ)) → got ≡ old.written
    → Goes old (record old { protocol = protocol.Socket after; unread = left; written = got })
reads_socket old socket after left e is kept (bytes, consumes, grown) got still =
    reads e bytes consumes
    (subst (λ p. ComesTo p bytes old (record old { protocol = protocol.Socket after; unread = left; written = got }))
    (sym is)
    (ap (λ s. record old { protocol = protocol.Socket s; unread = left; written = got })
    (same kept ∙ ap (λ l. record socket { waiting = l }) grown)
    ∙ ap (λ w. record old { protocol = protocol.Socket (fed socket bytes); unread = left; written = w }) still))
  where
    same : (after ≡ socket) ⊎ (after ≡ record socket { waiting = after.waiting })
        → after ≡ record socket { waiting = after.waiting }
    same (inl still) = still ∙ ap (λ (s : Socket). record socket { waiting = s.waiting }) (sym still)
    same (inr moved) = moved

-- a request was answered
module _ (old mid new : Board) (exchange after : Exchange) (e : old.stage ≡ Talks)
    (is : old.protocol ≡ protocol.PageRequest exchange) (so : mid ≡ record old { protocol = protocol.PageRequest after }) where
  now_after : mid.protocol ≡ protocol.PageRequest after
  now_after = ap (λ (b : Board). b.protocol) so

  pub closed_with : (pages : List Page) (users : Option UserHeader) (from status : ℕ)
      → (status ≡ 200 → ServesPage pages users from exchange after)
      → ((e : Exchange) → mid.protocol ≡ protocol.PageRequest e
      → new ≡ record mid { stage = Ends; protocol = protocol.Over; outbox = e.output })
      → Goes old new
  closed_with pages users from status page turns =
      closes e pages users from exchange after status is page
      (turns after now_after
      ∙ ap (λ (b : Board). record b { stage = Ends; protocol = protocol.Over; outbox = after.output }) so)

  -- the page is that of a request which is not answered yet
  ended_as : (page : List ℕ) → new ≡ record mid { stage = Ends; protocol = protocol.Over; outbox = page }
      → new ≡ record old { stage = Ends; protocol = protocol.Over; outbox = page }
  ended_as page same = same ∙ ap (λ (b : Board). record b { stage = Ends; protocol = protocol.Over; outbox = page }) so

  stopped_as : IsStopped mid new → IsStopped old new
  stopped_as stopped = (stopped.0, stopped.1 ∙ ap (λ (b : Board). b.written) so)

  -- a handshake
  module _ (origins : List (List ℕ)) (users : Option UserHeader) (from : ℕ) (accounts : Accounts)
      (may : OpensSocket origins users from exchange after) where
    signed_in : (result : Result Next AllocError) → result ≡ Ok then.Socket → Upgraded accounts after result mid new
        → Upgrades origins users from accounts old new
    signed_in result is_socket turned = found (subst (λ r. Upgraded accounts after r mid new) is_socket turned)
      where
        found : Upgraded accounts after (Ok then.Socket) mid new → Upgrades origins users from accounts old new
        found (who, signs, same) = record {
          exchange = exchange;
          after = after;
          was = is;
          may = may;
          who = who;
          signs = subst (λ (b : Board). SignsIn accounts after.user b.session.who who) so signs;
          same = same ∙ ap (λ (b : Board). record b {
            protocol = protocol.Upgrading after;
            session = record b.session { who = who };
          }) so;
        }

    pub upgraded : (result : Result Next AllocError) → ((x : Exchange) → mid.protocol ≡ protocol.PageRequest x
        → Upgraded accounts x result mid new) → result ≡ Ok then.Socket → Upgrades origins users from accounts old new
    upgraded result turns is_socket = signed_in result is_socket (turns after now_after)

    pub upgrades_or_ends : (result : Result Next AllocError) → ((x : Exchange) → mid.protocol ≡ protocol.PageRequest x
        → Upgraded accounts x result mid new) → Goes old new
    upgrades_or_ends result turns = step result (turns after now_after)
      where
        step : (r : Result Next AllocError) → Upgraded accounts after r mid new → Goes old new
        step (Ok then.Socket) turned = upgrades e origins users from accounts (signed_in (Ok then.Socket) refl turned)
        step (Ok (then.Close status)) (page, same) =
            refuses e (subst IsRequest (sym is) tt) page (ended_as page same)
        step (Ok then.Read) turned = elim turned [ ]
        step (Ok then.User) turned = elim turned [ ]
        step (Err error) stopped = stops (stopped_as stopped)

  -- the question who the user is
  pub tells_or_ends : (users : Option UserHeader) (from : ℕ) (accounts : Accounts) (replica : ℕ) → AsksUser users from exchange after
      → (result : Result Next AllocError) → ((x : Exchange) → mid.protocol ≡ protocol.PageRequest x
      → Told accounts replica x result mid new) → Goes old new
  tells_or_ends users from accounts replica asks result turns = step result (turns after now_after)
    where
      step : (r : Result Next AllocError) → Told accounts replica after r mid new → Goes old new
      step (Ok (then.Close status)) (page, tells_it, same) =
          tells_user e users from accounts replica exchange after is asks page tells_it (ended_as page same)
      step (Ok then.Read) told = elim told [ ]
      step (Ok then.Socket) told = elim told [ ]
      step (Ok then.User) told = elim told [ ]
      step (Err error) stopped = stops (stopped_as stopped)

  pub never_opens : (accounts : Accounts) (replica : ℕ) (result : Result Next AllocError)
      → ((x : Exchange) → mid.protocol ≡ protocol.PageRequest x → Told accounts replica x result mid new)
      → result ≡ Ok then.Socket → ⊥
  never_opens accounts replica result turns is_socket =
      subst (λ r. Told accounts replica after r mid new) is_socket (turns after now_after)

-- what was written at the end
module _ {E : Type 0} (tale : List ℕ) (outcome : Result ℕ E) where
  none : (before after : Option (List ℕ)) → Keeps before after → Appends before after []
  none None after keeps = tt
  none (Some xs) None keeps = keeps
  none (Some xs) (Some ys) keeps = keeps ∙ sym (append-nil xs)

  some : (before after : Option (List ℕ)) (o : Result ℕ E) → WriteAppends before after o tale
      → (out rest : List ℕ) × Appends before after out × (tale ≡ out ++ rest)
  some before after (Ok n) writes = (take n tale, drop n tale, writes, sym (take-append-drop n tale))
  some before after (Err error) writes = ([], tale, none before after writes, refl)

  pub told_by : (unread left written got : Option (List ℕ)) (new : Board) → left ≡ unread
      → WriteAppends written got outcome tale → (new.unread ≡ left) × (new.written ≡ got) → new.stage ≡ Over
      → (out rest : List ℕ) × Appends written new.written out × (tale ≡ out ++ rest) × (new.stage ≡ Over)
      × (new.unread ≡ unread)
  told_by unread left written got new still writes (same, grown) over =
      let (out, rest, appends, parts) = some written got outcome writes in
      (out, rest, subst (λ w. Appends written w out) (sym grown) appends, parts, over, same ∙ still)

-- a last word to a client to which nothing is owed
pub says_farewell : (old new : Board) → (old.stage ≢ Over) × (old.talk.replies ≡ []) × (old.outbox ≡ [])
    → ((tale : List ℕ) × IsFarewell old.protocol tale × IsTold tale old new) ⊎ IsStopped old new → Goes old new
says_farewell old new may (inl (tale, is, told)) = tells may.0 may.1 may.2 tale (inr is) told
says_farewell old new may (inr stopped) = stops stopped

pub tells_of_memory : (old new : Board) → (old.stage ≢ Over) × (old.talk.replies ≡ []) × (old.outbox ≡ [])
    → IsTold (tale_of old.protocol) old new ⊎ IsStopped old new → Goes old new
tells_of_memory old new may (inl told) = tells may.0 may.1 may.2 (tale_of old.protocol) (inl refl) told
tells_of_memory old new may (inr stopped) = stops stopped

-- what a client is told that speaks neither lines nor frames
pub page_told : (spoken : Protocol) → spoken ≢ protocol.Lines → ((socket : Socket) → spoken ≢ protocol.Socket socket)
    → FULL_PAGE.now ≡ tale_of spoken
page_told protocol.Lines not never = elim (not refl) [ ]
page_told (protocol.PageRequest exchange) not never = refl
page_told (protocol.Upgrading exchange) not never = refl
page_told (protocol.Socket socket) not never = elim (never socket refl) [ ]
page_told protocol.Over not never = refl

-- what holds of a call that succeeded
pub on_ok : {A E P : Type 0} (outcome : Result A E) → is_err outcome ≡ false → OnOk outcome P → P
on_ok (Ok value) fine holds = holds
on_ok (Err error) fine holds = absurd (cc)
