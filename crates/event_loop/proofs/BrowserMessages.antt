-- A browser, after a message from it became a line, a reply became a message to it, or bytes went out to it.
use Rattle.std.proofs.Common.{◌≡◌, inl, inr, ℕ, List, [], ◌∷◌, ◌++◌, take, drop, length, Some, Option}
use Rattle.std.proofs.Common.{refl, sym, ap, ◌∙◌, subst, append-nil, append_assoc}
use Rattle.std.proofs.lemmas.List.{drop_at, take_at}
use Rattle.std.specs.Prelude.{⊤}
use Rattle.std.specs.Io.KnownBytes.{Appends}
use Rattle.web_wire.specs.Messages.{message_bytes, with_feed}
use Rattle.web_wire.specs.PageRequests.{Exchange, OpensSocket}
use Rattle.web_wire.specs.Socket.{Socket, fresh}
use Rattle.web_wire.specs.declared.page.UserHeader.{UserHeader}
use Rattle.conversation.specs.Talk.{silent, unwritten}
use Rattle.event_loop.specs.Laws.{Course}
use Rattle.event_loop.specs.Laws.Course.{quiet, spoke, said}
use Rattle.event_loop.specs.Party.{Apart, Board, CallsPlace, GoesOut, Hears, IsAt, Place, PutsOut}
use Rattle.event_loop.specs.Turns.{BeginsAs, Item, bytes_of, frames_of, replies_of}
use Rattle.event_loop.specs.Turns.Item.{frames, reply}
use Rattle.event_loop.specs.declared.party.Stage.TheVariants.{Talks}
use Rattle.event_loop.specs.declared.protocol.Protocol.{Protocol}
use Rattle.event_loop.specs.declared.protocol.Protocol.TheVariants as protocol
use Rattle.event_loop.proofs.KnownEnds.{appends_is}

-- one more thing is sent
bytes_more : (items : List Item) (item : Item) → bytes_of (items ++ item ∷ []) ≡ bytes_of items ++ bytes_of (item ∷ [])
bytes_more [] item = refl
bytes_more (frames put ∷ items) item =
    ap (λ l. put ++ l) (bytes_more items item) ∙ sym (append_assoc put (bytes_of items) (bytes_of (item ∷ [])))
bytes_more (reply line ∷ items) item =
    ap (λ l. message_bytes line ++ l) (bytes_more items item)
    ∙ sym (append_assoc (message_bytes line) (bytes_of items) (bytes_of (item ∷ [])))

frames_more : (items : List Item) (put : List ℕ) → frames_of (items ++ frames put ∷ []) ≡ frames_of items ++ put
frames_more [] put = append-nil put
frames_more (frames first ∷ items) put =
    ap (λ l. first ++ l) (frames_more items put) ∙ sym (append_assoc first (frames_of items) put)
frames_more (reply line ∷ items) put = frames_more items put

frames_still : (items : List Item) (line : List ℕ) → frames_of (items ++ reply line ∷ []) ≡ frames_of items
frames_still [] line = refl
frames_still (frames first ∷ items) line = ap (λ l. first ++ l) (frames_still items line)
frames_still (reply first ∷ items) line = frames_still items line

replies_more : (items : List Item) (line : List ℕ)
    → replies_of (items ++ reply line ∷ []) ≡ replies_of items ++ with_feed line
replies_more [] line = append-nil (with_feed line)
replies_more (frames first ∷ items) line = replies_more items line
replies_more (reply first ∷ items) line =
    ap (λ l. with_feed first ++ l) (replies_more items line)
    ∙ sym (append_assoc (with_feed first) (replies_of items) (with_feed line))

replies_still : (items : List Item) (put : List ℕ) → replies_of (items ++ frames put ∷ []) ≡ replies_of items
replies_still [] put = refl
replies_still (frames first ∷ items) put = replies_still items put
replies_still (reply first ∷ items) put = ap (λ l. with_feed first ++ l) (replies_still items put)

module _ (start : Place) (gives got : List ℕ) where
  -- a request is read
  pub record IsAsked (now : Board) (exchange : Exchange) : Type 0 where
    pub at : IsAt now.session start
    pub talk : now.talk ≡ silent
    pub rest : List ℕ
    pub came_from : gives ≡ exchange.input ++ rest
    pub unread : now.unread ≡ Some rest
    pub none : exchange.output ≡ []
    pub sent : now.written ≡ Some got
    pub outbox : now.outbox ≡ []

  -- a handshake was answered
  pub record IsOpening (now : Board) (after : Exchange) : Type 0 where
    pub begun : Place
    pub begins_as : BeginsAs after.user start begun
    pub at : IsAt now.session begun
    pub talk : now.talk ≡ silent
    pub rest : List ℕ
    pub origins : List (List ℕ)
    pub users : Option UserHeader
    pub from : ℕ
    pub request : Exchange
    pub may : OpensSocket origins users from request after
    pub came_from : gives ≡ request.input ++ rest
    pub unread : now.unread ≡ Some rest
    pub sent : now.written ≡ Some got
    pub outbox : now.outbox ≡ []

  -- messages are read
  pub record IsOpen (now : Board) (socket : Socket) : Type 0 where
    pub origins : List (List ℕ)
    pub users : Option UserHeader
    pub from : ℕ
    pub request : Exchange
    pub after : Exchange
    pub may : OpensSocket origins users from request after
    pub begun : Place
    pub begins_as : BeginsAs after.user start begun
    pub later : List ℕ
    pub rest : List ℕ
    pub came_from : gives ≡ request.input ++ (later ++ rest)
    pub unread : now.unread ≡ Some rest
    pub texts : List (List ℕ)
    pub items : List Item
    pub place : Place
    pub at : IsAt now.session place
    pub course : Course CallsPlace Apart begun (fresh after.input) later texts (frames_of items) (replies_of items) place
        socket now.talk
    pub sent : List ℕ
    pub written : now.written ≡ Some (got ++ sent)
    pub all : sent ++ now.outbox ≡ after.output ++ bytes_of items

  abbrev pub At : Protocol → Board → Type 0
  At protocol.Lines now = ⊥
  At (protocol.PageRequest exchange) now = IsAsked now exchange
  At (protocol.Upgrading exchange) now = IsOpening now exchange
  At (protocol.Socket socket) now = IsOpen now socket
  At protocol.Over now = ⊤

  -- as long as the client is read
  abbrev pub Stands : Board → Type 0
  Stands now = now.stage ≡ Talks → At now.protocol now

  module _ (old new : Board) (stands : Stands old) where
    -- a message became a line
    pub heard_at : (socket next : Socket) → IsOpen old socket → (put : List ℕ) → Hears socket next put old.talk new.talk
        → IsOpen (record old { protocol = protocol.Socket next; outbox = old.outbox ++ put; talk = new.talk }) next
    heard_at socket next at put came_as = record {
      origins = at.origins;
      users = at.users;
      from = at.from;
      request = at.request;
      after = at.after;
      may = at.may;
      begun = at.begun;
      begins_as = at.begins_as;
      later = at.later;
      rest = at.rest;
      came_from = at.came_from;
      unread = at.unread;
      texts = (goes_on came_as).0;
      items = at.items ++ frames put ∷ [];
      place = at.place;
      at = at.at;
      course = subst (λ l. Course CallsPlace Apart at.begun (fresh at.after.input) at.later (goes_on came_as).0
          (frames_of (at.items ++ frames put ∷ [])) l at.place next new.talk) (sym (replies_still at.items put))
          (subst (λ l. Course CallsPlace Apart at.begun (fresh at.after.input) at.later (goes_on came_as).0 l
          (replies_of at.items) at.place next new.talk) (sym (frames_more at.items put)) (goes_on came_as).1);
      sent = at.sent;
      written = at.written;
      all = sym (append_assoc at.sent old.outbox put) ∙ ap (λ l. l ++ put) at.all
          ∙ append_assoc at.after.output (bytes_of at.items) put
          ∙ ap (λ l. at.after.output ++ l)
          (ap (λ l. bytes_of at.items ++ l) (sym (append-nil put)) ∙ sym (bytes_more at.items (frames put)));
    }
      where
        goes_on : Hears socket next put old.talk new.talk → (texts : List (List ℕ))
            × Course CallsPlace Apart at.begun (fresh at.after.input) at.later texts (frames_of at.items ++ put)
            (replies_of at.items) at.place next new.talk
        goes_on (inl (comes, same)) = (
          at.texts,
          subst (Course CallsPlace Apart at.begun (fresh at.after.input) at.later at.texts (frames_of at.items ++ put)
              (replies_of at.items) at.place next) (sym same)
              (quiet at.later at.texts (frames_of at.items) (replies_of at.items) at.place socket next old.talk put
              at.course comes),
        )
        goes_on (inr (text, is, comes, same)) = (
          at.texts ++ text ∷ [],
          subst (Course CallsPlace Apart at.begun (fresh at.after.input) at.later (at.texts ++ text ∷ [])
              (frames_of at.items ++ put) (replies_of at.items) at.place next) (sym same)
              (spoke at.later at.texts (frames_of at.items) (replies_of at.items) at.place socket next old.talk text put
              at.course is comes),
        )

    -- a reply became a message
    pub said_at : (socket : Socket) → IsOpen old socket → (line : List ℕ)
        → old.talk.replies ≡ with_feed line ++ new.talk.replies
        → IsOpen (record old {
          talk = unwritten old.talk new.talk.replies;
          outbox = old.outbox ++ message_bytes line;
        }) socket
    said_at socket at line is = record {
      origins = at.origins;
      users = at.users;
      from = at.from;
      request = at.request;
      after = at.after;
      may = at.may;
      begun = at.begun;
      begins_as = at.begins_as;
      later = at.later;
      rest = at.rest;
      came_from = at.came_from;
      unread = at.unread;
      texts = at.texts;
      items = at.items ++ reply line ∷ [];
      place = at.place;
      at = at.at;
      course = subst (λ l. Course CallsPlace Apart at.begun (fresh at.after.input) at.later at.texts l
          (replies_of (at.items ++ reply line ∷ [])) at.place socket (unwritten old.talk new.talk.replies))
          (sym (frames_still at.items line))
          (subst (λ l. Course CallsPlace Apart at.begun (fresh at.after.input) at.later at.texts (frames_of at.items) l
          at.place socket (unwritten old.talk new.talk.replies))
          (ap (λ l. replies_of at.items ++ l) front ∙ sym (replies_more at.items line))
          (subst (λ l. Course CallsPlace Apart at.begun (fresh at.after.input) at.later at.texts (frames_of at.items)
          (replies_of at.items ++ take (length (with_feed line)) old.talk.replies) at.place socket
          (unwritten old.talk l)) behind
          (said at.later at.texts (frames_of at.items) (replies_of at.items) at.place socket old.talk
          (length (with_feed line)) at.course)));
      sent = at.sent;
      written = at.written;
      all = sym (append_assoc at.sent old.outbox (message_bytes line)) ∙ ap (λ l. l ++ message_bytes line) at.all
          ∙ append_assoc at.after.output (bytes_of at.items) (message_bytes line)
          ∙ ap (λ l. at.after.output ++ l)
          (ap (λ l. bytes_of at.items ++ l) (sym (append-nil (message_bytes line)))
          ∙ sym (bytes_more at.items (reply line)));
    }
      where
        front : take (length (with_feed line)) old.talk.replies ≡ with_feed line
        front = ap (take (length (with_feed line))) is
            ∙ take_at (with_feed line) new.talk.replies (length (with_feed line)) refl

        behind : drop (length (with_feed line)) old.talk.replies ≡ new.talk.replies
        behind = ap (drop (length (with_feed line))) is
            ∙ drop_at (with_feed line) new.talk.replies (length (with_feed line)) refl

    -- bytes went out
    module _ (out : List ℕ) (appends : Appends old.written new.written out) where
      nothing : old.outbox ≡ [] → old.outbox ≡ out ++ new.outbox → (out ≡ []) × (new.outbox ≡ [])
      nothing none is = both out new.outbox (sym none ∙ is)
        where
          both : (a b : List ℕ) → [] ≡ a ++ b → (a ≡ []) × (b ≡ [])
          both [] b e = (refl, sym e)
          both (x ∷ a) b e = absurd (cc)

      wrote_none : (none : old.outbox ≡ []) → old.outbox ≡ out ++ new.outbox → old.written ≡ Some got
          → new.written ≡ Some got
      wrote_none none is was =
          appends_is old.written new.written got out was appends
          ∙ ap (λ l. Some (got ++ l)) (nothing none is).0 ∙ ap Some (append-nil got)

      abbrev Sent : Board
      Sent = record old { written = new.written; outbox = new.outbox }

      wrote_at : (spoken : Protocol) → old.protocol ≡ spoken → At spoken old → old.outbox ≡ out ++ new.outbox
          → At old.protocol Sent
      wrote_at protocol.Lines e at is = elim at [ ]
      wrote_at (protocol.PageRequest exchange) e at is = subst (λ p. At p Sent) (sym e) (record {
        at = at.at;
        talk = at.talk;
        rest = at.rest;
        came_from = at.came_from;
        unread = at.unread;
        none = at.none;
        sent = wrote_none at.outbox is at.sent;
        outbox = (nothing at.outbox is).1;
      })
      wrote_at (protocol.Upgrading exchange) e at is = subst (λ p. At p Sent) (sym e) (record {
        at = at.at;
        talk = at.talk;
        rest = at.rest;
        begun = at.begun;
        begins_as = at.begins_as;
        origins = at.origins;
        users = at.users;
        from = at.from;
        request = at.request;
        may = at.may;
        came_from = at.came_from;
        unread = at.unread;
        sent = wrote_none at.outbox is at.sent;
        outbox = (nothing at.outbox is).1;
      })
      wrote_at (protocol.Socket socket) e at is = subst (λ p. At p Sent) (sym e) (record {
        origins = at.origins;
        users = at.users;
        from = at.from;
        request = at.request;
        after = at.after;
        may = at.may;
        begun = at.begun;
        begins_as = at.begins_as;
        later = at.later;
        rest = at.rest;
        came_from = at.came_from;
        unread = at.unread;
        texts = at.texts;
        items = at.items;
        place = at.place;
        at = at.at;
        course = at.course;
        sent = at.sent ++ out;
        written = appends_is old.written new.written (got ++ at.sent) out at.written appends
            ∙ ap Some (append_assoc got at.sent out);
        all = append_assoc at.sent out new.outbox ∙ ap (λ l. at.sent ++ l) (sym is) ∙ at.all;
      })
      wrote_at protocol.Over e at is = subst (λ p. At p Sent) (sym e) tt

    pub has_written : GoesOut old.protocol old new → Stands new
    has_written = at old.protocol refl
      where
        puts : PutsOut old new → Stands new
        puts (out, appends, is, same) = subst Stands (sym same) (λ talks.
            wrote_at out appends old.protocol refl (subst (λ p. At p old) refl (stands talks)) is)

        at : (spoken : Protocol) → old.protocol ≡ spoken → GoesOut spoken old new → Stands new
        at protocol.Lines e (out, appends, is, same) = subst Stands (sym same) (λ talks.
            elim (subst (λ p. At p old) e (stands talks)) [ ])
        at (protocol.PageRequest exchange) e out = puts out
        at (protocol.Upgrading exchange) e out = puts out
        at (protocol.Socket socket) e out = puts out
        at protocol.Over e out = puts out
