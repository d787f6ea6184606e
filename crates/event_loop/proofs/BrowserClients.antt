-- A browser, after each of its steps.
use Rattle.std.proofs.Common.{◌≡◌, ◌≢◌, ℕ, true, false, List, [], ◌++◌, Some}
use Rattle.std.proofs.Common.{refl, sym, ap, ◌∙◌, subst, append-nil, append_assoc, arith}
use Rattle.std.specs.Io.KnownBytes.{Consumes}
use Rattle.wire_lines.specs.Buffer.{ShowsBefore}
use Rattle.wire_lines.specs.declared.buffer.FoundLine.TheVariants as found
use Rattle.web_wire.specs.Messages.{message_bytes}
use Rattle.web_wire.specs.Socket.{fresh}
use Rattle.conversation.specs.Talk.{AnswersFirst, Talk, TellsLong, silent, unwritten}
use Rattle.event_loop.specs.Laws.{Course}
use Rattle.event_loop.specs.Laws.Course.{begins, came, answered, was_long, passed}
use Rattle.event_loop.specs.Party.{Apart, Board, CallsPlace, ComesTo, Goes, IsAt, Place}
use Rattle.event_loop.specs.Party.Goes.{stays, reads, answers, long, last, ends, hears, says, writes, upgrades, opens, closes, tells_user, refuses, tells, stops}
use Rattle.event_loop.specs.Turns.{Leads, SocketTurnLaw, frames_of, replies_of}
use Rattle.event_loop.specs.Turns.Leads.{begins as at_first, goes}
use Rattle.event_loop.specs.Users.{SignsIn}
use Rattle.event_loop.specs.declared.party.Stage.{Stage}
use Rattle.event_loop.specs.declared.party.Stage.TheVariants.{Talks, Ends, Over}
use Rattle.event_loop.specs.declared.protocol.Protocol.{Protocol}
use Rattle.event_loop.specs.declared.protocol.Protocol.TheVariants as protocol
use Rattle.event_loop.proofs.KnownEnds.{consumes_is}
use Rattle.event_loop.proofs.BrowserMessages as browser
use Rattle.event_loop.proofs.BrowserMessages.{IsAsked, IsOpen, IsOpening, has_written, heard_at, said_at}

-- nothing has arrived, so no line is complete
no_first : (talk after : Talk) (place next : Place) → talk ≡ silent → AnswersFirst CallsPlace place talk next after → ⊥
no_first talk after place next none (line, shows, so) =
    none_yet line after.waiting (subst (λ (t : Talk). ShowsBefore found.Text t.waiting line after.waiting) none shows)
  where
    none_yet : (line rest : List ℕ) → ShowsBefore found.Text [] line rest → ⊥
    none_yet line rest shows = absurd (omega (arith, (shows []).0))

no_long : (talk after : Talk) → talk ≡ silent → TellsLong talk after → ⊥
no_long talk after none (line, shows, told, cut) =
    none_yet line after.waiting (subst (λ (t : Talk). ShowsBefore found.TooLong t.waiting line after.waiting) none shows)
  where
    none_yet : (line rest : List ℕ) → ShowsBefore found.TooLong [] line rest → ⊥
    none_yet line rest shows = let long : false ≡ true = (shows []).0 in absurd (cc)

module _ (start : Place) (gives got : List ℕ) where
  -- what holds of a browser that began at this place, gives these bytes and got those
  abbrev At : Protocol → Board → Type 0
  At spoken now = browser.At start gives got spoken now

  abbrev Stands : Board → Type 0
  Stands now = browser.Stands start gives got now

  module _ (old new : Board) (stands : Stands old) where
    apart : (place before : Place) → IsAt old.session place → IsAt old.session before → Apart place before
    apart place before at other = (other.0 ∙ sym at.0, other.1 ∙ sym at.1)

    -- bytes came
    come_to : (spoken : Protocol) → old.protocol ≡ spoken → At spoken old → (bytes : List ℕ)
        → Consumes old.unread new.unread bytes → ComesTo spoken bytes old new → Stands new
    come_to protocol.Lines e at bytes consumes comes = elim at [ ]
    come_to (protocol.PageRequest exchange) e at bytes consumes same =
        let (rest, left, is) = consumes_is old.unread new.unread at.rest bytes at.unread consumes in
        subst Stands (sym same) (λ _. record {
          at = at.at;
          talk = at.talk;
          rest = rest;
          came_from = at.came_from ∙ ap (λ l. exchange.input ++ l) is ∙ sym (append_assoc exchange.input bytes rest);
          unread = left;
          none = at.none;
          sent = at.sent;
          outbox = at.outbox;
        })
    come_to (protocol.Upgrading exchange) e at bytes consumes comes = elim comes [ ]
    come_to (protocol.Socket socket) e at bytes consumes same =
        let (rest, left, is) = consumes_is old.unread new.unread at.rest bytes at.unread consumes in
        subst Stands (sym same) (λ _. record {
          origins = at.origins;
          users = at.users;
          from = at.from;
          request = at.request;
          after = at.after;
          may = at.may;
          begun = at.begun;
          begins_as = at.begins_as;
          later = at.later ++ bytes;
          rest = rest;
          came_from = at.came_from
              ∙ ap (λ l. at.request.input ++ l)
              (ap (λ l. at.later ++ l) is ∙ sym (append_assoc at.later bytes rest));
          unread = left;
          texts = at.texts;
          items = at.items;
          place = at.place;
          at = at.at;
          course = came at.later at.texts (frames_of at.items) (replies_of at.items) at.place socket old.talk bytes at.course;
          sent = at.sent;
          written = at.written;
          all = at.all;
        })
    come_to protocol.Over e at bytes consumes comes = elim comes [ ]

    -- a line was answered
    answered_at : (spoken : Protocol) → old.protocol ≡ spoken → At spoken old → (before after : Place)
        → IsAt old.session before → IsAt new.session after → old.talk.cut ≡ false
        → AnswersFirst CallsPlace before old.talk after new.talk
        → At spoken (record old { session = new.session; talk = new.talk })
    answered_at protocol.Lines e at before after was becomes uncut first = at
    answered_at (protocol.PageRequest exchange) e at before after was becomes uncut first =
        elim (no_first old.talk new.talk before after at.talk first) [ ]
    answered_at (protocol.Upgrading exchange) e at before after was becomes uncut first =
        elim (no_first old.talk new.talk before after at.talk first) [ ]
    answered_at (protocol.Socket socket) e at before after was becomes uncut first = record {
      origins = at.origins;
      users = at.users;
      from = at.from;
      request = at.request;
      after = at.after;
      may = at.may;
      begun = at.begun;
      begins_as = at.begins_as;
      later = at.later;
      rest = at.rest;
      came_from = at.came_from;
      unread = at.unread;
      texts = at.texts;
      items = at.items;
      place = after;
      at = becomes;
      course = answered at.later at.texts (frames_of at.items) (replies_of at.items) before after socket old.talk new.talk
          (passed at.later at.texts (frames_of at.items) (replies_of at.items) at.place before socket old.talk at.course
          (apart at.place before at.at was)) uncut first;
      sent = at.sent;
      written = at.written;
      all = at.all;
    }
    answered_at protocol.Over e at before after was becomes uncut first = tt

    -- a line was too long
    long_at : (spoken : Protocol) → At spoken old → old.talk.cut ≡ false → TellsLong old.talk new.talk
        → At spoken (record old { talk = new.talk })
    long_at protocol.Lines at uncut tale = at
    long_at (protocol.PageRequest exchange) at uncut tale = elim (no_long old.talk new.talk at.talk tale) [ ]
    long_at (protocol.Upgrading exchange) at uncut tale = elim (no_long old.talk new.talk at.talk tale) [ ]
    long_at (protocol.Socket socket) at uncut tale = record {
      origins = at.origins;
      users = at.users;
      from = at.from;
      request = at.request;
      after = at.after;
      may = at.may;
      begun = at.begun;
      begins_as = at.begins_as;
      later = at.later;
      rest = at.rest;
      came_from = at.came_from;
      unread = at.unread;
      texts = at.texts;
      items = at.items;
      place = at.place;
      at = at.at;
      course = was_long at.later at.texts (frames_of at.items) (replies_of at.items) at.place socket old.talk new.talk
          at.course uncut tale;
      sent = at.sent;
      written = at.written;
      all = at.all;
    }
    long_at protocol.Over at uncut tale = tt

    now_at : (spoken : Protocol) → old.stage ≡ Talks → old.protocol ≡ spoken → At spoken old
    now_at spoken e is = subst (λ p. At p old) is (stands e)

    -- the client is no longer read
    ended : (stage : Stage) → new.stage ≡ stage → stage ≢ Talks → Stands new
    ended stage e not talks = elim (not (sym e ∙ talks)) [ ]

    not_ends : Ends ≢ Talks
    not_ends e = absurd (cc)

    not_over : Over ≢ Talks
    not_over e = absurd (cc)

    one_more : Goes old new → Stands new
    one_more (stays same) = subst Stands (sym same) stands
    one_more (reads e bytes consumes comes) =
        come_to old.protocol refl (now_at old.protocol e refl) bytes consumes comes
    one_more (answers e before after was becomes uncut first same) = subst Stands (sym same) (λ _.
        answered_at old.protocol refl (now_at old.protocol e refl) before after was becomes uncut first)
    one_more (long e uncut tale same) = subst Stands (sym same) (λ _.
        long_at old.protocol (now_at old.protocol e refl) uncut tale)
    one_more (last e before after was becomes uncut answer same) =
        ended Ends (ap (λ (b : Board). b.stage) same) not_ends
    one_more (ends e uncut none same) = ended Ends (ap (λ (b : Board). b.stage) same) not_ends
    one_more (hears e socket next is put heard same) = subst Stands (sym same) (λ _.
        heard_at start gives got old new stands socket next (now_at (protocol.Socket socket) e is) put heard)
    one_more (says not socket is line unfed replies same) = subst Stands (sym same) (λ talks.
        subst (λ p. At p (record old {
          talk = unwritten old.talk new.talk.replies;
          outbox = old.outbox ++ message_bytes line;
        })) (sym is) (said_at start gives got old new stands socket (now_at (protocol.Socket socket) talks is) line replies))
    one_more (writes not goes_out) = has_written start gives got old new stands goes_out
    one_more (upgrades e origins users from accounts up) = subst Stands (sym up.same) (λ _.
        let at : IsAsked start gives got old up.exchange = now_at (protocol.PageRequest up.exchange) e up.was in record {
          begun = record start { accounts = accounts; who = up.who };
          begins_as = record {
            rooms = refl;
            who = subst (λ w. SignsIn accounts up.after.user w up.who) (sym at.at.0) up.signs;
          };
          at = (refl, at.at.1);
          talk = at.talk;
          rest = at.rest;
          origins = origins;
          users = users;
          from = from;
          request = up.exchange;
          may = up.may;
          came_from = at.came_from;
          unread = at.unread;
          sent = at.sent;
          outbox = at.outbox;
        })
    one_more (opens e exchange is same) = subst Stands (sym same) (λ _.
        let at : IsOpening start gives got old exchange = now_at (protocol.Upgrading exchange) e is in record {
          origins = at.origins;
          users = at.users;
          from = at.from;
          request = at.request;
          after = exchange;
          may = at.may;
          begun = at.begun;
          begins_as = at.begins_as;
          later = [];
          rest = at.rest;
          came_from = at.came_from;
          unread = at.unread;
          texts = [];
          items = [];
          place = at.begun;
          at = at.at;
          course = subst (Course CallsPlace Apart at.begun (fresh exchange.input) [] [] [] [] at.begun
              (fresh exchange.input)) (sym at.talk) begins;
          sent = [];
          written = at.sent ∙ ap Some (sym (append-nil got));
          all = sym (append-nil exchange.output);
        })
    one_more (closes e pages users from exchange after status is page same) =
        ended Ends (ap (λ (b : Board). b.stage) same) not_ends
    one_more (tells_user e users from accounts replica exchange after is asks page told same) =
        ended Ends (ap (λ (b : Board). b.stage) same) not_ends
    one_more (refuses e is page same) = ended Ends (ap (λ (b : Board). b.stage) same) not_ends
    one_more (tells not replied none tale is (out, rest, appends, parts, over, left)) = ended Over over not_over
    one_more (stops (over, left)) = ended Over over not_over

  all_steps : (begun now : Board) → Stands begun → Leads begun now → Stands now
  all_steps begun _ stands at_first = stands
  all_steps begun _ stands (goes now next leads step) = one_more now next (all_steps begun now stands leads) step

pub socket_turn_law : SocketTurnLaw
socket_turn_law begun now gives got start socket connects at leads talks is =
    let first : Stands start gives got begun = λ _.
    subst (λ p. At start gives got p begun) (sym connects.protocol) (record {
      at = at;
      talk = connects.talk;
      rest = gives;
      came_from = refl;
      unread = connects.unread;
      none = refl;
      sent = connects.written;
      outbox = connects.outbox;
    }) in
    let end : IsOpen start gives got now socket =
    subst (λ p. At start gives got p now) is (all_steps start gives got begun now first leads talks) in record {
      origins = end.origins;
      users = end.users;
      from = end.from;
      request = end.request;
      after = end.after;
      may = end.may;
      begun = end.begun;
      begins = end.begins_as;
      later = end.later;
      rest = end.rest;
      came = end.came_from;
      unread = end.unread;
      socket = socket;
      speaks = is;
      texts = end.texts;
      items = end.items;
      place = end.place;
      course = end.course;
      sent = end.sent;
      written = end.written;
      all = end.all;
    }
