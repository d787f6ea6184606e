-- A client of lines, after each of its steps.
use Rattle.std.proofs.Common.{◌≡◌, ◌≢◌, inl, inr, ℕ, false, List, [], ◌++◌, take, drop, length, Some}
use Rattle.std.proofs.Common.{refl, sym, ap, ◌∙◌, subst, append-nil, append_assoc}
use Rattle.std.proofs.lemmas.List.{drop_at, take_at}
use Rattle.std.specs.Io.KnownBytes.{Appends, Consumes}
use Rattle.conversation.specs.Laws.{Course, GaveAll, ServesApart}
use Rattle.conversation.specs.Laws.Course.{begins, came, answered, was_long, written, passed}
use Rattle.conversation.specs.Talk.{AnswersFirst, AnswersLast, TellsLong, heard, unwritten}
use Rattle.conversation.proofs.Courses.{gave_all, gave_out}
use Rattle.event_loop.specs.Party.{Apart, Board, CallsPlace, ComesTo, Goes, GoesOut, IsAt, IsRequest, IsStopped, IsTold, Place}
use Rattle.event_loop.specs.Party.Goes.{stays, reads, answers, long, last, ends, hears, says, writes, upgrades, opens, closes, tells_user, refuses, tells, stops}
use Rattle.event_loop.specs.Turns.{IsServed, Leads, LinesTurnLaw}
use Rattle.event_loop.specs.Turns.Leads.{begins as at_first, goes}
use Rattle.event_loop.specs.declared.party.Stage.{Stage}
use Rattle.event_loop.specs.declared.party.Stage.TheVariants.{Talks, Ends, Over}
use Rattle.event_loop.specs.declared.protocol.Protocol.{Protocol}
use Rattle.event_loop.specs.declared.protocol.Protocol.TheVariants as protocol
use Rattle.web_wire.specs.PageRequests.{Exchange}
use Rattle.web_wire.specs.Socket.{Socket}
use Rattle.event_loop.proofs.KnownEnds.{appends_is, consumes_is}

module _ (start : Place) (gives got : List ℕ) where
  -- the client is read and answered
  record IsRead (now : Board) : Type 0 where
    spoken : now.protocol ≡ protocol.Lines
    bytes : List ℕ
    rest : List ℕ
    out : List ℕ
    place : Place
    at : IsAt now.session place
    course : Course CallsPlace Apart start bytes out place now.talk
    came_from : gives ≡ bytes ++ rest
    unread : now.unread ≡ Some rest
    sent : now.written ≡ Some (got ++ out)

  -- all lines were answered
  record IsAnswered (now : Board) : Type 0 where
    spoken : now.protocol ≡ protocol.Lines
    bytes : List ℕ
    rest : List ℕ
    out : List ℕ
    place : Place
    all : GaveAll (ServesApart CallsPlace Apart) start bytes out place now.talk
    came_from : gives ≡ bytes ++ rest
    unread : now.unread ≡ Some rest
    sent : now.written ≡ Some (got ++ out)

  abbrev At : Stage → Board → Type 0
  At Talks now = IsRead now
  At Ends now = IsAnswered now
  At Over now = IsServed start gives got now

  abbrev Stands : Board → Type 0
  Stands now = At now.stage now

  served_at : (now : Board) (stage : Stage) → now.stage ≡ stage → At stage now → IsServed start gives got now
  served_at now Talks e at = record {
    bytes = at.bytes;
    rest = at.rest;
    out = at.out;
    tail = [];
    place = at.place;
    talk = now.talk;
    answers = inl (gave_out CallsPlace Apart start at.place at.bytes at.out now.talk at.course);
    came = at.came_from;
    written = at.sent ∙ ap (λ l. Some (got ++ l)) (sym (append-nil at.out));
    going = λ _. (refl, refl, at.unread);
  }
  served_at now Ends e at = record {
    bytes = at.bytes;
    rest = at.rest;
    out = at.out;
    tail = [];
    place = at.place;
    talk = now.talk;
    answers = inr at.all;
    came = at.came_from;
    written = at.sent ∙ ap (λ l. Some (got ++ l)) (sym (append-nil at.out));
    going = λ _. (refl, refl, at.unread);
  }
  served_at now Over e at = at

  served : (now : Board) → Stands now → IsServed start gives got now
  served now stands = served_at now now.stage refl stands

  -- a step from one stage leads to the same
  module _ (old new : Board) (stands : Stands old) where
    now_at : (stage : Stage) → old.stage ≡ stage → At stage old
    now_at stage e = subst (λ s. At s old) e stands

    no_socket : (spoken : Protocol) (socket : Socket) → spoken ≡ protocol.Lines → spoken ≡ protocol.Socket socket → ⊥
    no_socket spoken socket is other = absurd (cc)

    has_read : (e : old.stage ≡ Talks) (bytes : List ℕ) → Consumes old.unread new.unread bytes
        → ComesTo old.protocol bytes old new → Stands new
    has_read e bytes consumes comes =
        let at : IsRead old = now_at Talks e in
        let (rest, left, is) = consumes_is old.unread new.unread at.rest bytes at.unread consumes in
        let same : new ≡ record old { unread = new.unread; talk = heard old.talk bytes } =
        subst (λ p. ComesTo p bytes old new) at.spoken comes in
        subst Stands (sym same) (subst (λ s. At s (record old { unread = new.unread; talk = heard old.talk bytes })) (sym e)
        (record {
          spoken = at.spoken;
          bytes = at.bytes ++ bytes;
          rest = rest;
          out = at.out;
          place = at.place;
          at = at.at;
          course = came at.bytes at.out bytes at.place old.talk at.course;
          came_from = at.came_from ∙ ap (λ l. at.bytes ++ l) is ∙ sym (append_assoc at.bytes bytes rest);
          unread = left;
          sent = at.sent;
        }))

    apart : (place before : Place) → IsAt old.session place → IsAt old.session before → Apart place before
    apart place before at other = (other.0 ∙ sym at.0, other.1 ∙ sym at.1)

    has_answered : (e : old.stage ≡ Talks) (before after : Place) → IsAt old.session before → IsAt new.session after
        → old.talk.cut ≡ false → AnswersFirst CallsPlace before old.talk after new.talk
        → new ≡ record old { session = new.session; talk = new.talk } → Stands new
    has_answered e before after was becomes uncut first same =
        let at : IsRead old = now_at Talks e in
        subst Stands (sym same) (subst (λ s. At s (record old { session = new.session; talk = new.talk })) (sym e)
        (record {
          spoken = at.spoken;
          bytes = at.bytes;
          rest = at.rest;
          out = at.out;
          place = after;
          at = becomes;
          course = answered at.bytes at.out before after old.talk new.talk
              (passed at.bytes at.out at.place before old.talk at.course (apart at.place before at.at was)) uncut first;
          came_from = at.came_from;
          unread = at.unread;
          sent = at.sent;
        }))

    has_told_long : (e : old.stage ≡ Talks) → old.talk.cut ≡ false → TellsLong old.talk new.talk
        → new ≡ record old { talk = new.talk } → Stands new
    has_told_long e uncut tale same =
        let at : IsRead old = now_at Talks e in
        subst Stands (sym same) (subst (λ s. At s (record old { talk = new.talk })) (sym e)
        (record {
          spoken = at.spoken;
          bytes = at.bytes;
          rest = at.rest;
          out = at.out;
          place = at.place;
          at = at.at;
          course = was_long at.bytes at.out at.place old.talk new.talk at.course uncut tale;
          came_from = at.came_from;
          unread = at.unread;
          sent = at.sent;
        }))

    has_answered_last : (e : old.stage ≡ Talks) (before after : Place) → IsAt old.session before
        → old.talk.cut ≡ false → AnswersLast CallsPlace before old.talk after new.talk
        → new ≡ record old { stage = Ends; session = new.session; talk = new.talk } → Stands new
    has_answered_last e before after was uncut answer same =
        let at : IsRead old = now_at Talks e in
        let course = passed at.bytes at.out at.place before old.talk at.course (apart at.place before at.at was) in
        subst Stands (sym same) (record {
          spoken = at.spoken;
          bytes = at.bytes;
          rest = at.rest;
          out = at.out;
          place = after;
          all = gave_all CallsPlace Apart start before after at.bytes at.out old.talk new.talk course uncut (inl answer);
          came_from = at.came_from;
          unread = at.unread;
          sent = at.sent;
        })

    has_ended : (e : old.stage ≡ Talks) → old.talk.cut ≡ false → old.talk.waiting ≡ []
        → new ≡ record old { stage = Ends } → Stands new
    has_ended e uncut none same =
        let at : IsRead old = now_at Talks e in
        subst Stands (sym same) (record {
          spoken = at.spoken;
          bytes = at.bytes;
          rest = at.rest;
          out = at.out;
          place = at.place;
          all = gave_all CallsPlace Apart start at.place at.place at.bytes at.out old.talk old.talk at.course uncut
              (inr (none, refl, refl));
          came_from = at.came_from;
          unread = at.unread;
          sent = at.sent;
        })

    -- bytes went out
    module _ (out : List ℕ) (appends : Appends old.written new.written out) where
      abbrev Sent : Board
      Sent = record old { written = new.written; talk = unwritten old.talk new.talk.replies }

      wrote_some : (before : List ℕ) → old.written ≡ Some (got ++ before) → new.written ≡ Some (got ++ (before ++ out))
      wrote_some before is =
          appends_is old.written new.written (got ++ before) out is appends ∙ ap Some (append_assoc got before out)

      taken : old.talk.replies ≡ out ++ new.talk.replies
          → (take (length out) old.talk.replies ≡ out) × (drop (length out) old.talk.replies ≡ new.talk.replies)
      taken is = (
        ap (take (length out)) is ∙ take_at out new.talk.replies (length out) refl,
        ap (drop (length out)) is ∙ drop_at out new.talk.replies (length out) refl,
      )

      wrote_at : (stage : Stage) → old.stage ≡ stage → stage ≢ Over → At stage old
          → old.talk.replies ≡ out ++ new.talk.replies → At stage Sent
      wrote_at Talks e not at is =
          let (front, rest) = taken is in record {
            spoken = at.spoken;
            bytes = at.bytes;
            rest = at.rest;
            out = at.out ++ out;
            place = at.place;
            at = at.at;
            course = subst (λ l. Course CallsPlace Apart start at.bytes (at.out ++ l) at.place
                (unwritten old.talk new.talk.replies)) front
                (subst (λ l. Course CallsPlace Apart start at.bytes (at.out ++ take (length out) old.talk.replies) at.place
                (unwritten old.talk l)) rest (written at.bytes at.out at.place old.talk (length out) at.course));
            came_from = at.came_from;
            unread = at.unread;
            sent = wrote_some at.out at.sent;
          }
      wrote_at Ends e not at is =
          let (replies, serves, uncut, count, gave) = at.all in record {
            spoken = at.spoken;
            bytes = at.bytes;
            rest = at.rest;
            out = at.out ++ out;
            place = at.place;
            all = (
              replies,
              serves,
              uncut,
              count,
              append_assoc at.out out new.talk.replies ∙ ap (λ l. at.out ++ l) (sym is) ∙ gave,
            );
            came_from = at.came_from;
            unread = at.unread;
            sent = wrote_some at.out at.sent;
          }
      wrote_at Over e not at is = elim (not refl) [ ]

    spoken_at : (stage : Stage) → stage ≢ Over → At stage old → old.protocol ≡ protocol.Lines
    spoken_at Talks not at = at.spoken
    spoken_at Ends not at = at.spoken
    spoken_at Over not at = elim (not refl) [ ]

    has_written : old.stage ≢ Over → GoesOut old.protocol old new → Stands new
    has_written not goes_out =
        let (out, appends, is, same) = subst (λ p. GoesOut p old new) (spoken_at old.stage not stands) goes_out in
        subst Stands (sym same) (wrote_at out appends old.stage refl not stands is)

    -- a last word
    has_told : old.stage ≢ Over → (tale : List ℕ) → IsTold tale old new → Stands new
    has_told not tale (out, rest, appends, is, over, still) =
        let was = served old stands in
        let none = (was.going not).0 in
        subst (λ s. At s new) (sym over) (record {
          bytes = was.bytes;
          rest = was.rest;
          out = was.out;
          tail = out;
          place = was.place;
          talk = was.talk;
          answers = was.answers;
          came = was.came;
          written = appends_is old.written new.written (got ++ (was.out ++ was.tail)) out was.written appends
              ∙ ap (λ l. Some ((got ++ (was.out ++ l)) ++ out)) none
              ∙ ap (λ l. Some ((got ++ l) ++ out)) (append-nil was.out)
              ∙ ap Some (append_assoc got was.out out);
          going = λ not. elim (not over) [ ];
        })

    has_stopped : IsStopped old new → Stands new
    has_stopped (over, still) =
        let was = served old stands in
        subst (λ s. At s new) (sym over) (record {
          bytes = was.bytes;
          rest = was.rest;
          out = was.out;
          tail = was.tail;
          place = was.place;
          talk = was.talk;
          answers = was.answers;
          came = was.came;
          written = still ∙ was.written;
          going = λ not. elim (not over) [ ];
        })

    no_request : (e : old.stage ≡ Talks) → IsRequest old.protocol → ⊥
    no_request e is = let at : IsRead old = now_at Talks e in subst IsRequest at.spoken is

    no_page : (e : old.stage ≡ Talks) (exchange : Exchange) → old.protocol ≡ protocol.PageRequest exchange → ⊥
    no_page e exchange is = no_request e (subst IsRequest (sym is) tt)

    no_upgrade : (e : old.stage ≡ Talks) (exchange : Exchange) → old.protocol ≡ protocol.Upgrading exchange → ⊥
    no_upgrade e exchange is = no_request e (subst IsRequest (sym is) tt)

    one_more : Goes old new → Stands new
    one_more (stays same) = subst Stands (sym same) stands
    one_more (reads e bytes consumes comes) = has_read e bytes consumes comes
    one_more (answers e before after was becomes uncut first same) =
        has_answered e before after was becomes uncut first same
    one_more (long e uncut tale same) = has_told_long e uncut tale same
    one_more (last e before after was becomes uncut answer same) =
        has_answered_last e before after was uncut answer same
    one_more (ends e uncut none same) = has_ended e uncut none same
    one_more (hears e socket next is put heard same) =
        let at : IsRead old = now_at Talks e in elim (no_socket old.protocol socket at.spoken is) [ ]
    one_more (says not socket is line unfed replies same) =
        elim (no_socket old.protocol socket (spoken_at old.stage not stands) is) [ ]
    one_more (writes not goes_out) = has_written not goes_out
    one_more (upgrades e origins users from accounts up) = elim (no_page e up.exchange up.was) [ ]
    one_more (opens e exchange is same) = elim (no_upgrade e exchange is) [ ]
    one_more (closes e pages users from exchange after status is page same) = elim (no_page e exchange is) [ ]
    one_more (tells_user e users from accounts replica exchange after is asks page told same) = elim (no_page e exchange is) [ ]
    one_more (refuses e is page same) = elim (no_request e is) [ ]
    one_more (tells not replied none tale is told) = has_told not tale told
    one_more (stops stopped) = has_stopped stopped

  all_steps : (begun now : Board) → Stands begun → Leads begun now → Stands now
  all_steps begun _ stands at_first = stands
  all_steps begun _ stands (goes now next leads step) = one_more now next (all_steps begun now stands leads) step

pub lines_turn_law : LinesTurnLaw
lines_turn_law begun now gives got start connects at leads =
    served start gives got now (all_steps start gives got begun now
    (subst (λ s. At start gives got s begun) (sym connects.stage) (record {
      spoken = connects.protocol;
      bytes = [];
      rest = gives;
      out = [];
      place = start;
      at = at;
      course = subst (Course CallsPlace Apart start [] [] start) (sym connects.talk) begins;
      came_from = refl;
      unread = connects.unread;
      sent = connects.written ∙ ap Some (sym (append-nil got));
    })) leads)
