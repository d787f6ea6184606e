-- The pad machine: one pad. An event goes in, a reply and the next state come out.
use Rattle.std.specs.Prelude.{◌≡◌, ℕ, ◌+◌, ◌≤◌, Bool, true, false, not, if◌then◌else◌, List, [], length, Option, Some}
use Rattle.std.specs.Prelude.{None, Result, Ok, Err, IsTrue, bytes_eq, unwrap_or}
use Rattle.std.specs.List.{AllByRecursion}
use Rattle.pad_model.specs.Checked.{is_name, is_checked}
use Rattle.pad_model.specs.declared.op.Op.{Op}
use Rattle.pad_model.specs.declared.who.Who.{Who}
use Rattle.pad_model.specs.declared.who.Who.TheVariants.{Nobody, Author, Peer}
use Rattle.pad_model.specs.declared.who.Version.{Version}
use Rattle.pad_model.specs.declared.refusal.Refusal.{Refusal}
use Rattle.pad_model.specs.declared.refusal.Refusal.TheVariants.{NoSession, NotPeer, NoPad, BadName, NotJoined, Joined}
use Rattle.pad_model.specs.declared.refusal.Refusal.TheVariants.{Denied, PadClosed}
use Rattle.pad_model.specs.declared.limits.TheConstants.{MAX_REPLICA}
use Rattle.op_log.specs.Made.{Made, Makings}
use Rattle.rights.specs.Rights.{Rights, can_have, may}
use Rattle.rights.specs.declared.right.Right.TheVariants as right
use Rattle.presence.specs.Presence.{Presence, is_joined_by, joined}
use Rattle.pad_core.specs.Closing.{is_closed, is_shut, or_closed, set_closed}
use Rattle.pad_core.specs.Edits.{insert, delete, edit}
use Rattle.pad_core.specs.Exchange.{read_vector, pull, push}
use Rattle.named_revisions.specs.declared.named_revision.NamedRevision.{NamedRevision}
use Rattle.pad_core.specs.Grants.{grant, hand, read_rights}
use Rattle.guests.specs.declared.guest.Guest.{Guest}
use Rattle.pad_core.specs.Guests.{introduce, read_guests}
use Rattle.pad_core.specs.Marks.{mark, read_marks}
use Rattle.pad_core.specs.Notes.{comment, resolve}
use Rattle.pad_core.specs.Presence.{join, leave, put_caret, read_who, rejoin}
use Rattle.pad_core.specs.Reads.{read_birth, read_changes, read_comments, read_entries, read_revs, read_revs_at, read_runs, read_text, read_times}
use Rattle.pad_core.specs.Times.{time_now, timed}
use Rattle.pad_core.specs.declared.admit.Need.{Need}
use Rattle.pad_core.specs.declared.admit.Need.TheVariants.{NewVisit, AnyVisit, Visit, Closing, PeerSession}
use Rattle.pad_core.specs.declared.owned.Owned.{Owned}
use Rattle.pad_core.specs.declared.act.Act.{Act}
use Rattle.pad_core.specs.declared.act.Act.TheVariants as act
use Rattle.pad_core.specs.declared.reply.PadReply.{PadReply}
use Rattle.pad_core.specs.declared.reply.PadReply.TheVariants as reply
use Rattle.pad_core.specs.declared.event.Claim.{Claim}
use Rattle.pad_core.specs.declared.event.Claim.TheVariants.{Created, Exists, Other}

-- a pad: its name and rights, if it has them, its server's replica number, its operations in the order of delivery,
-- those that wait for others, who is present, the clock that it was told last, and of each operation the time, both in
-- milliseconds since 1970, and the visit in which it was made, or 0
pub record Machine : Type 0 where
  pub owned : Option Owned
  pub replica : ℕ
  pub log : List Op
  pub held : List Op
  pub presence : Presence
  pub clock : ℕ
  pub made : Made

-- the clock goes on, or back
abbrev pub tick : ℕ → Machine → Machine
tick clock m = record m { clock = clock }

-- the revision that the last operation made
abbrev pub now_of : Machine → ℕ
now_of m = length m.log

-- what an act requires of whoever does it
abbrev pub need_of : Act → Need
need_of act.Join = NewVisit
need_of (act.Rejoin old) = NewVisit
need_of act.Leave = AnyVisit
need_of (act.Insert rev at text) = Visit right.Write
need_of (act.Delete rev at len) = Visit right.Write
need_of (act.Edit rev changes) = Visit right.Write
need_of (act.Comment rev at len text) = Visit right.Comment
need_of (act.Resolve resolved) = Visit right.Comment
need_of (act.Text rev) = Visit right.Read
need_of (act.Runs rev) = Visit right.Read
need_of (act.Comments rev) = Visit right.Read
need_of (act.Changes rev to wait) = Visit right.Read
need_of act.Revs = Visit right.Read
need_of (act.Entries from count timed) = Visit right.Read
need_of (act.Times from step count) = Visit right.Read
need_of (act.RevsAt moments) = Visit right.Read
need_of (act.Birth rev at) = Visit right.Read
need_of (act.Caret rev at) = Visit right.Read
need_of act.Who = Visit right.Read
need_of (act.Grant grantee given) = Visit right.Own
need_of (act.Hand author) = Visit right.Own
need_of act.Rights = Visit right.Read
need_of (act.SetClosed closed) = Closing
need_of (act.Mark rev text) = Visit right.Write
need_of act.Marks = Visit right.Read
need_of (act.Introduce display) = Visit right.Read
need_of act.Guests = Visit right.Read
need_of act.Vector = PeerSession
need_of (act.Push op) = PeerSession
need_of (act.Pull seen max batch) = PeerSession

-- whether an act names an author by an invalid name, or everyone as an owner
abbrev pub names_badly : Act → Bool
names_badly (act.Grant grantee given) = not (can_have grantee given)
names_badly (act.Hand author) = not (is_name author)
names_badly other = false

-- why a visit does not suit, if so: it is present and the author's, and who joins has none
abbrev pub visit_refusal : Presence → List ℕ → Option ℕ → Bool → Option Refusal
visit_refusal p name None joins = if joins then None else Some NotJoined
visit_refusal p name (Some visit) joins =
    if not (is_joined_by visit name p.present) then Some NotJoined
    else if joins then Some Joined
    else None

-- the first refusal, if any, and else the one of the right
abbrev pub or_denied : Option Refusal → Bool → Option Refusal
or_denied (Some refusal) may = Some refusal
or_denied None may = if may then None else Some Denied

-- why an author may not do an act that requires this, if so
abbrev pub need_refusal : Rights → Presence → List ℕ → Option ℕ → Need → Option Refusal
need_refusal book p name visit NewVisit = or_denied (visit_refusal p name visit true)
    (may book name right.Read)
need_refusal book p name visit AnyVisit = visit_refusal p name visit false
need_refusal book p name visit (Visit least) = or_denied (visit_refusal p name visit false)
    (may book name least)
need_refusal book p name visit Closing = or_denied (visit_refusal p name visit false)
    (may book name right.Own)
need_refusal book p name visit PeerSession = Some NotPeer

-- why an author may not do an act, if so, before the act itself is examined
abbrev pub author_refusal : Owned → Presence → List ℕ → Option ℕ → Act → Option Refusal
author_refusal owned p name visit act = if names_badly act then Some BadName
    else or_closed (need_refusal owned.rights p name visit (need_of act)) (is_shut owned name (need_of act))

-- the refusal that an unauthenticated session gets
abbrev pub nobody_refusal : Need → Refusal
nobody_refusal NewVisit = NoSession
nobody_refusal AnyVisit = NoSession
nobody_refusal (Visit least) = NoSession
nobody_refusal Closing = NoSession
nobody_refusal PeerSession = NotPeer

-- whether a session is of the kind that an act requires
abbrev pub suits : Who → Need → Bool
suits Nobody need = false
suits (Author name) PeerSession = false
suits (Author name) other = true
suits (Peer number version) PeerSession = true
suits (Peer number version) other = false

-- why a session cannot do an act on any pad, if so
abbrev pub session_refusal : Who → Act → Option Refusal
session_refusal who act =
    if not (suits who (need_of act)) then Some (nobody_refusal (need_of act))
    else if names_badly act then Some BadName
    else None

-- what an act comes to: its answer, and the part of the pad that it changes, as that is afterwards
pub data Outcome : Type 0 where
  -- nothing changes
  reads : Result PadReply Refusal → Outcome
  -- the log alone, by a visit
  writes : ℕ → Result PadReply Refusal × List Op → Outcome
  -- who is present
  visits : Result PadReply Refusal × Presence → Outcome
  -- the rights
  grants : Result PadReply Refusal × Rights → Outcome
  -- whether it is closed, and who is present
  closes : Result PadReply Refusal × (Bool × Presence) → Outcome
  -- which revisions have a name
  names : Result PadReply Refusal × List NamedRevision → Outcome
  -- what guests call themselves
  introduces : Result PadReply Refusal × List Guest → Outcome
  -- the log and what is held
  delivers : Result PadReply Refusal × (List Op × List Op) → Outcome

-- an act of a visit that changes the log, and with it what is known of when and where operations were made
abbrev pub on_log : Machine → ℕ → Result PadReply Refusal × List Op → Result PadReply Refusal × Machine
on_log m visit done = (
  done.0,
  record m { log = done.1; made = timed m.clock visit m.log done.1 m.made },
)

-- an act that changes who is present
abbrev pub on_presence : Machine → Result PadReply Refusal × Presence
    → Result PadReply Refusal × Machine
on_presence m done = (done.0, record m { presence = done.1 })

-- a name with other rights, if there is one
abbrev pub with_rights : Option Owned → Rights → Option Owned
with_rights None rights = None
with_rights (Some owned) rights = Some (record owned { rights = rights })

-- an act that changes the rights
abbrev pub on_rights : Option Owned → Machine → Result PadReply Refusal × Rights
    → Result PadReply Refusal × Machine
on_rights owned m done = (done.0, record m { owned = with_rights owned done.1 })

-- a pad that is closed or open, if it has a name
abbrev pub with_closed : Option Owned → Bool → Option Owned
with_closed None closed = None
with_closed (Some owned) closed = Some (record owned { closed = closed })

-- an act that closes a pad, or opens it again
abbrev pub on_closed : Option Owned → Machine → Result PadReply Refusal × (Bool × Presence)
    → Result PadReply Refusal × Machine
on_closed owned m done = (
  done.0,
  record m { owned = with_closed owned done.1.0; presence = done.1.1 },
)

-- a pad with other named revisions, if it has a name itself
abbrev pub with_marks : Option Owned → List NamedRevision → Option Owned
with_marks None marks = None
with_marks (Some owned) marks = Some (record owned { marks = marks })

-- an act that names a revision
abbrev pub on_marks : Option Owned → Machine → Result PadReply Refusal × List NamedRevision
    → Result PadReply Refusal × Machine
on_marks owned m done = (done.0, record m { owned = with_marks owned done.1 })

-- a pad with other display names of its guests, if it has a name itself
abbrev pub with_guests : Option Owned → List Guest → Option Owned
with_guests None guests = None
with_guests (Some owned) guests = Some (record owned { guests = guests })

-- an act by which a guest introduces itself
abbrev pub on_guests : Option Owned → Machine → Result PadReply Refusal × List Guest
    → Result PadReply Refusal × Machine
on_guests owned m done = (done.0, record m { owned = with_guests owned done.1 })

-- an act that changes the log, and with it what is known of when operations were heard of, and what is held
abbrev pub on_delivery : Machine → Result PadReply Refusal × (List Op × List Op)
    → Result PadReply Refusal × Machine
on_delivery m done = (
  done.0,
  record m {
    log = done.1.0;
    held = done.1.1;
    made = timed m.clock 0 m.log done.1.0 m.made;
  },
)

-- the answer and the pad after an act on a pad of this name and these rights, by what the act comes to
abbrev pub applied : Option Owned → Outcome → Machine → Result PadReply Refusal × Machine
applied owned (reads answer) m = (answer, m)
applied owned (writes visit done) m = on_log m visit done
applied owned (visits done) m = on_presence m done
applied owned (grants done) m = on_rights owned m done
applied owned (closes done) m = on_closed owned m done
applied owned (names done) m = on_marks owned m done
applied owned (introduces done) m = on_guests owned m done
applied owned (delivers done) m = on_delivery m done

-- what each act of an author comes to
abbrev pub author_outcome : Owned → List ℕ → ℕ → Act → Machine → Outcome
author_outcome owned name visit act.Join m = visits (join (now_of m) name m.presence)
author_outcome owned name visit (act.Rejoin old) m = visits (rejoin old name m.log m.made m.presence)
author_outcome owned name visit act.Leave m = visits (leave (now_of m) visit m.presence)
author_outcome owned name visit (act.Insert rev at text) m = writes visit
    (insert m.replica name rev at text m.log)
author_outcome owned name visit (act.Delete rev at len) m = writes visit
    (delete m.replica name rev at len m.log)
author_outcome owned name visit (act.Edit rev changes) m = writes visit
    (edit m.replica name rev changes m.log)
author_outcome owned name visit (act.Comment rev at len text) m = writes visit
    (comment m.replica name rev at len text m.log)
author_outcome owned name visit (act.Resolve resolved) m = writes visit
    (resolve m.replica name resolved m.log)
author_outcome owned name visit (act.Text rev) m = reads (read_text rev m.log)
author_outcome owned name visit (act.Runs rev) m = reads (read_runs rev m.log)
author_outcome owned name visit (act.Comments rev) m = reads (read_comments rev m.log)
author_outcome owned name visit (act.Changes rev to wait) m = reads (read_changes rev to wait m.log)
author_outcome owned name visit act.Revs m = reads (read_revs m.log)
author_outcome owned name visit (act.Entries from count timed) m = reads
    (read_entries from count timed m.log m.made.times)
author_outcome owned name visit (act.Times from step count) m = reads
    (read_times from step count m.log m.made.times)
author_outcome owned name visit (act.RevsAt moments) m = reads
    (read_revs_at moments m.log m.made.times)
author_outcome owned name visit (act.Birth rev at) m = reads (read_birth rev at m.log m.made.times)
author_outcome owned name visit (act.Caret rev at) m = visits
    (put_caret rev at visit m.log m.presence)
author_outcome owned name visit act.Who m = reads (read_who m.replica m.log m.presence)
author_outcome owned name visit (act.Grant grantee given) m = grants
    (grant (now_of m) grantee given owned.rights)
author_outcome owned name visit (act.Hand author) m = grants
    (hand (now_of m) name author owned.rights)
author_outcome owned name visit act.Rights m = reads (read_rights (now_of m) owned.closed owned.rights)
author_outcome owned name visit (act.SetClosed closed) m = closes
    (set_closed (now_of m) closed owned.rights m.presence)
author_outcome owned name visit (act.Mark rev text) m = names (mark (now_of m) (record {
  rev = rev;
  author = name;
  at = time_now m.clock m.made.times;
  text = text;
}) owned.marks)
author_outcome owned name visit act.Marks m = reads (read_marks (now_of m) owned.marks)
author_outcome owned name visit (act.Introduce display) m = introduces
    (introduce (now_of m) name display owned.guests)
author_outcome owned name visit act.Guests m = reads (read_guests (now_of m) owned.guests)
author_outcome owned name visit other m = reads (Err NotPeer)

-- what each act of a peer comes to
abbrev pub peer_outcome : Version → Act → Machine → Outcome
peer_outcome version act.Vector m = reads (read_vector version m.log)
peer_outcome version (act.Push op) m = if is_closed m.owned then reads (Err PadClosed)
    else delivers (push m.replica op (m.log, m.held))
peer_outcome version (act.Pull seen max batch) m = reads (pull version seen max batch m.log)
peer_outcome version other m = reads (Err NoSession)

-- what an author's act does
abbrev pub author_act : Owned → List ℕ → ℕ → Act → Machine → Result PadReply Refusal × Machine
author_act owned name visit act m = applied (Some owned) (author_outcome owned name visit act m) m

-- what a peer's act does
abbrev pub peer_act : Version → Act → Machine → Result PadReply Refusal × Machine
peer_act version act m = applied m.owned (peer_outcome version act m) m

-- an author's act, unless it is refused
abbrev pub author_step : Owned → List ℕ → Option ℕ → Act → Machine
    → Result PadReply Refusal × Machine
author_step owned name visit act m = unless_refused
    (author_refusal owned m.presence name visit act)
  where
    unless_refused : Option Refusal → Result PadReply Refusal × Machine
    unless_refused (Some refusal) = (Err refusal, m)
    unless_refused None = author_act owned name (unwrap_or visit 0) act m

-- what somebody does on a pad that has a name
abbrev pub session_step : Owned → Who → Option ℕ → Act → Machine → Result PadReply Refusal × Machine
session_step owned Nobody visit act m = (Err (nobody_refusal (need_of act)), m)
session_step owned (Author name) visit act m = author_step owned name visit act m
session_step owned (Peer number version) visit act m = peer_act version act m

-- one step of the pad machine: a reply and the next state. A pad without a name, or of another one, answers so whatever
-- is asked
abbrev pub step : List ℕ → Who → Option ℕ → Act → Machine → Result PadReply Refusal × Machine
step pad who visit act m = at_pad m.owned
  where
    at_pad : Option Owned → Result PadReply Refusal × Machine
    at_pad None = (Err NoPad, m)
    at_pad (Some owned) = if not (bytes_eq owned.name pad) then (Ok reply.Elsewhere, m)
        else session_step owned who visit act m

-- the name of a pad, if it has one
abbrev pub name_of : Option Owned → Option (List ℕ)
name_of None = None
name_of (Some owned) = Some owned.name

-- nobody is present or ever was, and this many may be present at once
abbrev pub nobody_present : ℕ → Presence
nobody_present limit = record { limit = limit; given = 0; present = []; authors = [] }

-- what a claim gives a pad, which is open: a name and an owner; nobody else has a right, no revision a name, and no guest
-- has come
abbrev pub new_owned : List ℕ → List ℕ → Owned
new_owned name owner = record {
  name = name;
  rights = record { owner = owner; everyone = None; grants = [] };
  closed = false;
  marks = [];
  guests = [];
}

-- a claim of a pad for a name and an owner, who is then present
abbrev pub claim : List ℕ → List ℕ → Machine → Result Claim Refusal × Machine
claim name owner m = claim_of m.owned
  where
    claim_of : Option Owned → Result Claim Refusal × Machine
    claim_of None = (
      Ok (Created (m.presence.given + 1)),
      record m {
        owned = Some (new_owned name owner);
        presence = joined owner m.presence;
      },
    )
    claim_of (Some owned) = if bytes_eq owned.name name then (Ok Exists, m) else (Ok Other, m)

-- an author was admitted to an act
abbrev pub IsAdmitted : Option Owned → Presence → List ℕ → Option ℕ → Act → Type 0
IsAdmitted None p name visit act = ⊥
IsAdmitted (Some owned) p name visit act = author_refusal owned p name visit act ≡ None

-- a pad without a name was never joined; one with a name has a well-formed one, and so has each author with a right on
-- it
abbrev pub IsOwned : Option Owned → Presence → Type 0
IsOwned None presence = presence ≡ nobody_present presence.limit
IsOwned (Some owned) presence = IsTrue (is_name owned.rights.owner)
    × AllByRecursion (λ e. IsTrue (is_name e.0)) owned.rights.grants × IsTrue (is_name owned.name)

-- what a pad keeps beside its log: a replica number in the limits, and held operations in theirs
pub record IsPad (owned : Option Owned) (replica : ℕ) (held : List Op) (presence : Presence) : Type
    0 where
  pub named : IsOwned owned presence
  pub replica_low : 1 ≤ replica
  pub replica_high : replica ≤ MAX_REPLICA
  pub waiting : AllByRecursion (λ op. IsTrue (is_checked op)) held

-- a pad knows of each operation when and in which visit it was made, and has room for as many
pub record IsTimed (log : List Op) (made : Makings) : Type 0 where
  pub each : length made.made.times ≡ length log
  pub paired : length made.made.visits ≡ length log
  pub roomy : length log ≤ made.room

-- what a pad is made of fits together
pub record IsWhole (owned : Option Owned) (replica : ℕ) (held : List Op) (presence : Presence)
    (log : List Op) (made : Makings) : Type 0 where
  pub kept : IsPad owned replica held presence
  pub timed : IsTimed log made
