-- How a pad is restored after a restart, from what was done on it before.
use Rattle.std.specs.Prelude.{ℕ, Bool, true, false, not, ◌&&◌, if◌then◌else◌, List, [], ◌∷◌, ◌++◌, length, Option, Some, None}
use Rattle.std.specs.Prelude.{Result, Ok, Err}
use Rattle.pad_model.specs.Checked.{is_checked, is_name}
use Rattle.pad_model.specs.declared.op.Op.{Op}
use Rattle.pad_model.specs.declared.refusal.Refusal.{Refusal}
use Rattle.pad_model.specs.declared.refusal.Refusal.TheVariants.{NoPad, PadExists, BadName, BadOp, PeerFault}
use Rattle.rights.specs.Rights.{can_have, grant, hand}
use Rattle.rights.specs.declared.grantee.Grantee.{Grantee}
use Rattle.rights.specs.declared.right.Right.{Right}
use Rattle.holdback.specs.Held.{is_ready}
use Rattle.presence.specs.Presence.{Presence, counted, spent_refusal}
use Rattle.pad_core.specs.Counts.{vector_of}
use Rattle.pad_core.specs.Delivered.{delivery_refusal}
use Rattle.pad_core.specs.Machine.{Machine, claim}
use Rattle.named_revisions.specs.declared.named_revision.NamedRevision.{NamedRevision}
use Rattle.guests.specs.Book.{introduce}
use Rattle.guests.specs.Guests.{is_guest}
use Rattle.guests.specs.declared.guest.Guest.{Guest}
use Rattle.pad_core.specs.Marks.{named}
use Rattle.pad_core.specs.Times.{timed}
use Rattle.pad_core.specs.declared.owned.Owned.{Owned}

-- the author of a visit, if it is known what was made in it
abbrev pub author_if : Bool → List ℕ → Option (List ℕ)
author_if true author = Some author
author_if false author = None

-- one more visit, which has ended: so it is refused only if no further number is given, however many may be present
abbrev pub visited : Option (List ℕ) → Presence → Result (Unit {0}) Refusal × Presence
visited author p = unless_refused (spent_refusal p)
  where
    unless_refused : Option Refusal → Result (Unit {0}) Refusal × Presence
    unless_refused (Some refusal) = (Err refusal, p)
    unless_refused None = (Ok tt, counted author p)

-- a pad without a name is claimed, and its owner's visit has ended: if visits are recorded from then on, it is known
abbrev pub restore_claim : List ℕ → List ℕ → Bool → Machine → Result (Unit {0}) Refusal × Machine
restore_claim name owner visits m = at m.owned
  where
    at : Option Owned → Result (Unit {0}) Refusal × Machine
    at (Some owned) = (Err PadExists, m)
    at None =
        if is_name name && is_name owner
        then (
          Ok tt,
          record m {
            owned = (claim name owner m).1.owned;
            presence = counted (author_if visits owner) m.presence;
          },
        )
        else (Err BadName, m)

-- a right is given, or taken away, if a pad has a name
abbrev pub granted_again : Grantee → Option Right → Option Owned
    → Result (Unit {0}) Refusal × Option Owned
granted_again grantee right None = (Err NoPad, None)
granted_again grantee right (Some owned) = let done = grant owned.rights grantee right in
    (done.0, Some (record owned { rights = done.1 }))

-- a right is given or taken away on a pad, if the grantee can have it
abbrev pub restore_grant : Grantee → Option Right → Machine → Result (Unit {0}) Refusal × Machine
restore_grant grantee right m = at m.owned
  where
    at : Option Owned → Result (Unit {0}) Refusal × Machine
    at None = (Err NoPad, m)
    at (Some owned) =
        if not (can_have grantee right) then (Err BadName, m)
        else (let done = granted_again grantee right (Some owned) in
        (done.0, record m { owned = done.1 }))

-- a pad is handed over to an author, if it has a name
abbrev pub handed_again : List ℕ → Option Owned → Result (Unit {0}) Refusal × Option Owned
handed_again author None = (Err NoPad, None)
handed_again author (Some owned) = let done = hand owned.rights author in
    (done.0, Some (record owned { rights = done.1 }))

-- a pad is handed over to an author, for a name that an author can have
abbrev pub restore_hand : List ℕ → Machine → Result (Unit {0}) Refusal × Machine
restore_hand author m = at m.owned
  where
    at : Option Owned → Result (Unit {0}) Refusal × Machine
    at None = (Err NoPad, m)
    at (Some owned) =
        if not (is_name author) then (Err BadName, m)
        else (let done = handed_again author (Some owned) in
        (done.0, record m { owned = done.1 }))

-- a pad is closed, or opened again, if it has a name
abbrev pub closed_again : Bool → Option Owned → Result (Unit {0}) Refusal × Option Owned
closed_again closed None = (Err NoPad, None)
closed_again closed (Some owned) = (Ok tt, Some (record owned { closed = closed }))

-- a pad is closed, or opened again, as it was before: nobody is present, whose visit could end
abbrev pub restore_closed : Bool → Machine → Result (Unit {0}) Refusal × Machine
restore_closed closed m = let done = closed_again closed m.owned in (done.0, record m { owned = done.1 })

-- a revision gets its name, if the pad has one itself
abbrev pub marked_again : ℕ → NamedRevision → Option Owned → Result (Unit {0}) Refusal × Option Owned
marked_again now this None = (Err NoPad, None)
marked_again now this (Some owned) = let done = named now this owned.marks in
    (done.0, Some (record owned { marks = done.1 }))

-- a revision gets the name that it had, from an author who can have been one
abbrev pub restore_mark : NamedRevision → Machine → Result (Unit {0}) Refusal × Machine
restore_mark this m = at m.owned
  where
    at : Option Owned → Result (Unit {0}) Refusal × Machine
    at None = (Err NoPad, m)
    at (Some owned) =
        if not (is_name this.author) then (Err BadName, m)
        else (let done = marked_again (length m.log) this (Some owned) in
        (done.0, record m { owned = done.1 }))

-- a guest gets a display name, if the pad has a name
abbrev pub introduced_again : Guest → Option Owned → Result (Unit {0}) Refusal × Option Owned
introduced_again guest None = (Err NoPad, None)
introduced_again guest (Some owned) = let done = introduce guest owned.guests in
    (done.0, Some (record owned { guests = done.1 }))

-- a guest gets the display name that it had, if its name is a guest's
abbrev pub restore_introduction : Guest → Machine → Result (Unit {0}) Refusal × Machine
restore_introduction guest m = at m.owned
  where
    at : Option Owned → Result (Unit {0}) Refusal × Machine
    at None = (Err NoPad, m)
    at (Some owned) =
        if not (is_name guest.author && is_guest guest.author) then (Err BadName, m)
        else (let done = introduced_again guest (Some owned) in
        (done.0, record m { owned = done.1 }))

-- a visit is counted, whose author is known or not
abbrev pub restore_visit : Option (List ℕ) → Machine → Result (Unit {0}) Refusal × Machine
restore_visit author m = at m.owned
  where
    at : Option Owned → Result (Unit {0}) Refusal × Machine
    at None = (Err NoPad, m)
    at (Some owned) =
        let done = visited author m.presence in
        (done.0, record m { presence = done.1 })

-- why an operation is not delivered again, if so: it passes a limit, it is not the next of its origin, it comes before
-- one that it had seen, or it would not be delivered now
abbrev pub restore_refusal : Op → List Op → Option Refusal
restore_refusal op log =
    if not (is_checked op) then Some BadOp
    else if not (is_ready (vector_of log) op) then Some PeerFault
    else delivery_refusal op log

-- an operation is delivered, whose own origin may be this server
abbrev pub delivered_again : Op → List Op → Result (Unit {0}) Refusal × List Op
delivered_again op log = unless_refused (restore_refusal op log)
  where
    unless_refused : Option Refusal → Result (Unit {0}) Refusal × List Op
    unless_refused (Some refusal) = (Err refusal, log)
    unless_refused None = (Ok tt, log ++ op ∷ [])

-- an operation is delivered again to a pad, with the time and the visit that it had
abbrev pub restore_operation : Op → ℕ → ℕ → Machine → Result (Unit {0}) Refusal × Machine
restore_operation op at visit m = let done = delivered_again op m.log in
    (done.0, record m { log = done.1; made = timed at visit m.log done.1 m.made })

-- the pad after a restart: the same name, rights, operations with their times and visits, and authors of visits. Nobody
-- is present, nothing is held, and no clock was told
abbrev pub restarted : Machine → Machine
restarted m = record m { held = []; presence = record m.presence { present = [] }; clock = 0 }
