-- A pad keeps its name, and answers a visit only if the name is its own.
use Rattle.std.proofs.Common.{◌≡◌, ◌⊎◌, inl, inr, ℕ, Bool, true, false, not, cond, List, [], ◌∷◌, ◌++◌, Option, Some}
use Rattle.std.proofs.Common.{None, Result, Ok, Err, refl, sym, ap, ◌∙◌, subst}
use Rattle.std.specs.Prelude.{bytes_eq, filter, unwrap_or}
use Rattle.std.proofs.lemmas.Slice.Eq.{bytes_eq-Decides}
use Rattle.pad_model.proofs.Newer.{split}
use Rattle.pad_model.specs.declared.refusal.Refusal.{Refusal}
use Rattle.pad_model.specs.declared.refusal.Refusal.TheVariants.{NoPad}
use Rattle.pad_model.specs.declared.who.Who.{Who}
use Rattle.pad_model.specs.declared.who.Who.TheVariants.{Nobody, Author, Peer}
use Rattle.pad_model.specs.declared.who.Version.{Version}
use Rattle.sessions.specs.Session.{is_of}
use Rattle.sessions.specs.declared.session.Room.{Room}
use Rattle.pad_core.specs.Machine.{Machine, Outcome, applied, author_act, author_outcome, author_refusal, author_step}
use Rattle.pad_core.specs.Machine.{name_of, peer_act, peer_outcome, session_step, step}
use Rattle.pad_core.specs.Machine.Outcome.{reads, writes, visits, grants, closes, names, introduces, delivers}
use Rattle.pad_core.specs.declared.act.Act.{Act}
use Rattle.pad_core.specs.declared.act.Act.TheVariants as act
use Rattle.pad_core.specs.declared.owned.Owned.{Owned}
use Rattle.pad_core.specs.declared.reply.PadReply.{PadReply}
use Rattle.pad_core.specs.declared.reply.PadReply.TheVariants as pad
use Rattle.server_core.specs.AtCell.{rooms_after}

-- whatever the result of an act, the pad keeps its name
outcome-name : (o : Option Owned) (outcome : Outcome) (m : Machine) → name_of m.owned ≡ name_of o →
    name_of (applied o outcome m).1.owned ≡ name_of o
outcome-name o (reads answer) m h = h
outcome-name o (writes visit done) m h = h
outcome-name o (visits done) m h = h
outcome-name None (grants done) m h = refl
outcome-name (Some owned) (grants done) m h = refl
outcome-name None (closes done) m h = refl
outcome-name (Some owned) (closes done) m h = refl
outcome-name None (names done) m h = refl
outcome-name None (introduces done) m h = refl
outcome-name (Some owned) (names done) m h = refl
outcome-name (Some owned) (introduces done) m h = refl
outcome-name o (delivers done) m h = h

peer-name : (version : Version) (m : Machine) (a : Act) → name_of (peer_act version a m).1.owned ≡ name_of m.owned
peer-name version m a = outcome-name m.owned (peer_outcome version a m) m refl

author-name : (owned : Owned) (name : List ℕ) (visit : ℕ) (m : Machine) (a : Act) → name_of m.owned ≡ Some owned.name →
    name_of (author_act owned name visit a m).1.owned ≡ Some owned.name
author-name owned name visit m a h = outcome-name (Some owned) (author_outcome owned name visit a m) m h

by_refusal : (owned : Owned) (name : List ℕ) (visit : Option ℕ) (a : Act) (m : Machine) (r : Option Refusal) →
    author_refusal owned m.presence name visit a ≡ r → name_of m.owned ≡ Some owned.name →
    name_of (author_step owned name visit a m).1.owned ≡ Some owned.name
by_refusal owned name visit a m (Some refusal) e h = rw e h
by_refusal owned name visit a m None e h = rw e (author-name owned name (unwrap_or visit 0) m a h)

session-name : (owned : Owned) (who : Who) (visit : Option ℕ) (a : Act) (m : Machine) → name_of m.owned
    ≡ Some owned.name → name_of (session_step owned who visit a m).1.owned ≡ Some owned.name
session-name owned Nobody visit a m h = h
session-name owned (Author name) visit a m h =
    by_refusal owned name visit a m (author_refusal owned m.presence name visit a) refl h
session-name owned (Peer number version) visit a m h = peer-name version m a ∙ h

by_owned : (name : List ℕ) (who : Who) (visit : Option ℕ) (a : Act) (m : Machine) (o : Option Owned) → m.owned ≡ o →
    name_of (step name who visit a m).1.owned ≡ name_of o
by_owned name who visit a m None e = rw e refl
by_owned name who visit a m (Some owned) e =
    rw e (split (bytes_eq owned.name name)
    (λ own. rw own (session-name owned who visit a (record m { owned = Some owned }) refl)) (λ other. rw other refl))

-- a step keeps the name
pub step-name : (name : List ℕ) (who : Who) (visit : Option ℕ) (a : Act) (m : Machine) →
    name_of (step name who visit a m).1.owned ≡ name_of m.owned
step-name name who visit a m = by_owned name who visit a m m.owned refl

-- a pad has the name, or it says that it has none or another
abbrev pub IsOwn : List ℕ → Machine → Result PadReply Refusal → Type 0
IsOwn name m answer = (name_of m.owned ≡ Some name) ⊎ ((answer ≡ Err NoPad) ⊎ (answer ≡ Ok pad.Elsewhere))

own_by : (name : List ℕ) (who : Who) (visit : Option ℕ) (a : Act) (m : Machine) (o : Option Owned) → m.owned ≡ o →
    IsOwn name m (step name who visit a m).0
own_by name who visit a m None e = inr (inl (rw e refl))
own_by name who visit a m (Some owned) e =
    split (bytes_eq owned.name name) (λ own. inl (ap name_of e ∙ ap Some ((bytes_eq-Decides owned.name name).0 own)))
    (λ other. inr (inr (rw e (rw other refl))))

pub step-own : (name : List ℕ) (who : Who) (visit : Option ℕ) (a : Act) (m : Machine) →
    IsOwn name m (step name who visit a m).0
step-own name who visit a m = own_by name who visit a m m.owned refl

-- an answer says that a visit has begun
abbrev pub Joins : ℕ → Result PadReply Refusal → Type 0
Joins visit (Ok (pad.Joined now given)) = given ≡ visit
Joins visit (Ok (pad.Rejoined now given made last)) = given ≡ visit
Joins visit other = ⊥

-- the rooms after an act are unchanged, or one more if the session has joined, or some fewer
abbrev pub Kept : List ℕ → ℕ → Result PadReply Refusal → List Room → List Room → Type 0
Kept name cell answer rooms new =
    (new ≡ rooms)
    ⊎ (((visit : ℕ) × Joins visit answer
    × (new ≡ rooms ++ record { pad = name; cell = cell; visit = visit } ∷ []))
    ⊎ (new ≡ filter (λ room. not (is_of name room)) rooms))

pub rooms-kept : (name : List ℕ) (cell : ℕ) (a : Act) (answer : Result PadReply Refusal) (rooms : List Room) →
    Kept name cell answer rooms (rooms_after name cell a answer rooms)
rooms-kept name cell act.Join (Ok (pad.Joined now visit)) rooms = inr (inl (visit, refl, refl))
rooms-kept name cell (act.Rejoin old) (Ok (pad.Rejoined now visit made last)) rooms = inr (inl (visit, refl, refl))
rooms-kept name cell act.Leave (Ok (pad.Done now)) rooms = inr (inr refl)
rooms-kept name cell other answer rooms = inl refl
