-- How a session is stored, and how callers see it.
use Rattle.std.specs.Prelude.{◌-◌, ◌≤◌, vec_len}
use Rattle.std.specs.Vec.{vec_capacity}
use Rattle.sessions.specs.Session.{Session, IsNamed}
use Rattle.sessions.specs.declared.session.Session.TheInside.{Inside}

-- who the session belongs to, its rooms, and the spare capacity of their vector
abbrev pub session_of : Inside → Session
session_of s = record {
  who = s.who;
  rooms = s.rooms.items;
  spare = vec_capacity s.rooms - vec_len s.rooms;
}

-- the author's name is well formed, and the vector holds no more than its capacity
pub record IsSoundSession (s : Inside) : Type 0 where
  pub named : IsNamed s.who
  pub fits : vec_len s.rooms ≤ vec_capacity s.rooms
