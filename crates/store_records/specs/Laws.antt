-- The laws of records and restarts.
use Rattle.std.specs.Prelude.{◌≡◌, ℕ, ◌++◌, false, List, [], map, take, Some, Ok}
use Rattle.op_log.specs.Made.{last_visit}
use Rattle.pad_model.specs.declared.op.Op.{Op}
use Rattle.pad_model.specs.declared.who.Who.{Who}
use Rattle.sessions.specs.Session.{IsNamed}
use Rattle.sessions.specs.declared.session.Room.{Room}
use Rattle.pad_core.specs.Delivered.{IsDelivered}
use Rattle.pad_core.specs.Machine.{Machine, step, tick}
use Rattle.pad_core.specs.Restart.{restarted}
use Rattle.pad_core.specs.Times.{time_now, timed}
use Rattle.pad_core.specs.declared.act.Act.TheVariants.{Leave}
use Rattle.pad_core.specs.declared.request.Request.{Request}
use Rattle.server_core.specs.AtCell.{request_at}
use Rattle.server_core.specs.Rooms.{IsAsked}
use Rattle.server_core.specs.Served.{Visited}
use Rattle.store_records.specs.Leaves.{may_leave}
use Rattle.store_records.specs.Records.{Answer, rebuilt, records_of, replay_all, unnamed}
use Rattle.store_records.specs.declared.kept_record.Record.{Record}
use Rattle.store_records.specs.declared.kept_record.Record.TheVariants.{Delivered}

-- a request at a cell had this answer, and its pad delivered these operations
pub record Left (who : Who) (request : Request) (cell : ℕ) (rooms : List Room) (old : Machine)
    (answer : Answer)
    (new : List Room) (after : Machine) (more : List Op) : Type 0 where
  pub asked : IsAsked request
  pub named : IsNamed who
  pub visited : Visited who request rooms old (request_at who request cell rooms old) answer new
      after
  pub delivered : IsDelivered after.log
  pub grown : after.log ≡ old.log ++ more

-- the time that an operation of a pad gets now
abbrev pub now_at : Machine → ℕ
now_at m = time_now m.clock m.made.times

-- the visit in which the last operation of a pad was made, or 0: after a request, that of each operation that it delivered
abbrev pub visit_at : Machine → ℕ
visit_at m = last_visit m.made

-- a pad that delivered operations, with the time of now, in a visit
abbrev pub grown_by : ℕ → List Op → Machine → Machine
grown_by visit more m =
    record m { log = m.log ++ more; made = timed m.clock visit m.log (m.log ++ more) m.made }

-- the records of a request are never refused, and lead from the restarted pad before it to the restarted pad after it,
-- even if it was refused or out of memory, or a release was cut short
abbrev pub StepsLaw : Type 0
StepsLaw =
    (who : Who) (request : Request) (cell : ℕ) (rooms : List Room) (old : Machine) (answer : Answer)
    (new : List Room)
    (after : Machine) (more : List Op) →
    Left who request cell rooms old answer new after more
    → replay_all (records_of who request (now_at old) (visit_at after) answer more)
    (restarted old) ≡ Ok (restarted after)

-- a request that may leave no records leaves none
abbrev pub IdleLaw : Type 0
IdleLaw =
    (who : Who) (request : Request) (cell : ℕ) (rooms : List Room) (old : Machine) (answer : Answer)
    (new : List Room)
    (after : Machine) (more : List Op) →
    Left who request cell rooms old answer new after more → may_leave request ≡ false →
    records_of who request (now_at old) (visit_at after) answer more ≡ []

-- the end of a visit leaves a restarted pad unchanged
abbrev pub DeparturesLaw : Type 0
DeparturesLaw = (name : List ℕ) (who : Who) (visit : ℕ) (m : Machine)
    → restarted (step name who (Some visit) Leave m).1
    ≡ restarted m

-- the pad as a server with this replica number restarts with it, where at most this many visits may be present at once
abbrev pub restarted_by : ℕ → ℕ → Machine → Machine
restarted_by number most m = record (restarted m)
    { replica = number; presence = record (restarted m).presence { limit = most } }

-- the lives of a pad, by the numbers of its present server (its replica number and the most visits that may be present
-- at once), its records, and its state: requests, the clock and ends of visits, one after another, and starts of a server
-- with any numbers from some of the first records
pub data Life : ℕ → ℕ → List Record → Machine → Type 0 where
  begins : (replica present : ℕ) → Life replica present [] (unnamed replica present)
  asked : (replica present : ℕ) (records : List Record) (who : Who) (request : Request) (cell : ℕ)
      (rooms : List Room)
      (old : Machine) (answer : Answer) (new : List Room) (after : Machine) (more : List Op) →
      Life replica present records old → Left who request cell rooms old answer new after more →
      Life replica present (records ++ records_of who request (now_at old) (visit_at after) answer more) after
  ticked : (replica present : ℕ) (records : List Record) (clock : ℕ) (m : Machine) →
      Life replica present records m → Life replica present records (tick clock m)
  left : (replica present : ℕ) (records : List Record) (name : List ℕ) (who : Who) (visit : ℕ)
      (m : Machine) →
      Life replica present records m → Life replica present records
      (step name who (Some visit) Leave m).1
  starts_again : (replica present : ℕ) (records : List Record) (old : Machine)
      (count number most : ℕ) (m : Machine) →
      Life replica present records old → rebuilt number most (take count records) ≡ Ok m →
      Life number most (take count records) m

-- the records that a pad left in all its lives are never refused, and lead to the restarted pad
abbrev pub LivesLaw : Type 0
LivesLaw = (replica present : ℕ) (records : List Record) (m : Machine)
    → Life replica present records m →
    rebuilt replica present records ≡ Ok (restarted m)

-- a state that a pad had in lives that left some records and led to a pad, with the records that it had left by then:
-- before and after each request, within a request between the operations that it delivered, and before a start
pub data Had : ℕ → ℕ → List Record → Machine → List Record → Machine → Type 0 where
  last : (replica present : ℕ) (records : List Record) (m : Machine)
      → Life replica present records m →
      Had replica present records m records m
  within : (replica present : ℕ) (records : List Record) (who : Who) (request : Request) (cell : ℕ)
      (rooms : List Room)
      (old : Machine) (answer : Answer) (new : List Room) (after : Machine) (first rest : List Op) →
      Life replica present records old → Left who request cell rooms old answer new after
      (first ++ rest) →
      Had replica present (records ++ records_of who request (now_at old) (visit_at after) answer (first ++ rest)) after
      (records ++ map (Delivered (now_at old) (visit_at after)) first) (grown_by (visit_at after) first old)
  earlier : (replica present : ℕ) (records : List Record) (who : Who) (request : Request) (cell : ℕ)
      (rooms : List Room)
      (old : Machine) (answer : Answer) (new : List Room) (after : Machine) (more : List Op)
      (before : List Record)
      (m : Machine) →
      Had replica present records old before m
      → Left who request cell rooms old answer new after more →
      Had replica present (records ++ records_of who request (now_at old) (visit_at after) answer more) after before m
  unticked : (replica present : ℕ) (records : List Record) (clock : ℕ) (old : Machine)
      (before : List Record) (m : Machine) →
      Had replica present records old before m →
      Had replica present records (tick clock old) before m
  unended : (replica present : ℕ) (records : List Record) (name : List ℕ) (who : Who) (visit : ℕ)
      (old : Machine)
      (before : List Record) (m : Machine) →
      Had replica present records old before m →
      Had replica present records (step name who (Some visit) Leave old).1 before m
  before_start : (replica present : ℕ) (records : List Record) (old : Machine)
      (count number most : ℕ) (again : Machine)
      (before : List Record) (m : Machine) →
      Had replica present records old before m → rebuilt number most (take count records) ≡ Ok again
      →
      Had number most (take count records) again before m

-- the first records of a pad's lives, however many, are never refused, and on a server with any numbers they lead to
-- the pad, restarted, as it was when it had left exactly these records
abbrev pub FrontsLaw : Type 0
FrontsLaw =
    (replica present : ℕ) (records : List Record) (m : Machine) (count : ℕ)
    → Life replica present records m →
    (had : Machine) × Had replica present records m (take count records) had
    × ((number most : ℕ) → rebuilt number most (take count records)
    ≡ Ok (restarted_by number most had))
