-- The records of a pad, and how it is rebuilt from them.
use Rattle.std.specs.Prelude.{ℕ, true, List, [], ◌∷◌, map, fold, Option, Some, None, Result, Ok, Err}
use Rattle.op_log.specs.Made.{nothing_made}
use Rattle.pad_model.specs.declared.op.Op.{Op}
use Rattle.pad_model.specs.declared.refusal.Refusal.{Refusal}
use Rattle.pad_model.specs.declared.who.Who.{Who}
use Rattle.pad_model.specs.declared.who.Who.TheVariants.{Author}
use Rattle.pad_core.specs.Machine.{Machine, nobody_present}
use Rattle.pad_core.specs.Restart.{restore_claim, restore_closed, restore_grant, restore_hand, restore_introduction}
use Rattle.pad_core.specs.Restart.{restore_mark, restore_operation, restore_visit}
use Rattle.pad_core.specs.declared.act.Act.{Act}
use Rattle.pad_core.specs.declared.act.Act.TheVariants as act
use Rattle.pad_core.specs.declared.reply.Reply.{Reply}
use Rattle.pad_core.specs.declared.request.Request.{Request}
use Rattle.pad_core.specs.declared.request.Request.TheVariants as request
use Rattle.store_records.specs.declared.kept_record.Record.{Record}
use Rattle.store_records.specs.declared.kept_record.Record.TheVariants.{Named, Granted, Handed, Closed, Marked, Introduced, Visited, Delivered}

-- a record is applied to a pad
abbrev pub replay : Record → Machine → Result (Unit {0}) Refusal × Machine
replay (Named name owner visits) m = restore_claim name owner visits m
replay (Granted grantee right) m = restore_grant grantee right m
replay (Handed author) m = restore_hand author m
replay (Closed closed) m = restore_closed closed m
replay (Marked named) m = restore_mark named m
replay (Introduced guest) m = restore_introduction guest m
replay (Visited author) m = restore_visit author m
replay (Delivered at visit op) m = restore_operation op at visit m

-- the pad after a record, unless it was refused
abbrev pub unless_refused : Result (Unit {0}) Refusal × Machine → Result Machine Refusal
unless_refused (Ok _, m) = Ok m
unless_refused (Err refusal, m) = Err refusal

-- one more record is applied, unless one before it was refused
abbrev pub replayed : Result Machine Refusal → Record → Result Machine Refusal
replayed (Ok m) kept = unless_refused (replay kept m)
replayed (Err refusal) kept = Err refusal

-- the pad that records lead to from another pad, or the refusal of the first record that is refused
abbrev pub replay_all : List Record → Machine → Result Machine Refusal
replay_all records m = fold replayed (Ok m) records

-- an unnamed pad on the server with a replica number, where at most this many visits may be present at once
abbrev pub unnamed : ℕ → ℕ → Machine
unnamed replica present = record {
  owned = None;
  replica = replica;
  log = [];
  held = [];
  presence = nobody_present present;
  clock = 0;
  made = nothing_made;
}

-- the pad that records lead to from an unnamed pad
abbrev pub rebuilt : ℕ → ℕ → List Record → Result Machine Refusal
rebuilt replica present records = replay_all records (unnamed replica present)

-- the answer of a cell, or nothing if its pad has another name
abbrev pub Answer : Type 0
Answer = Result (Option Reply) Refusal

-- the record of a pad that was created: its name and owner, and that visits are recorded
abbrev pub claim_records : Who → List ℕ → Answer → List Record
claim_records (Author owner) name (Ok (Some reply)) = Named name owner true ∷ []
claim_records who name answer = []

-- the record of a revision that an author named at a time
abbrev pub mark_records : Who → ℕ → List ℕ → ℕ → Answer → List Record
mark_records (Author author) rev text at (Ok (Some reply)) = Marked (record {
  rev = rev;
  author = author;
  at = at;
  text = text;
}) ∷ []
mark_records who rev text at answer = []

-- the record of a display name that a guest gave itself
abbrev pub introduction_records : Who → List ℕ → Answer → List Record
introduction_records (Author author) display (Ok (Some reply)) = Introduced (record {
  author = author;
  display = display;
}) ∷ []
introduction_records who display answer = []

-- the record of a visit that an author began
abbrev pub visit_records : Who → Answer → List Record
visit_records (Author author) (Ok (Some reply)) = Visited (Some author) ∷ []
visit_records who answer = []

-- the records of an act: a visit after a join, a right after a grant, an owner after a hand-over, that a pad was closed or
-- opened again, a name of a revision or of a guest, and otherwise the operations that were delivered, at the time and in the visit that they had
abbrev pub act_records : Who → Act → ℕ → ℕ → Answer → List Op → List Record
act_records who act.Join at visit answer more = visit_records who answer
act_records who (act.Rejoin old) at visit answer more = visit_records who answer
act_records who (act.Grant grantee right) at visit (Ok (Some reply)) more = Granted grantee right ∷ []
act_records who (act.Hand author) at visit (Ok (Some reply)) more = Handed author ∷ []
act_records who (act.SetClosed closed) at visit (Ok (Some reply)) more = Closed closed ∷ []
act_records who (act.Mark rev text) at visit answer more = mark_records who rev text at answer
act_records who (act.Introduce display) at visit answer more = introduction_records who display answer
act_records who other at visit answer more = map (Delivered at visit) more

-- the records of a request at a cell, by the time that operations had then, their visit, its answer, and the operations
-- that it delivered
abbrev pub records_of : Who → Request → ℕ → ℕ → Answer → List Op → List Record
records_of who (request.Create name) at visit answer more = claim_records who name answer
records_of who (request.On name act) at visit answer more = act_records who act at visit answer more
records_of who other at visit answer more = []
