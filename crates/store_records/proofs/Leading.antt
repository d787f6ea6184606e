-- What it means that records lead from a restarted pad to another.
use Rattle.std.proofs.Common.{◌≡◌, ℕ, ◌+◌, Bool, true, false, cond, List, ◌++◌}
use Rattle.std.proofs.Common.{Ok}
use Rattle.pad_model.specs.declared.op.Op.{Op}
use Rattle.pad_core.specs.Delivered.{IsDelivered}
use Rattle.pad_core.specs.Machine.{Machine}
use Rattle.pad_core.specs.Restart.{restarted}
use Rattle.store_records.specs.Laws.{now_at, visit_at}
use Rattle.store_records.specs.Records.{Answer, replay_all}
use Rattle.store_records.specs.declared.kept_record.Record.{Record}

-- some records lead from a pad to another, which delivered these operations
abbrev pub Leads : (ℕ → ℕ → Answer → List Op → List Record) → Machine → Answer → Machine → Type 0
Leads records old answer after = (more : List Op) → after.log ≡ old.log ++ more → IsDelivered after.log →
    replay_all (records (now_at old) (visit_at after) answer more) (restarted old) ≡ Ok (restarted after)

pub either : {A : Type 0} (P : A → Type 0) (b : Bool) (x y : A) → P x → P y → P (cond b x y)
either P true x y p q = p
either P false x y p q = q
