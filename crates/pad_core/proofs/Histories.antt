-- Induction along a log that was made operation by operation.
use Rattle.std.proofs.Common.{◌≡◌, ℕ, ◌+◌, true, false, List, [], ◌∷◌, ◌++◌, take, drop, sym, subst, arith, append-nil}
use Rattle.std.proofs.Common.{append_assoc, take-append-drop}
use Rattle.std.specs.List.{list_any}
use Rattle.pad_model.specs.Checked.{is_checked}
use Rattle.pad_model.specs.History.{Continues, IsHistory}
use Rattle.pad_model.specs.Log.{is_valid, same_name}
use Rattle.pad_model.specs.Seen.{count_in}
use Rattle.pad_model.specs.declared.op.Op.{Op}
use Rattle.pad_model.specs.declared.seen.Counted.{Counted}
use Rattle.pad_model.proofs.Growth.{IsHistory-push}
use Rattle.pad_core.specs.Counts.{AreNumbered, counted, vector_of}
use Rattle.pad_core.proofs.Counted.{vector_of-push, AreNumbered-push, name_fresh}

-- an operation that a log may take next
pub record Follows (log : List Op) (op : Op) : Type 0 where
  pub history : IsHistory log
  pub numbered : AreNumbered [] log
  pub checked : is_checked op ≡ true
  pub valid : is_valid op log ≡ true
  pub next : op.name.number ≡ count_in (vector_of log) op.name.origin + 1

grown_on : (P : List Op → Type 0) → ((log : List Op) (op : Op) → Follows log op → P log → P (log ++ op ∷ [])) →
    (before more : List Op) → IsHistory before → AreNumbered [] before → P before → Continues before more →
    AreNumbered (vector_of before) more → P (before ++ more)
grown_on P one before [] h n p c m = subst P (sym (append-nil before)) p
grown_on P one before (op ∷ more) h n p c m =
    let follows : Follows before op = record { history = h; numbered = n; checked = c.0; valid = c.1; next = m.0 } in
    subst P (append_assoc before (op ∷ []) more)
    (grown_on P one (before ++ op ∷ []) more (IsHistory-push before op h c.0 c.1) (AreNumbered-push before op n m.0)
    (one before op follows p) c.2 (subst (λ v. AreNumbered v more) (sym (vector_of-push before op)) m.1))

-- what holds of no operations, and goes on from each log by an operation that may follow, holds of each log
pub grown : (P : List Op → Type 0) → P [] → ((log : List Op) (op : Op) → Follows log op → P log → P (log ++ op ∷ [])) →
    (log : List Op) → IsHistory log → AreNumbered [] log → P log
grown P none one log h n = grown_on P one [] log tt tt none h n

-- the name of an operation that may follow is new
pub name_new : (log : List Op) (op : Op) → Follows log op → list_any (λ one. same_name one.name op.name) log ≡ false
name_new log op follows = let next : op.name.number ≡ count_in (vector_of log) op.name.origin + 1 = follows.next in
    name_fresh log op.name follows.numbered (omega arith)

numbered_part : (seen : List Counted) (log rest : List Op) → AreNumbered seen (log ++ rest) → AreNumbered seen log
numbered_part seen [] rest n = tt
numbered_part seen (op ∷ log) rest n = (n.0, numbered_part (counted seen op) log rest n.1)

-- the first operations of a log are numbered as it is
pub AreNumbered-take : (log : List Op) (k : ℕ) → AreNumbered [] log → AreNumbered [] (take k log)
AreNumbered-take log k n = numbered_part [] (take k log) (drop k log)
    (subst (AreNumbered []) (sym (take-append-drop k log)) n)
