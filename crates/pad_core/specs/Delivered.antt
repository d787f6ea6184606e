-- The logs that a pad can have, and what it keeps beside one.
use Rattle.std.specs.Prelude.{◌≡◌, ℕ, ◌≤◌, not, if◌then◌else◌, List, [], ◌∷◌, ◌++◌, length, Option, Some, Result, Ok}
use Rattle.std.specs.Prelude.{count_by}
use Rattle.pad_model.specs.Answers.{Answers}
use Rattle.pad_model.specs.Cell.{Cell}
use Rattle.pad_model.specs.History.{IsHistory, cells_of}
use Rattle.pad_model.specs.Log.{is_comment, is_valid, limit_passed}
use Rattle.pad_model.specs.Operation.{characters_in, erased_by}
use Rattle.pad_model.specs.Visible.{hidden_by}
use Rattle.pad_model.specs.declared.op.Op.{Op}
use Rattle.pad_model.specs.declared.seen.Counted.{Counted}
use Rattle.pad_model.specs.declared.refusal.Refusal.{Refusal}
use Rattle.pad_model.specs.declared.refusal.Refusal.TheVariants.{PeerFault}
use Rattle.pad_model.specs.declared.limits.TheConstants.{MAX_CHARACTERS, MAX_OPERATIONS, MAX_COMMENTS}
use Rattle.comments.specs.declared.comment.Comment.{Comment}
use Rattle.pad_core.specs.Book.{book_of}
use Rattle.pad_core.specs.Counts.{AreNumbered, AreTimely, vector_of}

-- why an operation is not delivered, if so: it does not fit the log, or it would exceed a limit of the pad
abbrev pub delivery_refusal : Op → List Op → Option Refusal
delivery_refusal op log = if not (is_valid op log) then Some PeerFault else limit_passed op log

-- a log that was made operation by operation, each in the limits, valid at its place, the next of its origin, and after
-- all that it had seen; and the limits of a pad
pub record IsDelivered (log : List Op) : Type 0 where
  pub history : IsHistory log
  pub numbered : AreNumbered [] log
  pub timely : AreTimely [] log
  pub room : length (characters_in log).inserted ≤ MAX_CHARACTERS
  pub short : length log ≤ MAX_OPERATIONS
  pub few : count_by is_comment log ≤ MAX_COMMENTS

-- such a log, its counts, its comments, and a sequence of just its cells
pub record IsLedger (log : List Op) (seen : List Counted) (comments : List Comment)
    (cells : List Cell) : Type 0 where
  pub delivered : IsDelivered log
  pub counted : seen ≡ vector_of log
  pub commented : comments ≡ book_of log
  pub kept : cells ≡ cells_of log

-- an operation was entered after a log: the cells and the comments are those of the longer log, and the result is the
-- number of visible characters that it hides; or there was no memory, and they are as before
abbrev pub Enters : List Op → Op → List Cell × List Comment → Result ℕ Refusal
    → List Cell × List Comment → Type 0
Enters log op old result new = Answers old (
  Ok (hidden_by (erased_by op) (characters_in log)),
  (cells_of (log ++ op ∷ []), book_of (log ++ op ∷ [])),
) result new
