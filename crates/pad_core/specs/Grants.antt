-- Who has which right on a pad.
use Rattle.std.specs.Prelude.{ℕ, Bool, List, Option, Result, Ok, Err, bytes_eq, if◌then◌else◌}
use Rattle.pad_model.specs.declared.refusal.Refusal.{Refusal}
use Rattle.pad_model.specs.declared.refusal.Refusal.TheVariants.{Denied}
use Rattle.rights.specs.Rights.{Rights, grant as granted, hand as handed, listed}
use Rattle.rights.specs.declared.grantee.Grantee.{Grantee}
use Rattle.rights.specs.declared.right.Right.{Right}
use Rattle.pad_core.specs.declared.reply.PadReply.{PadReply}
use Rattle.pad_core.specs.declared.reply.PadReply.TheVariants as reply

-- the reply to what is done, unless it is refused
abbrev pub told_done : ℕ → Result (Unit {0}) Refusal → Result PadReply Refusal
told_done now (Ok _) = Ok (reply.Done now)
told_done now (Err refusal) = Err refusal

-- a right is given, or taken away
abbrev pub grant : ℕ → Grantee → Option Right → Rights → Result PadReply Refusal × Rights
grant now grantee right book = (
  told_done now (granted book grantee right).0,
  (granted book grantee right).1,
)

-- a pad is handed over to an author, by its owner alone
abbrev pub hand : ℕ → List ℕ → List ℕ → Rights → Result PadReply Refusal × Rights
hand now asker author book =
    if bytes_eq asker book.owner
    then (told_done now (handed book author).0, (handed book author).1)
    else (Err Denied, book)

-- whether the pad is closed, and all who have a right
abbrev pub read_rights : ℕ → Bool → Rights → Result PadReply Refusal
read_rights now closed book = Ok (reply.Rights now closed (listed book))
