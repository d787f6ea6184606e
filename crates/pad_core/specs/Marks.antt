-- Which revisions of a pad have a name.
use Rattle.std.specs.Prelude.{ℕ, nat_lt, if◌then◌else◌, List, Result, Ok, Err}
use Rattle.pad_model.specs.declared.refusal.Refusal.{Refusal}
use Rattle.pad_model.specs.declared.refusal.Refusal.TheVariants.{NoRevision}
use Rattle.named_revisions.specs.Named.{add}
use Rattle.named_revisions.specs.declared.named_revision.NamedRevision.{NamedRevision}
use Rattle.pad_core.specs.Grants.{told_done}
use Rattle.pad_core.specs.declared.reply.PadReply.{PadReply}
use Rattle.pad_core.specs.declared.reply.PadReply.TheVariants as reply

-- a revision up to the present one gets a name
abbrev pub named : ℕ → NamedRevision → List NamedRevision → Result (Unit {0}) Refusal × List NamedRevision
named now this all = if nat_lt now this.rev then (Err NoRevision, all) else add this all

-- a revision gets a name, and the reply says so
abbrev pub mark : ℕ → NamedRevision → List NamedRevision → Result PadReply Refusal × List NamedRevision
mark now this all = (told_done now (named now this all).0, (named now this all).1)

-- all revisions with a name, in the order in which they were named
abbrev pub read_marks : ℕ → List NamedRevision → Result PadReply Refusal
read_marks now all = Ok (reply.Marks now all)
