-- What a log answers about a revision that it has.
use Rattle.std.proofs.Common.{◌≡◌, ◌≤◌, ℕ, inr, List, length, Option, Some, None, Result, Ok, sym, ap, ap₂, ◌∙◌, subst}
use Rattle.std.proofs.Common.{unwrap_or, le-ltb}
use Rattle.pad_model.specs.Visible.{text_of}
use Rattle.pad_model.specs.declared.op.Op.{Op}
use Rattle.pad_model.specs.declared.refusal.Refusal.{Refusal}
use Rattle.pad_core.specs.Counts.{characters_at}
use Rattle.pad_model.specs.Answers.{Tells}
use Rattle.pad_core.specs.Reads.{at_revision, read_text, revision_of}
use Rattle.pad_core.specs.declared.reply.PadReply.{PadReply}
use Rattle.pad_core.specs.declared.reply.PadReply.TheVariants.{Text}

-- the revision that is asked for
asked_for : (asked : Option ℕ) (log : List Op) (now rev : ℕ) → now ≡ length log → rev ≡ unwrap_or asked now →
    revision_of asked log ≡ rev
asked_for None log now rev now_is rev_is = sym (rev_is ∙ now_is)
asked_for (Some other) log now rev now_is rev_is = sym rev_is

-- the text of a revision is read
pub text_told : (asked : Option ℕ) (log : List Op) (now rev : ℕ) (text : List ℕ) → now ≡ length log →
    rev ≡ unwrap_or asked now → rev ≤ now → text ≡ text_of (characters_at rev log) → Tells (read_text asked log)
    (Ok (Text now rev text))
text_told asked log now rev text now_is rev_is there text_is =
    inr (ap (λ r. at_revision r log (Text (length log) r (text_of (characters_at r log))))
    (asked_for asked log now rev now_is rev_is)
    ∙ rw (le-ltb (length log) rev (subst (λ n. rev ≤ n) now_is there))
    (ap₂ (λ (n : ℕ) (t : List ℕ). (let reply : Result PadReply Refusal = Ok (Text n rev t) in reply)) (sym now_is)
    (sym text_is)))
