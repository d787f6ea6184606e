-- A note that is in its queue keeps what a request leaves.
use Rattle.std.proofs.Common.{◌≡◌, List, Result, Ok, Err, MatchResult, OnOk, inr, subst, sym}
use Rattle.pad_model.specs.declared.op.Op.{Op}
use Rattle.pad_model.specs.declared.refusal.Refusal.{Refusal}
use Rattle.store_records.specs.Records.{records_of}
use Rattle.shared_pads.specs.declared.gate.Answered.{Answered}
use Rattle.group_commit.specs.Notes.{NothingSettles, WasQueued}
use Rattle.group_commit.specs.declared.queue.Note.{Note}
use Rattle.store_files.specs.Noting.{AreQueued, IsKept}

pub kept_by_note : {A E : Type 0} (told : Answered) (items : List Op) (note : Note) (r : Result A E) → told.more.now ≡ Ok items
    → note.records.items ≡ records_of told.who.now told.request.now told.at told.visit told.answer.now items → OnOk r (WasQueued told.cell note) →
    OnOk r (IsKept told)
kept_by_note told items note (Ok made) is same queued =
    inr (subst (λ (m : Result (List Op) Refusal). MatchResult m
    (λ (ops : List Op). AreQueued told.cell (records_of told.who.now told.request.now told.at told.visit told.answer.now ops))
    (λ (e : Refusal). NothingSettles)) (sym is) (inr (note, same, queued)))
kept_by_note told items note (Err e) is same queued = tt
