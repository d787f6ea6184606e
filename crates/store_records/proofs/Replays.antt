-- Records that are replayed one after another.
use Rattle.std.proofs.Common.{◌≡◌, ◌⊎◌, inl, inr, List, [], ◌∷◌, fold, Result, Err, refl, sym, ap, ◌∙◌}
use Rattle.pad_model.specs.Answers.{Answers}
use Rattle.pad_model.specs.declared.refusal.Refusal.{Refusal}
use Rattle.pad_model.specs.declared.refusal.Refusal.TheVariants.{Memory}
use Rattle.pad_core.specs.Machine.{Machine}
use Rattle.store_records.specs.Records.{replay, replay_all, replayed, unless_refused}
use Rattle.store_records.specs.declared.kept_record.Record.{Record}

refused_stays : (records : List Record) (e : Refusal) → fold replayed (Err e) records ≡ Err e
refused_stays [] e = refl
refused_stays (x ∷ records) e = refused_stays records e

-- the first refusal is that of the whole
pub ends : (m new : Machine) (x : Record) (rest after : List Record) (result : Result (Unit {0}) Refusal)
    (whole : Result Machine Refusal) (e : Refusal) → rest ≡ x ∷ after → Answers m (replay x m) result new →
    result ≡ Err e → replay_all rest m ≡ whole → (e ≡ Memory) ⊎ (whole ≡ Err e)
ends m new x rest after result whole e is (inl (told, same, ok)) done h = inl (same_refusal (sym done ∙ told))
  where
    same_refusal : (let r : Result (Unit {0}) Refusal = Err e in r) ≡ Err Memory → e ≡ Memory
    same_refusal q = cc
ends m new x rest after result whole e is (inr did) done h =
    inr (sym h ∙ (ap (λ rs. replay_all rs m) is
    ∙ (ap (λ (d : Result (Unit {0}) Refusal × Machine). fold replayed (unless_refused d) after) did
    ∙ (ap (λ (r : Result (Unit {0}) Refusal). fold replayed (unless_refused (r, new)) after) done
    ∙ refused_stays after e))))
