-- A pad whose rights were given again after a restart.
use Rattle.std.proofs.Common.{◌≡◌, ℕ, true, inl, inr, List, Option, Some, None, Result, ap, sym, subst}
use Rattle.std.specs.Prelude.{IsTrue}
use Rattle.pad_model.specs.Answers.{Answers}
use Rattle.pad_model.specs.Checked.{is_name}
use Rattle.pad_model.specs.declared.refusal.Refusal.{Refusal}
use Rattle.rights.specs.Rights.{can_have}
use Rattle.rights.specs.declared.grantee.Grantee.{Grantee}
use Rattle.rights.specs.declared.right.Right.{Right}
use Rattle.rights.proofs.CallerLemmas.{can_have_name, grant_has, hand_has}
use Rattle.presence.specs.Presence.{Presence}
use Rattle.pad_core.specs.Machine.{IsOwned}
use Rattle.pad_core.specs.Restart.{granted_again, handed_again}
use Rattle.pad_core.specs.declared.owned.Owned.{Owned}

names_stay : (grantee : Grantee) (right : Option Right) (o : Option Owned) (p : Presence) →
    can_have grantee right ≡ true → IsOwned o p → IsOwned (granted_again grantee right o).1 p
names_stay grantee right None p can kept = kept
names_stay grantee right (Some owned) p can kept =
    let names = grant_has (λ n. IsTrue (is_name n)) owned.rights grantee right (can_have_name grantee right can)
    (kept.0, kept.1) in
    (names.0, names.1, kept.2)

-- each author with a right has a name, also after a grant to who can have it
pub owned_again : (grantee : Grantee) (right : Option Right) (o new : Option Owned) (p : Presence)
    (result : Result (Unit {0}) Refusal) → can_have grantee right ≡ true → IsOwned o p →
    Answers o (granted_again grantee right o) result new → IsOwned new p
owned_again grantee right o new p result can kept (inl (told, same, ok)) = subst (λ x. IsOwned x p) (sym same) kept
owned_again grantee right o new p result can kept (inr is) = subst (λ x. IsOwned x p) (ap (λ d. d.1) is)
    (names_stay grantee right o p can kept)

names_stay_handed : (author : List ℕ) (o : Option Owned) (p : Presence) → IsTrue (is_name author) → IsOwned o p →
    IsOwned (handed_again author o).1 p
names_stay_handed author None p one kept = kept
names_stay_handed author (Some owned) p one kept =
    let names = hand_has (λ n. IsTrue (is_name n)) owned.rights author one (kept.0, kept.1) in
    (names.0, names.1, kept.2)

-- so has each after a hand-over to a name
pub handed_over : (author : List ℕ) (o new : Option Owned) (p : Presence) (result : Result (Unit {0}) Refusal) →
    IsTrue (is_name author) → IsOwned o p → Answers o (handed_again author o) result new → IsOwned new p
handed_over author o new p result one kept (inl (told, same, ok)) = subst (λ x. IsOwned x p) (sym same) kept
handed_over author o new p result one kept (inr is) = subst (λ x. IsOwned x p) (ap (λ d. d.1) is)
    (names_stay_handed author o p one kept)
