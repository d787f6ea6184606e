-- What is known of an author who was admitted to an act.
use Rattle.std.proofs.Common.{◌≡◌, ℕ, Bool, true, false, not, ◌&&◌, cond, nat_le, List, [], ◌∷◌, Option, Some, None}
use Rattle.std.proofs.Common.{unwrap_or, Result, Ok, Err, IsTrue, refl, sym, ap, ap₂, ◌∙◌, subst}
use Rattle.std.proofs.lemmas.Bool.{and_parts}
use Rattle.std.specs.List.{list_any}
use Rattle.std.specs.Str.{bytes_eq}
use Rattle.pad_model.specs.Checked.{is_name}
use Rattle.pad_model.specs.declared.refusal.Refusal.{Refusal}
use Rattle.pad_model.specs.declared.refusal.Refusal.TheVariants.{NotJoined, BadName}
use Rattle.pad_model.proofs.Newer.{split}
use Rattle.rights.specs.Rights.{can_have, may}
use Rattle.rights.specs.declared.grantee.Grantee.{Grantee}
use Rattle.rights.proofs.CallerLemmas.{may_has}
use Rattle.rights.specs.declared.right.Right.{Right}
use Rattle.rights.specs.declared.right.Right.TheVariants as right
use Rattle.presence.specs.Presence.{Presence, has_number, is_joined_by}
use Rattle.presence.specs.declared.presence.Visit.{Visit}
use Rattle.pad_core.specs.Closing.{is_shut, or_closed}
use Rattle.pad_core.specs.Machine.{IsAdmitted, IsOwned, Machine, author_act, author_refusal, author_step, names_badly}
use Rattle.pad_core.specs.Machine.{need_of, need_refusal, or_denied, visit_refusal}
use Rattle.pad_core.specs.declared.act.Act.{Act}
use Rattle.pad_core.specs.declared.act.Act.TheVariants as act
use Rattle.pad_core.specs.declared.admit.Need.{Need}
use Rattle.pad_core.specs.declared.admit.Need.TheVariants.{AnyVisit, Visit as WithRight}
use Rattle.pad_core.specs.declared.owned.Owned.{Owned}

unless : (b : Bool) (r : Refusal) (rest : Option Refusal) → cond b (Some r) rest ≡ None → (b ≡ false) × (rest ≡ None)
unless true r rest e = absurd (cc)
unless false r rest e = (refl, e)

not_denied : (r : Option Refusal) (b : Bool) → or_denied r b ≡ None → (r ≡ None) × (b ≡ true)
not_denied (Some x) b e = absurd (cc)
not_denied None true e = (refl, refl)
not_denied None false e = absurd (cc)

pub number_there : (visit : ℕ) (name : List ℕ) (present : List Visit) → is_joined_by visit name present ≡ true →
    list_any (has_number visit) present ≡ true
number_there visit name [] e = e
number_there visit name (v ∷ present) e =
    split (has_number visit v)
    (λ here. rw here refl)
    (λ other. rw other (number_there visit name present
    (sym (ap (λ b. Rattle.std.proofs.Common.◌||◌ (b && bytes_eq v.author name) (is_joined_by visit name present)) other)
    ∙ e)))

joined : (b : Bool) → cond (not b) (Some NotJoined) None ≡ None → b ≡ true
joined true q = refl
joined false q = absurd (cc)

there : (p : Presence) (name : List ℕ) (visit : Option ℕ) → visit_refusal p name visit false ≡ None →
    list_any (has_number (unwrap_or visit 0)) p.present ≡ true
there p name None e = absurd (cc)
there p name (Some visit) e = number_there visit name p.present (joined (is_joined_by visit name p.present) e)

not_closed : (r : Option Refusal) (b : Bool) → or_closed r b ≡ None → r ≡ None
not_closed (Some x) b e = absurd (cc)
not_closed None b e = refl

-- the act's need was met
need_met : (owned : Owned) (p : Presence) (name : List ℕ) (visit : Option ℕ) (act : Act) (need : Need) →
    author_refusal owned p name visit act ≡ None → need_of act ≡ need →
    need_refusal owned.rights p name visit need ≡ None
need_met owned p name visit act need h e =
    ap (λ n. need_refusal owned.rights p name visit n) (sym e)
    ∙ not_closed (need_refusal owned.rights p name visit (need_of act)) (is_shut owned name (need_of act))
    (unless (names_badly act) BadName (or_closed (need_refusal owned.rights p name visit (need_of act))
    (is_shut owned name (need_of act))) h).1

-- who leaves is present with this visit
pub admitted_leaver : (o : Option Owned) (p : Presence) (name : List ℕ) (visit : Option ℕ) (act : Act) →
    IsAdmitted o p name visit act → need_of act ≡ AnyVisit → list_any (has_number (unwrap_or visit 0)) p.present ≡ true
admitted_leaver None p name visit act h e = absurd h
admitted_leaver (Some owned) p name visit act h e = there p name visit (need_met owned p name visit act AnyVisit h e)

-- so is whoever does what takes a right
pub admitted_visitor : (o : Option Owned) (p : Presence) (name : List ℕ) (visit : Option ℕ) (act : Act)
    (least : Right) → IsAdmitted o p name visit act → need_of act ≡ WithRight least →
    list_any (has_number (unwrap_or visit 0)) p.present ≡ true
admitted_visitor None p name visit act least h e = absurd h
admitted_visitor (Some owned) p name visit act least h e =
    there p name visit (not_denied (visit_refusal p name visit false) (may owned.rights name least)
    (need_met owned p name visit act (WithRight least) h e)).0

-- and so has whoever does what takes one
pub admitted_name : (o : Option Owned) (p : Presence) (name : List ℕ) (visit : Option ℕ) (act : Act) (least : Right) →
    IsOwned o p → IsAdmitted o p name visit act → need_of act ≡ WithRight least → IsTrue (is_name name)
admitted_name None p name visit act least owned h e = absurd h
admitted_name (Some o) p name visit act least owned h e =
    may_has (λ n. IsTrue (is_name n)) o.rights name least owned.0 owned.1 (λ named. named)
    (not_denied (visit_refusal p name visit false) (may o.rights name least)
    (need_met o p name visit act (WithRight least) h e)).1

good_name : (b : Bool) → (not b) ≡ false → b ≡ true
good_name true q = refl
good_name false q = absurd (Rattle.std.proofs.lemmas.Bool.true≢false q)

-- who is granted a right can have it
pub admitted_grant : (o : Option Owned) (p : Presence) (name : List ℕ) (visit : Option ℕ) (grantee : Grantee)
    (given : Option Right) → IsAdmitted o p name visit (act.Grant grantee given) → can_have grantee given ≡ true
admitted_grant None p name visit grantee given h = absurd h
admitted_grant (Some o) p name visit grantee given h = good_name (can_have grantee given)
    (unless (not (can_have grantee given)) BadName (or_closed (need_refusal o.rights p name visit (WithRight right.Own))
    (is_shut o name (WithRight right.Own))) h).0

-- whom a pad is handed over to has a name
pub admitted_hand : (o : Option Owned) (p : Presence) (name : List ℕ) (visit : Option ℕ) (author : List ℕ) →
    IsAdmitted o p name visit (act.Hand author) → IsTrue (is_name author)
admitted_hand None p name visit author h = absurd h
admitted_hand (Some o) p name visit author h = good_name (is_name author)
    (unless (not (is_name author)) BadName (or_closed (need_refusal o.rights p name visit (WithRight right.Own))
    (is_shut o name (WithRight right.Own))) h).0

-- a pad on which somebody was admitted has a name, so that what is kept of its rights does not depend on who is present
pub owned_stays : (o : Option Owned) (p now : Presence) (name : List ℕ) (visit : Option ℕ) (act : Act) →
    IsAdmitted o p name visit act → IsOwned o p → IsOwned o now
owned_stays None p now name visit act h owned = absurd h
owned_stays (Some o) p now name visit act h owned = owned

-- who is admitted does the act
pub admitted_step : (lent owned : Owned) (inside p : Presence) (name : List ℕ) (visit : Option ℕ) (this : Act)
    (m : Machine) (refused : Option Refusal) → refused ≡ author_refusal lent inside name visit this →
    refused ≡ None → Some lent ≡ Some owned → inside ≡ m.presence →
    author_step owned name visit this m ≡ author_act owned name (unwrap_or visit 0) this m
admitted_step lent owned inside p name visit this m refused is none same there =
    let free : author_refusal owned m.presence name visit this ≡ None =
    ap₂ (λ (o : Owned) (q : Presence). author_refusal o q name visit this) (sym (same_owned lent owned same))
    (sym there) ∙ sym is ∙ none in
    rw free refl
  where
    same_owned : (a b : Owned) → Some a ≡ Some b → a ≡ b
    same_owned a b q = cc

-- who is not is refused
pub refused_step : (lent owned : Owned) (inside p : Presence) (name : List ℕ) (visit : Option ℕ) (this : Act)
    (m : Machine) (refused : Option Refusal) (refusal : Refusal) →
    refused ≡ author_refusal lent inside name visit this → refused ≡ Some refusal → Some lent ≡ Some owned →
    inside ≡ m.presence →
    author_step owned name visit this m ≡ (Err refusal, m)
refused_step lent owned inside p name visit this m refused refusal is some same there =
    let why : author_refusal owned m.presence name visit this ≡ Some refusal =
    ap₂ (λ (o : Owned) (q : Presence). author_refusal o q name visit this) (sym (same_owned lent owned same))
    (sym there) ∙ sym is ∙ some in
    rw why refl
  where
    same_owned : (a b : Owned) → Some a ≡ Some b → a ≡ b
    same_owned a b q = cc
