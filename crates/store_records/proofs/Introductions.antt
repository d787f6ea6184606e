-- The records of a named revision, and of what a guest calls itself.
use Rattle.std.proofs.Common.{◌≡◌, ◌⊎◌, inl, inr, ℕ, ◌+◌, Bool, true, false, cond, List, [], ◌∷◌, ◌++◌}
use Rattle.std.proofs.Common.{length, Option, Some, None, Result, Ok, Err}
use Rattle.std.proofs.Common.{ltb, refl, sym, ap, ◌∙◌, subst, not}
use Rattle.pad_model.specs.Checked.{is_name}
use Rattle.pad_model.specs.declared.op.Op.{Op}
use Rattle.pad_model.specs.declared.refusal.Refusal.{Refusal}
use Rattle.pad_model.specs.declared.refusal.Refusal.TheVariants.{Denied}
use Rattle.pad_model.specs.declared.who.Who.TheVariants as who
use Rattle.guests.specs.Book.{introduce as introduced, introduction_refusal}
use Rattle.guests.specs.Guests.{is_guest}
use Rattle.guests.specs.declared.guest.Guest.{Guest}
use Rattle.named_revisions.specs.Named.{add, name_refusal}
use Rattle.named_revisions.specs.declared.named_revision.NamedRevision.{NamedRevision}
use Rattle.op_log.specs.Made.{Made}
use Rattle.pad_core.specs.Grants.{told_done}
use Rattle.pad_core.specs.Guests.{introduce}
use Rattle.pad_core.specs.Machine.{Machine, now_of}
use Rattle.pad_core.specs.Marks.{mark, named as revision_named}
use Rattle.pad_core.specs.Restart.{restore_introduction, restore_mark}
use Rattle.pad_core.specs.declared.act.Act.TheVariants as act
use Rattle.pad_core.specs.declared.owned.Owned.{Owned}
use Rattle.pad_core.specs.declared.reply.PadReply.{PadReply}
use Rattle.server_core.specs.AtCell.{passed_on}
use Rattle.store_records.specs.Laws.{now_at}
use Rattle.store_records.specs.Records.{act_records, replay_all, unless_refused}
use Rattle.store_records.specs.declared.kept_record.Record.TheVariants as kept
use Rattle.store_records.proofs.Deliveries.{Given, bare, given_on}
use Rattle.store_records.proofs.Leading.{Leads, either}

-- a name of a revision is refused and changes nothing, or it is added
abbrev Names : List NamedRevision → Result (Unit {0}) Refusal × List NamedRevision → Type 0
Names old done = ((e : Refusal) × (done ≡ (Err e, old))) ⊎ ((new : List NamedRevision) × (done ≡ (Ok tt, new)))

namings : (now : ℕ) (this : NamedRevision) (all : List NamedRevision) → Names all (revision_named now this all)
namings now this all = either (Names all) (ltb now this.rev) _ _ (inl (_, refl)) (at (name_refusal this.text all) refl)
  where
    at : (r : Option Refusal) → name_refusal this.text all ≡ r → Names all (add this all)
    at (Some e) q = inl (e, rw q refl)
    at None q = inr (all ++ this ∷ [], rw q refl)

mark_again : (owned : Owned) (replica limit : ℕ) (log : List Op) (given : Given) (made : Made) (this : NamedRevision)
    (all : List NamedRevision) →
    is_name this.author ≡ true → revision_named (length log) this owned.marks ≡ (Ok tt, all) →
    replay_all (kept.Marked this ∷ []) (bare (Some owned) replica limit log given made)
    ≡ Ok (bare (Some (record owned { marks = all })) replica limit log given made)
mark_again owned replica limit log given made this all good is =
    ap unless_refused names_it
  where
    names_it : restore_mark this (bare (Some owned) replica limit log given made)
        ≡ (Ok tt, bare (Some (record owned { marks = all })) replica limit log given made)
    names_it = rw good (ap (λ (d : Result (Unit {0}) Refusal × List NamedRevision). (let r : Result (Unit {0}) Refusal
        × Machine = (d.0, bare (Some (record owned { marks = d.1 })) replica limit log given made) in r)) is)

pub marks : (owned : Owned) (author : List ℕ) (rev : ℕ) (text : List ℕ) (m : Machine) → m.owned ≡ Some owned → is_name author ≡ true →
    Leads (act_records (who.Author author) (act.Mark rev text)) m
    (passed_on (mark (now_of m) (record { rev = rev; author = author; at = now_at m; text = text }) owned.marks).0)
    (record m { owned = Some (record owned { marks = (mark (now_of m) (record { rev = rev; author = author; at = now_at m; text = text }) owned.marks).1 }) })
marks owned author rev text m is good = at (revision_named (now_of m) this owned.marks) refl (namings (now_of m) this owned.marks)
  where
    this : NamedRevision
    this = record { rev = rev; author = author; at = now_at m; text = text }

    Goal : Result (Unit {0}) Refusal × List NamedRevision → Type 0
    Goal done = Leads (act_records (who.Author author) (act.Mark rev text)) m (passed_on (told_done (now_of m) done.0))
        (record m { owned = Some (record owned { marks = done.1 }) })

    at : (done : Result (Unit {0}) Refusal × List NamedRevision) → revision_named (now_of m) this owned.marks ≡ done →
        Names owned.marks done → Goal done
    at done q (inl (e, unchanged)) = subst Goal (sym unchanged)
        (λ more grown d. ap (λ (o : Option Owned). Ok (bare o m.replica m.presence.limit m.log (given_on m.presence) m.made)) is)
    at done q (inr (new, more_named)) =
        subst Goal (sym more_named)
        (λ more grown d. subst (λ (o : Option Owned). replay_all (kept.Marked this ∷ [])
        (bare o m.replica m.presence.limit m.log (given_on m.presence) m.made)
        ≡ Ok (bare (Some (record owned { marks = new })) m.replica m.presence.limit m.log (given_on m.presence) m.made)) (sym is)
        (mark_again owned m.replica m.presence.limit m.log (given_on m.presence) m.made this new good (q ∙ more_named)))

-- a display name is refused and changes nothing, or a guest has it
abbrev Displays : List Guest → Result (Unit {0}) Refusal × List Guest → Type 0
Displays old done = ((e : Refusal) × (done ≡ (Err e, old)))
    ⊎ ((new : List Guest) × (done ≡ (Ok tt, new)))

displays : (guest : Guest) (all : List Guest) → Displays all (introduced guest all)
displays guest all = at (introduction_refusal guest all) refl
  where
    at : (r : Option Refusal) → introduction_refusal guest all ≡ r → Displays all (introduced guest all)
    at (Some e) q = inl (e, rw q refl)
    at None q = inr ((introduced guest all).1, rw q refl)

introduce_again : (owned : Owned) (replica limit : ℕ) (log : List Op) (given : Given) (made : Made) (this : Guest)
    (all : List Guest) → is_name this.author ≡ true → is_guest this.author ≡ true →
    introduced this owned.guests ≡ (Ok tt, all) →
    replay_all (kept.Introduced this ∷ []) (bare (Some owned) replica limit log given made)
    ≡ Ok (bare (Some (record owned { guests = all })) replica limit log given made)
introduce_again owned replica limit log given made this all good guest is =
    ap unless_refused names_it
  where
    names_it : restore_introduction this (bare (Some owned) replica limit log given made)
        ≡ (Ok tt, bare (Some (record owned { guests = all })) replica limit log given made)
    names_it = rw (good, guest) (ap (λ (d : Result (Unit {0}) Refusal × List Guest).
        (let r : Result (Unit {0}) Refusal × Machine =
        (d.0, bare (Some (record owned { guests = d.1 })) replica limit log given made) in r)) is)

-- the one or the other, each where it is taken
chosen : {A : Type 0} (P : A → Type 0) (b : Bool) (x y : A) → (b ≡ false → P x) → (b ≡ true → P y) →
    P (cond (not b) x y)
chosen P true x y p q = q refl
chosen P false x y p q = p refl

pub introduces : (owned : Owned) (author display : List ℕ) (m : Machine) → m.owned ≡ Some owned → is_name author ≡ true →
    Leads (act_records (who.Author author) (act.Introduce display)) m
    (passed_on (introduce (now_of m) author display owned.guests).0)
    (record m { owned = Some (record owned { guests = (introduce (now_of m) author display owned.guests).1 }) })
introduces owned author display m is good =
    chosen (λ (done : Result PadReply Refusal × List Guest).
    Leads (act_records (who.Author author) (act.Introduce display)) m (passed_on done.0)
    (record m { owned = Some (record owned { guests = done.1 }) })) (is_guest author) _ _
    (λ other. unchanged Denied)
    (λ guest. at (introduced this owned.guests) refl (displays this owned.guests) guest)
  where
    this : Guest
    this = record { author = author; display = display }

    unchanged : (e : Refusal) → Leads (act_records (who.Author author) (act.Introduce display)) m (Err e)
        (record m { owned = Some owned })
    unchanged e more grown d =
        ap (λ (o : Option Owned). Ok (bare o m.replica m.presence.limit m.log (given_on m.presence) m.made)) is

    Goal : Result (Unit {0}) Refusal × List Guest → Type 0
    Goal done = Leads (act_records (who.Author author) (act.Introduce display)) m (passed_on (told_done (now_of m) done.0))
        (record m { owned = Some (record owned { guests = done.1 }) })

    at : (done : Result (Unit {0}) Refusal × List Guest) → introduced this owned.guests ≡ done →
        Displays owned.guests done → is_guest author ≡ true → Goal done
    at done q (inl (e, same)) guest = subst Goal (sym same) (unchanged e)
    at done q (inr (new, one_more)) guest =
        subst Goal (sym one_more)
        (λ more grown d. subst (λ (o : Option Owned). replay_all (kept.Introduced this ∷ [])
        (bare o m.replica m.presence.limit m.log (given_on m.presence) m.made)
        ≡ Ok (bare (Some (record owned { guests = new })) m.replica m.presence.limit m.log (given_on m.presence) m.made)) (sym is)
        (introduce_again owned m.replica m.presence.limit m.log (given_on m.presence) m.made this new good guest (q ∙ one_more)))
