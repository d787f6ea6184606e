-- What is held stays in order, and within its limit.
use Rattle.std.proofs.Common.{◌≡◌, ◌+◌, ◌≤◌, ◌<◌, Bool, true, false, not, List, [], ◌∷◌, length, filter, None, refl}
use Rattle.std.proofs.Common.{◌∙◌, arith}
use Rattle.std.specs.List.{AllByRecursion, find}
use Rattle.std.proofs.lemmas.Bool.{or_parts, cond-false}
use Rattle.pad_model.specs.declared.op.Op.{Op}
use Rattle.pad_model.specs.declared.op.OpName.{OpName}
use Rattle.pad_model.proofs.Each.{each-imply, each_fails}
use Rattle.pad_model.proofs.Filters.{each-filter}
use Rattle.pad_model.proofs.Newer.{split}
use Rattle.holdback.specs.Held.{IsRising, has_name, is_held, with_held, without}
use Rattle.pad_model.specs.Log.{precedes}
use Rattle.holdback.specs.Inside.{IsHold}
use Rattle.holdback.specs.declared.held.TheConstants.{MAX_HELD}
use Rattle.pad_model.proofs.Names.{precedes-trans, precedes-other}
use Rattle.holdback.proofs.Places.{all_kept}

each_with : (P : Op → Type 0) (held : List Op) (op : Op) → P op → AllByRecursion P held →
    AllByRecursion P (with_held op held)
each_with P [] op p h = (p, tt)
each_with P (x ∷ held) op p h =
    split (precedes x.name op.name) (λ e. rw e (h.0, each_with P held op p h.1)) (λ e. rw e (p, h))

pub rising_with : (held : List Op) (op : Op) → IsRising held → is_held op.name held ≡ false →
    IsRising (with_held op held)
rising_with [] op r new = (tt, tt)
rising_with (x ∷ held) op r new =
    let apart = or_parts (has_name op.name x) (is_held op.name held) new in
    split (precedes x.name op.name)
    (λ e. rw e (each_with (λ later. precedes x.name later.name ≡ true) held op e r.0, rising_with held op r.1 apart.1))
    (λ e.
    let lt = precedes-other x.name op.name e apart.0 in
    rw e (
      (
        lt,
        each-imply (λ later. precedes x.name later.name ≡ true) (λ later. precedes op.name later.name ≡ true)
            (λ later more. precedes-trans op.name x.name later.name lt more) held r.0,
      ),
      r,
    ))

length_with : (held : List Op) (op : Op) → length (with_held op held) ≡ length held + 1
length_with [] op = refl
length_with (x ∷ held) op = split (precedes x.name op.name) (λ e. rw e (omega (arith, length_with held op)))
    (λ e. rw e (omega arith))

pub hold_with : (held : List Op) (op : Op) → IsHold held → is_held op.name held ≡ false → length held < MAX_HELD →
    IsHold (with_held op held)
hold_with held op hold new lt = record { rising = rising_with held op hold.rising new; few = omega (arith, length_with held op) }

rising_filter : (t : Op → Bool) (held : List Op) → IsRising held → IsRising (filter t held)
rising_filter t [] r = tt
rising_filter t (x ∷ held) r =
    split (t x) (λ e. rw e (
      each-filter (λ later. precedes x.name later.name ≡ true) t held r.0,
      rising_filter t held r.1,
    )) (λ e. rw e (rising_filter t held r.1))

filter_shorter : (t : Op → Bool) (held : List Op) → length (filter t held) ≤ length held
filter_shorter t [] = omega arith
filter_shorter t (x ∷ held) = split (t x) (λ e. rw e (omega (arith, filter_shorter t held)))
    (λ e. rw e (omega (arith, filter_shorter t held)))

pub hold_without : (held : List Op) (name : OpName) → IsHold held → IsHold (without name held)
hold_without held name hold = record {
  rising = rising_filter (λ op. not (has_name name op)) held hold.rising;
  few = omega (arith, hold.few, filter_shorter (λ op. not (has_name name op)) held);
}

-- if no operation has the name, none is found and none is removed
pub find_none : (held : List Op) (name : OpName) → is_held name held ≡ false → find (has_name name) held ≡ None
find_none [] name e = refl
find_none (x ∷ held) name e = let parts = or_parts (has_name name x) (is_held name held) e in cond-false _ _ _ parts.0
    ∙ find_none held name parts.1

pub none_without : (held : List Op) (name : OpName) → is_held name held ≡ false → without name held ≡ held
none_without held name e = all_kept held name (each_fails (has_name name) held e)
