-- Operations in the order of their names.
use Rattle.std.proofs.Common.{◌≡◌, true, false, List, [], ◌∷◌, ◌++◌, fold, sym, subst, IsPermutation, append-nil}
use Rattle.std.proofs.lemmas.List.Sorted.{IsPermutation-refl, IsPermutation-trans, IsPermutation-cons}
use Rattle.std.proofs.lemmas.List.Sorted.{IsPermutation-middle, IsPermutation-append_left}
use Rattle.std.proofs.lemmas.List.Sums.{fold-append}
use Rattle.std.specs.List.{AllByRecursion}
use Rattle.pad_model.specs.History.{IsHistory}
use Rattle.pad_model.specs.Log.{precedes, same_name}
use Rattle.pad_model.specs.declared.op.Op.{Op}
use Rattle.pad_model.proofs.Each.{each-imply, each-permutation, each_fails}
use Rattle.pad_model.proofs.Newer.{split}
use Rattle.pad_model.proofs.Names.{precedes-trans, precedes-other}
use Rattle.pad_core.specs.Comments.{put_by_name, by_name}
use Rattle.pad_core.specs.Counts.{AreNumbered}
use Rattle.pad_core.proofs.Histories.{Follows, grown, name_new}

put_by_name-permutation : (op : Op) (ops : List Op) → IsPermutation (op ∷ ops) (put_by_name op ops)
put_by_name-permutation op [] = IsPermutation-refl (op ∷ [])
put_by_name-permutation op (x ∷ ops) =
    split (precedes x.name op.name)
    (λ before. rw before (IsPermutation-trans (op ∷ x ∷ ops) (x ∷ op ∷ ops) (x ∷ put_by_name op ops)
    (IsPermutation-middle (op ∷ []) x ops) (IsPermutation-cons x (op ∷ ops) (put_by_name op ops)
    (put_by_name-permutation op ops))))
    (λ stops. rw stops (IsPermutation-refl (op ∷ x ∷ ops)))

by_name_onto : (sorted ops : List Op) → IsPermutation (sorted ++ ops)
    (fold (λ named op. put_by_name op named) sorted ops)
by_name_onto sorted [] = rw append-nil (IsPermutation-refl sorted)
by_name_onto sorted (op ∷ ops) =
    IsPermutation-trans (sorted ++ op ∷ ops) (put_by_name op sorted ++ ops) _
    (IsPermutation-trans (sorted ++ op ∷ ops) (op ∷ (sorted ++ ops)) (put_by_name op sorted ++ ops)
    (IsPermutation-middle sorted op ops) (IsPermutation-append_left ops (op ∷ sorted) (put_by_name op sorted)
    (put_by_name-permutation op sorted)))
    (by_name_onto (put_by_name op sorted) ops)

-- the operations by name are those of the log
pub by_name-permutation : (log : List Op) → IsPermutation log (by_name log)
by_name-permutation log = by_name_onto [] log

-- one more is put at its place
pub by_name-push : (log : List Op) (op : Op) → by_name (log ++ op ∷ []) ≡ put_by_name op (by_name log)
by_name-push log op = fold-append (λ sorted one. put_by_name one sorted) [] log (op ∷ [])

-- the names of operations rise
abbrev pub AreByName : List Op → Type 0
AreByName [] = Unit {0}
AreByName (op ∷ ops) = AllByRecursion (λ later. precedes op.name later.name ≡ true) ops × AreByName ops

each_put : (P : Op → Type 0) (op : Op) (ops : List Op) → P op → AllByRecursion P ops →
    AllByRecursion P (put_by_name op ops)
each_put P op ops p each = each-permutation P (op ∷ ops) (put_by_name op ops) (put_by_name-permutation op ops) (p, each)

put_rises : (op : Op) (ops : List Op) → AreByName ops → AllByRecursion (λ one. same_name one.name op.name ≡ false) ops →
    AreByName (put_by_name op ops)
put_rises op [] rise new = (tt, tt)
put_rises op (x ∷ ops) rise new =
    split (precedes x.name op.name)
    (λ before. rw before (
      each_put (λ later. precedes x.name later.name ≡ true) op ops before rise.0,
      put_rises op ops rise.1 new.1,
    ))
    (λ stops.
    let after : precedes op.name x.name ≡ true = precedes-other x.name op.name stops new.0 in
    rw stops (
      (
        after,
        each-imply (λ later. precedes x.name later.name ≡ true) (λ later. precedes op.name later.name
            ≡ true) (λ later h. precedes-trans op.name x.name later.name after h) ops rise.0,
      ),
      rise,
    ))

-- no operation has the name of one that follows, in this order either
pub new_by_name : (log : List Op) (op : Op) → Follows log op →
    AllByRecursion (λ one. same_name one.name op.name ≡ false) (by_name log)
new_by_name log op follows =
    each-permutation (λ one. same_name one.name op.name ≡ false) log (by_name log) (by_name-permutation log)
    (each_fails (λ one. same_name one.name op.name) log (name_new log op follows))

-- the names of a log rise in this order
pub by_name_rises : (log : List Op) → IsHistory log → AreNumbered [] log → AreByName (by_name log)
by_name_rises log history numbered =
    grown (λ l. AreByName (by_name l)) tt
    (λ l op follows rise. subst AreByName (sym (by_name-push l op))
    (put_rises op (by_name l) rise (new_by_name l op follows)))
    log history numbered
