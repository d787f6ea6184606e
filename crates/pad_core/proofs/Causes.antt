-- What operations had seen, by the counts along a log.
use Rattle.std.proofs.Common.{◌≡◌, ℕ, ◌+◌, ◌≤◌, ◌<◌, true, false, eqb, leb, List, [], ◌∷◌, ◌++◌, fold, sym, subst}
use Rattle.std.proofs.Common.{arith, eqb-true, lt-ltb, le-ltb, le-leb}
use Rattle.std.proofs.lemmas.Bool.{eqb-false, lt-leb}
use Rattle.std.specs.List.{AllByRecursion}
use Rattle.pad_model.specs.Seen.{IsVector, count_in}
use Rattle.pad_model.specs.declared.op.Op.{Op}
use Rattle.pad_model.specs.declared.op.Part.{Part}
use Rattle.pad_model.specs.declared.seen.Counted.{Counted}
use Rattle.pad_model.proofs.Each.{each-imply}
use Rattle.pad_model.proofs.Newer.{split}
use Rattle.pad_model.proofs.SeenLemmas.{count_in-with_other, IsVector-with_count}
use Rattle.holdback.specs.Held.{reaches}
use Rattle.pad_core.specs.Causes.{had_seen, AllSeenLaw, CausalLaw}
use Rattle.pad_core.specs.Counts.{AreNumbered, AreTimely, counted, op_of, vector_of}
use Rattle.pad_core.proofs.Counted.{count_in-counted, counted_most, counts_grow, next_at, numbers_low, reached}

-- an operation had not seen one whose number is above its own, if both are of one origin, or else above all that was
-- delivered
unseen : (v : List Counted) (before op : Op) → before.name.number ≡ count_in v before.name.origin + 1 →
    reaches v before.seen ≡ true → (op.name.origin ≡ before.name.origin → before.name.number < op.name.number) →
    count_in v op.name.origin < op.name.number → had_seen before op.name ≡ false
unseen v before op number within later above =
    split (eqb op.name.origin before.name.origin)
    (λ e. let low : before.name.number < op.name.number = later (eqb-true op.name.origin before.name.origin e) in
    rw e (le-ltb op.name.number before.name.number (omega arith)))
    (λ e. let low : count_in before.seen op.name.origin ≤ count_in v op.name.origin =
    reached v before.seen op.name.origin within in
    rw e (lt-leb op.name.number (count_in before.seen op.name.origin) (omega arith)))

unseen_from : (v : List Counted) (log more : List Op) (op : Op) → IsVector v → AreNumbered v (log ++ op ∷ more) →
    AreTimely v (log ++ op ∷ more) → AllByRecursion (λ before. had_seen before op.name ≡ false) log
unseen_from v [] more op h n t = tt
unseen_from v (before ∷ log) more op h n t =
    let origin = op.name.origin in
    let wide = IsVector-with_count v before.name.origin (count_in v before.name.origin + 1) h in
    let last : op.name.number ≡ count_in (fold counted (counted v before) log) origin + 1 =
    next_at (counted v before) log op more n.1 in
    let some : count_in v origin ≤ count_in (counted v before) origin = (counted_most v before origin h).1 in
    let rest : count_in (counted v before) origin ≤ count_in (fold counted (counted v before) log) origin =
    counts_grow (counted v before) log origin wide in
    let number : before.name.number ≡ count_in v before.name.origin + 1 = n.0 in
    let here : count_in (counted v before) before.name.origin ≡ count_in v before.name.origin + 1 =
    count_in-counted v before h in (
      unseen v before op n.0 t.0
          (λ same. let there : count_in (counted v before) origin ≡ before.name.number =
          subst (λ o. count_in (counted v before) o ≡ before.name.number) (sym same)
          (let both : count_in (counted v before) before.name.origin ≡ before.name.number = omega arith in both) in
          omega arith)
          (omega arith),
      unseen_from (counted v before) log more op wide n.1 t.1,
    )

pub causal_law : CausalLaw
causal_law log more op d = unseen_from [] log more op tt d.numbered d.timely

-- an operation that is made behind a log has seen whatever the log counts
seen_here : (own : ℕ) (author : List ℕ) (parts : List Part) (log : List Op) (before : Op) →
    before.name.number ≤ count_in (vector_of log) before.name.origin →
    had_seen (op_of own author parts log) before.name ≡ true
seen_here own author parts log before low =
    split (eqb before.name.origin own)
    (λ e. let mine : before.name.number ≤ count_in (vector_of log) own =
    subst (λ o. before.name.number ≤ count_in (vector_of log) o) (eqb-true before.name.origin own e) low in
    rw e (lt-ltb before.name.number (count_in (vector_of log) own + 1) (omega arith)))
    (λ e. rw e (subst (λ n. leb before.name.number n ≡ true)
    (sym (count_in-with_other (vector_of log) own 0 before.name.origin (eqb-false before.name.origin own e)))
    (le-leb before.name.number (count_in (vector_of log) before.name.origin) low)))

pub all_seen_law : AllSeenLaw
all_seen_law own author parts log d =
    each-imply (λ before. before.name.number ≤ count_in (vector_of log) before.name.origin)
    (λ before. had_seen (op_of own author parts log) before.name ≡ true)
    (λ before low. seen_here own author parts log before low) log (numbers_low log d.numbered)
