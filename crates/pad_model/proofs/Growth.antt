-- A log that grows by a valid operation within the limits stays a tree.
use Rattle.std.proofs.Common.{◌≡◌, ℕ, zero, suc, ◌+◌, ◌-◌, ◌<◌, ◌≤◌, ◌⊎◌, inl, inr, Bool, true, false, not, ◌&&◌, ◌||◌}
use Rattle.std.proofs.Common.{cond, eqb, leb, ltb, List, [], ◌∷◌, ◌++◌, length, Option, Some, None, refl, sym, ap, ap₂}
use Rattle.std.proofs.Common.{◌∙◌, subst, map, filter, fold, flat_map, take, max, IsPermutation, arith, append-nil}
use Rattle.std.proofs.Common.{append_assoc, le-leb, leb-true, le-ltb, lt-ltb, leb→le}
use Rattle.std.proofs.lemmas.Bool.{and_parts}
use Rattle.std.proofs.lemmas.List.Concat.{flat_map-append}
use Rattle.std.specs.List.{AllByRecursion, list_all}
use Rattle.pad_model.specs.Stamp.{Stamp}
use Rattle.pad_model.specs.Character.{Character, next, run_characters}
use Rattle.pad_model.specs.Checked.{is_checked, counters_rise}
use Rattle.pad_model.specs.History.{Continues, IsHistory}
use Rattle.pad_model.specs.Laws.{itself}
use Rattle.pad_model.specs.Legal.{IsTree, RunMayJoin}
use Rattle.pad_model.specs.Log.{part_is_valid, is_valid}
use Rattle.pad_model.specs.Operation.{author_of, part_inserts, inserted_by, characters_in}
use Rattle.pad_model.specs.declared.who.Author.{Author}
use Rattle.pad_model.specs.declared.op.Part.{Part}
use Rattle.pad_model.specs.declared.op.Part.TheVariants.{Insert, Delete, Comment, Resolve}
use Rattle.pad_model.specs.declared.op.Op.{Op}
use Rattle.pad_model.proofs.Each.{each-append, each-imply}
use Rattle.pad_model.proofs.Cells.{RunMayJoin-from_test}
use Rattle.pad_model.proofs.Rising.{IsDistinct-nil}
use Rattle.pad_model.proofs.Runs.{IsTree-run, IsRun-run_characters, has_parent-append}

-- the counters of a run are below the next one
pub run_below : (first : Stamp) (p : Option Stamp) (text : List ℕ) (author : Author) (most : ℕ) → first.counter
    + length text ≤ most → AllByRecursion (λ c. c.stamp.counter < most) (run_characters first p text author)
run_below first p [] author most h = tt
run_below first p (c ∷ text) author most h =
    (omega arith, run_below (next first) (Some first) text author most (omega arith))

-- the parts of an operation join a tree one after another
parts_join : (author : Author) (before mine : List Character) (floor : ℕ) (parts : List Part) (log : List Op) →
    before ≡ (characters_in log).inserted →
    IsTree itself (before ++ mine) → AllByRecursion (λ c. c.stamp.counter < floor) mine → counters_rise floor parts
    ≡ true → list_all (λ part. part_is_valid part log) parts ≡ true →
    IsTree itself (before ++ (mine ++ flat_map (part_inserts author) parts))
parts_join author before mine floor [] log is t below rise valid = rw append-nil t
parts_join author before mine floor (Insert run ∷ parts) log is t below rise valid =
    let risen = and_parts _ _ rise in
    let checks = and_parts _ _ valid in
    let above : floor ≤ run.first.counter = leb-true floor run.first.counter risen.0 in
    let joins = RunMayJoin-from_test itself before run.first run.after (rw is checks.0) in
    let cs = run_characters run.first run.after run.text author in
    let all_join : RunMayJoin itself (before ++ mine) run.first run.after = record {
      above = each-append (λ x. x.stamp.replica ≡ run.first.replica → x.stamp.counter < run.first.counter) before mine
          joins.above
          (each-imply (λ c. c.stamp.counter < floor) (λ x. x.stamp.replica ≡ run.first.replica → x.stamp.counter
          < run.first.counter) (λ x l e. omega arith) mine below);
      rooted = has_parent-append itself before mine run.after joins.rooted;
      later = joins.later;
    }
    in
    let longer : IsTree itself (before ++ (mine ++ cs)) = subst (IsTree itself) (append_assoc before mine cs)
    (IsTree-run itself (before ++ mine) run.first run.after cs t all_join
    (IsRun-run_characters run.first run.after run.text author)) in
    subst (λ l. IsTree itself (before ++ l)) (append_assoc mine cs (flat_map (part_inserts author) parts))
    (parts_join author before (mine ++ cs) (run.first.counter + length run.text) parts log is longer
    (each-append (λ c. c.stamp.counter < run.first.counter + length run.text) mine cs
    (each-imply (λ c. c.stamp.counter < floor) (λ c. c.stamp.counter < run.first.counter + length run.text)
    (λ c l. omega arith) mine below) (run_below run.first run.after run.text author (run.first.counter
    + length run.text) (omega arith)))
    risen.1 checks.1)
parts_join author before mine floor (Delete spans ∷ parts) log is t below rise valid =
    parts_join author before mine floor parts log is t below rise (and_parts _ _ valid).1
parts_join author before mine floor (Comment first last text ∷ parts) log is t below rise valid =
    parts_join author before mine floor parts log is t below rise (and_parts _ _ valid).1
parts_join author before mine floor (Resolve comment ∷ parts) log is t below rise valid =
    parts_join author before mine floor parts log is t below rise (and_parts _ _ valid).1

pub rises_of_checked : (op : Op) → is_checked op ≡ true → counters_rise 0 op.parts ≡ true
rises_of_checked op h =
    let parts = (and_parts _ _ h).1 in
    let all = and_parts _ _ parts in
    (and_parts _ _ all.0).1

pub tree_grows : (log : List Op) (op : Op) → is_checked op ≡ true → is_valid op log ≡ true →
    IsTree itself (characters_in log).inserted → IsTree itself (characters_in (log ++ op ∷ [])).inserted
tree_grows log op checked valid t =
    subst (IsTree itself) (sym (flat_map-append inserted_by log (op ∷ []) ∙ ap (λ l. (characters_in log).inserted ++ l)
    (append-nil (inserted_by op))))
    (parts_join (author_of op) (characters_in log).inserted [] 0 op.parts log refl
    (subst (IsTree itself) (sym (append-nil (characters_in log).inserted)) t) tt (rises_of_checked op checked)
    (and_parts _ _ valid).0)

tree_continues : (before more : List Op) → IsTree itself (characters_in before).inserted → Continues before more →
    IsTree itself (characters_in (before ++ more)).inserted
tree_continues before [] t c = rw append-nil t
tree_continues before (op ∷ more) t c =
    subst (λ l. IsTree itself (characters_in l).inserted) (append_assoc before (op ∷ []) more)
    (tree_continues (before ++ op ∷ []) more (tree_grows before op c.0 c.1 t) c.2)

no_tree : IsTree itself []
no_tree = record { distinct = IsDistinct-nil itself; rooted = tt; later = tt }

-- the characters of a history are a tree
pub IsTree-history : (log : List Op) → IsHistory log → IsTree itself (characters_in log).inserted
IsTree-history log h = tree_continues [] log no_tree h

continues_part : (before more rest : List Op) → Continues before (more ++ rest) → Continues before more
continues_part before [] rest c = tt
continues_part before (op ∷ more) rest c = (c.0, c.1, continues_part (before ++ op ∷ []) more rest c.2)

-- the first operations of a history are a history
pub IsHistory-take : (log : List Op) (k : ℕ) → IsHistory log → IsHistory (take k log)
IsHistory-take log k h = continues_part [] (take k log) (Rattle.std.proofs.Common.drop k log)
    (subst (Continues []) (sym (Rattle.std.proofs.Common.take-append-drop k log)) h)

continues_push : (before more : List Op) (op : Op) → Continues before more → is_checked op ≡ true →
    is_valid op (before ++ more) ≡ true → Continues before (more ++ op ∷ [])
continues_push before [] op c checked valid = (checked, subst (λ l. is_valid op l ≡ true) (append-nil before) valid, tt)
continues_push before (one ∷ more) op c checked valid = (
  c.0,
  c.1,
  continues_push (before ++ one ∷ []) more op c.2 checked (subst (λ l. is_valid op l ≡ true)
      (sym (append_assoc before (one ∷ []) more)) valid),
)

-- a valid operation within the limits extends a history
pub IsHistory-push : (log : List Op) (op : Op) → IsHistory log → is_checked op ≡ true → is_valid op log ≡ true →
    IsHistory (log ++ op ∷ [])
IsHistory-push log op h checked valid = continues_push [] log op h checked valid
