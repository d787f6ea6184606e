-- Runs that are put one after the other, and taken out again.
use Rattle.std.proofs.Common.{◌≡◌, ℕ, zero, suc, ◌+◌, ◌≤◌, ◌<◌, true, List, [], ◌∷◌, ◌++◌, length, map, take, sum_by}
use Rattle.std.proofs.Common.{count_by, Option, Some, None, refl, sym, ap, ◌∙◌, subst, arith, get_or}
use Rattle.std.specs.List.{AllByRecursion, insert, remove, list_all}
use Rattle.std.proofs.lemmas.Bool.{and_from, and_parts, false≢true}
use Rattle.pad_model.specs.Cell.{Cell, character_of, with_run, is_hidden_by, without_spans, IsInOrder}
use Rattle.std.proofs.lemmas.List.Sums.{sum_by-cons}
use Rattle.pad_model.specs.Checked.{is_run}
use Rattle.pad_model.specs.Legal.{has_parent, counter_of}
use Rattle.pad_model.specs.Log.{run_may_join, has_spans}
use Rattle.pad_model.specs.Parts.{AllJoin, part_fits, runs_in, with_all}
use Rattle.pad_model.specs.Stamp.{Stamp}
use Rattle.pad_model.specs.declared.limits.TheConstants.{MAX_CHARACTERS}
use Rattle.pad_model.specs.declared.op.Part.{Part}
use Rattle.pad_model.specs.declared.op.Part.TheVariants.{Insert, Delete, Comment, Resolve}
use Rattle.pad_model.specs.declared.op.Run.{Run}
use Rattle.pad_model.specs.declared.op.Span.{Span}
use Rattle.pad_model.specs.declared.who.Author.{Author}
use Rattle.pad_model.proofs.Cells.{RunMayJoin-from_test, IsInOrder-with_run}
use Rattle.pad_model.proofs.InTurn.{commute, has_spans-with_run, has_stamp-with_run, hidden-with_run}
use Rattle.pad_model.proofs.Parts.{part_fits-erased}
use Rattle.ident_index.specs.Index.{Index, Covers, stamp_behind}
use Rattle.ident_index.proofs.Order.{same_stamps}
use Rattle.std.proofs.lemmas.List.{take_more}
use Rattle.blocks.specs.declared.block.Block.{Block}
use Rattle.blocks.specs.Blocks.{IsEdge, KeepsEdges, unlabelled, without_labels}
use Rattle.blocks.proofs.Cells.{length-without_labels}
use Rattle.block_seq.specs.RowParts.{AreRanks, IsCutBehind, MayPut, without_ranks}
use Rattle.block_seq.proofs.RowChange.{PutNext, older, put_next, run_sized}

-- one more item of a list that a loop has passed
pub all_more : {X : Type 0} (P Q : X → Type 0) (xs : List X) (i j : ℕ) (x : X) → i < length xs → x ≡ get_or xs i x →
    j ≡ i + 1 → ((y : X) → P y → Q y) → AllByRecursion P (take i xs) → Q x → AllByRecursion Q (take j xs)
all_more P Q [] i j x h e n f all q = absurd (omega arith)
all_more P Q (y ∷ xs) zero zero x h e n f all q = absurd (omega arith)
all_more P Q (y ∷ xs) zero (suc zero) x h e n f all q = (subst Q e q, tt)
all_more P Q (y ∷ xs) zero (suc (suc j)) x h e n f all q = absurd (omega arith)
all_more P Q (y ∷ xs) (suc i) zero x h e n f all q = absurd (omega arith)
all_more P Q (y ∷ xs) (suc i) (suc j) x h e n f all q =
    (f y all.0, all_more P Q xs i j x (omega arith) e (omega arith) f all.1 q)

pub still_behind : (m n : Index) (p : Option Stamp) → KeepsEdges m n → IsCutBehind m p → IsCutBehind n p
still_behind m n None keeps cut = tt
still_behind m n (Some p) keeps cut = keeps (stamp_behind p 1) cut

-- what was put last is taken out
pub remove-insert : {X : Type 0} (xs : List X) (i : ℕ) (x : X) → i ≤ length xs → remove (insert xs i x) i ≡ xs
remove-insert [] zero x h = refl
remove-insert [] (suc i) x h = absurd (omega arith)
remove-insert (y ∷ xs) zero x h = refl
remove-insert (y ∷ xs) (suc i) x h = ap (λ l. y ∷ l) (remove-insert xs i x (omega arith))

pub take_front : {X : Type 0} (xs ys : List X) (n : ℕ) → n ≡ length xs → take n (xs ++ ys) ≡ xs
take_front [] ys zero e = refl
take_front [] ys (suc n) e = absurd (omega arith)
take_front (x ∷ xs) ys zero e = absurd (omega arith)
take_front (x ∷ xs) ys (suc n) e = ap (λ l. x ∷ l) (take_front xs ys n (omega arith))

-- ---- what was there is there with a run
parent_stays : (rev : ℕ) (run : Run) (author : Author) (cells : List Cell) (p : Option Stamp) → IsInOrder cells →
    run_may_join character_of cells run.first run.after ≡ true → has_parent character_of cells p ≡ true
    → has_parent character_of (with_run rev run author cells) p ≡ true
parent_stays rev run author cells None o may h = refl
parent_stays rev run author cells (Some p) o may h = has_stamp-with_run rev run author cells p o may h

parents_stay : (rev : ℕ) (run : Run) (author : Author) (cells : List Cell) (runs : List Run) → IsInOrder cells →
    run_may_join character_of cells run.first run.after ≡ true →
    list_all (λ r. has_parent character_of cells r.after) runs ≡ true
    → list_all (λ r. has_parent character_of (with_run rev run author cells) r.after) runs ≡ true
parents_stay rev run author cells [] o may h = refl
parents_stay rev run author cells (r ∷ runs) o may h =
    let both = and_parts _ _ h in
    and_from _ _ (parent_stays rev run author cells r.after o may both.0)
    (parents_stay rev run author cells runs o may both.1)

-- ---- the blocks stay cut behind the parents
cut_stays : (m n : Index) (cells : List Cell) (first : Stamp) (p q : Option Stamp) (len : ℕ) →
    ((s : Stamp) → IsEdge m s → (Covers first len s → first ≡ s) → IsEdge n s)
    → run_may_join character_of cells first p ≡ true → has_parent character_of cells q ≡ true → IsCutBehind m q →
    IsCutBehind n q
cut_stays m n cells first p None len edges may there cut = tt
cut_stays m n cells first p (Some s) len edges may there cut =
    edges (stamp_behind s 1) cut (λ c.
    (let inside = c.1 in
    let less = older cells first p s may there (sym c.0) in
    same_stamps first (stamp_behind s 1) (omega arith) c.0))

cuts_stay : (m n : Index) (cells : List Cell) (first : Stamp) (p : Option Stamp) (len : ℕ) (runs : List Run) →
    ((s : Stamp) → IsEdge m s → (Covers first len s → first ≡ s) → IsEdge n s)
    → run_may_join character_of cells first p ≡ true → list_all (λ r. has_parent character_of cells r.after) runs
    ≡ true → AllByRecursion (λ r. IsCutBehind m r.after) runs → AllByRecursion (λ r. IsCutBehind n r.after) runs
cuts_stay m n cells first p len [] edges may there cut = tt
cuts_stay m n cells first p len (r ∷ runs) edges may there cut =
    let both = and_parts _ _ there in (
      cut_stays m n cells first p r.after len edges may both.0 cut.0,
      cuts_stay m n cells first p len runs edges may both.1 cut.1,
    )

-- what may be put once the first run is
pub may_put_next : (rev len : ℕ) (author : Author) (cells new : List Cell) (m n : Index) (run : Run) (runs : List Run) →
    MayPut rev author cells m (run ∷ runs) → IsInOrder cells → new ≡ with_run rev run author cells
    → ((s : Stamp) → IsEdge m s → (Covers run.first len s → run.first ≡ s) → IsEdge n s) → MayPut rev author new n runs
may_put_next rev len author cells new m n run runs may o made edges =
    let joins = may.join.0 in
    let left : PutNext rev author.origin MAX_CHARACTERS author cells (with_all rev author cells (run ∷ runs))
    (run ∷ runs) = record { checked = may.checked; join = may.join; whole = refl; room = may.room; order = o } in
    let next = put_next rev author.origin MAX_CHARACTERS author cells new (with_all rev author cells (run ∷ runs)) run
    runs left made in
    let rooted = (and_parts _ _ may.rooted).1 in
    record {
      checked = next.checked;
      join = next.join;
      rooted = subst (λ l. list_all (λ r. has_parent character_of l r.after) runs ≡ true) (sym made)
          (parents_stay rev run author cells runs o joins rooted);
      cut = cuts_stay m n cells run.first run.after len runs edges joins rooted may.cut.1;
      room = next.room;
    }

-- ---- a deletion and runs that are made together
pub all_commute : (rev : ℕ) (spans : List Span) (author : Author) (cells : List Cell) (runs : List Run) →
    IsInOrder cells → AllJoin rev author cells runs → has_spans character_of cells spans ≡ true
    → without_spans rev spans (with_all rev author cells runs)
    ≡ with_all rev author (without_spans rev spans cells) runs
all_commute rev spans author cells [] o j h = refl
all_commute rev spans author cells (run ∷ runs) o j h =
    all_commute rev spans author (with_run rev run author cells) runs (IsInOrder-with_run rev run author cells o j.0)
    j.1 (has_spans-with_run rev run author cells spans o j.0 h)
    ∙ ap (λ l. with_all rev author l runs) (commute rev spans run author cells j.0 h)

pub all_hidden : (rev : ℕ) (spans : List Span) (author : Author) (cells : List Cell) (runs : List Run) →
    IsInOrder cells → AllJoin rev author cells runs → has_spans character_of cells spans ≡ true
    → count_by (is_hidden_by spans) (with_all rev author cells runs) ≡ count_by (is_hidden_by spans) cells
all_hidden rev spans author cells [] o j h = refl
all_hidden rev spans author cells (run ∷ runs) o j h =
    all_hidden rev spans author (with_run rev run author cells) runs (IsInOrder-with_run rev run author cells o j.0) j.1
    (has_spans-with_run rev run author cells spans o j.0 h)
    ∙ hidden-with_run rev spans run author cells o j.0 h

-- runs that join what a deletion leaves join what was there before it
pub join_before : (rev : ℕ) (spans : List Span) (author : Author) (cells : List Cell) (runs : List Run) →
    IsInOrder cells → has_spans character_of cells spans ≡ true →
    AllJoin rev author (without_spans rev spans cells) runs → AllJoin rev author cells runs
join_before rev spans author cells [] o h j = tt
join_before rev spans author cells (run ∷ runs) o h j =
    let here : run_may_join character_of cells run.first run.after ≡ true =
    sym (part_fits-erased rev spans cells (Insert run)) ∙ j.0 in (
      here,
      join_before rev spans author (with_run rev run author cells) runs (IsInOrder-with_run rev run author cells o here)
          (has_spans-with_run rev run author cells spans o here h)
          (subst (λ l. AllJoin rev author l runs) (sym (commute rev spans run author cells here h)) j.1),
    )

-- the runs of parts that fit
pub runs_fit : (cells : List Cell) (parts : List Part) → list_all (part_fits character_of cells) parts ≡ true →
    list_all (λ run. run_may_join character_of cells run.first run.after) (runs_in parts) ≡ true
runs_fit cells [] h = refl
runs_fit cells (Insert run ∷ parts) h = let both = and_parts _ _ h in and_from _ _ both.0 (runs_fit cells parts both.1)
runs_fit cells (Delete spans ∷ parts) h = runs_fit cells parts (and_parts _ _ h).1
runs_fit cells (Comment first last text ∷ parts) h = absurd (false≢true h)
runs_fit cells (Resolve comment ∷ parts) h = absurd (false≢true h)

-- ---- ranks that are taken again
pub without_ranks-last : {X : Type 0} (xs : List X) (ranks : List ℕ) (rank : ℕ) → without_ranks xs (ranks ++ rank ∷ [])
    ≡ without_ranks (remove xs rank) ranks
without_ranks-last xs [] rank = refl
without_ranks-last xs (r ∷ ranks) rank = ap (λ l. remove l r) (without_ranks-last xs ranks rank)

pub ranks-last : {X : Type 0} (xs : List X) (ranks : List ℕ) (rank : ℕ) → AreRanks xs (ranks ++ rank ∷ []) →
    (rank < length xs) × AreRanks (remove xs rank) ranks
ranks-last xs [] rank h = (h.1, tt)
ranks-last xs (r ∷ ranks) rank h =
    let rest = ranks-last xs ranks rank h.0 in
    (rest.0, (rest.1, subst (λ l. r < length l) (without_ranks-last xs ranks rank) h.1))

pub one_rank_more : {X : Type 0} (xs : List X) (ranks : List ℕ) (rank : ℕ) → rank < length xs →
    AreRanks (remove xs rank) ranks → AreRanks xs (ranks ++ rank ∷ [])
one_rank_more xs [] rank h rest = (tt, h)
one_rank_more xs (r ∷ ranks) rank h rest =
    (one_rank_more xs ranks rank h rest.0, subst (λ l. r < length l) (sym (without_ranks-last xs ranks rank)) rest.1)

pub remove-without_labels : (bs : List Block) (i : ℕ) → without_labels (remove bs i) ≡ remove (without_labels bs) i
remove-without_labels [] zero = refl
remove-without_labels [] (suc i) = refl
remove-without_labels (b ∷ bs) zero = refl
remove-without_labels (b ∷ bs) (suc i) = ap (λ l. unlabelled b ∷ l) (remove-without_labels bs i)

-- the last of the ranks is taken
pub record OneTaken (bs : List Block) (ranks : List ℕ) (n rank : ℕ) (all : List Block) : Type 0 where
  pub within : rank < length bs
  pub ranks' : AreRanks (without_labels (remove bs rank)) (take n ranks)
  pub taken : without_ranks (without_labels (remove bs rank)) (take n ranks) ≡ all

pub one_taken : (bs : List Block) (ranks : List ℕ) (k n : ℕ) (all : List Block) → k ≡ n + 1 → n < length ranks →
    AreRanks (without_labels bs) (take k ranks) → without_ranks (without_labels bs) (take k ranks) ≡ all
    → OneTaken bs ranks n (get_or ranks n 0) all
one_taken bs ranks k n all next h are taken =
    let rank = get_or ranks n 0 in
    let more : take k ranks ≡ take n ranks ++ rank ∷ [] = ap (λ j. take j ranks) next ∙ take_more ranks n 0 h in
    let parts = ranks-last (without_labels bs) (take n ranks) rank (subst (AreRanks (without_labels bs)) more are) in
    let same = remove-without_labels bs rank in
    let len = length-without_labels bs in
    let inside = parts.0 in
    record {
      within = omega (arith, len, inside);
      ranks' = subst (λ l. AreRanks l (take n ranks)) (sym same) parts.1;
      taken = ap (λ l. without_ranks l (take n ranks)) same
          ∙ sym (without_ranks-last (without_labels bs) (take n ranks) rank) ∙ ap (without_ranks (without_labels bs))
          (sym more) ∙ taken;
    }

-- the front of a front
pub front_of_front : {X : Type 0} (a xs ys : List X) → take (length a) xs ≡ a → take (length xs) ys ≡ xs →
    take (length a) ys ≡ a
front_of_front [] xs ys e f = refl
front_of_front (x ∷ a) [] ys e f = absurd (cc)
front_of_front (x ∷ a) (y ∷ xs) [] e f = absurd (cc)
front_of_front (x ∷ a) (y ∷ xs) (z ∷ ys) e f =
    let e0 : y ≡ x = cc in
    let f0 : z ≡ y = cc in
    let e1 : take (length a) xs ≡ a = cc in
    let f1 : take (length xs) ys ≡ xs = cc in
    ap (λ k. k ∷ take (length a) ys) (f0 ∙ e0) ∙ ap (λ l. x ∷ l) (front_of_front a xs ys e1 f1)

-- ---- runs behind references
pub all_later : {X : Type 0} (f : X → Run) (cells : List Cell) (xs : List X) →
    list_all (λ x. run_may_join character_of cells (f x).first (f x).after) xs ≡ true →
    AllByRecursion (λ x. counter_of (f x).after < (f x).first.counter) xs
all_later f cells [] h = tt
all_later f cells (x ∷ xs) h =
    let both = and_parts _ _ h in
    ((RunMayJoin-from_test character_of cells (f x).first (f x).after both.0).later, all_later f cells xs both.1)

pub all_rooted : {X : Type 0} (f : X → Run) (cells : List Cell) (xs : List X) →
    list_all (λ x. run_may_join character_of cells (f x).first (f x).after) xs ≡ true →
    list_all (λ r. has_parent character_of cells r.after) (map f xs) ≡ true
all_rooted f cells [] h = refl
all_rooted f cells (x ∷ xs) h =
    let both = and_parts _ _ h in
    and_from _ _ (RunMayJoin-from_test character_of cells (f x).first (f x).after both.0).rooted
    (all_rooted f cells xs both.1)

pub all_lent : {X : Type 0} (f : X → Run) (P : Run → Type 0) (xs : List X) → AllByRecursion (λ x. P (f x)) xs →
    AllByRecursion P (map f xs)
all_lent f P [] h = tt
all_lent f P (x ∷ xs) h = (h.0, all_lent f P xs h.1)

pub all_fit : {X : Type 0} (f : X → Run) (cells : List Cell) (xs : List X) →
    list_all (λ run. run_may_join character_of cells run.first run.after) (map f xs) ≡ true →
    list_all (λ x. run_may_join character_of cells (f x).first (f x).after) xs ≡ true
all_fit f cells [] h = refl
all_fit f cells (x ∷ xs) h = let both = and_parts _ _ h in and_from _ _ both.0 (all_fit f cells xs both.1)

-- there are no more runs than characters in them
pub few_runs : {X : Type 0} (f : X → Run) (origin : ℕ) (xs : List X) → list_all (λ x. is_run origin (f x)) xs ≡ true →
    length xs ≤ sum_by (λ x. length (f x).text) xs
few_runs f origin [] h = omega arith
few_runs f origin (x ∷ xs) h =
    let both = and_parts _ _ h in
    let here = (run_sized origin 0 (f x) both.0).0 in
    let rest = few_runs f origin xs both.1 in
    let sum = sum_by-cons (λ y. length (f y).text) x xs in
    omega (arith, here, rest, sum)
