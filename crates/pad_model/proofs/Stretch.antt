-- A deletion of what a log shows: it is within the limits and fits, and how many characters it hides.
use Rattle.std.proofs.Common.{◌≡◌, ℕ, ◌+◌, ◌-◌, ◌<◌, ◌≤◌, Bool, true, false, not, ◌&&◌, List, [], ◌∷◌, ◌++◌, length}
use Rattle.std.proofs.Common.{refl, sym, ap, ap₂, ◌∙◌, subst, map, filter, take, drop, flat_map, count_by, sum_by}
use Rattle.std.proofs.Common.{is_none, Option, Some, None, arith, leb-true, le-ltb}
use Rattle.std.proofs.lemmas.Bool.{and_parts}
use Rattle.std.proofs.lemmas.List.{take_all, take-append-drop, length-take-le, length-drop}
use Rattle.std.proofs.lemmas.List.Folds.{list_all-map}
use Rattle.std.proofs.lemmas.List.Sums.{length-filter}
use Rattle.std.specs.List.{AllByRecursion, list_all}
use Rattle.pad_model.specs.Stamp.{Stamp}
use Rattle.pad_model.specs.Character.{Character, run_characters}
use Rattle.pad_model.specs.Cell.{Cell, character_of, is_after, is_hidden_by, IsBy}
use Rattle.pad_model.specs.Checked.{is_part, is_span, is_checked}
use Rattle.pad_model.specs.History.{IsHistory, Continues, cells_of}
use Rattle.pad_model.specs.Laws.{itself}
use Rattle.pad_model.specs.Legal.{has_stamp, IsTree}
use Rattle.pad_model.specs.Log.{has_spans}
use Rattle.pad_model.specs.Operation.{Characters, author_of, part_inserts, part_erases, inserted_by, characters_in}
use Rattle.pad_model.specs.Order.{order}
use Rattle.pad_model.specs.Parts.{spans_in}
use Rattle.pad_model.specs.Visible.{visible, is_erased, hidden_by, spans, spans_of}
use Rattle.pad_model.specs.declared.limits.TheConstants.{MAX_COUNTER}
use Rattle.pad_model.specs.declared.who.Author.{Author}
use Rattle.pad_model.specs.declared.op.Part.{Part}
use Rattle.pad_model.specs.declared.op.Part.TheVariants.{Insert, Delete, Comment, Resolve}
use Rattle.pad_model.specs.declared.op.Op.{Op}
use Rattle.pad_model.proofs.Each.{each-append, each-left, each-right, each-imply, each-both, each-permutation}
use Rattle.pad_model.proofs.Erasing.{spans-stamps, spans-len, spans-checked, spans-some}
use Rattle.pad_model.proofs.Filters.{each-filter}
use Rattle.pad_model.proofs.Grown.{spans-erases}
use Rattle.pad_model.proofs.Growth.{IsTree-history, IsHistory-take, run_below}
use Rattle.pad_model.proofs.History.{filter-same, filter-both, map_keeps_length, cells_alive, cells_of-characters}
use Rattle.pad_model.proofs.Local.{all_pass, has_parent-take}
use Rattle.pad_model.proofs.Maps.{each-map, filter-map}
use Rattle.pad_model.proofs.Members.{order-permutation}
use Rattle.pad_model.proofs.Newer.{split}
use Rattle.pad_model.proofs.Pushed.{IsBy-cells_of}
use Rattle.pad_model.proofs.Sets.{each_Has, has_stamp_of}

-- whether a counter is within the limit
abbrev pub IsLow : Character → Type 0
IsLow c = c.stamp.counter ≤ MAX_COUNTER

below_limit : (c : Character) → c.stamp.counter < MAX_COUNTER + 1 → IsLow c
below_limit c l = omega arith

part_low : (origin : ℕ) (author : Author) (part : Part) → is_part origin part ≡ true →
    AllByRecursion IsLow (part_inserts author part)
part_low origin author (Insert run) h =
    let fits : run.first.counter + length run.text ≤ MAX_COUNTER + 1 = leb-true (run.first.counter + length run.text)
    (MAX_COUNTER + 1) (and_parts _ _ h).1 in
    each-imply (λ (c : Character). c.stamp.counter < MAX_COUNTER + 1) IsLow below_limit
    (run_characters run.first run.after run.text author)
    (run_below run.first run.after run.text author (MAX_COUNTER + 1) fits)
part_low origin author (Delete spans) h = tt
part_low origin author (Comment first last text) h = tt
part_low origin author (Resolve comment) h = tt

parts_low : (origin : ℕ) (author : Author) (parts : List Part) → list_all (is_part origin) parts ≡ true →
    AllByRecursion IsLow (flat_map (part_inserts author) parts)
parts_low origin author [] h = tt
parts_low origin author (part ∷ parts) h =
    let both = and_parts (is_part origin part) (list_all (is_part origin) parts) h in
    each-append IsLow (part_inserts author part) (flat_map (part_inserts author) parts)
    (part_low origin author part both.0) (parts_low origin author parts both.1)

op_low : (op : Op) → is_checked op ≡ true → AllByRecursion IsLow (inserted_by op)
op_low op h =
    let parts = (and_parts _ _ h).1 in
    let all = and_parts _ _ parts in
    parts_low op.name.origin (author_of op) op.parts (and_parts _ _ (and_parts _ _ all.0).0).1

-- no character of a history has a counter above the limit
pub low_continues : (before more : List Op) → Continues before more → AllByRecursion IsLow (flat_map inserted_by more)
low_continues before [] h = tt
low_continues before (op ∷ more) h = each-append IsLow (inserted_by op) (flat_map inserted_by more) (op_low op h.0)
    (low_continues (before ++ op ∷ []) more h.2)

-- what each inserted character has, each character of a stretch of the text has
each_shown : (P : Character → Type 0) (set : Characters) (i n : ℕ) → IsTree itself set.inserted →
    AllByRecursion P set.inserted → AllByRecursion P (take n (drop i (visible set)))
each_shown P set i n t h =
    let ordered = each-permutation P set.inserted (order itself set.inserted) (order-permutation itself set.inserted t)
    h in
    let shown = each-filter P (λ c. not (is_erased set.erased c.stamp)) (order itself set.inserted) ordered in
    let rest = each-right P (take i (visible set)) (drop i (visible set))
    (subst (AllByRecursion P) (sym (take-append-drop i (visible set))) shown) in
    each-left P (take n (drop i (visible set))) (drop n (drop i (visible set)))
    (subst (AllByRecursion P) (sym (take-append-drop n (drop i (visible set)))) rest)

-- a stretch of an earlier text names inserted characters
pub has_spans-stretch : (log : List Op) (k i n : ℕ) → IsHistory log → has_spans itself (characters_in log).inserted
    (spans_of (characters_in (take k log)) i n) ≡ true
has_spans-stretch log k i n h =
    let set = characters_in (take k log) in
    let part = IsTree-history (take k log) (IsHistory-take log k h) in
    let all = (characters_in log).inserted in
    let cs = take n (drop i (visible set)) in
    let each = each_shown (λ c. has_stamp itself all c.stamp ≡ true) set i n part
    (each_Has (λ c. has_stamp itself all c.stamp ≡ true) set.inserted (λ c m. has_parent-take log k (Some c.stamp)
    (has_stamp_of itself set.inserted c m))) in
    ap (list_all (λ s. has_stamp itself all s)) (spans-stamps (map (λ c. c.stamp) cs))
    ∙ list_all-map (λ s. has_stamp itself all s) (λ (c : Character). c.stamp) cs
    ∙ all_pass (λ c. has_stamp itself all c.stamp) cs each

-- its spans are within the limits
pub spans_of-checked : (log : List Op) (i n : ℕ) → IsHistory log → list_all is_span (spans_of (characters_in log) i n)
    ≡ true
spans_of-checked log i n h =
    let set = characters_in log in
    let cs = take n (drop i (visible set)) in
    spans-checked (map (λ c. c.stamp) cs) (each-map (λ (c : Character). c.stamp) (λ s. s.counter ≤ MAX_COUNTER) cs
    (each_shown IsLow set i n (IsTree-history log h) (low_continues [] log h)))

stretch_len : (set : Characters) (i n : ℕ) → i + n ≤ length (visible set) →
    length (map (λ c. c.stamp) (take n (drop i (visible set)))) ≡ n
stretch_len set i n l =
    map_keeps_length (λ (c : Character). c.stamp) (take n (drop i (visible set)))
    ∙ length-take-le n (drop i (visible set)) (let rest : length (drop i (visible set)) ≡ length (visible set)
    - i = length-drop i (visible set) in omega arith)

-- they have as many characters as it
pub spans_of-len : (set : Characters) (i n : ℕ) → i + n ≤ length (visible set) →
    sum_by (λ span. span.len) (spans_of set i n) ≡ n
spans_of-len set i n l = spans-len (map (λ c. c.stamp) (take n (drop i (visible set)))) ∙ stretch_len set i n l

-- and there is at least one if it is not empty
pub spans_of-some : (set : Characters) (i n : ℕ) → i + n ≤ length (visible set) → 1 ≤ n → 1 ≤ length (spans_of set i n)
spans_of-some set i n l some = spans-some (map (λ c. c.stamp) (take n (drop i (visible set))))
    (omega (arith, stretch_len set i n l))

-- a cell that a deletion hides was visible before it
hides_one : (log : List Op) (parts : List Part) (c : Cell) → IsBy (length log) c → is_after (length log) c.died
    ≡ not (is_erased (characters_in (take (length log) log)).erased c.stamp) →
    is_hidden_by (spans_in parts) c ≡ (not (is_erased (characters_in log).erased c.stamp)
    && is_erased (flat_map part_erases parts) c.stamp)
hides_one log parts c by alive =
    let lives : is_none c.died ≡ not (is_erased (characters_in log).erased c.stamp) = never_after c.died by.1 ∙ alive
    ∙ ap (λ l. not (is_erased (characters_in l).erased c.stamp)) (take_all (length log) log (omega arith)) in
    ap₂ (λ stamps b. is_erased stamps c.stamp && b) (spans-erases parts) lives
    ∙ other_way (is_erased (flat_map part_erases parts) c.stamp) (not (is_erased (characters_in log).erased c.stamp))
  where
    other_way : (a b : Bool) → (a && b) ≡ (b && a)
    other_way true b = split b (λ e. rw e refl) (λ e. rw e refl)
    other_way false b = split b (λ e. rw e refl) (λ e. rw e refl)

    never_after : (died : Option ℕ) → ((d : ℕ) → died ≡ Some d → d ≤ length log) → is_none died
        ≡ is_after (length log) died
    never_after None b = refl
    never_after (Some d) b = sym (le-ltb (length log) d (b d refl))

-- how many cells a deletion hides is how many characters it hides
pub hidden-cells_of : (log : List Op) (parts : List Part) → IsHistory log → count_by (is_hidden_by (spans_in parts))
    (cells_of log) ≡ hidden_by (flat_map part_erases parts) (characters_in log)
hidden-cells_of log parts h =
    let set = characters_in log in
    let stamps = flat_map part_erases parts in
    let hides : Stamp → Bool = λ s. not (is_erased set.erased s) && is_erased stamps s in
    sym (length-filter (is_hidden_by (spans_in parts)) (cells_of log))
    ∙ ap length (filter-same (is_hidden_by (spans_in parts)) (λ c. hides c.stamp) (cells_of log)
    (each-both (IsBy (length log)) (λ c. is_after (length log) c.died
    ≡ not (is_erased (characters_in (take (length log) log)).erased c.stamp)) (λ c. is_hidden_by (spans_in parts) c
    ≡ hides c.stamp) (λ c by alive. hides_one log parts c by alive) (cells_of log)
    (IsBy-cells_of log (length log) h (omega arith)) (cells_alive log (length log) (IsTree-history log h))))
    ∙ sym (map_keeps_length character_of (filter (λ c. hides c.stamp) (cells_of log)))
    ∙ ap length (sym (filter-map character_of (λ c. hides c.stamp) (cells_of log)))
    ∙ ap (λ l. length (filter (λ c. hides c.stamp) l)) (cells_of-characters log)
    ∙ ap length (filter-both (λ c. not (is_erased set.erased c.stamp)) (λ c. is_erased stamps c.stamp)
    (order itself set.inserted))
    ∙ length-filter (λ c. is_erased stamps c.stamp) (visible set)
