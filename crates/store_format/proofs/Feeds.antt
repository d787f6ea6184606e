-- The whole lines of a file are found by their line feeds, and one more line is read.
use Rattle.std.proofs.Common.{◌≡◌, ◌⊎◌, inl, inr, ℕ, suc, ◌+◌, ◌-◌, ◌≤◌, ◌<◌, nat_le, nat_lt, Bool, true, false, List}
use Rattle.std.proofs.Common.{[], ◌∷◌, ◌++◌, length, take, drop, Option, Some, None, Result, Ok, Err, refl, sym, ap, ◌∙◌}
use Rattle.std.proofs.Common.{subst, arith, cond, option_map, ◌||◌}
use Rattle.std.proofs.lemmas.Bool.{cond-true, cond-false, le-ltb, lt-ltb}
use Rattle.std.proofs.lemmas.Bool.Decides.{leb_tells}
use Rattle.std.proofs.lemmas.List.{length-drop, length-take-le, take_rest}
use Rattle.std.specs.List.{list_any, position, position_or_len}
use Rattle.store_format.specs.Batches.{begins_batch}
use Rattle.store_format.specs.Files.{Read, behind_line, by_text, read_lines, read_on, text_read, torn_at}
use Rattle.store_format.specs.Lines.{is_feed, sum_after, text_behind, whole_lines, with_byte}
use Rattle.store_format.specs.Pieces.{unless_begun}
use Rattle.store_format.specs.declared.reader.Damage.{Damage}
use Rattle.store_format.specs.declared.reader.Damage.TheVariants.{Memory}

-- the index of the first line feed, by cases
counted_on : (p n : ℕ) → cond (nat_lt (1 + p) (suc n)) (Some (1 + p)) None
    ≡ option_map suc (cond (nat_lt p n) (Some p) None)
counted_on p n = at (leb_tells (suc p) n)
  where
    one : 1 + p ≡ suc p
    one = omega arith

    at : ((nat_le (suc p) n ≡ true) × (suc p ≤ n)) ⊎ ((nat_le (suc p) n ≡ false) × (n < suc p)) →
        cond (nat_lt (1 + p) (suc n)) (Some (1 + p)) None ≡ option_map suc (cond (nat_lt p n) (Some p) None)
    at (inl (_, low)) = cond-true _ _ _ (lt-ltb (1 + p) (suc n) (omega (arith, low)))
        ∙ (ap Some one ∙ sym (ap (option_map suc)
        (cond-true (nat_lt p n) (Some p) None (lt-ltb p n (omega (arith, low))))))
    at (inr (_, high)) = cond-false _ _ _ (le-ltb (1 + p) (suc n) (omega (arith, high)))
        ∙ sym (ap (option_map suc) (cond-false (nat_lt p n) (Some p) None (le-ltb p n (omega (arith, high)))))

position_on : (byte : ℕ) (bytes : List ℕ) → is_feed byte ≡ false → position is_feed (byte ∷ bytes)
    ≡ option_map suc (position is_feed bytes)
position_on byte bytes h = rw h (counted_on (position_or_len is_feed bytes) (length bytes))

feed_here : (byte : ℕ) (bytes : List ℕ) → is_feed byte ≡ true → position is_feed (byte ∷ bytes) ≡ Some 0
feed_here byte bytes h = rw h (cond-true _ _ _ (lt-ltb 0 (suc (length bytes)) (omega arith)))

none_is_some : (k : ℕ) → (let r : Option ℕ = None in r) ≡ Some k → ⊥
none_is_some k e = cc

same_some : (j k : ℕ) → Some j ≡ Some k → j ≡ k
same_some j k e = cc

-- the first whole line, and the lines after it
abbrev Whole : List ℕ → ℕ → Type 0
Whole bytes end = whole_lines bytes ≡ take end bytes ∷ whole_lines (drop (suc end) bytes)

pub first_whole : (bytes : List ℕ) (end : ℕ) → position is_feed bytes ≡ Some end → Whole bytes end
first_whole [] end is = absurd (none_is_some end is)
first_whole (byte ∷ bytes) end is = at (is_feed byte) refl (first_whole bytes)
  where
    at : (b : Bool) → is_feed byte ≡ b → ((k : ℕ) → position is_feed bytes ≡ Some k → Whole bytes k) →
        Whole (byte ∷ bytes) end
    at true h more = subst (Whole (byte ∷ bytes)) (same_some 0 end (sym (feed_here byte bytes h) ∙ is)) (rw h refl)
    at false h more = found (position is_feed bytes) refl
      where
        found : (o : Option ℕ) → position is_feed bytes ≡ o → Whole (byte ∷ bytes) end
        found None e = absurd (none_is_some end (sym (position_on byte bytes h ∙ ap (option_map suc) e) ∙ is))
        found (Some k) e = subst (Whole (byte ∷ bytes))
            (same_some (suc k) end (sym (position_on byte bytes h ∙ ap (option_map suc) e) ∙ is))
            (rw h (ap (with_byte byte) (more k e)))

-- no line is whole
pub none_whole : (bytes : List ℕ) → position is_feed bytes ≡ None → whole_lines bytes ≡ []
none_whole [] is = refl
none_whole (byte ∷ bytes) is = at (is_feed byte) refl (none_whole bytes)
  where
    at : (b : Bool) → is_feed byte ≡ b → (position is_feed bytes ≡ None → whole_lines bytes ≡ []) →
        whole_lines (byte ∷ bytes) ≡ []
    at true h more = absurd (none_is_some 0 (sym is ∙ feed_here byte bytes h))
    at false h more = found (position is_feed bytes) refl
      where
        found : (o : Option ℕ) → position is_feed bytes ≡ o → whole_lines (byte ∷ bytes) ≡ []
        found None e = rw h (ap (with_byte byte) (more e))
        found (Some k) e = absurd (none_is_some (suc k) (sym is ∙ (position_on byte bytes h ∙ ap (option_map suc) e)))

feed_low : (bytes : List ℕ) (end : ℕ) → position is_feed bytes ≡ Some end → end < length bytes
feed_low [] end is = absurd (none_is_some end is)
feed_low (byte ∷ bytes) end is = at (is_feed byte) refl (feed_low bytes)
  where
    at : (b : Bool) → is_feed byte ≡ b → ((k : ℕ) → position is_feed bytes ≡ Some k → k < length bytes) →
        end < suc (length bytes)
    at true h more = subst (λ k. k < suc (length bytes)) (same_some 0 end (sym (feed_here byte bytes h) ∙ is))
        (omega arith)
    at false h more = found (position is_feed bytes) refl
      where
        found : (o : Option ℕ) → position is_feed bytes ≡ o → end < suc (length bytes)
        found None e = absurd (none_is_some end (sym (position_on byte bytes h ∙ ap (option_map suc) e) ∙ is))
        found (Some k) e = subst (λ k. k < suc (length bytes))
            (same_some (suc k) end (sym (position_on byte bytes h ∙ ap (option_map suc) e) ∙ is))
            (omega (arith, more k e))

-- the same with the sum and the count after one more line with this text
pub line_there : (before : Read) (bytes : List ℕ) (end w : ℕ) (text sum : List ℕ) → Some end ≡ position is_feed bytes →
    sum ≡ sum_after before.sum text → w ≡ before.whole + end + 1 →
    record before { sum = sum; whole = w } ≡ behind_line before (take end bytes) text
line_there before bytes end w text sum is linked long =
    ap (λ (s : List ℕ). (let r : Read = record before { sum = s; whole = w } in r)) linked
    ∙ ap (λ (n : ℕ). (let r : Read = record before { sum = sum_after before.sum text; whole = n } in r))
    (at (length-take-le end bytes (low (feed_low bytes end (sym is)))))
  where
    low : end < length bytes → end ≤ length bytes
    low h = omega arith

    at : length (take end bytes) ≡ end → w ≡ before.whole + suc (length (take end bytes))
    at h = omega (arith, h, long)

-- what lines lead to, whatever lines come later, from what the first one leads to
one_more : (number : ℕ) (name : List ℕ) (before : Read) (bytes text : List ℕ) (end : ℕ) (later : List (List ℕ))
    (found : Result Read Damage) → Some end ≡ position is_feed bytes →
    text_behind before.sum (take end bytes) ≡ Some text →
    text_read number name (behind_line before (take end bytes) text) text ≡ found →
    read_lines number name before (whole_lines bytes ++ later)
    ≡ read_on (λ next. read_lines (suc number) name next (whole_lines (drop (suc end) bytes) ++ later)) found
one_more number name before bytes text end later found is linked leads =
    ap (λ (ls : List (List ℕ)). read_lines number name before (ls ++ later)) (first_whole bytes end (sym is))
    ∙ ap (by_text (torn_at number before (take end bytes ∷ (whole_lines (drop (suc end) bytes) ++ later)))
    (λ t. read_on (λ next. read_lines (suc number) name next (whole_lines (drop (suc end) bytes) ++ later))
    (text_read number name (behind_line before (take end bytes) t) t))) linked
    ∙ ap (read_on (λ next. read_lines (suc number) name next (whole_lines (drop (suc end) bytes) ++ later))) leads

-- what lines lead to whose first one is not linked
torn_lines : (number : ℕ) (name : List ℕ) (before : Read) (bytes : List ℕ) (end : ℕ) (later : List (List ℕ)) →
    Some end ≡ position is_feed bytes → text_behind before.sum (take end bytes) ≡ None →
    read_lines number name before (whole_lines bytes ++ later) ≡ torn_at number before (whole_lines bytes ++ later)
torn_lines number name before bytes end later is unlinked =
    ap (λ (ls : List (List ℕ)). read_lines number name before (ls ++ later)) (first_whole bytes end (sym is))
    ∙ (ap (by_text (torn_at number before (take end bytes ∷ (whole_lines (drop (suc end) bytes) ++ later)))
    (λ t. read_on (λ next. read_lines (suc number) name next (whole_lines (drop (suc end) bytes) ++ later))
    (text_read number name (behind_line before (take end bytes) t) t))) unlinked
    ∙ ap (λ (ls : List (List ℕ)). torn_at number before (ls ++ later)) (sym (first_whole bytes end (sym is))))

-- the invariant of a loop over lines: what they lead to, whatever lines come later, how many bytes there are, and how
-- many lines there may be
abbrev pub Kept : ℕ → List ℕ → Read → List ℕ → (List (List ℕ) → Result Read Damage) → ℕ → ℕ → Type 0
Kept number name before bytes all total limit =
    ((later : List (List ℕ)) → read_lines (suc number) name before (whole_lines bytes ++ later) ≡ all later)
    × (before.whole + length bytes ≡ total) × (number + length bytes ≤ limit)

-- one more line keeps it
pub goes_on : (number count : ℕ) (name : List ℕ) (before next : Read) (bytes rest text sum : List ℕ) (end k w : ℕ)
    (all : List (List ℕ) → Result Read Damage) (total limit : ℕ) → count ≡ suc number → k ≡ suc end →
    w ≡ before.whole + end + 1 → take (length bytes - k) (drop k bytes) ≡ rest → Some end ≡ position is_feed bytes →
    text_behind before.sum (take end bytes) ≡ Some text → sum ≡ sum_after before.sum text →
    text_read count name (record before { sum = sum; whole = w }) text ≡ Ok next → next.whole ≡ w →
    Kept number name before bytes all total limit → Kept count name next rest all total limit
goes_on number count name before next bytes rest text sum end k w all total limit more behind long left is linked summed
    leads counted (so, whole, few) =
    subst (λ n. Kept n name next rest all total limit) (sym more)
    (subst (λ bs. Kept (suc number) name next bs all total limit) (ap (λ i. drop i bytes) (sym behind)
    ∙ (sym (take_rest bytes k) ∙ left)) (
      λ later. sym (one_more (suc number) name before bytes text end later (Ok next) is linked
          (ap (λ (r : Read). text_read (suc number) name r text) (sym (line_there before bytes end w text sum is summed long))
          ∙ subst (λ n. text_read n name (record before { sum = sum; whole = w }) text ≡ Ok next) more leads)) ∙ so later,
      counts (length-drop (suc end) bytes) (feed_low bytes end (sym is)),
      fewer (length-drop (suc end) bytes) (feed_low bytes end (sym is)),
    ))
  where
    counts : length (drop (suc end) bytes) ≡ length bytes - suc end → end < length bytes →
        next.whole + length (drop (suc end) bytes) ≡ total
    counts b low = omega (arith, counted, long, whole)

    fewer : length (drop (suc end) bytes) ≡ length bytes - suc end → end < length bytes → suc number
        + length (drop (suc end) bytes) ≤ limit
    fewer b low = omega (arith, few)

-- damage of the next line is the result of all
pub fails : (number count : ℕ) (name : List ℕ) (before : Read) (bytes text sum : List ℕ) (end w : ℕ) (damage : Damage)
    (all : List (List ℕ) → Result Read Damage) → count ≡ suc number → w ≡ before.whole + end + 1 →
    Some end ≡ position is_feed bytes → text_behind before.sum (take end bytes) ≡ Some text →
    sum ≡ sum_after before.sum text →
    (damage ≡ Memory) ⊎ (text_read count name (record before { sum = sum; whole = w }) text ≡ Err damage) →
    ((later : List (List ℕ)) → read_lines (suc number) name before (whole_lines bytes ++ later) ≡ all later) →
    (damage ≡ Memory) ⊎ ((later : List (List ℕ)) → all later ≡ Err damage)
fails number count name before bytes text sum end w damage all next long is linked summed (inl memory) so = inl memory
fails number count name before bytes text sum end w damage all next long is linked summed (inr wrong) so =
    inr (λ later. sym (so later) ∙ one_more (suc number) name before bytes text end later (Err damage) is linked
    (ap (λ (r : Read). text_read (suc number) name r text) (sym (line_there before bytes end w text sum is summed long))
    ∙ subst (λ n. text_read n name (record before { sum = sum; whole = w }) text ≡ Err damage) next wrong))

-- if a line is not linked, and none from it on begins a batch so far, the later lines decide
pub torn_ends : (number count : ℕ) (name : List ℕ) (before : Read) (bytes : List ℕ) (end : ℕ)
    (all : List (List ℕ) → Result Read Damage) → count ≡ suc number → Some end ≡ position is_feed bytes →
    text_behind before.sum (take end bytes) ≡ None →
    ((later : List (List ℕ)) → torn_at count before (whole_lines bytes ++ later) ≡ torn_at count before later) →
    ((later : List (List ℕ)) → read_lines (suc number) name before (whole_lines bytes ++ later) ≡ all later) →
    (later : List (List ℕ)) → all later ≡ torn_at count before later
torn_ends number count name before bytes end all next is unlinked passed so later =
    sym (so later) ∙ (torn_lines (suc number) name before bytes end later is unlinked
    ∙ subst (λ n. torn_at n before (whole_lines bytes ++ later) ≡ torn_at count before later) next (passed later))

-- and if one does, this is the damage
pub torn_fails : (number count : ℕ) (name : List ℕ) (before : Read) (bytes : List ℕ) (end : ℕ) (damage : Damage)
    (all : List (List ℕ) → Result Read Damage) → count ≡ suc number → Some end ≡ position is_feed bytes →
    text_behind before.sum (take end bytes) ≡ None →
    (damage ≡ Memory) ⊎ ((found : Result Read Damage) (later : List (List ℕ)) →
    unless_begun count found (whole_lines bytes ++ later) ≡ Err damage) →
    ((later : List (List ℕ)) → read_lines (suc number) name before (whole_lines bytes ++ later) ≡ all later) →
    (damage ≡ Memory) ⊎ ((later : List (List ℕ)) → all later ≡ Err damage)
torn_fails number count name before bytes end damage all next is unlinked (inl memory) so = inl memory
torn_fails number count name before bytes end damage all next is unlinked (inr wrong) so =
    inr (λ later. sym (so later) ∙ (torn_lines (suc number) name before bytes end later is unlinked
    ∙ subst (λ n. torn_at n before (whole_lines bytes ++ later) ≡ Err damage) next (wrong (Ok before) later)))

-- no line is left, so the later lines decide
pub ends : (number : ℕ) (name : List ℕ) (before : Read) (bytes : List ℕ) (all : List (List ℕ) → Result Read Damage) →
    None ≡ position is_feed bytes →
    ((later : List (List ℕ)) → read_lines (suc number) name before (whole_lines bytes ++ later) ≡ all later) →
    (later : List (List ℕ)) → all later ≡ read_lines (suc number) name before later
ends number name before bytes all is so later =
    sym (so later)
    ∙ ap (λ (ls : List (List ℕ)). read_lines (suc number) name before (ls ++ later)) (none_whole bytes (sym is))

-- whether a line begins a batch is decided by the first line or by those after it
pub begins_here : (bytes : List ℕ) (end : ℕ) → Some end ≡ position is_feed bytes → begins_batch (take end bytes) ≡ true →
    list_any begins_batch (whole_lines bytes) ≡ true
begins_here bytes end is begins =
    ap (list_any begins_batch) (first_whole bytes end (sym is))
    ∙ ap (λ b. b || list_any begins_batch (whole_lines (drop (suc end) bytes))) begins

pub begins_behind : (bytes rest : List ℕ) (end k : ℕ) (all : Bool) → k ≡ suc end →
    take (length bytes - k) (drop k bytes) ≡ rest → Some end ≡ position is_feed bytes →
    begins_batch (take end bytes) ≡ false → list_any begins_batch (whole_lines bytes) ≡ all →
    list_any begins_batch (whole_lines rest) ≡ all
begins_behind bytes rest end k all behind left is begins so =
    subst (λ bs. list_any begins_batch (whole_lines bs) ≡ all) (ap (λ i. drop i bytes) (sym behind)
    ∙ (sym (take_rest bytes k) ∙ left))
    (sym (ap (list_any begins_batch) (first_whole bytes end (sym is))
    ∙ ap (λ b. b || list_any begins_batch (whole_lines (drop (suc end) bytes))) begins) ∙ so)

-- what is left after some bytes is no longer than before
pub rest_short : (bytes : List ℕ) (k limit : ℕ) → length bytes ≤ limit →
    length (take (length bytes - k) (drop k bytes)) ≤ limit
rest_short bytes k limit low = at (ap length (take_rest bytes k)) (length-drop k bytes)
  where
    at : length (take (length bytes - k) (drop k bytes)) ≡ length (drop k bytes) → length (drop k bytes) ≡ length bytes
        - k → length (take (length bytes - k) (drop k bytes)) ≤ limit
    at a b = omega (arith, low, a, b)

pub begins_nowhere : (bytes : List ℕ) (all : Bool) → None ≡ position is_feed bytes →
    list_any begins_batch (whole_lines bytes) ≡ all → all ≡ false
begins_nowhere bytes all is so = sym so ∙ ap (list_any begins_batch) (none_whole bytes (sym is))
