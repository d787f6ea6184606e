-- Times are read back from their differences, and never fall.
use Rattle.std.proofs.Common.{◌≡◌, ℕ, zero, suc, ◌+◌, ◌-◌, ◌≤◌, ◌<◌, List, [], ◌∷◌, ◌++◌, length, replicate, max, Bool, true, false}
use Rattle.std.proofs.Common.{refl, sym, ap, ap₂, ◌∙◌, arith, slice_get, get_or, Some, None, Option, option_map, leb, ltb, cond, fold, Result, Ok, Err, IsOk, is_ok, if◌then◌else◌, take, take_all, append-nil, length-append}
use Rattle.std.proofs.lemmas.List.{length-replicate}
use Rattle.std.proofs.lemmas.Bool.{le-leb, le-ltb, leb-false, lt-leb, lt-ltb, ltb-false, ltb-true}
use Rattle.std.proofs.lemmas.List.Sums.{fold-append}
use Rattle.op_log.specs.Times.{last_from, last_time, IsRisingFrom, IsRising, base_at, times_from, begun, base_after, count_until, greatest_step}
use Rattle.op_log.specs.declared.time_list.Era.{Era}

-- one more era
base_more : (eras : List Era) (era : Era) (place : ℕ) →
    base_at (eras ++ era ∷ []) place ≡ cond (leb era.from place) era.base (base_at eras place)
base_more eras era place = fold-append (λ base e. cond (leb e.from place) e.base base) 0 eras (era ∷ [])

-- differences before a new era are counted as they were
before_era : (eras : List Era) (era : Era) (place : ℕ) (steps : List ℕ) → place + length steps ≤ era.from →
    times_from (eras ++ era ∷ []) place steps ≡ times_from eras place steps
before_era eras era place [] low = refl
before_era eras era place (step ∷ steps) low =
    ap₂ (λ (b : ℕ) (ts : List ℕ). (b + step) ∷ ts)
    (base_more eras era place ∙ ap (λ b. cond b era.base (base_at eras place)) (lt-leb era.from place (omega (arith, low))))
    (before_era eras era (place + 1) steps (omega (arith, low)))

-- differences behind others
behind : (eras : List Era) (place : ℕ) (steps more : List ℕ) →
    times_from eras place (steps ++ more) ≡ times_from eras place steps ++ times_from eras (place + length steps) more
behind eras place [] more = ap (λ p. times_from eras p more) (omega arith)
behind eras place (step ∷ steps) more =
    ap (λ (ts : List ℕ). (base_at eras place + step) ∷ ts)
    (behind eras (place + 1) steps more
    ∙ ap (λ p. times_from eras (place + 1) steps ++ times_from eras p more) (omega arith))

-- one difference, several times
repeated : (eras : List Era) (place base step count : ℕ) →
    ((p : ℕ) → place ≤ p → base_at eras p ≡ base) →
    times_from eras place (replicate count step) ≡ replicate count (base + step)
repeated eras place base step zero based = refl
repeated eras place base step (suc count) based =
    ap₂ (λ (b : ℕ) (ts : List ℕ). (b + step) ∷ ts) (based place (omega arith))
    (repeated eras (place + 1) base step count (λ p le. based p (omega (arith, le))))

-- where times are counted from behind a place at which one was added
pub based_after : (eras : List Era) (place base now : ℕ) → ((p : ℕ) → place ≤ p → base_at eras p ≡ base) →
    (p : ℕ) → place ≤ p → base_at (begun place base now eras) p ≡ base_after base now
based_after eras place base now based p le = by_test (ltb greatest_step (now - base))
  where
    by_test : (b : Bool) → base_at (cond b (eras ++ (let e : Era = record { from = place; base = now } in e) ∷ []) eras) p
        ≡ cond b now base
    by_test true =
        base_more eras (record { from = place; base = now }) p
        ∙ ap (λ b. cond b now (base_at eras p)) (le-leb place p le)
    by_test false = based p le

-- one time is added, several times
pub filled : (eras : List Era) (steps : List ℕ) (base now step count : ℕ) →
    ((p : ℕ) → length steps ≤ p → base_at eras p ≡ base) → base_after base now + step ≡ now →
    times_from (begun (length steps) base now eras) 0 (steps ++ replicate count step)
    ≡ times_from eras 0 steps ++ replicate count now
filled eras steps base now step count based is =
    behind (begun (length steps) base now eras) 0 steps (replicate count step)
    ∙ ap₂ (λ (ts us : List ℕ). ts ++ us) (kept (ltb greatest_step (now - base)))
    (repeated (begun (length steps) base now eras) (0 + length steps) (base_after base now) step count
    (λ p le. based_after eras (length steps) base now based p (omega (arith, le)))
    ∙ ap (replicate count) is)
  where
    kept : (b : Bool) → times_from (cond b (eras ++ (let e : Era = record { from = length steps; base = now } in e) ∷ []) eras)
        0 steps ≡ times_from eras 0 steps
    kept true = before_era eras (record { from = length steps; base = now }) 0 steps (omega arith)
    kept false = refl

-- times after which one is added several times
pub rising_filled : (before : ℕ) (times : List ℕ) (count now : ℕ) → IsRisingFrom before times →
    last_from before times ≤ now → IsRisingFrom before (times ++ replicate count now)
rising_filled before [] zero now rising low = tt
rising_filled before [] (suc count) now rising low = (low, rising_filled now [] count now tt (omega arith))
rising_filled before (time ∷ times) count now rising low =
    (rising.0, rising_filled time times count now rising.1 low)

-- the last of them
pub last_filled : (before : ℕ) (times : List ℕ) (count now : ℕ) → last_from before (times ++ replicate (suc count) now) ≡ now
last_filled before [] zero now = refl
last_filled before [] (suc count) now = last_filled now [] count now
last_filled before (time ∷ times) count now = last_filled time times count now

-- the last time is not below what was before
pub last_high : (before : ℕ) (times : List ℕ) → IsRisingFrom before times → before ≤ last_from before times
last_high before [] rising = omega arith
last_high before (time ∷ times) rising = let more = last_high time times rising.1 in omega (arith, rising.0, more)

-- no time is above the last one
pub none_above : (before : ℕ) (times : List ℕ) (place time : ℕ) → IsRisingFrom before times →
    slice_get times place ≡ Some time → time ≤ last_from before times
none_above before [] place time rising is = absurd (cc)
none_above before (t ∷ times) zero time rising is =
    let same : t ≡ time = same_some t time is in
    let more = last_high t times rising.1 in omega (arith, same, more)
  where
    same_some : (a b : ℕ) → Some a ≡ Some b → a ≡ b
    same_some a b q = cc
none_above before (t ∷ times) (suc place) time rising is = none_above t times place time rising.1 is

-- a time at a place
pub time_there : (eras : List Era) (place at : ℕ) (steps : List ℕ) →
    slice_get (times_from eras place steps) at ≡ option_map (λ step. base_at eras (place + at) + step) (slice_get steps at)
time_there eras place at [] = refl
time_there eras place zero (step ∷ steps) = ap (λ p. Some (base_at eras p + step)) (omega arith)
time_there eras place (suc at) (step ∷ steps) =
    let next : place + 1 + at ≡ place + suc at = omega arith in
    time_there eras (place + 1) at steps
    ∙ ap (λ p. option_map (λ s. base_at eras p + s) (slice_get steps at)) next

-- as many times as differences
pub times_long : (eras : List Era) (place : ℕ) (steps : List ℕ) → length (times_from eras place steps) ≡ length steps
times_long eras place [] = refl
times_long eras place (step ∷ steps) = ap suc (times_long eras (place + 1) steps)

-- nothing is added where there are enough
pub none_filled : (times : List ℕ) (count time : ℕ) → count ≤ length times →
    times ≡ times ++ replicate (count - length times) time
none_filled times count time enough =
    let none : count - length times ≡ 0 = omega (arith, enough) in
    sym (ap (λ n. times ++ replicate n time) none ∙ append-nil times)

-- a vector that was filled up in its room
pub resized : {E : Type 0} (r : Result (Unit {0}) E) (steps new : List ℕ) (count len step : ℕ) → IsOk r →
    len ≡ length steps → len ≤ count →
    new ≡ (if is_ok r then take count steps ++ replicate (count - len) step else steps) →
    new ≡ steps ++ replicate (count - len) step
resized (Ok x) steps new count len step ok long more is =
    is ∙ ap (λ (ss : List ℕ). ss ++ replicate (count - len) step) (take_all count steps (omega (arith, long, more)))
resized (Err e) steps new count len step ok long more is = absurd (cc)

-- the times of a list that was filled up
pub fills : (eras more : List Era) (steps new : List ℕ) (place base base' now step count : ℕ) (times : List ℕ) →
    times_from eras 0 steps ≡ times → ((p : ℕ) → length steps ≤ p → base_at eras p ≡ base) → place ≡ length steps →
    more ≡ begun place base now eras → base' ≡ base_after base now → base' + step ≡ now →
    new ≡ steps ++ replicate (count - length steps) step →
    times_from more 0 new ≡ times ++ replicate (count - length times) now
fills eras more steps new place base base' now step count times shown based there begins is step_is adds =
    let long : length times ≡ length steps = ap length (sym shown) ∙ times_long eras 0 steps in
    ap₂ (λ (es : List Era) (ss : List ℕ). times_from es 0 ss) (begins ∙ ap (λ p. begun p base now eras) there) adds
    ∙ filled eras steps base now step (count - length steps) based (ap (λ b. b + step) (sym is) ∙ step_is)
    ∙ ap₂ (λ (ts : List ℕ) (n : ℕ). ts ++ replicate (count - n) now) shown (sym long)

-- what is known of it
pub record IsFilled (times new : List ℕ) (last now : ℕ) : Type 0 where
  pub rising : IsRising new
  pub last_is : now ≡ last_time new

pub filled_known : (times : List ℕ) (last now count : ℕ) → IsRising times → last ≡ last_time times → last ≤ now →
    length times < count → IsFilled times (times ++ replicate (count - length times) now) last now
filled_known times last now count rising last_is late more = record {
  rising = rising_filled 0 times (count - length times) now rising (omega (arith, last_is, late));
  last_is = let one : count - length times ≡ suc (count - length times - 1) = omega (arith, more) in
      sym (ap (λ n. last_from 0 (times ++ replicate n now)) one ∙ last_filled 0 times (count - length times - 1) now);
}

step_there : (steps : List ℕ) (at step : ℕ) → at < length steps → step ≡ get_or steps at step →
    slice_get steps at ≡ Some step
step_there [] at step low is = absurd (omega (arith, low))
step_there (x ∷ steps) zero step low is = ap Some (sym is)
step_there (x ∷ steps) (suc at) step low is = step_there steps at step (omega (arith, low)) is

no_step : (steps : List ℕ) (at : ℕ) → length steps ≤ at → slice_get steps at ≡ None
no_step [] at high = refl
no_step (x ∷ steps) zero high = absurd (omega (arith, high))
no_step (x ∷ steps) (suc at) high = no_step steps at (omega (arith, high))

pub some_there : (eras : List Era) (steps : List ℕ) (at step : ℕ) → at < length steps → step ≡ get_or steps at step →
    slice_get (times_from eras 0 steps) at ≡ Some (base_at eras at + step)
some_there eras steps at step low is = time_there eras 0 at steps
    ∙ ap₂ (λ (p : ℕ) (s : Option ℕ). option_map (λ x. base_at eras p + x) s) (omega arith) (step_there steps at step low is)

pub none_there : (eras : List Era) (steps : List ℕ) (at : ℕ) → length steps ≤ at →
    slice_get (times_from eras 0 steps) at ≡ None
none_there eras steps at high = time_there eras 0 at steps
    ∙ ap (option_map (λ x. base_at eras (0 + at) + x)) (no_step steps at high)

-- there is room for the times that are there
pub roomy : (b : Bool) (n long room : ℕ) → n ≤ long → long ≤ room → n ≤ cond b room long
roomy true n long room low fits = omega (arith, low, fits)
roomy false n long room low fits = low

-- room for more times is that of the differences
pub room_of : (b : Bool) (count long room : ℕ) → count ≤ cond b room long → long < count → count ≤ room
room_of true count long room fits more = fits
room_of false count long room fits more = absurd (omega (arith, fits, more))

-- as many differences as were asked for
pub added_long : (steps new : List ℕ) (count step : ℕ) → length steps ≤ count →
    new ≡ steps ++ replicate (count - length steps) step → length new ≡ count
added_long steps new count step low is =
    let all : length (steps ++ replicate (count - length steps) step) ≡ length steps + length (replicate (count - length steps) step)
    = length-append steps (replicate (count - length steps) step) in
    let more : length (replicate (count - length steps) step) ≡ count - length steps = length-replicate (count - length steps) step in
    ap length is ∙ all ∙ omega (arith, more, low)

-- a time behind others is not below what was before them
low_there : (before : ℕ) (times : List ℕ) (place time : ℕ) → IsRisingFrom before times →
    slice_get times place ≡ Some time → before ≤ time
low_there before [] place time rising is = absurd (cc)
low_there before (t ∷ times) zero time rising is =
    let same : t ≡ time = same_some t time is in omega (arith, same, rising.0)
  where
    same_some : (a b : ℕ) → Some a ≡ Some b → a ≡ b
    same_some a b q = cc
low_there before (t ∷ times) (suc place) time rising is =
    let more = low_there t times place time rising.1 is in omega (arith, more, rising.0)

-- a place is below another just where the next ones are so
one_more : (a b : ℕ) → ltb (suc a) (suc b) ≡ ltb a b
one_more a b = by_test (ltb a b) refl
  where
    by_test : (t : Bool) → ltb a b ≡ t → ltb (suc a) (suc b) ≡ ltb a b
    by_test true low = lt-ltb (suc a) (suc b) (let less = ltb-true a b low in omega (arith, less)) ∙ sym low
    by_test false high = le-ltb (suc a) (suc b) (let more = ltb-false a b high in omega (arith, more)) ∙ sym high

-- a time is not later than a moment just where it comes before the first one that is
pub until_there : (before moment : ℕ) (times : List ℕ) (place time : ℕ) → IsRisingFrom before times →
    slice_get times place ≡ Some time → leb time moment ≡ ltb place (count_until moment times)
until_there before moment [] place time rising is = absurd (cc)
until_there before moment (t ∷ times) zero time rising is =
    ap (λ n. leb n moment) (sym (same_some t time is)) ∙ first (leb t moment) (count_until moment times)
  where
    same_some : (a b : ℕ) → Some a ≡ Some b → a ≡ b
    same_some a b q = cc

    first : (b : Bool) (n : ℕ) → b ≡ ltb 0 (cond b (suc n) 0)
    first true n = sym (lt-ltb 0 (suc n) (omega arith))
    first false n = sym (le-ltb 0 0 (omega arith))
until_there before moment (t ∷ times) (suc place) time rising is =
    by_test (leb t moment) refl (until_there t moment times place time rising.1 is)
    (low_there t times place time rising.1 is)
  where
    by_test : (b : Bool) → leb t moment ≡ b → leb time moment ≡ ltb place (count_until moment times) → t ≤ time →
        leb time moment ≡ ltb (suc place) (cond b (suc (count_until moment times)) 0)
    by_test true early rest more = rest ∙ sym (one_more place (count_until moment times))
    by_test false late rest more =
        let above = leb-false t moment late in
        lt-leb time moment (omega (arith, above, more)) ∙ sym (le-ltb (suc place) 0 (omega arith))

-- no more times come before the first late one than there are
pub until_low : (moment : ℕ) (times : List ℕ) → count_until moment times ≤ length times
until_low moment [] = omega arith
until_low moment (t ∷ times) = by_test (leb t moment) (until_low moment times)
  where
    by_test : (b : Bool) → count_until moment times ≤ length times →
        cond b (suc (count_until moment times)) 0 ≤ suc (length times)
    by_test true more = omega (arith, more)
    by_test false more = omega arith

-- where there is no time, none comes before the first late one
pub none_until : (moment : ℕ) (times : List ℕ) (place : ℕ) → slice_get times place ≡ None →
    false ≡ ltb place (count_until moment times)
none_until moment [] place is = sym (le-ltb place 0 (omega arith))
none_until moment (t ∷ times) zero is = absurd (cc)
none_until moment (t ∷ times) (suc place) is = by_test (leb t moment) (none_until moment times place is)
  where
    by_test : (b : Bool) → false ≡ ltb place (count_until moment times) →
        false ≡ ltb (suc place) (cond b (suc (count_until moment times)) 0)
    by_test true rest = rest ∙ sym (one_more place (count_until moment times))
    by_test false rest = sym (le-ltb (suc place) 0 (omega arith))
