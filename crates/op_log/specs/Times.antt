-- Times that never fall, and how they are kept in four bytes each.
use Rattle.std.specs.Prelude.{◌≡◌, ℕ, suc, ◌+◌, ◌-◌, ◌≤◌, nat_le, nat_lt, if◌then◌else◌, List, [], ◌∷◌, ◌++◌, length, fold}
use Rattle.std.specs.Prelude.{vec_len, ◌<◌, ◌^◌}
use Rattle.std.specs.Vec.{vec_capacity}
use Rattle.op_log.specs.declared.time_list.Era.{Era}
use Rattle.op_log.specs.declared.time_list.TimeList.TheInside.{Inside}

-- times, and how many there is room for
pub record Times : Type 0 where
  pub times : List ℕ
  pub room : ℕ

-- the last time, or one before all where there is none
abbrev pub last_from : ℕ → List ℕ → ℕ
last_from before [] = before
last_from before (time ∷ times) = last_from time times

-- the last time, or 0
abbrev pub last_time : List ℕ → ℕ
last_time times = last_from 0 times

-- no time is below the one before it
abbrev pub IsRisingFrom : ℕ → List ℕ → Type 0
IsRisingFrom before [] = Unit {0}
IsRisingFrom before (time ∷ times) = (before ≤ time) × IsRisingFrom time times

-- no time is below an earlier one
abbrev pub IsRising : List ℕ → Type 0
IsRising times = IsRisingFrom 0 times

-- how many times come before the first one that is later than a moment
abbrev pub count_until : ℕ → List ℕ → ℕ
count_until moment [] = 0
count_until moment (time ∷ times) = if nat_le time moment then suc (count_until moment times) else 0

-- the time from which times at a place are counted: that of the last era that began there or before, or 0
abbrev pub base_at : List Era → ℕ → ℕ
base_at eras place = fold (λ base era. if nat_le era.from place then era.base else base) 0 eras

-- the times of differences from a place on
abbrev pub times_from : List Era → ℕ → List ℕ → List ℕ
times_from eras place [] = []
times_from eras place (step ∷ steps) = (base_at eras place + step) ∷ times_from eras (place + 1) steps

-- the greatest difference that is kept
abbrev pub greatest_step : ℕ
greatest_step = 4294967295

-- the eras once a time was added at a place
abbrev pub begun : ℕ → ℕ → ℕ → List Era → List Era
begun place base now eras =
    if nat_lt greatest_step (now - base)
    then eras ++ record { from = place; base = now } ∷ []
    else eras

-- the time from which the next ones are counted then
abbrev pub base_after : ℕ → ℕ → ℕ
base_after base now = if nat_lt greatest_step (now - base) then now else base

-- the times that are kept, and room for a number of them where there is also room for an era
abbrev pub times_shown : Inside → Times
times_shown t = record {
  times = times_from t.eras.items 0 t.past.items;
  room = if nat_lt (vec_len t.eras) (vec_capacity t.eras) then vec_capacity t.past
      else length t.past.items;
}

-- no time falls, the last one is known, and from the next place on times are counted from the base
pub record IsTimeList (t : Inside) : Type 0 where
  pub rising : IsRising (times_from t.eras.items 0 t.past.items)
  pub last : t.last ≡ last_time (times_from t.eras.items 0 t.past.items)
  pub low : t.base ≤ t.last
  pub small : t.last < 2 ^ 64
  pub fits : length t.past.items ≤ vec_capacity t.past
  pub based : (place : ℕ) → length t.past.items ≤ place → base_at t.eras.items place ≡ t.base
