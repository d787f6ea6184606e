-- When and in which visit the operations of a pad were made.
use Rattle.std.specs.Prelude.{◌≡◌, ℕ, List, [], ◌++◌, length, min, replicate}
use Rattle.op_log.specs.Makers.{last_maker, noted}
use Rattle.op_log.specs.declared.made_list.MadeList.TheInside.{Inside}

-- when and in which visit each operation was made; visit 0 is none here
pub record Made : Type 0 where
  pub times : List ℕ
  pub visits : List ℕ

-- no operation
abbrev pub nothing_made : Made
nothing_made = record { times = []; visits = [] }

-- so many more operations, each made at this time and in this visit
abbrev pub more : ℕ → ℕ → ℕ → Made → Made
more count at visit made = record {
  times = made.times ++ replicate count at;
  visits = made.visits ++ replicate count (noted visit);
}

-- the visit of the last operation, or 0
abbrev pub last_visit : Made → ℕ
last_visit made = last_maker made.visits

-- what is kept, and how many operations there is room for
pub record Makings : Type 0 where
  pub made : Made
  pub room : ℕ

-- the times and the visits that are kept, and room for as many operations as both have room for
abbrev pub makings_shown : Inside → Makings
makings_shown m = record {
  made = record { times = m.times.times; visits = m.makers.makers };
  room = min m.times.room m.makers.room;
}

-- each operation has a time and a visit
abbrev pub IsMadeList : Inside → Type 0
IsMadeList m = length m.makers.makers ≡ length m.times.times
